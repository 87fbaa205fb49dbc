-- What a crash leaves while a journal is rewritten.
use Rattle.std.proofs.Common.{◌≡◌, ◌==◌, if◌then◌else◌, inl, inr, ℕ, ◌+◌, ◌<◌, ◌≤◌, true, false, Bool, List, [], ◌∷◌, ◌++◌, length, get_or, drop, take, refl, sym, ◌∙◌, ap, subst, arith, length-drop, take-append-drop, Result, Ok, IsTrue}
use Rattle.std.proofs.lemmas.List.{take-take, take_more, drop_more}
use Rattle.disk_model.specs.Disk.{DiskView, Image, History, IsImage, ChangesArea, Leaves, LeavesOnly, Torn, Writes, Syncs, area_of, content_of, other_area, overwritten}
use Rattle.disk_model.specs.declared.disk.Area.{Area}
use Rattle.disk_model.specs.declared.disk.Area.TheVariants.{First, Second}
use Rattle.disk_model.specs.inside.Moments.{goes_on, weakens, at_end, stays}
use Rattle.journal.specs.Area.{HasHeader, StandsFor, IsPayload, body_of, closed_gate, end_of, first_gate, header, named_by, names_second, open_gate, records, selector_at}
use Rattle.journal.specs.Kept.{EitherStands, ImageStandsFor, Keeps, active_area}
use Rattle.journal.specs.Limits.{longest_payload}
use Rattle.journal.specs.inside.Again.{IsReadyToActivate, SparedBy, Spares, Went, naming}
use Rattle.journal.specs.inside.Standing.{at_active, keeps_images, same_named}
use Rattle.journal.proofs.Actives.{changed}
use Rattle.journal.proofs.Bytes.{Laid, after_gate, after_stage, end-append, end-push, one_group}

-- How long the records are.

pub end_take_more : (ps : List (List ℕ)) (i : ℕ) (d : List ℕ) → i < length ps → end_of (take (i + 1) ps) ≡ end_of (take i ps) + (5 + length (get_or ps i d))
end_take_more ps i d h = ap end_of (take_more ps i d h) ∙ end-push (take i ps) (get_or ps i d) ∙ omega (arith)

pub end_take_le : (ps : List (List ℕ)) (i : ℕ) → end_of (take i ps) ≤ end_of ps
end_take_le ps i = omega (arith, ap end_of (take-append-drop i ps), end-append (take i ps) (drop i ps))

-- What is spared.

pub spared_on : (area : Area) (i j k : Image) → SparedBy area i j → SparedBy area j k → SparedBy area i k
spared_on First i j k one two = (two.0 ∙ one.0, omega (arith, one.1, two.1), two.2 ∙ one.2)
spared_on Second i j k one two = two ∙ one

-- a write after the header of area First, or anywhere in Second
abbrev pub AfterHeader : Area → ℕ → Type 0
AfterHeader First at = first_gate ≤ at
AfterHeader Second at = Unit {0}

pub after_header : (area : Area) (at : ℕ) → first_gate ≤ at → AfterHeader area at
after_header First at h = h
after_header Second at h = tt

pub spared_torn : (area : Area) (at n : ℕ) (i j : Image) → AfterHeader area at → ChangesArea area (Torn at n) i j → SparedBy area i j
spared_torn First at n i j following change = (
  sym (take-take first_gate at j.first following) ∙ ap (λ (l : List ℕ). take first_gate l) change.0.before ∙ take-take first_gate at i.first following,
  change.0.no_shorter,
  change.1,
)
spared_torn Second at n i j following change = change.0

-- runs of calls, one after another
pub spares_on : (area : Area) (h0 h1 h2 : History) → LeavesOnly (Spares area h0.now) h0 h1 → LeavesOnly (Spares area h1.now) h1 h2 → LeavesOnly (Spares area h0.now) h0 h2
spares_on area h0 h1 h2 before after =
    goes_on (Spares area h0.now) h0 h1 h2 before (weakens (Spares area h1.now) (Spares area h0.now) h1 h2 (λ k spares.
    let first = at_end (Spares area h0.now) h0 h1 before spares.0 spares.1 in
    (first.0, first.1, spared_on area first.0 spares.0 k first.2 spares.2)) after)

pub spares_write : {T E : Type 0} (area : Area) (at : ℕ) (bytes : List ℕ) (r : Result T E) (h0 h1 : History) → AfterHeader area at → Writes area at bytes r h0 h1 → LeavesOnly (Spares area h0.now) h0 h1
spares_write area at bytes r h0 h1 following w =
    weakens _ (Spares area h0.now) h0 h1 (λ j reaches. (reaches.0, reaches.1, spared_torn area at (length bytes) reaches.0 j following reaches.2)) w.moments

pub spares_sync : {T E : Type 0} (area any : Area) (r : Result T E) (h0 h1 h2 : History) → LeavesOnly (Spares area h0.now) h0 h1 → Syncs any r h1 h2 → LeavesOnly (Spares area h0.now) h0 h2
spares_sync area any r h0 h1 h2 run s = stays (Spares area h0.now) h0 h1 h2 run s.moments

-- a header that is spared
header_spared : (a b : List ℕ) → take first_gate b ≡ take first_gate a → length a ≤ length b → HasHeader a → HasHeader b
header_spared a b same longer has = (
  drop first_gate b,
  record {
    selector = has.1.selector;
    is = sym (take-append-drop first_gate b) ∙ ap (λ (l : List ℕ). l ++ drop first_gate b) (same ∙ ap (λ (l : List ℕ). take first_gate l) has.1.is);
  },
  omega (arith, length-drop first_gate b, longer, ap length has.1.is, has.2),
)

selector_in_header : (a : List ℕ) (has : HasHeader a) → get_or a selector_at 0 ≡ has.1.selector
selector_in_header a has = ap (λ (l : List ℕ). get_or l selector_at 0) has.1.is

same_header_selector : (a b : List ℕ) → take first_gate b ≡ take first_gate a → length a ≤ length b → HasHeader a → get_or b selector_at 0 ≡ get_or a selector_at 0
unfolding header_spared
same_header_selector a b same longer has = selector_in_header b (header_spared a b same longer has) ∙ sym (selector_in_header a has)

-- what is spared stands for what it stood for
pub spared_stands : (area : Area) (i j : Image) (payloads : List (List ℕ)) → SparedBy area i j → active_area i ≡ other_area area → ImageStandsFor i payloads
    → ImageStandsFor j payloads × (active_area j ≡ other_area area)
spared_stands First i j payloads spared named stands =
    let same = ap named_by (same_header_selector i.first j.first spared.0 spared.1 stands.headed) ∙ named in (
      record {
        headed = header_spared i.first j.first spared.0 spared.1 stands.headed;
        stands = subst (λ (l : List ℕ). StandsFor longest_payload l payloads) (sym (at_active Second j same ∙ spared.2 ∙ sym (at_active Second i named))) stands.stands;
      },
      same,
    )
spared_stands Second i j payloads spared named stands =
    let same = same_named j i spared ∙ named in (
      record {
        headed = subst HasHeader (sym spared) stands.headed;
        stands = subst (λ (l : List ℕ). StandsFor longest_payload l payloads) (sym (at_active First j same ∙ spared ∙ sym (at_active First i named))) stands.stands;
      },
      same,
    )

-- and has the room of a header
pub spared_headed : (area : Area) (i j : Image) → SparedBy area i j → first_gate < length i.first → first_gate < length j.first
spared_headed First i j spared room = omega (arith, spared.1, room)
spared_headed Second i j spared room = subst (λ (l : List ℕ). first_gate < length l) (sym spared) room

-- each image is one of the payloads from before
pub spares_either : (area : Area) (h0 h1 : History) (end : ℕ) (payloads others : List (List ℕ)) → Keeps h0 end payloads → active_area (content_of h0) ≡ other_area area
    → LeavesOnly (Spares area h0.now) h0 h1 → LeavesOnly (EitherStands payloads others) h0 h1
spares_either area h0 h1 end payloads others keeps named run =
    weakens (Spares area h0.now) (EitherStands payloads others) h0 h1 (λ i spares.
    let j = spares.0 in
    let there = same_named j (content_of h0) (keeps.first j spares.1) ∙ named in
    inl (spared_stands area j i payloads spares.2 there (keeps_images h0 end payloads keeps j spares.1)).0) run

-- so the selector may be turned, once the area is laid and durable
pub ready : (area : Area) (h0 h1 : History) (end : ℕ) (payloads others : List (List ℕ)) → Keeps h0 end payloads → active_area (content_of h0) ≡ other_area area
    → LeavesOnly (Spares area h0.now) h0 h1 → SparedBy area (content_of h0) (content_of h1) → StandsFor longest_payload (area_of area (content_of h1)) others
    → Leaves (λ i. area_of area i ≡ area_of area (content_of h1)) h1.now → IsReadyToActivate area payloads others h1
ready area h0 h1 end payloads others keeps named run spared laid durable = record {
  stands = λ i image. (each i image).0;
  named = λ i image. (each i image).1;
  here = (spared_stands area (content_of h0) (content_of h1) payloads spared named keeps.stands).0;
  laid = laid;
  durable = durable;
}
  where
    each : (i : Image) → IsImage h1.now i → ImageStandsFor i payloads × (active_area i ≡ other_area area)
    each i image =
        let spares = at_end (Spares area h0.now) h0 h1 run i image in
        let j = spares.0 in
        spared_stands area j i payloads spares.2 (same_named j (content_of h0) (keeps.first j spares.1) ∙ named) (keeps_images h0 end payloads keeps j spares.1)

-- Calls without a failure.

pub went_still : (old new : DiskView) → Went old new → IsTrue old.keeps_model → IsTrue new.keeps_model
went_still old new went model = subst IsTrue (sym went.keeps_model) model

-- Records that are laid.

module _ (area : Area) (end : ℕ) (bytes : List ℕ) (payloads : List (List ℕ)) (payload : List ℕ) (is_payload : IsPayload longest_payload payload) (are : bytes ≡ body_of payload ++ closed_gate ∷ [])
    (ends : end ≡ end_of payloads) (a b c : Image) (standing : StandsFor longest_payload (area_of area a) payloads) where
  laid : Laid longest_payload standing.header_is.selector (area_of area a) payloads
  laid = record {
    gate = standing.lays.gate;
    rest = standing.lays.more;
    is = standing.header_is.is ∙ ap (λ (l : List ℕ). header standing.header_is.selector ++ l) standing.lays.is;
    closed = standing.lays.closed;
    each = standing.lays.each;
  }

  pub one_laid : ChangesArea area (λ before after. after ≡ overwritten before (end + 1) bytes) a b → ChangesArea area (λ before after. after ≡ overwritten before end (open_gate ∷ [])) b c
      → StandsFor longest_payload (area_of area c) (payloads ++ payload ∷ [])
  one_laid first second =
      let sel = standing.header_is.selector in
      let group = one_group payload bytes are in
      let one = after_stage longest_payload sel (area_of area a) payloads laid end ends (payload ∷ []) (is_payload, tt) bytes group (area_of area b) (changed area _ a b first) in
      let two = after_gate longest_payload sel (area_of area a) payloads laid end ends (payload ∷ []) (is_payload, tt) bytes group _ (area_of area c)
      (changed area _ b c second ∙ ap (λ (l : List ℕ). overwritten l end (open_gate ∷ [])) one) in
      record {
        rest = records (payloads ++ payload ∷ []) ++ two.gate ∷ two.rest;
        header_is = record { selector = sel; is = two.is };
        lays = record { gate = two.gate; more = two.rest; is = refl; closed = two.closed; each = two.each };
      }
  -- The selector.

-- any byte at its place, and all else as it was
selector_torn : (a b : List ℕ) (selector : ℕ) (rest : List ℕ) → a ≡ header selector ++ rest → Torn selector_at 1 a b → b ≡ header (get_or b selector_at 0) ++ rest
selector_torn a b selector rest is torn =
    let size : selector_at < length b = omega (arith, torn.no_shorter, ap length is) in
    let front : take selector_at b ≡ take selector_at (header selector ++ rest) = torn.before ∙ ap (λ (l : List ℕ). take selector_at l) is in
    let back : drop first_gate b ≡ rest = torn.after ∙ ap (λ (l : List ℕ). drop first_gate l) is in
    sym (take-append-drop selector_at b) ∙ ap (λ (l : List ℕ). l ++ drop selector_at b) front
    ∙ ap (λ (l : List ℕ). take selector_at (header selector ++ rest) ++ l) (drop_more b selector_at 0 size ∙ ap (λ (l : List ℕ). get_or b selector_at 0 ∷ l) back)

header_torn : (a b : List ℕ) → Torn selector_at 1 a b → HasHeader a → HasHeader b
header_torn a b torn has = (has.0, record { selector = get_or b selector_at 0; is = selector_torn a b has.1.selector has.0 has.1.is torn }, has.2)

stands_torn : (a b : List ℕ) (payloads : List (List ℕ)) → Torn selector_at 1 a b → StandsFor longest_payload a payloads → StandsFor longest_payload b payloads
stands_torn a b payloads torn stands = record {
  rest = stands.rest;
  header_is = record { selector = get_or b selector_at 0; is = selector_torn a b stands.header_is.selector stands.rest stands.header_is.is torn };
  lays = stands.lays;
}

stands_in : (area : Area) (i : Image) (payloads : List (List ℕ)) → HasHeader i.first → active_area i ≡ area → StandsFor longest_payload (area_of area i) payloads → ImageStandsFor i payloads
stands_in area i payloads headed named stands = record { headed = headed; stands = subst (λ (l : List ℕ). StandsFor longest_payload l payloads) (sym (at_active area i named)) stands }

either_area : (n : ℕ) (P : Area → Type 0) → P First → P Second → P (named_by n)
either_area n P first second = go (n == names_second)
  where
    go : (b : Bool) → P (if b then Second else First)
    go true = second
    go false = first

-- area First, or the other, as the selector names one of them
torn_either : (area : Area) (i j : Image) (before payloads : List (List ℕ)) → ImageStandsFor i before → active_area i ≡ other_area area → StandsFor longest_payload (area_of area i) payloads
    → ChangesArea First (Torn selector_at 1) i j → EitherStands before payloads j
torn_either First i j before payloads stands named laid change =
    let headed = header_torn i.first j.first change.0 stands.headed in
    let old : StandsFor longest_payload j.second before = subst (λ (l : List ℕ). StandsFor longest_payload l before) (at_active Second i named ∙ sym change.1) stands.stands in
    let new = stands_torn i.first j.first payloads change.0 laid in
    either_area (get_or j.first selector_at 0) (λ a. active_area j ≡ a → EitherStands before payloads j)
    (λ is. inr (stands_in First j payloads headed is new)) (λ is. inl (stands_in Second j before headed is old)) refl
torn_either Second i j before payloads stands named laid change =
    let headed = header_torn i.first j.first change.0 stands.headed in
    let old = stands_torn i.first j.first before change.0 (subst (λ (l : List ℕ). StandsFor longest_payload l before) (at_active First i named) stands.stands) in
    let new : StandsFor longest_payload j.second payloads = subst (λ (l : List ℕ). StandsFor longest_payload l payloads) (sym change.1) laid in
    either_area (get_or j.first selector_at 0) (λ a. active_area j ≡ a → EitherStands before payloads j)
    (λ is. inl (stands_in First j before headed is old)) (λ is. inr (stands_in Second j payloads headed is new)) refl

-- area Second is as it was
abbrev SecondKept : Area → Image → Image → Type 0
SecondKept First old i = Unit {0}
SecondKept Second old i = i.second ≡ old.second

naming_names : (area : Area) → named_by (naming area) ≡ area
naming_names First = refl
naming_names Second = refl

module _ (area : Area) (n : ℕ) (names : n ≡ naming area) (h0 : History) where
  abbrev old : Image
  old = content_of h0

  abbrev selected : List ℕ
  selected = n ∷ []

  module _ (before payloads : List (List ℕ)) (ready : IsReadyToActivate area before payloads h0) where
    record Turns (i : Image) : Type 0 where
      pub either : EitherStands before payloads i
      pub second : SecondKept area old i

    kept_second : (a : Area) (i j : Image) → area_of a i ≡ area_of a old → j.second ≡ i.second → SecondKept a old j
    kept_second First i j durable same = tt
    kept_second Second i j durable same = same ∙ durable

    turned : {T E : Type 0} (r : Result T E) (h1 : History) → Writes First selector_at selected r h0 h1 → LeavesOnly Turns h0 h1
    turned r h1 w = weakens _ Turns h0 h1 (λ j reaches.
        let i = reaches.0 in
        let image = reaches.1 in
        let there : area_of area i ≡ area_of area old = ready.durable i image in
        record {
          either = torn_either area i j before payloads (ready.stands i image) (ready.named i image) (subst (λ (l : List ℕ). StandsFor longest_payload l payloads) (sym there) ready.laid) reaches.2;
          second = kept_second area i j there reaches.2.1;
        }) w.moments

    pub turning : {T E : Type 0} (r : Result T E) (h1 : History) → Writes First selector_at selected r h0 h1 → LeavesOnly (EitherStands before payloads) h0 h1
    turning r h1 w = weakens Turns (EitherStands before payloads) h0 h1 (λ j t. t.either) (turned r h1 w)

    pub flushing : {T E : Type 0} (any : Area) (r q : Result T E) (h1 h2 : History) → Writes First selector_at selected r h0 h1 → Syncs any q h1 h2
        → LeavesOnly (EitherStands before payloads) h0 h2
    flushing any r q h1 h2 w s = weakens Turns (EitherStands before payloads) h0 h2 (λ j t. t.either) (stays Turns h0 h1 h2 (turned r h1 w) s.moments)

    module _ {T E : Type 0} (u : T) where
      abbrev pub good : Result T E
      good = Ok u

      pub flushed : (h1 h2 : History) → Writes First selector_at selected good h0 h1 → Syncs First good h1 h2 → Keeps h2 (end_of payloads) payloads
      flushed h1 h2 w s =
          let torn : Torn selector_at 1 old.first (content_of h1).first = w.touched.0 in
          let headed = header_torn old.first (content_of h1).first torn ready.here.headed in
          let written : (content_of h1).first ≡ overwritten old.first selector_at selected = w.written.0 in
          let selector : get_or (content_of h1).first selector_at 0 ≡ n =
          ap (λ (l : List ℕ). get_or l selector_at 0) (written ∙ ap (λ (l : List ℕ). overwritten l selector_at selected) ready.here.headed.1.is) in
          let named1 : active_area (content_of h1) ≡ area = ap named_by (selector ∙ names) ∙ naming_names area in
          let laid1 = laid_after area ready.laid torn w.touched.1 in
          let stands = subst (λ (i : Image). ImageStandsFor i payloads) (sym s.content) (stands_in area (content_of h1) payloads headed named1 laid1) in
          let named2 : active_area (content_of h2) ≡ area = same_named (content_of h2) (content_of h1) (ap (λ (i : Image). i.first) s.content) ∙ named1 in
          let first : (i : Image) → IsImage h2.now i → i.first ≡ (content_of h2).first = λ i image. s.durable i image ∙ ap (λ (j : Image). j.first) (sym s.content) in
          let run = stays Turns h0 h1 h2 (turned good h1 w) s.moments in
          let second : (content_of h2).second ≡ old.second = ap (λ (i : Image). i.second) s.content ∙ w.touched.1 in
          record {
            stands = stands;
            end_is = refl;
            durable = λ i image.
                let named = same_named i (content_of h2) (first i image) ∙ named2 in
                at_active area i named ∙ whole area i (content_of h2) (first i image) ((at_end Turns h0 h2 run i image).second) second ∙ sym (at_active area (content_of h2) named2);
            first = first;
          }
        where
          laid_after : (a : Area) → StandsFor longest_payload (area_of a old) payloads → Torn selector_at 1 old.first (content_of h1).first → (content_of h1).second ≡ old.second → StandsFor longest_payload (area_of a (content_of h1)) payloads
          laid_after First laid torn same = stands_torn old.first (content_of h1).first payloads torn laid
          laid_after Second laid torn same = subst (λ (l : List ℕ). StandsFor longest_payload l payloads) (sym same) laid

          whole : (a : Area) (i j : Image) → i.first ≡ j.first → SecondKept a old i → j.second ≡ old.second → area_of a i ≡ area_of a j
          whole First i j first kept second = first
          whole Second i j first kept second = kept ∙ sym second
