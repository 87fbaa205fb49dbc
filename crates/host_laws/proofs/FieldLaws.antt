-- A field, with one op more.
use Rattle.std.proofs.Common.{◌≡◌, ◌⊎◌, inl, inr, ◌<◌, ℕ, List, [], ◌∷◌, ◌++◌, refl, ap, sym, subst, ◌∙◌, arith, append-nil, Bool, true, false, Option, Some, None}
use Rattle.std.specs.Prelude.{if◌then◌else◌, ◌==◌, is_some}
use Rattle.std.proofs.lemmas.Bool.Decides.{nat_tests}
use Rattle.block_tree.specs.Tree.{Tree}
use Rattle.worksheet.specs.declared.op.Op.{Op}
use Rattle.worksheet.specs.declared.op.Op.TheVariants as op
use Rattle.worksheet.specs.declared.field.Field.{Field}
use Rattle.worksheet.specs.declared.field.Answer.{Answer}
use Rattle.worksheet.specs.Ops.{sheet_of, exists, next_of, is_about, last_of, makes_or_ends, is_making, field_of}
use Rattle.worksheet.specs.inside.Words.{about}
use Rattle.worksheet.specs.Checks.{Allowed, has_field, field_in, first_refusal, numbers}
use Rattle.worksheet.specs.Edits.{AllBelow}
use Rattle.worksheet.proofs.OneMore.{about_from-push, last_of-push, field_of-push, changed}
use Rattle.worksheet.proofs.Existence.{has_what_exists, allowed_goes_on}
use Rattle.worksheet.proofs.NextLaws.{sound_of}
use Rattle.worksheet.proofs.Finds.{field_in-id}
use Rattle.host_laws.specs.Turns.{SparesField}
use Rattle.session_engine.specs.inside.Commits.{Spares}
use Rattle.session_engine.proofs.Fields.{has_still}

-- a field that there is
pub record Is (os : List Op) (id : ℕ) (f : Field) : Type 0 where
  pub there : exists os id ≡ true
  pub is : field_of os id ≡ f

pub is_there : (os : List Op) (id : ℕ) (f : Field) → Allowed os → field_in (sheet_of os).fields id ≡ Some f → Is os id f
is_there os id f allowed h = go (exists os id) refl (sym (has_what_exists os allowed id) ∙ h)
  where
    go : (b : Bool) → exists os id ≡ b → (if b then Some (field_of os id) else None) ≡ Some f → Is os id f
    go true e h = record { there = e; is = cc }
    go false e h = cc

pub found : (os : List Op) (id : ℕ) (f : Field) → Allowed os → Is os id f → field_in (sheet_of os).fields id ≡ Some f
found os id f allowed h = has_what_exists os allowed id ∙ ap (λ (b : Bool). if b then Some (field_of os id) else None) h.there ∙ ap (λ (g : Field). Some g) h.is

below : (fs : List Field) (n id : ℕ) (f : Field) → AllBelow n (numbers fs) → field_in fs id ≡ Some f → id < n
below [] n id f all h = cc
below (g ∷ fs) n id f all h = go (g.id == id) refl h (below fs n id f all.1)
  where
    go : (b : Bool) → (g.id == id) ≡ b → (if b then Some g else field_in fs id) ≡ Some f → (field_in fs id ≡ Some f → id < n) → id < n
    go true e h rest = let is : g.id ≡ id = grind (arith, nat_tests, e) in omega (arith, is, all.0)
    go false e h rest = rest h

-- the number of a field isn't the next one
not_next : (os : List Op) (id : ℕ) (f : Field) → Allowed os → field_in (sheet_of os).fields id ≡ Some f → (next_of os == id) ≡ false
not_next os id f allowed h = let lt = below (sheet_of os).fields (next_of os) id f (sound_of os allowed).below h in grind (arith, nat_tests, lt)

-- an op that takes no field away and gives it no input, or another one
abbrev pub KeepsInput : ℕ → Op → Type 0
KeepsInput id (op.Session name tab words) = Unit {0}
KeepsInput id (op.New after session input) = Unit {0}
KeepsInput id (op.Set other input) = (other == id) ≡ false
KeepsInput id (op.Remove other) = (other == id) ≡ false
KeepsInput id (op.Move other after) = Unit {0}
KeepsInput id (op.Clear other) = Unit {0}
KeepsInput id (op.Answer other prompt output) = Unit {0}
KeepsInput id (op.Lost other why) = Unit {0}
KeepsInput id (op.Ids number) = Unit {0}

spares : (id : ℕ) (o : Op) → KeepsInput id o → Spares id o
spares id (op.Session name tab words) h = tt
spares id (op.New after session input) h = tt
spares id (op.Set other input) h = tt
spares id (op.Remove other) h = h
spares id (op.Move other after) h = tt
spares id (op.Clear other) h = tt
spares id (op.Answer other prompt output) h = tt
spares id (op.Lost other why) h = tt
spares id (op.Ids number) h = tt

-- it is in its session, and has its input
abbrev SameLine : Field → Field → Type 0
SameLine f g = (f.session ≡ g.session) × (f.input ≡ g.input)

same_line : (id next : ℕ) (o : Op) (f : Field) → KeepsInput id o → (next == id) ≡ false → is_about id next o ≡ true → SameLine (changed o f) f
same_line id next (op.Session name tab words) f h n a = (refl, refl)
same_line id next (op.New after session input) f h n a = absurd (let no : true ≡ false = sym a ∙ n in cc)
same_line id next (op.Set other input) f h n a = absurd (let no : true ≡ false = sym a ∙ h in cc)
same_line id next (op.Remove other) f h n a = (refl, refl)
same_line id next (op.Move other after) f h n a = (refl, refl)
same_line id next (op.Clear other) f h n a = (refl, refl)
same_line id next (op.Answer other prompt output) f h n a = (refl, refl)
same_line id next (op.Lost other why) f h n a = (refl, refl)
same_line id next (op.Ids number) f h n a = (refl, refl)

line_still : (os : List Op) (o : Op) (id : ℕ) → KeepsInput id o → (next_of os == id) ≡ false → SameLine (field_of (os ++ o ∷ []) id) (field_of os id)
line_still os o id h n = subst (λ (f : Field). SameLine f (field_of os id)) (sym (field_of-push os o id)) (go (is_about id (next_of os) o) refl)
  where
    go : (b : Bool) → is_about id (next_of os) o ≡ b → SameLine (if b then changed o (field_of os id) else field_of os id) (field_of os id)
    go true e = same_line id (next_of os) o (field_of os id) h n e
    go false e = (refl, refl)

-- the field with this number, with one op more
pub record Following (os : List Op) (o : Op) (id : ℕ) (f : Field) : Type 0 where
  pub field : Field
  pub found : field_in (sheet_of (os ++ o ∷ [])).fields id ≡ Some field
  pub same : SameLine field f

line_follows : (os : List Op) (o : Op) (id : ℕ) (f : Field) → Allowed os → first_refusal (sheet_of os) o ≡ None → KeepsInput id o → field_in (sheet_of os).fields id ≡ Some f → Following os o id f
line_follows os o id f allowed next keeps there = go (field_in (sheet_of (os ++ o ∷ [])).fields id) refl
  where
    has : has_field (sheet_of (os ++ o ∷ [])) id ≡ true
    has = has_still os o id allowed next (spares id o keeps) (ap (λ (x : Option Field). is_some x) there)

    go : (x : Option Field) → field_in (sheet_of (os ++ o ∷ [])).fields id ≡ x → Following os o id f
    go None e = absurd (let no : false ≡ true = sym (ap (λ (y : Option Field). is_some y) e) ∙ has in cc)
    go (Some g) e =
        let was = is_there os id f allowed there in
        let now = is_there (os ++ o ∷ []) id g (allowed_goes_on os o allowed next) e in
        let still = line_still os o id keeps (not_next os id f allowed there) in
        record {
          field = g;
          found = e;
          same = subst (λ (y : Field). SameLine g y) was.is (subst (λ (y : Field). SameLine y (field_of os id)) now.is still);
        }

-- a field of this number, with this input
pub record HasInput (os : List Op) (id : ℕ) (text : List ℕ) : Type 0 where
  pub field : Field
  pub found : field_in (sheet_of os).fields id ≡ Some field
  pub input : field.input ≡ text

pub input_stays : (os : List Op) (o : Op) (id : ℕ) (text : List ℕ) → Allowed os → first_refusal (sheet_of os) o ≡ None → KeepsInput id o → HasInput os id text → HasInput (os ++ o ∷ []) id text
input_stays os o id text allowed next keeps h =
    let now = line_follows os o id h.field allowed next keeps h.found in
    record { field = now.field; found = now.found; input = now.same.1 ∙ h.input }

-- a field with the number of this one, in its session and with its input
pub record HasItsLine (os : List Op) (f : Field) : Type 0 where
  pub field : Field
  pub found : field_in (sheet_of os).fields f.id ≡ Some field
  pub session : field.session ≡ f.session
  pub input : field.input ≡ f.input

pub its_line_stays : (os : List Op) (o : Op) (f : Field) → Allowed os → first_refusal (sheet_of os) o ≡ None → KeepsInput f.id o → HasItsLine os f → HasItsLine (os ++ o ∷ []) f
its_line_stays os o f allowed next keeps h =
    let now = line_follows os o f.id h.field allowed next keeps h.found in
    record { field = now.field; found = now.found; session = now.same.0 ∙ h.session; input = now.same.1 ∙ h.input }

-- The op answers the field, which is as before but for its answer.
pub record AnsweredBy (os : List Op) (o : Op) (g : Field) : Type 0 where
  pub prompt : List ℕ
  pub output : Tree
  pub is : o ≡ op.Answer g.id prompt output
  pub before : Field
  pub found : field_in (sheet_of os).fields g.id ≡ Some before
  pub now : g ≡ record before { answer = Some (record { prompt = prompt; output = output }); lost = None }

-- what an op may have done to a field that has an answer
abbrev pub ByOp : List Op → Op → Field → Type 0
ByOp os o g = (field_in (sheet_of os).fields g.id ≡ Some g) ⊎ AnsweredBy os o g

exists-push : (os : List Op) (o : Op) (id : ℕ)
    → exists (os ++ o ∷ []) id ≡ (if is_about id (next_of os) o then (if makes_or_ends o then is_making (Some o) else exists os id) else exists os id)
exists-push os o id = ap (λ (qs : List Op). is_making (last_of makes_or_ends qs)) (about_from-push id 1 os o) ∙ go (is_about id (next_of os) o)
  where
    last : (b : Bool) → is_making (if b then Some o else last_of makes_or_ends (about id os)) ≡ (if b then is_making (Some o) else exists os id)
    last true = refl
    last false = refl

    go : (b : Bool) → is_making (last_of makes_or_ends (about id os ++ (if b then o ∷ [] else []))) ≡ (if b then (if makes_or_ends o then is_making (Some o) else exists os id) else exists os id)
    go true = ap is_making (last_of-push makes_or_ends (about id os) o) ∙ last (makes_or_ends o)
    go false = ap (λ (qs : List Op). is_making (last_of makes_or_ends qs)) (append-nil (about id os))

module _ (os : List Op) (g : Field) (answer : Answer) (allowed : Allowed os) (shown : g.answer ≡ Some answer) where
  here : exists os g.id ≡ true → field_of os g.id ≡ g → (o : Op) → ByOp os o g
  here e is o = inl (found os g.id g allowed (record { there = e; is = is }))

  unanswered : (f : Field) → f.answer ≡ None → f ≡ g → ⊥
  unanswered f none is = let no : None ≡ Some answer = sym none ∙ ap (λ (h : Field). h.answer) is ∙ shown in cc

  by_cases : (o : Op) (b : Bool) → is_about g.id (next_of os) o ≡ b → (if b then (if makes_or_ends o then is_making (Some o) else exists os g.id) else exists os g.id) ≡ true
      → (if b then changed o (field_of os g.id) else field_of os g.id) ≡ g → ByOp os o g
  by_cases o false a e is = here e is o
  by_cases (op.Session name tab words) true a e is = here e is (op.Session name tab words)
  by_cases (op.New after session input) true a e is = absurd (unanswered (changed (op.New after session input) (field_of os g.id)) refl is)
  by_cases (op.Set other input) true a e is = absurd (unanswered (changed (op.Set other input) (field_of os g.id)) refl is)
  by_cases (op.Remove other) true a e is = absurd (let no : false ≡ true = e in cc)
  by_cases (op.Move other after) true a e is = here e is (op.Move other after)
  by_cases (op.Clear other) true a e is = absurd (unanswered (changed (op.Clear other) (field_of os g.id)) refl is)
  by_cases (op.Lost other why) true a e is = absurd (unanswered (changed (op.Lost other why) (field_of os g.id)) refl is)
  by_cases (op.Ids number) true a e is = here e is (op.Ids number)
  by_cases (op.Answer other prompt output) true a e is =
      let same : other ≡ g.id = grind (arith, nat_tests, a) in
      inr (record {
        prompt = prompt;
        output = output;
        is = ap (λ (n : ℕ). op.Answer n prompt output) same;
        before = field_of os g.id;
        found = found os g.id (field_of os g.id) allowed (record { there = e; is = refl });
        now = sym is;
      })

  -- a field that shows an answer showed it before the op, or the op answers it
  pub by_op : (o : Op) → first_refusal (sheet_of os) o ≡ None → field_in (sheet_of (os ++ o ∷ [])).fields g.id ≡ Some g → ByOp os o g
  by_op o next h =
      let now = is_there (os ++ o ∷ []) g.id g (allowed_goes_on os o allowed next) h in
      by_cases o (is_about g.id (next_of os) o) refl (sym (exists-push os o g.id) ∙ now.there) (sym (field_of-push os o g.id) ∙ now.is)

-- a field that was cleared
pub cleared : (os : List Op) (id : ℕ) (f : Field) → Allowed (os ++ op.Clear id ∷ []) → field_in (sheet_of (os ++ op.Clear id ∷ [])).fields id ≡ Some f → f.answer ≡ None
cleared os id f allowed h =
    let now = is_there (os ++ op.Clear id ∷ []) id f allowed h in
    let here : (id == id) ≡ true = grind (arith, nat_tests) in
    ap (λ (g : Field). g.answer) (sym now.is ∙ field_of-push os (op.Clear id) id) ∙ ap (λ (b : Bool). (if b then changed (op.Clear id) (field_of os id) else field_of os id).answer) here

-- A field stays.

makes_none : (id next : ℕ) (o : Op) (was : Bool) → SparesField id o → (next == id) ≡ false → is_about id next o ≡ true → (if makes_or_ends o then is_making (Some o) else was) ≡ was
makes_none id next (op.Session name tab words) was h n a = refl
makes_none id next (op.New after session input) was h n a = absurd (let no : true ≡ false = sym a ∙ n in cc)
makes_none id next (op.Set other input) was h n a = refl
makes_none id next (op.Remove other) was h n a = absurd (let no : true ≡ false = sym a ∙ h in cc)
makes_none id next (op.Move other after) was h n a = refl
makes_none id next (op.Clear other) was h n a = refl
makes_none id next (op.Answer other prompt output) was h n a = refl
makes_none id next (op.Lost other why) was h n a = refl
makes_none id next (op.Ids number) was h n a = refl

changes_none : (id next : ℕ) (o : Op) (f : Field) → SparesField id o → (next == id) ≡ false → is_about id next o ≡ true → changed o f ≡ f
changes_none id next (op.Session name tab words) f h n a = refl
changes_none id next (op.New after session input) f h n a = absurd (let no : true ≡ false = sym a ∙ n in cc)
changes_none id next (op.Set other input) f h n a = absurd (let no : true ≡ false = sym a ∙ h in cc)
changes_none id next (op.Remove other) f h n a = refl
changes_none id next (op.Move other after) f h n a = refl
changes_none id next (op.Clear other) f h n a = absurd (let no : true ≡ false = sym a ∙ h in cc)
changes_none id next (op.Answer other prompt output) f h n a = absurd (let no : true ≡ false = sym a ∙ h in cc)
changes_none id next (op.Lost other why) f h n a = absurd (let no : true ≡ false = sym a ∙ h in cc)
changes_none id next (op.Ids number) f h n a = refl

-- where an op leaves it
pub field_stays : (os : List Op) (o : Op) (f : Field) → Allowed os → Allowed (os ++ o ∷ []) → SparesField f.id o → field_in (sheet_of os).fields f.id ≡ Some f → field_in (sheet_of (os ++ o ∷ [])).fields f.id ≡ Some f
field_stays os o f allowed after leaves has =
    let was = is_there os f.id f allowed has in
    let n = not_next os f.id f allowed has in
    found (os ++ o ∷ []) f.id f after (record {
      there = exists-push os o f.id ∙ there (is_about f.id (next_of os) o) refl was.there n;
      is = field_of-push os o f.id ∙ same (is_about f.id (next_of os) o) refl n ∙ was.is;
    })
  where
    there : (b : Bool) → is_about f.id (next_of os) o ≡ b → exists os f.id ≡ true → (next_of os == f.id) ≡ false → (if b then (if makes_or_ends o then is_making (Some o) else exists os f.id) else exists os f.id) ≡ true
    there true e h n = makes_none f.id (next_of os) o (exists os f.id) leaves n e ∙ h
    there false e h n = h

    same : (b : Bool) → is_about f.id (next_of os) o ≡ b → (next_of os == f.id) ≡ false → (if b then changed o (field_of os f.id) else field_of os f.id) ≡ field_of os f.id
    same true e n = changes_none f.id (next_of os) o (field_of os f.id) leaves n e
    same false e n = refl

-- A field that an answer is put into, and that shows it then.
pub record NowAnswered (os : List Op) (id : ℕ) (prompt : List ℕ) (out : Tree) : Type 0 where
  pub field : Field
  pub number : field.id ≡ id
  pub has : field_in (sheet_of (os ++ op.Answer id prompt out ∷ [])).fields field.id ≡ Some field
  pub by : AnsweredBy os (op.Answer id prompt out) field

pub now_answered : (os : List Op) (id : ℕ) (prompt : List ℕ) (out : Tree) → Allowed os → Allowed (os ++ op.Answer id prompt out ∷ []) → has_field (sheet_of os) id ≡ true → NowAnswered os id prompt out
now_answered os id prompt out allowed after has = go (field_in (sheet_of os).fields id) refl
  where
    o : Op
    o = op.Answer id prompt out

    here : (id == id) ≡ true
    here = grind (arith, nat_tests)

    go : (found_one : Option Field) → field_in (sheet_of os).fields id ≡ found_one → NowAnswered os id prompt out
    go None e = absurd (let no : false ≡ true = sym (ap (λ (f : Option Field). is_some f) e) ∙ has in cc)
    go (Some before) e =
        let was = is_there os id before allowed e in
        let number : before.id ≡ id = field_in-id (sheet_of os).fields id before e in
        let now : Field = record before { answer = Some (record { prompt = prompt; output = out }); lost = None } in
        record {
          field = now;
          number = number;
          has = ap (λ (n : ℕ). field_in (sheet_of (os ++ o ∷ [])).fields n) number ∙ found (os ++ o ∷ []) id now after (record {
            there = exists-push os o id ∙ rw here was.there;
            is = field_of-push os o id ∙ rw here (ap (λ (f : Field). changed o f) was.is);
          });
          by = record {
            prompt = prompt;
            output = out;
            is = ap (λ (n : ℕ). op.Answer n prompt out) (sym number);
            before = before;
            found = ap (λ (n : ℕ). field_in (sheet_of os).fields n) number ∙ e;
            now = refl;
          };
        }
