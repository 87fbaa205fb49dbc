-- The machine over a spelling.
use Rattle.std.proofs.Common.{◌≡◌, ℕ, zero, suc, ◌+◌, ◌<◌, ◌≤◌, Bool, true, false, ◌||◌, nat_eq, List, [], ◌∷◌, ◌++◌, length, refl, sym, ap, ◌∙◌, arith, append_assoc, append-nil, add-zero, length-append}
use Rattle.std.proofs.lemmas.Bool.{or_from, or_parts, and_parts, lt-leb, cond-true, cond-false, and_left, and_right, ne_eqb, le-ltb}
use Rattle.std.specs.List.{list_all}
use Rattle.block_tree.specs.inside.Marks.{Mark, open_mark, letter, close_mark}
use Rattle.meta_format.specs.Limits.{Limits}
use Rattle.meta_format.proofs.Tags.{tag_some, tag_few, tag_bytes, byte_high, byte_apart}
use Rattle.block_tree.specs.Shape.{is_tag_byte}
use Rattle.meta_format.specs.Spelling.{is_special, separator}
use Rattle.meta_format.specs.inside.Rows.{SpellsMarks, nothing, plain, escaped, both, opened, closed, Leads}
use Rattle.block_tree.specs.inside.Marks.{tree_from}
use Rattle.meta_format.specs.Stream.{Outer}
use Rattle.meta_format.specs.inside.Machine.{Mode, outside, tag_of, body_of, escape_of, State, turns, apply, is_bad_tag, is_late, unless_late, after, next, run}

pub Spells-append : {tag : ℕ} {ms ns : List Mark} {s t : List ℕ} → SpellsMarks tag ms s → SpellsMarks tag ns t → SpellsMarks tag (ms ++ ns) (s ++ t)
Spells-append nothing q = q
Spells-append (plain e p) q = plain e (Spells-append p q)
Spells-append (escaped e p) q = escaped e (Spells-append p q)
Spells-append (both e p) q = both e (Spells-append p q)
Spells-append {tag} {ns} {t} (opened {channel} {name} {ms} {s} e p) q =
    rw append_assoc (opened {channel = channel} {name = name} e (Spells-append p q))
Spells-append (closed p) q = closed (Spells-append p q)

pub run-append : (most : Limits) (q : State) (s t : List ℕ) → run most q (s ++ t) ≡ run most (run most q s) t
run-append most q [] t = refl
run-append most q (c ∷ s) t = run-append most (next most q c) s t

pub length_marks : {tag : ℕ} {ms : List Mark} {s : List ℕ} → SpellsMarks tag ms s → length ms ≤ length s
length_marks nothing = omega arith
length_marks (plain e p) = omega (arith, length_marks p)
length_marks (escaped e p) = omega (arith, length_marks p)
length_marks (both e p) = omega (arith, length_marks p)
length_marks (opened {channel} {name} {ms} {s} e p) = omega (arith, length_marks p, length-append name (separator channel ∷ s))
length_marks (closed p) = omega (arith, length_marks p)

-- one byte more is to come where a level stays open
abbrev pub room : ℕ → ℕ
room zero = 0
room (suc e) = 1

pub Leads-room : (most d : ℕ) (ms : List Mark) (e : ℕ) → Leads most (suc d) ms e → 1 ≤ length ms + room e
Leads-room most d [] zero l = cc
Leads-room most d [] (suc e) l = omega arith
Leads-room most d (m ∷ ms) e l = omega arith

-- where a spelling leads the machine
abbrev pub landing : ℕ → List Outer → ℕ → List Mark → ℕ → State
landing at out start ms zero = record { at = at; out = out ++ record { start = start; stop = at; block = tree_from ms } ∷ []; mode = outside }
landing at out start ms (suc e) = record { at = at; out = out; mode = body_of start ms e }

not_late : (most : Limits) (start at : ℕ) → suc at < most.block + start → at < most.stream → is_late most start at ≡ false
not_late most start at short early = or_from _ _ (lt-leb most.stream at early) (lt-leb (most.block + start) (suc at) short)

goes_on : (most : Limits) (start at : ℕ) (mode : Mode) → suc at < most.block + start → at < most.stream → unless_late most start at mode ≡ turns mode
goes_on most start at mode short early = cond-false _ _ _ (not_late most start at short early)

pub ordinary : (c : ℕ) → is_special c ≡ false → (nat_eq c 2 ≡ false) × (nat_eq c 5 ≡ false) × (nat_eq c 27 ≡ false)
ordinary c h =
    let e = or_parts (nat_eq c 2 || nat_eq c 5) (nat_eq c 27) h in
    let f = or_parts (nat_eq c 2) (nat_eq c 5) e.0 in
    (f.0, f.1, e.1)

module _ (most : Limits) (at start : ℕ) (acc : List Mark) (short : suc at < most.block + start) (early : at < most.stream) where
  pub body_plain : (d c : ℕ) → is_special c ≡ false → after most at (body_of start acc d) c ≡ turns (body_of start (acc ++ letter c ∷ []) d)
  body_plain d c h =
      let o = ordinary c h in
      cond-false _ _ _ o.0 ∙ cond-false _ _ _ o.1 ∙ goes_on most start at _ short early ∙ ap turns (cond-false _ _ _ o.2)

  pub body_escape : (d : ℕ) → after most at (body_of start acc d) 27 ≡ turns (escape_of start acc d)
  body_escape d = goes_on most start at _ short early

  pub escape_special : (d c : ℕ) → is_special c ≡ true → after most at (escape_of start acc d) c ≡ turns (body_of start (acc ++ letter c ∷ []) d)
  escape_special d c h = goes_on most start at _ short early ∙ ap (λ ms. turns (body_of start (acc ++ ms) d)) (cond-true _ _ _ h)

  pub escape_other : (d c : ℕ) → is_special c ≡ false → after most at (escape_of start acc d) c ≡ turns (body_of start (acc ++ letter 27 ∷ letter c ∷ []) d)
  escape_other d c h = goes_on most start at _ short early ∙ ap (λ ms. turns (body_of start (acc ++ ms) d)) (cond-false _ _ _ h)

  pub body_opens : (d : ℕ) → suc d < most.levels → after most at (body_of start acc d) 2 ≡ turns (tag_of start acc (suc d) [])
  body_opens d h = cond-false _ _ _ (lt-leb most.levels (suc d) h) ∙ goes_on most start at _ short early

  pub body_closes : (d : ℕ) → after most at (body_of start acc (suc d)) 5 ≡ turns (body_of start (acc ++ close_mark ∷ []) d)
  body_closes d = goes_on most start at _ short early

  pub tag_byte : (levels : ℕ) (name : List ℕ) (c : ℕ) → is_tag_byte c ≡ true → length name < most.tag → after most at (tag_of start acc levels name) c ≡ turns (tag_of start acc levels (name ++ c ∷ []))
  tag_byte levels name c h few =
      let s = byte_apart c h in
      let big = byte_high c h in
      let good : is_bad_tag most.tag name c ≡ false = or_from _ _ (or_from _ _ (le-ltb c 32 big) (and_left _ _ s)) (and_right _ _ (ne_eqb (length name) most.tag (omega arith))) in
      cond-false _ _ _ good ∙ goes_on most start at _ short early ∙ ap turns (cond-false _ _ _ s)

  pub tag_ends : (levels : ℕ) (name : List ℕ) (channel : Bool) → 0 < length name → after most at (tag_of start acc levels name) (separator channel) ≡ turns (body_of start (acc ++ open_mark channel name ∷ []) levels)
  tag_ends levels name false some =
      let good : is_bad_tag most.tag name 58 ≡ false = or_from _ _ (ne_eqb (length name) 0 (omega arith)) refl in
      cond-false _ _ _ good ∙ goes_on most start at _ short early
  tag_ends levels name true some =
      let good : is_bad_tag most.tag name 35 ≡ false = or_from _ _ (ne_eqb (length name) 0 (omega arith)) refl in
      cond-false _ _ _ good ∙ goes_on most start at _ short early

pub landing_at : (m n : ℕ) (out : List Outer) (start : ℕ) → m ≡ n → {ms ns : List Mark} → ms ≡ ns → (e : ℕ) → landing m out start ms e ≡ landing n out start ns e
landing_at m n out start h {ms} {ns} f e = ap (λ k. landing k out start ms e) h ∙ ap (λ xs. landing n out start xs e) f

-- a tag, up to its separator
pub tag_run : (most : Limits) (out : List Outer) (start : ℕ) (acc : List Mark) (levels : ℕ) (name : List ℕ) (at : ℕ) (pre t : List ℕ)
    → list_all is_tag_byte name ≡ true → length pre + length name ≤ most.tag → at + length name < most.block + start → at + length name ≤ most.stream
    → run most record { at = at; out = out; mode = tag_of start acc levels pre } (name ++ t)
    ≡ run most record { at = at + length name; out = out; mode = tag_of start acc levels (pre ++ name) } t
tag_run most out start acc levels [] at pre t each few short early =
    ap (λ n. run most record { at = n; out = out; mode = tag_of start acc levels pre } t) (sym (add-zero at))
    ∙ ap (λ n. run most record { at = at + 0; out = out; mode = tag_of start acc levels n } t) (sym (append-nil pre))
tag_run most out start acc levels (c ∷ name) at pre t each few short early =
    let parts = and_parts (is_tag_byte c) (list_all is_tag_byte name) each in
    let longer = length-append pre (c ∷ []) in
    ap (λ w. run most (apply record { at = at; out = out; mode = tag_of start acc levels pre } w) (name ++ t)) (tag_byte most at start acc (omega arith) (omega arith) levels pre c parts.0 (omega arith))
    ∙ tag_run most out start acc levels name (suc at) (pre ++ c ∷ []) t parts.1 (omega arith) (omega arith) (omega arith)
    ∙ ap (λ n. run most record { at = n; out = out; mode = tag_of start acc levels ((pre ++ c ∷ []) ++ name) } t) (omega arith)
    ∙ ap (λ n. run most record { at = at + suc (length name); out = out; mode = tag_of start acc levels n } t) (append_assoc pre (c ∷ []) name)

-- the byte that closes the outermost level is the last
last_closes : (most : Limits) {ms : List Mark} {s : List ℕ} → SpellsMarks most.tag ms s → (at : ℕ) (out : List Outer) (start : ℕ) (acc : List Mark) (e : ℕ)
    → Leads most.levels zero ms e → at + length (5 ∷ s) + room e ≤ most.block + start → at + length (5 ∷ s) ≤ most.stream
    → run most record { at = at; out = out; mode = body_of start acc zero } (5 ∷ s) ≡ landing (at + length (5 ∷ s)) out start (acc ++ close_mark ∷ ms) e
last_closes most nothing at out start acc zero l short early =
    let free : at < most.stream = omega arith in
    ap (apply record { at = at; out = out; mode = body_of start acc zero }) (cond-false _ _ _ (lt-leb most.stream at free))
    ∙ landing_at (suc at) (at + 1) out start (omega arith) {ms = acc ++ close_mark ∷ []} {ns = acc ++ close_mark ∷ []} refl zero
last_closes most nothing at out start acc (suc e) l short early = cc
last_closes most (plain h p) at out start acc e l short early = absurd l
last_closes most (escaped h p) at out start acc e l short early = absurd l
last_closes most (both h p) at out start acc e l short early = absurd l
last_closes most (opened h p) at out start acc e l short early = absurd l
last_closes most (closed p) at out start acc e l short early = absurd l

pub spelled_run : (most : Limits) {ms : List Mark} {s : List ℕ} → SpellsMarks most.tag ms s → (at : ℕ) (out : List Outer) (start : ℕ) (acc : List Mark) (d e : ℕ)
    → Leads most.levels (suc d) ms e → at + length s + room e ≤ most.block + start → at + length s ≤ most.stream
    → run most record { at = at; out = out; mode = body_of start acc d } s ≡ landing (at + length s) out start (acc ++ ms) e
spelled_run most nothing at out start acc d zero l short early = cc
spelled_run most nothing at out start acc d (suc e) l short early =
    let same : d ≡ e = omega arith in
    ap (λ k. landing at out start acc (suc k)) same ∙ landing_at at (at + 0) out start (omega arith) (sym (append-nil acc)) (suc e)
spelled_run most (plain {c} {ms} {s} h p) at out start acc d e l short early =
    let more = Leads-room most.levels d ms e l in
    let least = length_marks p in
    ap (λ w. run most (apply record { at = at; out = out; mode = body_of start acc d } w) s) (body_plain most at start acc (omega arith) (omega arith) d c h)
    ∙ spelled_run most p (suc at) out start (acc ++ letter c ∷ []) d e l (omega arith) (omega arith)
    ∙ landing_at (suc at + length s) (at + suc (length s)) out start (omega arith) (append_assoc acc (letter c ∷ []) ms) e
spelled_run most (escaped {c} {ms} {s} h p) at out start acc d e l short early =
    let more = Leads-room most.levels d ms e l in
    let least = length_marks p in
    ap (λ w. run most (next most (apply record { at = at; out = out; mode = body_of start acc d } w) c) s) (body_escape most at start acc (omega arith) (omega arith) d)
    ∙ ap (λ w. run most (apply record { at = (suc at); out = out; mode = escape_of start acc d } w) s) (escape_special most (suc at) start acc (omega arith) (omega arith) d c h)
    ∙ spelled_run most p (suc (suc at)) out start (acc ++ letter c ∷ []) d e l (omega arith) (omega arith)
    ∙ landing_at (suc (suc at) + length s) (at + suc (suc (length s))) out start (omega arith) (append_assoc acc (letter c ∷ []) ms) e
spelled_run most (both {c} {ms} {s} h p) at out start acc d e l short early =
    let more = Leads-room most.levels d ms e l in
    let least = length_marks p in
    ap (λ w. run most (next most (apply record { at = at; out = out; mode = body_of start acc d } w) c) s) (body_escape most at start acc (omega arith) (omega arith) d)
    ∙ ap (λ w. run most (apply record { at = (suc at); out = out; mode = escape_of start acc d } w) s) (escape_other most (suc at) start acc (omega arith) (omega arith) d c h)
    ∙ spelled_run most p (suc (suc at)) out start (acc ++ letter 27 ∷ letter c ∷ []) d e l (omega arith) (omega arith)
    ∙ landing_at (suc (suc at) + length s) (at + suc (suc (length s))) out start (omega arith) (append_assoc acc (letter 27 ∷ letter c ∷ []) ms) e
spelled_run most (opened {channel} {name} {ms} {s} h p) at out start acc d e l short early =
    let more = Leads-room most.levels (suc d) ms e l.1 in
    let least = length_marks p in
    let whole = length-append name (separator channel ∷ s) in
    let some = tag_some most.tag name h in
    ap (λ w. run most (apply record { at = at; out = out; mode = body_of start acc d } w) (name ++ separator channel ∷ s)) (body_opens most at start acc (omega arith) (omega arith) d l.0)
    ∙ tag_run most out start acc (suc d) name (suc at) [] (separator channel ∷ s) (tag_bytes most.tag name h) (let few = tag_few most.tag name h in omega arith) (omega arith) (omega arith)
    ∙ ap (λ w. run most (apply record { at = (suc at + length name); out = out; mode = tag_of start acc (suc d) ([] ++ name) } w) s) (tag_ends most (suc at + length name) start acc (omega arith) (omega arith) (suc d) name channel some)
    ∙ spelled_run most p (suc (suc at + length name)) out start (acc ++ open_mark channel name ∷ []) (suc d) e l.1 (omega arith) (omega arith)
    ∙ landing_at (suc (suc at + length name) + length s) (at + suc (length (name ++ separator channel ∷ s))) out start (omega arith) (append_assoc acc (open_mark channel name ∷ []) ms) e
spelled_run most (closed {ms} {s} p) at out start acc (suc d) e l short early =
    let more = Leads-room most.levels d ms e l in
    let least = length_marks p in
    ap (λ w. run most (apply record { at = at; out = out; mode = body_of start acc (suc d) } w) s) (body_closes most at start acc (omega arith) (omega arith) d)
    ∙ spelled_run most p (suc at) out start (acc ++ close_mark ∷ []) d e l (omega arith) (omega arith)
    ∙ landing_at (suc at + length s) (at + suc (length s)) out start (omega arith) (append_assoc acc (close_mark ∷ []) ms) e
spelled_run most (closed p) at out start acc zero e l short early = last_closes most p at out start acc e l short early
