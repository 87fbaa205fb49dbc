-- What a window shows of an area.
use Rattle.std.proofs.Common.{◌≡◌, ℕ, zero, suc, ◌+◌, ◌-◌, ◌<◌, ◌≤◌, List, [], ◌∷◌, ◌++◌, length, get_or, take, drop, refl, sym, ◌∙◌, ap, subst, arith, append_assoc, length-append, take-append-drop, Result, Ok, Err, IfOk}
use Rattle.std.specs.Prelude.{Vec}
use Rattle.std.specs.declared.alloc.Global.{Global}
use Rattle.std.specs.Int.{to_be_bytes, from_be_bytes, w32}
use Rattle.std.proofs.lemmas.List.{drop_at, take_at, drop-append-le, drop-drop, length-take}
use Rattle.std.proofs.lemmas.Nat.{be_bytes_4}
use Rattle.journal.specs.Area.{open_gate}
use Rattle.journal.specs.inside.Reads.{Begins}
use Rattle.journal.specs.inside.Window.{Shows}
use Rattle.journal.specs.declared.opening.OpenCause.{OpenCause}
use Rattle.journal.specs.declared.window.Window.{Window}

pub begins_taken : (front bytes : List ℕ) (n : ℕ) → front ≡ take n bytes → Begins front bytes
begins_taken front bytes n is = (drop n bytes, sym (take-append-drop n bytes) ∙ ap (λ (l : List ℕ). l ++ drop n bytes) (sym is))

pub begins_none : (front bytes : List ℕ) → front ≡ [] → Begins front bytes
begins_none front bytes is = (bytes, ap (λ (l : List ℕ). l ++ bytes) (sym is))

-- a part of the front still begins the bytes
pub begins_less : (front bytes : List ℕ) (n : ℕ) → Begins front bytes → Begins (take n front) bytes
begins_less front bytes n begins = (
  drop n front ++ begins.0,
  begins.1 ∙ ap (λ (l : List ℕ). l ++ begins.0) (sym (take-append-drop n front)) ∙ append_assoc (take n front) (drop n front) begins.0,
)

begins_after : (front bytes : List ℕ) (n : ℕ) → n ≤ length front → Begins front bytes → Begins (drop n front) (drop n bytes)
begins_after front bytes n le begins = (begins.0, ap (λ (l : List ℕ). drop n l) begins.1 ∙ drop-append-le n front begins.0 le)

-- what begins the rest of an area, and what begins the rest after that
pub begins_on : (area front next : List ℕ) (at : ℕ) → Begins front (drop at area) → Begins next (drop (at + length front) area) → Begins (front ++ next) (drop at area)
begins_on area front next at first second =
    let following : drop (at + length front) area ≡ first.0 =
    sym (drop-drop (length front) at area) ∙ ap (λ (l : List ℕ). drop (length front) l) first.1 ∙ drop_at front first.0 (length front) refl in
    (second.0, first.1 ∙ ap (λ (l : List ℕ). front ++ l) (sym following ∙ second.1) ∙ sym (append_assoc front next second.0))

-- a part of what is shown there, put after them
pub more_read : (area items shown part new : List ℕ) (at n k : ℕ) → n ≡ length items → part ≡ take k shown → new ≡ items ++ part → Begins items (drop at area) → Begins shown (drop (at + n) area) → Begins new (drop at area)
more_read area items shown part new at n k size taken is before here =
    let there = subst (λ (l : List ℕ). Begins l (drop (at + length items) area)) (sym taken)
    (begins_less shown (drop (at + length items) area) k (subst (λ (m : ℕ). Begins shown (drop (at + m) area)) size here)) in
    subst (λ (l : List ℕ). Begins l (drop at area)) (sym is) (begins_on area items part at before there)

pub more_fits : (items shown part new : List ℕ) (n len : ℕ) → n ≡ length items → n < len → part ≡ take (len - n) shown → new ≡ items ++ part → length new ≤ len
more_fits items shown part new n len size below taken is =
    omega (arith, ap length is, length-append items part, ap length taken, length-take (len - n) shown)

pub shown_after : (w : Window) (area : List ℕ) (at : ℕ) → w.start ≤ at → at ≤ w.start + length w.bytes.items → Shows w area → Begins (drop (at - w.start) w.bytes.items) (drop at area)
shown_after w area at from to shows =
    let here : drop (at - w.start) (drop w.start area) ≡ drop at area = drop-drop (at - w.start) w.start area ∙ ap (λ (n : ℕ). drop n area) (omega arith) in
    subst (λ (l : List ℕ). Begins (drop (at - w.start) w.bytes.items) l) here
    (begins_after w.bytes.items (drop w.start area) (at - w.start) (omega arith) shows.bytes)

-- five bytes at an open gate tell a length
pub length_field : (front rest : List ℕ) (n : ℕ) → 5 ≤ length front → get_or front 0 0 ≡ open_gate → ((i : ℕ) → get_or front i 0 < 256)
    → n ≡ from_be_bytes w32 (get_or front 1 0 ∷ get_or front 2 0 ∷ get_or front 3 0 ∷ get_or front 4 0 ∷ []) → Begins front rest
    → (x : List ℕ) × (rest ≡ open_gate ∷ (to_be_bytes w32 n ++ x)) × (5 + length x ≡ length rest)
length_field [] rest n some gate byte is begins = absurd (omega (arith, some))
length_field (g ∷ []) rest n some gate byte is begins = absurd (omega (arith, some))
length_field (g ∷ a ∷ []) rest n some gate byte is begins = absurd (omega (arith, some))
length_field (g ∷ a ∷ b ∷ []) rest n some gate byte is begins = absurd (omega (arith, some))
length_field (g ∷ a ∷ b ∷ c ∷ []) rest n some gate byte is begins = absurd (omega (arith, some))
length_field (g ∷ a ∷ b ∷ c ∷ d ∷ more) rest n some gate byte is begins =
    let four = a ∷ b ∷ c ∷ d ∷ [] in
    let reported : to_be_bytes w32 n ≡ four = be_bytes_4 four n refl (each a b c d (byte 1) (byte 2) (byte 3) (byte 4)) is in
    let laid : rest ≡ open_gate ∷ (to_be_bytes w32 n ++ (more ++ begins.0)) =
    begins.1 ∙ ap (λ (x : ℕ). x ∷ (four ++ (more ++ begins.0))) gate ∙ ap (λ (l : List ℕ). open_gate ∷ (l ++ (more ++ begins.0))) (sym reported) in
    (more ++ begins.0, laid, omega (arith, ap length begins.1, length-append more begins.0))
  where
    each : (a b c d : ℕ) → a < 256 → b < 256 → c < 256 → d < 256 → (i : ℕ) → get_or (a ∷ b ∷ c ∷ d ∷ []) i 0 < 256
    each a b c d ha hb hc hd zero = ha
    each a b c d ha hb hc hd (suc zero) = hb
    each a b c d ha hb hc hd (suc (suc zero)) = hc
    each a b c d ha hb hc hd (suc (suc (suc zero))) = hd
    each a b c d ha hb hc hd (suc (suc (suc (suc i)))) = omega arith

same_front : (a b x y : List ℕ) → length a ≡ length b → a ++ x ≡ b ++ y → a ≡ b
same_front a b x y size same = sym (take_at a x (length a) refl) ∙ ap (λ (l : List ℕ). take (length a) l) same ∙ take_at b y (length a) (sym size)

-- bytes of a payload's length that stand where it stands are the payload
pub copied : (result : Result (Vec ℕ Global) OpenCause) (payload there rest : List ℕ) (n : ℕ) → n ≡ length payload → there ≡ payload ++ rest
    → IfOk result (λ bytes. bytes.len ≡ n) → IfOk result (λ bytes. Begins bytes.items there) → IfOk result (λ bytes. bytes.items ≡ payload)
copied (Ok bytes) payload there rest n size is len begins = same_front bytes.items payload begins.0 rest (omega (arith, bytes.ok.0, len, size)) (sym begins.1 ∙ is)
copied (Err cause) payload there rest n size is len begins = tt
