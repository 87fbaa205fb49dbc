-- What is read of an op with one spelling is written so.
use Rattle.std.proofs.Common.{◌≡◌, ℕ, zero, suc, ◌<◌, Bool, true, false, List, [], ◌∷◌, ◌++◌, length, get_or, take, drop, Option, Some, None, Result, Ok, Err, IfOk, IfSome, if◌then◌else◌, nat_lt, refl, sym, ap, ◌∙◌, subst, append-nil, take-append-drop, length-take, arith}
use Rattle.std.specs.Int.{w16, w32, to_be_bytes, from_be_bytes}
use Rattle.std.proofs.lemmas.Nat.{be_bytes_2, be_bytes_4}
use Rattle.std.proofs.lemmas.Bool.{ltb-false}
use Rattle.block_tree.specs.declared.reason.Reason.{Reason}
use Rattle.block_tree.specs.Reasons.{reason_number}
use Rattle.worksheet.specs.declared.op.Op.{Op}
use Rattle.worksheet.specs.declared.op.Op.TheVariants as op
use Rattle.recovery.specs.declared.reading.DecodeFault.{DecodeFault}
use Rattle.block_tree.specs.Shape.{is_block}
use Rattle.block_tree.specs.Tree.{Tree}
use Rattle.meta_format.specs.Canonical.{canonical}
use Rattle.recovery.specs.Code.{number, short, long, IsLong, IsNumber, IsShort, IsPayloadOf}
use Rattle.recovery.specs.inside.Reading.{◌>>=◌, ReadsPart, ReadsOrFails, front_at, alone, number_at, last_number_at, short_at, long_at, last_long_at, reason_at, reason_with, new_at, set_at, remove_at, move_at, clear_at, lost_at, asked_at, ids_at}
use Rattle.recovery.proofs.Again.{just, some_is}

-- bytes as a slice has them
abbrev pub AreBytes : List ℕ → Type 0
AreBytes bytes = (i : ℕ) → get_or bytes i 0 < 256

in_front : (a b : List ℕ) → AreBytes (a ++ b) → AreBytes a
in_front [] b byte i = omega arith
in_front (x ∷ a) b byte zero = byte zero
in_front (x ∷ a) b byte (suc i) = in_front a b (λ j. byte (suc j)) i

following : (a b : List ℕ) → AreBytes (a ++ b) → AreBytes b
following [] b byte = byte
following (x ∷ a) b byte = following a b (λ j. byte (suc j))

-- what comes before a part that was read, and its value
record Bound {A B : Type 0} (m : Option A) (f : A → Option B) (y : B) : Type 0 where
  x : A
  is : m ≡ Some x
  gives : f x ≡ Some y

bound : {A B : Type 0} (m : Option A) (f : A → Option B) (y : B) → (m >>= f) ≡ Some y → Bound m f y
bound None f y read = let no : None ≡ just y = read in absurd cc
bound (Some x) f y read = record { x = x; is = refl; gives = read }

alone_is : {X : Type 0} (x y : X) (rest : List ℕ) → alone x rest ≡ Some y → (x ≡ y) × (rest ≡ [])
alone_is x y [] read = (some_is x y read, refl)
alone_is x y (b ∷ rest) read = let no : None ≡ just y = read in absurd cc

abbrev pair : List ℕ → List ℕ → List ℕ × List ℕ
pair a b = (a, b)

front_cases : (n : ℕ) (bytes a b : List ℕ) (short : Bool) → nat_lt (length bytes) n ≡ short → (if short then None else just (pair (take n bytes) (drop n bytes))) ≡ just (pair a b)
    → (bytes ≡ a ++ b) × (length a ≡ n)
front_cases n bytes a b true is read = let no : None ≡ just (pair a b) = read in absurd cc
front_cases n bytes a b false is read =
    let same = some_is (pair (take n bytes) (drop n bytes)) (pair a b) read in
    let front : take n bytes ≡ a = ap (λ (x : List ℕ × List ℕ). x.0) same in
    let rest : drop n bytes ≡ b = ap (λ (x : List ℕ × List ℕ). x.1) same in
    (sym (take-append-drop n bytes) ∙ ap (λ (l : List ℕ). l ++ drop n bytes) front ∙ ap (λ (l : List ℕ). a ++ l) rest, omega (arith, ap length front, length-take n bytes, ltb-false _ _ is))

front_is : (n : ℕ) (bytes a b : List ℕ) → front_at n bytes ≡ Some (a, b) → (bytes ≡ a ++ b) × (length a ≡ n)
front_is n bytes a b read = front_cases n bytes a b (nat_lt (length bytes) n) refl read

number_is : (bytes rest : List ℕ) (n : ℕ) → AreBytes bytes → number_at bytes ≡ Some (n, rest) → (bytes ≡ number n ++ rest) × IsNumber n
unfolding number_at
number_is bytes rest n byte read =
    let b = bound (front_at 4 bytes) (λ x. just (from_be_bytes w32 x.0, x.1)) (n, rest) read in
    let front = front_is 4 bytes b.x.0 b.x.1 b.is in
    let same = some_is (from_be_bytes w32 b.x.0, b.x.1) (n, rest) b.gives in
    let reported : n ≡ from_be_bytes w32 b.x.0 = sym (ap (λ (x : ℕ × List ℕ). x.0) same) in
    let after : b.x.1 ≡ rest = ap (λ (x : ℕ × List ℕ). x.1) same in
    let small : AreBytes b.x.0 = in_front b.x.0 b.x.1 (subst AreBytes front.0 byte) in
    (front.0 ∙ ap (λ (l : List ℕ). l ++ b.x.1) (sym (be_bytes_4 b.x.0 n front.1 small reported)) ∙ ap (λ (l : List ℕ). number n ++ l) after, omega (arith, reported, small 0, small 1, small 2, small 3))

last_number_is : (bytes : List ℕ) (n : ℕ) → AreBytes bytes → last_number_at bytes ≡ Some n → (bytes ≡ number n) × IsNumber n
unfolding last_number_at
last_number_is bytes n byte read =
    let b = bound (number_at bytes) (λ x. alone x.0 x.1) n read in
    let last = alone_is b.x.0 n b.x.1 b.gives in
    let is = number_is bytes b.x.1 b.x.0 byte b.is in
    (is.0 ∙ ap (λ (l : List ℕ). number b.x.0 ++ l) last.1 ∙ ap number last.0, subst IsNumber last.0 is.1)

long_is : (bytes text rest : List ℕ) → AreBytes bytes → long_at bytes ≡ Some (text, rest) → (bytes ≡ long text ++ rest) × IsLong text
unfolding long_at
long_is bytes text rest byte read =
    let b = bound (front_at 2 bytes) (λ x. front_at (from_be_bytes w16 x.0) x.1) (text, rest) read in
    let front = front_is 2 bytes b.x.0 b.x.1 b.is in
    let after = front_is (from_be_bytes w16 b.x.0) b.x.1 text rest b.gives in
    let small : AreBytes b.x.0 = in_front b.x.0 b.x.1 (subst AreBytes front.0 byte) in
    (front.0 ∙ ap (λ (l : List ℕ). l ++ b.x.1) (sym (be_bytes_2 b.x.0 (length text) front.1 small after.1)) ∙ ap (λ (l : List ℕ). to_be_bytes w16 (length text) ++ l) after.0, omega (arith, after.1, small 0, small 1))

last_long_is : (bytes text : List ℕ) → AreBytes bytes → last_long_at bytes ≡ Some text → (bytes ≡ long text) × IsLong text
unfolding last_long_at
last_long_is bytes text byte read =
    let b = bound (long_at bytes) (λ x. alone x.0 x.1) text read in
    let last = alone_is b.x.0 text b.x.1 b.gives in
    let is = long_is bytes b.x.0 b.x.1 byte b.is in
    (is.0 ∙ ap (λ (l : List ℕ). long b.x.0 ++ l) last.1 ∙ append-nil (long b.x.0) ∙ ap long last.0, subst IsLong last.0 is.1)

short_is : (bytes text rest : List ℕ) → AreBytes bytes → short_at bytes ≡ Some (text, rest) → (bytes ≡ short text ++ rest) × IsShort text
unfolding short_at
short_is [] text rest byte read = let no : None ≡ just (text, rest) = read in absurd cc
short_is (n ∷ bytes) text rest byte read =
    let front = front_is n bytes text rest read in
    (ap (λ (l : List ℕ). n ∷ l) front.0 ∙ ap (λ (k : ℕ). k ∷ (text ++ rest)) (sym front.1), omega (arith, front.1, byte 0))

named : (n : ℕ) (r : Reason) → reason_with n ≡ Some r → n ≡ reason_number r
named n r read = grind arith

reason_is : (bytes : List ℕ) (r : Reason) → reason_at bytes ≡ Some r → bytes ≡ reason_number r ∷ []
reason_is [] r read = let no : None ≡ just r = read in absurd cc
reason_is (n ∷ []) r read = ap (λ (k : ℕ). k ∷ []) (named n r read)
reason_is (n ∷ b ∷ rest) r read = let no : None ≡ just r = read in absurd cc

-- bytes from which an op is read so are its payload, after its kind
abbrev pub IsSound : ℕ → (List ℕ → Option Op) → Type 0
IsSound kind read = (bytes : List ℕ) (o : Op) → AreBytes bytes → read bytes ≡ Some o → IsPayloadOf o (kind ∷ bytes)

-- what a reader of this kind found
pub sound_by : (kind : ℕ) (read : List ℕ → Option Op) → IsSound kind read → (bytes rest : List ℕ) → bytes ≡ kind ∷ rest → AreBytes bytes
    → (result : Result Op DecodeFault) → ReadsOrFails (λ x. x) result (read rest) → IfOk result (λ o. IsPayloadOf o bytes)
sound_by kind read sound bytes rest front byte (Ok o) gives =
    let after_kind : AreBytes rest = λ i. (subst AreBytes front byte) (suc i) in
    subst (λ (b : List ℕ). IsPayloadOf o b) (sym front) (sound rest o after_kind gives)
sound_by kind read sound bytes rest front byte (Err e) gives = tt

-- the parts of an op that a reader of this kind found
pub parts_by : {X : Type 0} (kind : ℕ) (read : List ℕ → Option Op) → IsSound kind read → (view : X → Op) (bytes rest : List ℕ) → bytes ≡ kind ∷ rest → AreBytes bytes
    → (found : Option X) → ReadsPart view found (read rest) → IfSome found (λ x. IsPayloadOf (view x) bytes)
parts_by kind read sound view bytes rest front byte (Some x) gives =
    let after_kind : AreBytes rest = λ i. (subst AreBytes front byte) (suc i) in
    subst (λ (b : List ℕ). IsPayloadOf (view x) b) (sym front) (sound rest (view x) after_kind gives)
parts_by kind read sound view bytes rest front byte None gives = tt

-- the payload of the op that was read, where it is that of this one
own : (kind : ℕ) (bytes : List ℕ) (made o : Op) → just made ≡ just o → IsPayloadOf made (kind ∷ bytes) → IsPayloadOf o (kind ∷ bytes)
own kind bytes made o same payload = subst (λ (x : Op). IsPayloadOf x (kind ∷ bytes)) (some_is made o same) payload

pub new_sound : IsSound 2 new_at
unfolding new_at
new_sound bytes o byte read =
    let a = bound (number_at bytes) (λ x. short_at x.1 >>= λ s. last_long_at s.1 >>= λ t. just (op.New x.0 s.0 t)) o read in
    let s = bound (short_at a.x.1) (λ s. last_long_at s.1 >>= λ t. just (op.New a.x.0 s.0 t)) o a.gives in
    let t = bound (last_long_at s.x.1) (λ t. just (op.New a.x.0 s.x.0 t)) o s.gives in
    let number_part = number_is bytes a.x.1 a.x.0 byte a.is in
    let after_number : AreBytes a.x.1 = following (number a.x.0) a.x.1 (subst AreBytes number_part.0 byte) in
    let name = short_is a.x.1 s.x.0 s.x.1 after_number s.is in
    let after_name : AreBytes s.x.1 = following (short s.x.0) s.x.1 (subst AreBytes name.0 after_number) in
    let input = last_long_is s.x.1 t.x after_name t.is in
    own 2 bytes (op.New a.x.0 s.x.0 t.x) o t.gives (record {
      typed = number_part.1;
      fits = (name.1, input.1);
      is = ap (λ (l : List ℕ). 2 ∷ l) (number_part.0 ∙ ap (λ (l : List ℕ). number a.x.0 ++ l) (name.0 ∙ ap (λ (l : List ℕ). short s.x.0 ++ l) input.0));
    })

pub set_sound : IsSound 3 set_at
unfolding set_at
set_sound bytes o byte read =
    let a = bound (number_at bytes) (λ x. last_long_at x.1 >>= λ t. just (op.Set x.0 t)) o read in
    let t = bound (last_long_at a.x.1) (λ t. just (op.Set a.x.0 t)) o a.gives in
    let number_part = number_is bytes a.x.1 a.x.0 byte a.is in
    let input = last_long_is a.x.1 t.x (following (number a.x.0) a.x.1 (subst AreBytes number_part.0 byte)) t.is in
    own 3 bytes (op.Set a.x.0 t.x) o t.gives (record {
      typed = number_part.1;
      fits = input.1;
      is = ap (λ (l : List ℕ). 3 ∷ l) (number_part.0 ∙ ap (λ (l : List ℕ). number a.x.0 ++ l) input.0);
    })

pub remove_sound : IsSound 4 remove_at
unfolding remove_at
remove_sound bytes o byte read =
    let a = bound (last_number_at bytes) (λ n. just (op.Remove n)) o read in
    let is = last_number_is bytes a.x byte a.is in
    own 4 bytes (op.Remove a.x) o a.gives (record { typed = is.1; fits = tt; is = ap (λ (l : List ℕ). 4 ∷ l) is.0 })

pub move_sound : IsSound 5 move_at
unfolding move_at
move_sound bytes o byte read =
    let a = bound (number_at bytes) (λ x. last_number_at x.1 >>= λ n. just (op.Move x.0 n)) o read in
    let n = bound (last_number_at a.x.1) (λ n. just (op.Move a.x.0 n)) o a.gives in
    let id = number_is bytes a.x.1 a.x.0 byte a.is in
    let after = last_number_is a.x.1 n.x (following (number a.x.0) a.x.1 (subst AreBytes id.0 byte)) n.is in
    own 5 bytes (op.Move a.x.0 n.x) o n.gives (record {
      typed = (id.1, after.1);
      fits = tt;
      is = ap (λ (l : List ℕ). 5 ∷ l) (id.0 ∙ ap (λ (l : List ℕ). number a.x.0 ++ l) after.0);
    })

pub clear_sound : IsSound 6 clear_at
unfolding clear_at
clear_sound bytes o byte read =
    let a = bound (last_number_at bytes) (λ n. just (op.Clear n)) o read in
    let is = last_number_is bytes a.x byte a.is in
    own 6 bytes (op.Clear a.x) o a.gives (record { typed = is.1; fits = tt; is = ap (λ (l : List ℕ). 6 ∷ l) is.0 })

pub lost_sound : IsSound 8 lost_at
unfolding lost_at
lost_sound bytes o byte read =
    let a = bound (number_at bytes) (λ x. reason_at x.1 >>= λ r. just (op.Lost x.0 r)) o read in
    let r = bound (reason_at a.x.1) (λ r. just (op.Lost a.x.0 r)) o a.gives in
    let id = number_is bytes a.x.1 a.x.0 byte a.is in
    own 8 bytes (op.Lost a.x.0 r.x) o r.gives (record {
      typed = id.1;
      fits = tt;
      is = ap (λ (l : List ℕ). 8 ∷ l) (id.0 ∙ ap (λ (l : List ℕ). number a.x.0 ++ l) (reason_is a.x.1 r.x r.is));
    })

pub ids_sound : IsSound 9 ids_at
unfolding ids_at
ids_sound bytes o byte read =
    let a = bound (last_number_at bytes) (λ n. just (op.Ids n)) o read in
    let is = last_number_is bytes a.x byte a.is in
    own 9 bytes (op.Ids a.x) o a.gives (record { typed = is.1; fits = tt; is = ap (λ (l : List ℕ). 9 ∷ l) is.0 })

-- after the number and the prompt of an answer stands a block as it is written
pub answer_sound : (bytes rest prompt : List ℕ) (id : ℕ) (output : Tree) → AreBytes bytes → asked_at bytes ≡ Some ((id, prompt), rest) → rest ≡ canonical output → is_block output ≡ true
    → IsPayloadOf (op.Answer id prompt output) (7 ∷ bytes)
unfolding asked_at
answer_sound bytes rest prompt id output byte read spelled proper =
    let a = bound (number_at bytes) (λ x. long_at x.1 >>= λ p. just ((x.0, p.0), p.1)) ((id, prompt), rest) read in
    let p = bound (long_at a.x.1) (λ p. just ((a.x.0, p.0), p.1)) ((id, prompt), rest) a.gives in
    let same : ((a.x.0, p.x.0), p.x.1) ≡ ((id, prompt), rest) = some_is ((a.x.0, p.x.0), p.x.1) ((id, prompt), rest) p.gives in
    let id_same : a.x.0 ≡ id = ap (λ (x : (ℕ × List ℕ) × List ℕ). x.0.0) same in
    let prompt_same : p.x.0 ≡ prompt = ap (λ (x : (ℕ × List ℕ) × List ℕ). x.0.1) same in
    let rest_same : p.x.1 ≡ rest = ap (λ (x : (ℕ × List ℕ) × List ℕ). x.1) same in
    let number_part = number_is bytes a.x.1 a.x.0 byte a.is in
    let prompt_part = long_is a.x.1 p.x.0 p.x.1 (following (number a.x.0) a.x.1 (subst AreBytes number_part.0 byte)) p.is in
    own 7 bytes (op.Answer a.x.0 p.x.0 output) (op.Answer id prompt output) (ap (λ (k : ℕ). just (op.Answer k p.x.0 output)) id_same ∙ ap (λ (l : List ℕ). just (op.Answer id l output)) prompt_same) (record {
      typed = (number_part.1, proper);
      fits = prompt_part.1;
      is = ap (λ (l : List ℕ). 7 ∷ l) (number_part.0 ∙ ap (λ (l : List ℕ). number a.x.0 ++ l) (prompt_part.0 ∙ ap (λ (l : List ℕ). long p.x.0 ++ l) (rest_same ∙ spelled)));
    })
