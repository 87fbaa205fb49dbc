-- Bytes added after bytes of a text.
use Rattle.std.proofs.Common.{◌≡◌, ℕ, zero, suc, ◌-◌, ◌<◌, Bool, true, cond, List, [], ◌∷◌, ◌++◌, nat_lt, length, arith, refl, ap, sym, ◌∙◌, append_assoc, append-nil}
use Rattle.std.proofs.lemmas.Bool.Decides.{nat_tests}
use Rattle.bstr.specs.Utf8.{decoded}
use Rattle.sheet_notebook.specs.Strings.{first_string, others_of, string_after}
use Rattle.sheet_notebook.specs.inside.Adds.{Adds}

pub adds_trans : (a b c xs ys : List ℕ) → Adds a b xs → Adds b c ys → Adds a c (xs ++ ys)
adds_trans a b c xs ys p q = q ∙ ap (λ t. t ++ ys) p ∙ append_assoc a xs ys

pub adds_nil : (a : List ℕ) → Adds a a []
adds_nil a = sym (append-nil a)

pub ruleset steps = (adds_trans, adds_nil)

-- a front of a text is added, and these bytes of it are to come
abbrev pub Adding : List ℕ → List ℕ → List ℕ → List ℕ → Type 0
Adding a b ahead all = b ++ ahead ≡ a ++ all

pub part_added : (a b c ahead part others all : List ℕ) → ahead ≡ part ++ others → Adding a b ahead all → Adds b c part → Adding a c others all
part_added a b c ahead part others all e w p = ap (λ t. t ++ others) p ∙ append_assoc b part others ∙ ap (λ t. b ++ t) (sym e) ∙ w

pub all_added : (a b ahead all : List ℕ) → ahead ≡ [] → Adding a b ahead all → Adds a b all
all_added a b ahead all e w = sym (append-nil b) ∙ ap (λ t. b ++ t) (sym e) ∙ w

-- a byte of a character that was added
pub byte_skipped : (keeps_lines : Bool) (left byte : ℕ) (bytes others a b all : List ℕ) → bytes ≡ byte ∷ others → 0 < left → Adding a b (string_after keeps_lines left bytes) all
    → Adding a b (string_after keeps_lines (left - 1) others) all
unfolding string_after
byte_skipped keeps_lines left byte bytes others a b all e more w =
    let test : nat_lt 0 left ≡ true = grind (arith, nat_tests, more) in
    let skipped : string_after keeps_lines left bytes ≡ string_after keeps_lines (left - 1) others =
    ap (string_after keeps_lines left) e ∙ ap (λ t. cond t (string_after keeps_lines (left - 1) others) (first_string keeps_lines byte (decoded (byte ∷ others)).char ++ string_after keeps_lines (others_of (decoded (byte ∷ others))) others)) test in
    ap (λ t. b ++ t) (sym skipped) ∙ w

-- the first byte of a character, or of none
pub first_added : (keeps_lines : Bool) (left byte : ℕ) (bytes others a b c all : List ℕ) → bytes ≡ byte ∷ others → (0 < left → ⊥) → Adding a b (string_after keeps_lines left bytes) all
    → Adds b c (first_string keeps_lines byte (decoded bytes).char) → Adding a c (string_after keeps_lines (others_of (decoded bytes)) others) all
unfolding string_after
first_added keeps_lines zero byte bytes others a b c all e none w p =
    part_added a b c (string_after keeps_lines 0 bytes) (first_string keeps_lines byte (decoded bytes).char) (string_after keeps_lines (others_of (decoded bytes)) others) all (rw e refl) w p
first_added keeps_lines (suc left) byte bytes others a b c all e none w p = absurd (none (omega arith))

pub text_added : (keeps_lines : Bool) (left : ℕ) (bytes a b all : List ℕ) → length bytes ≡ 0 → Adding a b (string_after keeps_lines left bytes) all → Adds a b all
unfolding string_after
text_added keeps_lines left [] a b all e w = all_added a b [] all refl w
text_added keeps_lines left (byte ∷ bytes) a b all e w = absurd (omega (arith, e))

pub ruleset text_steps = (byte_skipped, first_added, text_added)
