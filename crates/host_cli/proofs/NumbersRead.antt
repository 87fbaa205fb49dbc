-- The numbers that words write, one after another.
use Rattle.std.proofs.Common.{◌≡◌, ℕ, List, [], ◌∷◌, ◌++◌, Option, Some, None, map, ap, sym, ◌∙◌, refl, append_assoc, append-nil}
use Rattle.std.specs.Borrow.{Bor}
use Rattle.clap.specs.Words.{Text}
use Rattle.sheet_text.specs.Script.{number_written}
use Rattle.host_cli.specs.Plans.{numbers_in, with_id}

-- after others
abbrev pub with_front : List ℕ → Option (List ℕ) → Option (List ℕ)
with_front front None = None
with_front front (Some ids) = Some (front ++ ids)

abbrev pub written : List (Bor Text) → Option (List ℕ)
written words = numbers_in (map (λ (word : Bor Text). word.now) words)

-- these numbers were read, and these words are to come
pub record NumbersSoFar (all left : List (Bor Text)) (ids : List ℕ) : Type 0 where
  pub whole : with_front ids (written left) ≡ written all

no-front : (o : Option (List ℕ)) → with_front [] o ≡ o
no-front None = refl
no-front (Some ids) = refl

one-front : (ids : List ℕ) (id : ℕ) (o : Option (List ℕ)) → with_front (ids ++ id ∷ []) o ≡ with_front ids (with_id (Some id) o)
one-front ids id None = refl
one-front ids id (Some others) = ap Some (append_assoc ids (id ∷ []) others)

pub none_read : (all left : List (Bor Text)) (ids : List ℕ) → ids ≡ [] → left ≡ all → NumbersSoFar all left ids
none_read all left ids none e = record { whole = ap (λ (x : List ℕ). with_front x (written left)) none ∙ no-front (written left) ∙ ap written e }

pub one_read : (all left : List (Bor Text)) (word : Bor Text) (others : List (Bor Text)) (ids more : List ℕ) (id : ℕ) → left ≡ word ∷ others → NumbersSoFar all left ids → Some id ≡ number_written word.now → more ≡ ids ++ id ∷ []
    → NumbersSoFar all others more
one_read all left word others ids more id e so is put = record {
  whole = ap (λ (x : List ℕ). with_front x (written others)) put ∙ one-front ids id (written others) ∙ ap (λ (o : Option ℕ). with_front ids (with_id o (written others))) is
      ∙ ap (λ (words : List (Bor Text)). with_front ids (written words)) (sym e) ∙ so.whole;
}

pub not_read : (all left : List (Bor Text)) (word : Bor Text) (others : List (Bor Text)) (ids : List ℕ) → left ≡ word ∷ others → NumbersSoFar all left ids → None ≡ number_written word.now → None ≡ written all
not_read all left word others ids e so is =
    ap (λ (o : Option ℕ). with_front ids (with_id o (written others))) is ∙ ap (λ (words : List (Bor Text)). with_front ids (written words)) (sym e) ∙ so.whole

pub all_read : (all left : List (Bor Text)) (ids : List ℕ) → left ≡ [] → NumbersSoFar all left ids → Some ids ≡ written all
all_read all left ids e so = ap Some (sym (append-nil ids)) ∙ ap (λ (words : List (Bor Text)). with_front ids (written words)) (sym e) ∙ so.whole

pub ruleset number_steps = (none_read, one_read, not_read, all_read)
