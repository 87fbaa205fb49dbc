-- The lines that are written with a mark, and those that are still to come.
use Rattle.std.proofs.KnownBytes.{Appends-trans, Appends-nil}
use Rattle.std.proofs.Common.{◌≡◌, ℕ, List, [], ◌∷◌, ◌++◌, flat_map, ap, sym, ◌∙◌, subst, append_assoc, append-nil, Option}
use Rattle.std.specs.Io.KnownBytes.{Appends}
use Rattle.bstr.specs.Text.{lines_of}
use Rattle.check_report.specs.Words.{marked}

-- the text of the lines that are gone is written, and that of the rest is to come
pub record Marked (mark : List ℕ) (a b : Option (List ℕ)) (rest all : List (List ℕ)) : Type 0 where
  pub text : List ℕ
  pub wrote : Appends a b text
  pub whole : text ++ flat_map (λ line. mark ++ line) rest ≡ flat_map (λ line. mark ++ line) all

pub nothing_marked : (mark : List ℕ) (a : Option (List ℕ)) (rest all : List (List ℕ)) → rest ≡ all → Marked mark a a rest all
nothing_marked mark a rest all e = record { text = []; wrote = Appends-nil a; whole = ap (λ ls. flat_map (λ line. mark ++ line) ls) e }

pub one_marked : (mark : List ℕ) (a b c d : Option (List ℕ)) (rest : List (List ℕ)) (line : List ℕ) (others all : List (List ℕ)) → rest ≡ line ∷ others → Marked mark a b rest all → Appends b c mark → Appends c d line
    → Marked mark a d others all
one_marked mark a b c d rest line others all e m p q = record {
  text = m.text ++ (mark ++ line);
  wrote = Appends-trans a b d m.text (mark ++ line) m.wrote (Appends-trans b c d mark line p q);
  whole = append_assoc m.text (mark ++ line) (flat_map (λ l. mark ++ l) others) ∙ ap (λ ls. m.text ++ flat_map (λ l. mark ++ l) ls) (sym e) ∙ m.whole;
}

pub rest_marked : (mark : List ℕ) (a b : Option (List ℕ)) (rest all : List (List ℕ)) → rest ≡ [] → Marked mark a b rest all → Appends a b (flat_map (λ line. mark ++ line) all)
rest_marked mark a b rest all e m = subst (Appends a b) (sym (append-nil m.text) ∙ ap (λ ls. m.text ++ flat_map (λ line. mark ++ line) ls) (sym e) ∙ m.whole) m.wrote

pub all_marked : (mark text : List ℕ) (a b : Option (List ℕ)) (rest : List (List ℕ)) → rest ≡ [] → Marked mark a b rest (lines_of text) → Appends a b (marked mark text)
all_marked mark text a b rest e m = rest_marked mark a b rest (lines_of text) e m

pub ruleset mark_steps = (nothing_marked, one_marked, all_marked)
