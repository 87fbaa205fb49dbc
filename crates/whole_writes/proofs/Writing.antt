-- Bytes that are written part by part.
use Rattle.std.proofs.Common.{◌≡◌, ℕ, List, [], ◌++◌, Option, refl, ap, sym, ◌∙◌, append_assoc, append-nil, subst, take, drop}
use Rattle.std.proofs.KnownBytes.{Appends-kept, Appends-nil, Appends-trans}
use Rattle.std.proofs.lemmas.List.{take-append-drop}
use Rattle.std.specs.Io.KnownBytes.{Appends, Keeps}
use Rattle.whole_writes.specs.Fronts.{BeganWith}

-- a front of the bytes is written, and these are to come
pub record Going (old new : Option (List ℕ)) (ahead bytes : List ℕ) : Type 0 where
  pub front : List ℕ
  pub split : front ++ ahead ≡ bytes
  pub wrote : Appends old new front

pub going_first : (old : Option (List ℕ)) (bytes : List ℕ) → Going old old bytes bytes
going_first old bytes = record { front = []; split = refl; wrote = Appends-nil old }

going_on : (a b c : Option (List ℕ)) (part ahead others bytes : List ℕ) → part ++ others ≡ ahead → Going a b ahead bytes → Appends b c part → Going a c others bytes
going_on a b c part ahead others bytes e g more = record {
  front = g.front ++ part;
  split = append_assoc g.front part others ∙ ap (λ t. g.front ++ t) e ∙ g.split;
  wrote = Appends-trans a b c g.front part g.wrote more;
}

-- some of them were taken, and none
pub going_taken : (a b c : Option (List ℕ)) (taken : ℕ) (ahead bytes : List ℕ) → Going a b ahead bytes → Appends b c (take taken ahead) → Going a c (drop taken ahead) bytes
going_taken a b c taken ahead bytes = going_on a b c (take taken ahead) ahead (drop taken ahead) bytes (take-append-drop taken ahead)

pub going_kept : (a b c : Option (List ℕ)) (ahead bytes : List ℕ) → Going a b ahead bytes → Keeps b c → Going a c ahead bytes
going_kept a b c ahead bytes g kept = record { front = g.front; split = g.split; wrote = Appends-kept a b c g.front g.wrote kept }

pub began : (a b : Option (List ℕ)) (ahead bytes : List ℕ) → Going a b ahead bytes → BeganWith a b bytes
began a b ahead bytes g = record { front = g.front; rest = ahead; split = g.split; wrote = g.wrote }

-- nothing of them was written
pub began_nothing : (a : Option (List ℕ)) (bytes : List ℕ) → BeganWith a a bytes
began_nothing a bytes = record { front = []; rest = bytes; split = refl; wrote = Appends-nil a }

pub gone : (a b : Option (List ℕ)) (ahead bytes : List ℕ) → ahead ≡ [] → Going a b ahead bytes → Appends a b bytes
gone a b ahead bytes e g = subst (Appends a b) (sym (append-nil g.front) ∙ ap (λ t. g.front ++ t) (sym e) ∙ g.split) g.wrote

pub ruleset write_steps = (going_first, going_taken, going_kept, began, gone)
