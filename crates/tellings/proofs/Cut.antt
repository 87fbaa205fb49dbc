-- What was written of a text, and not whole.
use Rattle.std.proofs.Common.{◌≡◌, ◌<◌, ◌+◌, Bool, drop, false, inl, inr, true, ℕ, List, [], ◌∷◌, ◌++◌, Option, append-nil, append_assoc, get_or, length, refl, ap, sym, ◌∙◌, subst, take}
use Rattle.std.specs.List.{flat_map}
use Rattle.std.proofs.KnownBytes.{Appends-kept, Appends-nil, Appends-trans}
use Rattle.std.proofs.lemmas.Bool.{true≢false}
use Rattle.std.proofs.lemmas.List.{append_cancel_right, drop_more, take-append-drop}
use Rattle.std.proofs.lemmas.Grind.{flat_map-append}
use Rattle.std.specs.Io.KnownBytes.{Appends, Keeps}
use Rattle.std.specs.Prelude.{IfErr, Result, Ok, Err}
use Rattle.offline_programs.specs.declared.fault.RunFault.{RunFault}
use Rattle.offline_programs.specs.declared.fault.RunFault.TheVariants as fault
use Rattle.tellings.specs.Json.{in_json}
use Rattle.whole_writes.specs.Fronts.{BeganWith}
use Rattle.tellings.specs.Voice.{AreLines, BrokenOff, CutShort, IsWithheld, Unwritten, WroteFront}
use Rattle.tellings.specs.inside.Lines.{lines_joined, lines_of_each}
use Rattle.tellings.proofs.Rows.{Written}

-- nothing of it
none_written : {W : Type 0} (l : Bool) (contents : W → Option (List ℕ)) (old new : W) (text : List ℕ) → new ≡ old → WroteFront l (contents old) (contents new) text
none_written l contents old new text same = record { front = []; rest = text; split = refl; lines = λ _. inl refl; wrote = subst (λ w. Appends (contents old) (contents w) []) (sym same) (Appends-nil (contents old)) }

-- a beginning of its first part
front_first : (l : Bool) (a b : Option (List ℕ)) (part others : List ℕ) → WroteFront l a b part → WroteFront l a b (part ++ others)
front_first l a b part others f = record {
  front = f.front;
  rest = f.rest ++ others;
  split = sym (append_assoc f.front f.rest others) ∙ ap (λ t. t ++ others) f.split;
  lines = f.lines;
  wrote = f.wrote;
}

-- its first part, and a beginning of the others
front_then : (l : Bool) (a b c : Option (List ℕ)) (part others : List ℕ) → (l ≡ true → AreLines part) → Appends a b part → WroteFront l b c others → WroteFront l a c (part ++ others)
front_then l a b c part others lines before f = record {
  front = part ++ f.front;
  rest = f.rest;
  split = append_assoc part f.front f.rest ∙ ap (λ t. part ++ t) f.split;
  lines = λ is. lines_joined part f.front (lines is) (f.lines is);
  wrote = Appends-trans a b c part f.front before f.wrote;
}

-- what was written before, and a beginning of the next part of what is to come
front_ahead : (l : Bool) (a b c : Option (List ℕ)) (ahead part others all done : List ℕ) → ahead ≡ part ++ others → done ++ ahead ≡ all → (l ≡ true → AreLines done)
    → Written a b ahead all → WroteFront l b c part → WroteFront l a c all
front_ahead l a b c ahead part others all done e split lines w f =
    let same : done ≡ w.text = append_cancel_right done w.text ahead (split ∙ sym w.whole) in
    subst (WroteFront l a c) (ap (λ t. w.text ++ t) (sym e) ∙ w.whole)
    (front_then l a b c w.text (part ++ others) (λ is. subst AreLines same (lines is)) w.wrote (front_first l b c part others f))

-- the texts of the values before, and a beginning of this one's
front_of_each : {X : Type 0} (l : Bool) (f : X → List ℕ) (xs : List X) (i : ℕ) (x : X) (a b c : Option (List ℕ)) → (l ≡ true → (y : X) → AreLines (f y)) → i < length xs
    → x ≡ get_or xs i x → Appends a b (flat_map f (take i xs)) → WroteFront l b c (f x) → WroteFront l a c (flat_map f xs)
front_of_each l f xs i x a b c each h is before front =
    subst (WroteFront l a c) all
    (front_then l a b c (flat_map f (take i xs)) (f x ++ flat_map f (drop (i + 1) xs)) (λ so. lines_of_each f (each so) (take i xs)) before
    (front_first l b c (f x) (flat_map f (drop (i + 1) xs)) front))
  where
    next : drop i xs ≡ x ∷ drop (i + 1) xs
    next = drop_more xs i x h ∙ ap (λ y. y ∷ drop (i + 1) xs) (sym is)

    all : flat_map f (take i xs) ++ (f x ++ flat_map f (drop (i + 1) xs)) ≡ flat_map f xs
    all = ap (λ ys. flat_map f (take i xs) ++ flat_map f ys) (sym next) ∙ sym (flat_map-append f (take i xs) (drop i xs)) ∙ ap (flat_map f) (take-append-drop i xs)

-- bytes of which no line is asked
no_lines : {A : Type 0} → false ≡ true → A
no_lines is = absurd (true≢false (sym is))

-- a beginning of it, whatever lines it ends
pub any_front : (old new : Option (List ℕ)) (text : List ℕ) → BeganWith old new text → WroteFront false old new text
any_front old new text f = record { front = f.front; rest = f.rest; split = f.split; lines = no_lines; wrote = f.wrote }

-- all of it, and a flush that failed
pub front_kept : (a b c : Option (List ℕ)) (text : List ℕ) → Appends a b text → Keeps b c → WroteFront false a c text
front_kept a b c text wrote kept = record { front = text; rest = []; split = append-nil text; lines = no_lines; wrote = Appends-kept a b c text wrote kept }

-- a line: nothing of it where there was no memory, and a beginning where the writer failed
pub cut_line : {W : Type 0} (contents : W → Option (List ℕ)) (old new : W) (text : List ℕ) (why : RunFault) → Unwritten old new why → BrokenOff true (contents old) (contents new) text why
    → CutShort true (contents old) (contents new) text why
cut_line contents old new text why unwritten broken = record { lacked = λ lacks. none_written true contents old new text (unwritten lacks); broken = broken }

pub cut_same : (l : Bool) (a b : Option (List ℕ)) (text other : List ℕ) (why : RunFault) → text ≡ other → CutShort l a b text why → CutShort l a b other why
cut_same l a b text other why same cut = subst (λ t. CutShort l a b t why) same cut

pub cut_first : (l : Bool) (a b : Option (List ℕ)) (part others : List ℕ) (why : RunFault) → CutShort l a b part why → CutShort l a b (part ++ others) why
cut_first l a b part others why cut = record { lacked = λ lacks. front_first l a b part others (cut.lacked lacks); broken = λ broke so. front_first false a b part others (cut.broken broke so) }

pub cut_then : (l : Bool) (a b c : Option (List ℕ)) (part others : List ℕ) (why : RunFault) → (l ≡ true → AreLines part) → Appends a b part → CutShort l b c others why
    → CutShort l a c (part ++ others) why
cut_then l a b c part others why lines before cut = record {
  lacked = λ lacks. front_then l a b c part others lines before (cut.lacked lacks);
  broken = λ broke so. front_then false a b c part others no_lines before (cut.broken broke so);
}

pub cut_ahead : (l : Bool) (a b c : Option (List ℕ)) (ahead part others all done : List ℕ) (why : RunFault) → ahead ≡ part ++ others → done ++ ahead ≡ all → (l ≡ true → AreLines done)
    → Written a b ahead all → CutShort l b c part why → CutShort l a c all why
cut_ahead l a b c ahead part others all done why e split lines w cut = record {
  lacked = λ lacks. front_ahead l a b c ahead part others all done e split lines w (cut.lacked lacks);
  broken = λ broke so. front_ahead false a b c ahead part others all done e split no_lines w (cut.broken broke so);
}

pub cut_of_each : {X : Type 0} (l : Bool) (f : X → List ℕ) (xs : List X) (i : ℕ) (x : X) (a b c : Option (List ℕ)) (why : RunFault) → (l ≡ true → (y : X) → AreLines (f y)) → i < length xs
    → x ≡ get_or xs i x → Appends a b (flat_map f (take i xs)) → CutShort l b c (f x) why → CutShort l a c (flat_map f xs) why
cut_of_each l f xs i x a b c why each h is before cut = record {
  lacked = λ lacks. front_of_each l f xs i x a b c each h is before (cut.lacked lacks);
  broken = λ broke so. front_of_each false f xs i x a b c (λ no. no_lines no) h is before (cut.broken broke so);
}

-- all of it, and no flush
pub cut_flush : (l : Bool) (a b c : Option (List ℕ)) (text : List ℕ) → Appends a b text → Keeps b c → CutShort l a c text fault.Output
cut_flush l a b c text wrote kept = record { lacked = λ lacks. cc lacks; broken = λ broke so. front_kept a b c text wrote kept }

-- of words nothing is said
pub cut_words : (r : Result (Unit {0}) RunFault) (a b : Option (List ℕ)) (text : List ℕ) → IfErr r (λ why. why ≡ fault.Output) → IfErr r (CutShort false a b text)
cut_words (Ok done) a b text is = tt
cut_words (Err why) a b text is = record { lacked = λ lacks. cc (is, lacks); broken = λ broke so. no_lines so }

-- a line that wasn't written whole, whyever
pub cut_front : (a b : Option (List ℕ)) (text : List ℕ) (why : RunFault) → IsWithheld in_json why → CutShort true a b text why → WroteFront false a b text
cut_front a b text why (inl broke) cut = cut.broken broke refl
cut_front a b text why (inr lacks) cut = let f = cut.lacked (lacks.0) in record { front = f.front; rest = f.rest; split = f.split; lines = no_lines; wrote = f.wrote }

pub ruleset cut_steps = (any_front, front_kept, cut_line, cut_flush, cut_words, cut_front)
