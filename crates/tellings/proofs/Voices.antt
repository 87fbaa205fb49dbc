-- What the voices write.
use Rattle.std.proofs.Common.{◌≡◌, ◌<◌, ◌+◌, ◌-◌, append_assoc, arith, drop, inl, refl, suc, zero, ℕ, List, [], ◌∷◌, ◌++◌, Option, Some, None, append-nil, get_or, length, ap, sym, ◌∙◌, subst, take}
use Rattle.std.specs.List.{flat_map}
use Rattle.std.proofs.KnownBytes.{Appends-trans}
use Rattle.std.proofs.lemmas.List.{drop_more, take_more}
use Rattle.std.proofs.lemmas.Grind.{flat_map-append}
use Rattle.std.specs.Prelude.{Result, option_map}
use Rattle.std.specs.Io.KnownBytes.{Appends}
use Rattle.worksheet.specs.Contents.{Contents}
use Rattle.host_events.specs.declared.outcome.Outcome.{Outcome}
use Rattle.host_events.specs.declared.reply.Reply.{Reply}
use Rattle.offline_programs.specs.declared.fault.RunFault.{RunFault}
use Rattle.serde_json.specs.Data.{Data}
use Rattle.sheet_json.specs.Objects.{event_data, telling_data}
use Rattle.sheet_json.specs.Sheets.{telling_line}
use Rattle.sheet_json.specs.Tellings.{EventReported, Telling}
use Rattle.sheet_json.specs.Tellings as reported
use Rattle.tellings.specs.Json.{event_line}
use Rattle.tellings.specs.Voice.{AreLines, CutShort, KeepsToLines, Voice, WroteLine, numbered_text}
use Rattle.tellings.specs.inside.Lines.{lines_joined}
use Rattle.tellings.proofs.Cut.{cut_ahead}
use Rattle.tellings.proofs.Rows.{Written, part_written}

-- a value of a life, where there is one, is on its line
pub line_if : (r : Result (Unit {0}) RunFault) (a b : Option (List ℕ)) (d : Data) (session : List ℕ) (life : ℕ) (e : Option EventReported) → Some d ≡ option_map (event_data session life) e
    → ((t : Telling) → d ≡ telling_data t → WroteLine r a b (telling_line t)) → WroteLine r a b (event_line session life e)
line_if r a b d session life None is wrote = absurd (no is)
  where
    no : Some d ≡ None → ⊥
    no h = cc h
line_if r a b d session life (Some e) is wrote = wrote (reported.event session life e) (same is)
  where
    same : Some d ≡ Some (event_data session life e) → d ≡ event_data session life e
    same h = cc h

-- what came of one life more
pub came_on : (f : Reply → List ℕ) (replies : List Reply) (i : ℕ) (r : Reply) (a b c : Option (List ℕ)) → i < length replies → r ≡ get_or replies i r
    → Appends a b (flat_map f (take i replies)) → Appends b c (f r) → Appends a c (flat_map f (take (i + 1) replies))
came_on f replies i r a b c h is before more =
    subst (Appends a c) (ap (λ t. flat_map f (take i replies) ++ t) (sym (append-nil (f r))) ∙ sym (flat_map-append f (take i replies) (r ∷ []))
    ∙ ap (flat_map f) (ap (λ x. take i replies ++ x ∷ []) is ∙ sym (take_more replies i r h)))
    (Appends-trans a b c (flat_map f (take i replies)) (f r) before more)

-- the replies of so many outcomes are written, and those of the others are to come
abbrev pub OutcomesWritten : Voice → Contents → ℕ → List Outcome → ℕ → Option (List ℕ) → Option (List ℕ) → Type 0
OutcomesWritten V sheet first outcomes i a b = Written a b (numbered_text V (first + i) sheet (drop i outcomes)) (numbered_text V first sheet outcomes)

-- what is to come begins with this one's
outcome_ahead : (V : Voice) (sheet : Contents) (first : ℕ) (outcomes : List Outcome) (i : ℕ) (o : Outcome) → i < length outcomes → o ≡ get_or outcomes i o
    → numbered_text V (first + i) sheet (drop i outcomes) ≡ V.reply (first + i) sheet o.reply ++ numbered_text V (first + (i + 1)) sheet (drop (i + 1) outcomes)
outcome_ahead V sheet first outcomes i o h is =
    let later : (first + i) + 1 ≡ first + (i + 1) = omega arith in
    ap (numbered_text V (first + i) sheet) (drop_more outcomes i o h ∙ ap (λ x. x ∷ drop (i + 1) outcomes) (sym is))
    ∙ ap (λ n. V.reply (first + i) sheet o.reply ++ numbered_text V n sheet (drop (i + 1) outcomes)) later

pub one_outcome : (V : Voice) (sheet : Contents) (first : ℕ) (outcomes : List Outcome) (i : ℕ) (o : Outcome) (a b c : Option (List ℕ)) → i < length outcomes → o ≡ get_or outcomes i o
    → OutcomesWritten V sheet first outcomes i a b → Appends b c (V.reply (first + i) sheet o.reply) → OutcomesWritten V sheet first outcomes (i + 1) a c
one_outcome V sheet first outcomes i o a b c h is before more =
    part_written a b c (numbered_text V (first + i) sheet (drop i outcomes)) (V.reply (first + i) sheet o.reply)
    (numbered_text V (first + (i + 1)) sheet (drop (i + 1) outcomes)) (numbered_text V first sheet outcomes)
    (outcome_ahead V sheet first outcomes i o h is) before more

-- the replies of the first outcomes, and those of the others
replies_split : (V : Voice) (sheet : Contents) (first : ℕ) (i : ℕ) (outcomes : List Outcome)
    → numbered_text V first sheet (take i outcomes) ++ numbered_text V (first + i) sheet (drop i outcomes) ≡ numbered_text V first sheet outcomes
replies_split V sheet first zero outcomes =
    let same : first + 0 ≡ first = omega arith in
    ap (λ n. numbered_text V n sheet outcomes) same
replies_split V sheet first (suc i) [] = refl
replies_split V sheet first (suc i) (o ∷ outcomes) =
    let later : first + suc i ≡ (first + 1) + i = omega arith in
    append_assoc (V.reply first sheet o.reply) (numbered_text V (first + 1) sheet (take i outcomes)) (numbered_text V (first + suc i) sheet (drop i outcomes))
    ∙ ap (λ t. V.reply first sheet o.reply ++ t)
    (ap (λ n. numbered_text V (first + 1) sheet (take i outcomes) ++ numbered_text V n sheet (drop i outcomes)) later ∙ replies_split V sheet (first + 1) i outcomes)

replies_in_lines : (V : Voice) → ((line : ℕ) (sheet : Contents) (r : Reply) → AreLines (V.reply line sheet r)) → (sheet : Contents) (first : ℕ) (outcomes : List Outcome)
    → AreLines (numbered_text V first sheet outcomes)
replies_in_lines V lines sheet first [] = inl refl
replies_in_lines V lines sheet first (o ∷ outcomes) =
    lines_joined (V.reply first sheet o.reply) (numbered_text V (first + 1) sheet outcomes) (lines first sheet o.reply) (replies_in_lines V lines sheet (first + 1) outcomes)

pub cut_outcome : (V : Voice) (sheet : Contents) (first : ℕ) (outcomes : List Outcome) (i : ℕ) (o : Outcome) (a b c : Option (List ℕ)) (why : RunFault) → KeepsToLines V → i < length outcomes
    → o ≡ get_or outcomes i o → OutcomesWritten V sheet first outcomes i a b → CutShort V.in_lines b c (V.reply (first + i) sheet o.reply) why
    → CutShort V.in_lines a c (numbered_text V first sheet outcomes) why
cut_outcome V sheet first outcomes i o a b c why keeps h is before more =
    cut_ahead V.in_lines a b c (numbered_text V (first + i) sheet (drop i outcomes)) (V.reply (first + i) sheet o.reply)
    (numbered_text V (first + (i + 1)) sheet (drop (i + 1) outcomes)) (numbered_text V first sheet outcomes) (numbered_text V first sheet (take i outcomes)) why
    (outcome_ahead V sheet first outcomes i o h is) (replies_split V sheet first i outcomes) (λ so. replies_in_lines V (keeps.reply so) sheet first (take i outcomes)) before more
