-- Every run of the lines of a script.
use Rattle.std.proofs.Common.{◌≡◌, ◌⊎◌, inl, inr, ⊎_elim, ℕ, ◌+◌, List, [], ◌∷◌, ◌++◌, Option, Some, None, refl, sym, ap, ◌∙◌, subst, append_assoc, append-nil}
use Rattle.std.specs.Prelude.{codes}
use Rattle.host_events.specs.Commands.{op_of, reply_to}
use Rattle.host_events.specs.declared.command.Command.{Command}
use Rattle.host_events.specs.declared.reply.Reply.{Reply}
use Rattle.host_events.specs.declared.reply.Reply.TheVariants as reply
use Rattle.offline_programs.specs.Memory.{OpRan, done, refused, unkept, LineRan, skipped, unknown, printed, replied, idle, no_op, unread, LinesRan}
use Rattle.sheet_text.specs.Texts.{reply_text, sheet_text}
use Rattle.sheet_text.specs.declared.script.ScriptLine.{ScriptLine}
use Rattle.sheet_text.specs.declared.script.ScriptLine.TheVariants as line
use Rattle.worksheet.specs.Checks.{AllowedFrom, first_refusal}
use Rattle.worksheet.specs.Ops.{sheet_of}
use Rattle.worksheet.specs.declared.op.Op.{Op}
use Rattle.worksheet.specs.declared.refusal.Refusal.TheVariants as refusal
use Rattle.sheet_export.specs.Replay.{renumbered, more as say_more, none as say_none, replies_of, SayOps, script_ops, ScriptsMakeThemAgain, ScriptsRunAlike, ScriptsSayTheirOps, WantsMemory}

abbrev no_memory : List ℕ
no_memory = reply_text (reply.Refused refusal.OutOfMemory)

-- an op that the worksheet allows was done, or memory was refused
abbrev DoneOrNot : List Op → Op → List ℕ → List Op → Type 0
DoneOrNot before o text after = ((text ≡ reply_text (reply_to (sheet_of before) o)) × (after ≡ before ++ o ∷ [])) ⊎ (text ≡ no_memory)

by_op : {before after : List Op} {o : Op} {answer : Reply} → OpRan before o answer after → first_refusal (sheet_of before) o ≡ None → DoneOrNot before o (reply_text answer) after
by_op (done h) free = inl (refl, refl)
by_op (refused why h) free = absurd (let no : None ≡ Some why = sym free ∙ h in cc)
by_op (unkept takes h) free = inr refl

by_line : {number : ℕ} {before after : List Op} {said : Option ScriptLine} {first : List ℕ} → LineRan number before said first after → (reported : Command) (o : Op)
    → said ≡ Some (line.Command reported) → op_of reported ≡ Some o → first_refusal (sheet_of before) o ≡ None → DoneOrNot before o first after
by_line skipped reported o is gives free = absurd (let no : Some line.Skip ≡ Some (line.Command reported) = is in cc)
by_line unknown reported o is gives free = absurd (let no : None ≡ Some (line.Command reported) = is in cc)
by_line printed reported o is gives free = absurd (let no : Some line.Print ≡ Some (line.Command reported) = is in cc)
by_line idle reported o is gives free = absurd (let no : Some line.Wait ≡ Some (line.Command reported) = is in cc)
by_line (no_op other none) reported o is gives free =
    let same : other ≡ reported = (let e : Some (line.Command other) ≡ Some (line.Command reported) = is in cc) in
    absurd (let no : None ≡ Some o = sym none ∙ ap op_of same ∙ gives in cc)
by_line (unread other keeps) reported o is gives free = inr refl
by_line {before = before} (replied other p answer after by ran) reported o is gives free =
    let same : other ≡ reported = (let e : Some (line.Command other) ≡ Some (line.Command reported) = is in cc) in
    let one : p ≡ o = (let e : Some p ≡ Some o = sym by ∙ ap op_of same ∙ gives in cc) in
    by_op (subst (λ (x : Op). OpRan before x answer after) one ran) free

by_print : {number : ℕ} {before after : List Op} {said : Option ScriptLine} {first : List ℕ} → LineRan number before said first after → said ≡ Some line.Print → first ≡ sheet_text (sheet_of before)
by_print skipped is = absurd (let no : Some line.Skip ≡ Some line.Print = is in cc)
by_print unknown is = absurd (let no : None ≡ Some line.Print = is in cc)
by_print printed is = refl
by_print idle is = absurd (let no : Some line.Wait ≡ Some line.Print = is in cc)
by_print (no_op other none) is = absurd (let no : Some (line.Command other) ≡ Some line.Print = is in cc)
by_print (unread other keeps) is = absurd (let no : Some (line.Command other) ≡ Some line.Print = is in cc)
by_print (replied other p answer after by ran) is = absurd (let no : Some (line.Command other) ≡ Some line.Print = is in cc)

-- the lines of these ops reply that they were done, and the last lines run after them; or memory was refused
abbrev Reported : List Op → List Op → List (List ℕ) → List ℕ → Type 0
Reported before ops last text = ((n : ℕ) × (rest : List ℕ) × LinesRan n (before ++ ops) last rest × (text ≡ replies_of before ops ++ rest)) ⊎ WantsMemory before ops text

-- an op that was done before these replies
after_done : (before : List Op) (o : Op) (ops : List Op) (last : List (List ℕ)) (text : List ℕ) → Reported (before ++ o ∷ []) ops last text
    → Reported before (o ∷ ops) last (reply_text (reply_to (sheet_of before) o) ++ text)
after_done before o ops last text (inl (n, rest, run, is)) =
    let first = reply_text (reply_to (sheet_of before) o) in
    inl (
      n,
      rest,
      subst (λ (l : List Op). LinesRan n l last rest) (append_assoc before (o ∷ []) ops) run,
      ap (λ (t : List ℕ). first ++ t) is ∙ sym (append_assoc first (replies_of (before ++ o ∷ []) ops) rest),
    )
after_done before o ops last text (inr (ahead, next, later, following, split, is)) =
    let first = reply_text (reply_to (sheet_of before) o) in
    inr (
      o ∷ ahead,
      next,
      later,
      following,
      ap (λ (l : List Op). o ∷ l) split,
      ap (λ (t : List ℕ). first ++ t) is ∙ sym (append_assoc first (replies_of (before ++ o ∷ []) ahead) (no_memory ++ following)),
    )

each : (number : ℕ) (before : List Op) {lines : List (List ℕ)} {ops : List Op} → SayOps lines ops → AllowedFrom before ops → (last : List (List ℕ)) (text : List ℕ)
    → LinesRan number before (lines ++ last) text → Reported before ops last text
each number before say_none allowed last text run = inl (number, text, subst (λ (l : List Op). LinesRan number l last text) (sym (append-nil before)) run, refl)
each number before (say_more given o lines os says others) allowed last text (first, after, rest, one, more, is) =
    ⊎_elim
    (λ did.
    let next = each (number + 1) (before ++ o ∷ []) others allowed.1 last rest (subst (λ (l : List Op). LinesRan (number + 1) l (lines ++ last) rest) did.1 more) in
    subst (Reported before (o ∷ os) last) (sym (is ∙ ap (λ (t : List ℕ). t ++ rest) did.0)) (after_done before o os last rest next))
    (λ wanted. inr ([], o, os, rest, refl, is ∙ ap (λ (t : List ℕ). t ++ rest) wanted))
    (by_line one says.0 o says.1 says.2 allowed.0)

pub scripts_run_alike : ScriptsMakeThemAgain → ScriptsSayTheirOps → ScriptsRunAlike
scripts_run_alike make says sheet is has text run =
    let made = make sheet is in
    ⊎_elim
    (λ reported.
    let printed_so : reported.1 ≡ sheet_text (renumbered sheet) =
    reported.2.5 ∙ ap (λ (t : List ℕ). reported.2.0 ++ t) reported.2.4 ∙ append-nil reported.2.0 ∙ by_print reported.2.3 refl ∙ ap sheet_text made.1 in
    inl (reported.3 ∙ ap (λ (t : List ℕ). replies_of [] (script_ops sheet) ++ t) printed_so))
    inr
    (each 1 [] (says sheet is has) made.0 (codes "print" ∷ []) text run)
