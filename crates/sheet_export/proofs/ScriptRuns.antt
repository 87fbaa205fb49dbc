-- A run of the lines of a script.
use Rattle.std.proofs.Common.{◌≡◌, ℕ, ◌+◌, List, [], ◌∷◌, ◌++◌, Some, refl, sym, ap, ◌∙◌, subst, append_assoc, append-nil}
use Rattle.std.specs.Prelude.{codes}
use Rattle.host_events.specs.Commands.{reply_to}
use Rattle.offline_programs.specs.Memory.{done, LineRan, LinesRan, printed, replied}
use Rattle.sheet_text.specs.Texts.{reply_text, sheet_text}
use Rattle.sheet_text.specs.declared.script.ScriptLine.TheVariants as line
use Rattle.worksheet.specs.Checks.{AllowedFrom}
use Rattle.worksheet.specs.Ops.{sheet_of}
use Rattle.worksheet.specs.declared.op.Op.{Op}
use Rattle.sheet_export.specs.Replay.{renumbered, more, none, SayOps, script_ops, ScriptsMakeThemAgain, ScriptsRun, ScriptsSayTheirOps}

runs : (number : ℕ) (before : List Op) {lines : List (List ℕ)} {ops : List Op} → SayOps lines ops → AllowedFrom before ops → (last : List (List ℕ)) (text : List ℕ)
    → ((n : ℕ) → LinesRan n (before ++ ops) last text) → (reported : List ℕ) × LinesRan number before (lines ++ last) (reported ++ text)
runs number before none allowed last text h = ([], subst (λ (ops : List Op). LinesRan number ops last text) (append-nil before) (h number))
runs number before (more given o lines os says others) allowed last text h =
    let answer = reply_to (sheet_of before) o in
    let first = reply_text answer in
    let after = before ++ o ∷ [] in
    let rest = runs (number + 1) after others allowed.1 last text (λ n. subst (λ (ops : List Op). LinesRan n ops last text) (sym (append_assoc before (o ∷ []) os)) (h n)) in
    let one : LineRan number before (Some (line.Command says.0)) first after = replied says.0 o answer after says.2 (done allowed.0) in
    (first ++ rest.0, (first, after, rest.0 ++ text, subst (λ said. LineRan number before said first after) (sym says.1) one, rest.1, append_assoc first rest.0 text))

pub scripts_run : ScriptsMakeThemAgain → ScriptsSayTheirOps → ScriptsRun
scripts_run make says sheet is has =
    let made = make sheet is in
    let text = sheet_text (renumbered sheet) in
    let shows : sheet_text (sheet_of (script_ops sheet)) ≡ text = ap sheet_text made.1 in
    runs 1 [] (says sheet is has) made.0 (codes "print" ∷ []) text
    (λ n. (sheet_text (sheet_of (script_ops sheet)), script_ops sheet, [], printed, refl, sym (append-nil (sheet_text (sheet_of (script_ops sheet))) ∙ shows)))
