-- What a check tells reads back.
use Rattle.std.proofs.Common.{◌≡◌, ℕ, List, Option, Some, None, option_map, refl, ap, ◌∙◌}
use Rattle.base64.specs.GeneralPurpose.{IsBytes}
use Rattle.block_tree.specs.Tree.{Tree}
use Rattle.block_tree.specs.declared.reason.Reason.{Reason}
use Rattle.worksheet.specs.declared.field.Answer.{Answer}
use Rattle.sheet_json.specs.Blocks.{tree_data}
use Rattle.sheet_json.specs.Bytes.{bytes_data}
use Rattle.sheet_json.specs.Laws.{ChecksReadBack}
use Rattle.sheet_json.specs.Objects.{answer_data, checked_data, took_data, why_data}
use Rattle.sheet_json.specs.Reading.{bytes_in, tree_in}
use Rattle.sheet_json.specs.Tellings.{CheckReported}
use Rattle.sheet_json.specs.Tellings as reported
use Rattle.sheet_json.specs.declared.checks.Took.{Took}
use Rattle.sheet_json.specs.Reported.{answer_in, checked_in, of, option_in, reason_in, took_in, AnswerHasBytes, CheckHasBytes}
use Rattle.sheet_json.proofs.Back.{bytes_back, blocks_read_back}
use Rattle.sheet_json.proofs.Tellings.{reason_back}

abbrev whole_answer : List ℕ → Tree → Answer
whole_answer prompt output = record { prompt = prompt; output = output }

answer_back : (answer : Option Answer) → AnswerHasBytes answer → answer_in (answer_data answer) ≡ Some answer
answer_back None good = refl
answer_back (Some a) good =
    ap (λ r. option_map (λ x. Some x) (of (option_map (λ prompt output. whole_answer prompt output) r) (tree_in (tree_data a.output)))) (bytes_back a.prompt good.0)
    ∙ ap (λ r. option_map (λ x. Some x) (of (Some (λ output. whole_answer a.prompt output)) r)) (blocks_read_back a.output good.1)

why_back : (why : Option Reason) → option_in reason_in (why_data why) ≡ Some why
why_back None = refl
why_back (Some why) = ap (option_map (λ x. Some x)) (reason_back why)

took_back : (took : Option Took) → took_in (took_data took) ≡ Some took
took_back None = refl
took_back (Some took) = refl

-- with its number, its session and what it took
of_field : (id : ℕ) (session : List ℕ) (took : Option Took) (c : CheckReported) (r : Option CheckReported) → IsBytes session → r ≡ Some c
    → of (of (of (Some (λ s k x. reported.checked id s k x)) (bytes_in (bytes_data session))) (took_in (took_data took))) r ≡ Some (reported.checked id session took c)
of_field id session took c r are is =
    ap (λ s. of (of (of (Some (λ t k x. reported.checked id t k x)) s) (took_in (took_data took))) r) (bytes_back session are)
    ∙ ap (λ k. of (of (Some (λ l x. reported.checked id session l x)) k) r) (took_back took) ∙ ap (of (Some (λ x. reported.checked id session took x))) is

checked_back : (id : ℕ) (session : List ℕ) (took : Option Took) (c : CheckReported) → IsBytes session → CheckHasBytes c → checked_in (checked_data id session took c) ≡ Some (reported.checked id session took c)
checked_back id session took reported.same are good = of_field id session took reported.same (Some reported.same) are refl
checked_back id session took reported.left_out are good = of_field id session took reported.left_out (Some reported.left_out) are refl
checked_back id session took (reported.differs input shows came) are good =
    of_field id session took (reported.differs input shows came) _ are
    (ap (λ r. of (of (Some (λ x y. reported.differs input x y)) r) (answer_in (answer_data came))) (answer_back shows good.0) ∙ ap (of (Some (λ y. reported.differs input shows y))) (answer_back came good.1))
checked_back id session took (reported.unanswered input shows why) are good =
    of_field id session took (reported.unanswered input shows why) _ are
    (ap (λ r. of (of (Some (λ x y. reported.unanswered input x y)) r) (option_in reason_in (why_data why))) (answer_back shows good) ∙ ap (of (Some (λ y. reported.unanswered input shows y))) (why_back why))
checked_back id session took (reported.new input came) are good =
    of_field id session took (reported.new input came) _ are (ap (of (Some (λ y. reported.new input y))) (answer_back came good))

pub checks_read_back : ChecksReadBack
checks_read_back = (checked_back, (λ same differ unanswered left_out errors new. refl), (λ id. refl), (λ session are. ap (option_map (λ s. reported.no_program s)) (bytes_back session are)))
