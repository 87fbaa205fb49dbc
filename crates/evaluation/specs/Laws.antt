-- That no field is left out where they are asked round by round, and none comes twice.
use Rattle.std.specs.List.Sorted.{IsPermutation}
use Rattle.worksheet.specs.Contents.{Contents}
use Rattle.evaluation.specs.declared.plan.Plan.{Plan}
use Rattle.evaluation.specs.Meant.{meant_in}
use Rattle.evaluation.specs.Rounds.{asking_order}

-- the order in which fields are asked is one of those that are to be evaluated
abbrev pub RoundsLeaveNoneOut : Type 0
RoundsLeaveNoneOut = (plan : Plan) (sheet : Contents) → IsPermutation (meant_in plan sheet) (asking_order plan sheet)
