-- Where an agenda of a script stands.
use Rattle.std.specs.Prelude.{ℕ, ◌+◌, ◌&&◌, Bool, true, false, List, [], Option, Some, None}
use Rattle.child_calls.specs.declared.seat.Seat.{Seat}
use Rattle.script_agenda.specs.declared.by_script.ByScript.{ByScript}

pub record ScriptAt : Type 0 where
  -- the lines that weren't taken yet
  pub lines : List (List ℕ)
  -- whether it stops after the first line that goes wrong
  pub strict : Bool
  -- how many lines were taken
  pub number : ℕ
  -- how many rounds were begun of the wait that holds back the next line
  pub wait : Option ℕ
  -- the lives that are still to be heard in this round
  pub round : List Seat
  -- how many commands were taken as one group, of which nothing came yet
  pub group : ℕ
  -- whether the line that was taken last went wrong
  pub wrong : Bool

-- the agenda
abbrev pub script_stand : ByScript → ScriptAt
script_stand a = record { lines = a.lines; strict = a.strict; number = a.number; wait = a.wait; round = a.round.items; group = a.group; wrong = a.wrong }

-- before the first of these lines is taken
abbrev pub script_begun : List (List ℕ) → Bool → ScriptAt
script_begun lines strict = record { lines = lines; strict = strict; number = 0; wait = None; round = []; group = 0; wrong = false }

-- the number of the line after which a strict script stopped
abbrev pub line_where : Bool → ℕ → Option ℕ
line_where true number = Some number
line_where false number = None

abbrev pub stopped_line : ScriptAt → Option ℕ
stopped_line a = line_where (a.strict && a.wrong) a.number

-- one line more was taken, and these are left
abbrev pub after_one_line : ScriptAt → List (List ℕ) → ScriptAt
after_one_line a rest = record a { lines = rest; number = a.number + 1; wrong = false }

-- the line that was taken goes wrong
abbrev pub gone_wrong : ScriptAt → ScriptAt
gone_wrong a = record a { wrong = true }

-- a wait holds back the next line, of which so many rounds were begun, or none does
abbrev pub waiting : ScriptAt → Option ℕ → ScriptAt
waiting a rounds = record a { wait = rounds }

-- these lives are still to be heard in this round
abbrev pub with_round : ScriptAt → List Seat → ScriptAt
with_round a round = record a { round = round }
