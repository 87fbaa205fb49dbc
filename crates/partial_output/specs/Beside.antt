-- What stands beside the answers: pieces of an interpreter's output, at the calls on children that receive them. (docs/use/JSON.md.)
use Rattle.std.specs.Prelude.{◌≡◌, ℕ, Bool, true, false, List, [], Option}
use Rattle.std.specs.Io.KnownBytes.{Appends}
use Rattle.child_calls.specs.Calls.{Answer, Call, done, end, fault, interrupt, no_memory, piece, receive, send, start, stop}
use Rattle.whole_writes.specs.Fronts.{BeganWith}
use Rattle.partial_output.specs.Pieces.{reported_text}
use Rattle.partial_output.specs.declared.piece.Beside.{Beside}

-- what is written of what was received of this life: of a piece what is written of one, else nothing
abbrev pub received_text : List ℕ → ℕ → Answer → List ℕ
received_text name life (piece bytes) = reported_text name life bytes
received_text name life done = []
received_text name life fault = []
received_text name life end = []
received_text name life no_memory = []

-- what is written at a call: at a receive alone there may be something
abbrev pub text_beside : Call → Answer → List ℕ
text_beside (receive name life) answer = received_text name life answer
text_beside (start name life words) answer = []
text_beside (send name life bytes) answer = []
text_beside (interrupt name life) answer = []
text_beside (stop name life) answer = []

-- Where pieces aren't asked for the writer stays as it is. Where they are, a beginning of this text was written, and all of it where they still are.
pub record WritesBeside {W : Type 0} (contents : W → Option (List ℕ)) (old : Beside W) (text : List ℕ) (new : Beside W) : Type 0 where
  pub silent : old.tells ≡ false → new ≡ old
  pub front : BeganWith (contents old.writer) (contents new.writer) text
  pub whole : new.tells ≡ true → Appends (contents old.writer) (contents new.writer) text
