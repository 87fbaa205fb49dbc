-- What is printed, apart from its format. (docs/use/JSON.md.)
use Rattle.std.specs.Prelude.{ℕ, Bool, List, Option}
use Rattle.block_tree.specs.Tree.{Tree}
use Rattle.block_tree.specs.declared.reason.Reason.{Reason}
use Rattle.worksheet.specs.declared.field.Answer.{Answer}
use Rattle.worksheet.specs.declared.refusal.Refusal.{Refusal}
use Rattle.scheme_text.specs.declared.answer.Completions.{Completions}
use Rattle.plugin_core.specs.declared.item.Item.{Item}
use Rattle.sheet_json.specs.declared.checks.Took.{Took}

-- how a field stands: what it was answered, with the prompt of that; why its line was lost; that its line waits; or none of these
pub data State : Type 0 where
  answered : List ℕ → Tree → State
  lost : Reason → State
  waiting : State
  empty : State

-- a field: its number, session and input, and how it stands
pub record FieldShown : Type 0 where
  pub id : ℕ
  pub session : List ℕ
  pub input : List ℕ
  pub state : State

-- a session: its name, whether its interpreter answers requests of completions, its words, the number of its life if one goes on,
-- and how many items wait in it
pub record SessionShown : Type 0 where
  pub name : List ℕ
  pub tab : Bool
  pub words : List (List ℕ)
  pub life : Option ℕ
  pub waiting : ℕ

-- what a line gives, but a stop that ends a life and what a print writes
pub data Reply : Type 0 where
  done : Reply
  made : ℕ → Reply
  asked : ℕ → Reply
  refused : Refusal → Reply
  bad : Reply
  nothing : Reply
  waited : Bool → Reply
  -- what came of an interrupt, as a word
  interrupted : List ℕ → Reply
  -- it ends a transaction, from this one on, of which nothing was done
  undone : ℕ → Reply

-- What comes of an interpreter. Of a banner and an answer the last is the prompt of the line that would be asked next, where it is known.
pub data EventReported : Type 0 where
  banner : Tree → Option (List ℕ) → EventReported
  answer : ℕ → List ℕ → Tree → Option (List ℕ) → EventReported
  completed : ℕ → Option Completions → EventReported
  input : List ℕ → EventReported
  ended : Reason → List Item → EventReported
  -- a limit of time was over, and it was interrupted: what came of that, as a word
  warned : List ℕ → EventReported
  -- what it wrote that ends no block; it is kept nowhere, and no answer
  partial : List ℕ → EventReported

-- What another evaluation of a field came to. Where that isn't the same output: its input, the answer that it shows, and the one that
-- came, or the reason that it shows for none.
pub data CheckReported : Type 0 where
  same : CheckReported
  left_out : CheckReported
  differs : List ℕ → Option Answer → Option Answer → CheckReported
  unanswered : List ℕ → Option Answer → Option Reason → CheckReported
  -- it showed none: its input, and the answer that came
  new : List ℕ → Option Answer → CheckReported

pub data Telling : Type 0 where
  hello : Telling
  -- of the line with this number
  reply : ℕ → Reply → Telling
  -- of that line, which ended the life of this session that has this number
  stopped : ℕ → List ℕ → ℕ → List Item → Telling
  -- of the life of this session that has this number
  event : List ℕ → ℕ → EventReported → Telling
  -- a field: asked for alone by a line, one of those that a line asks for, or of a worksheet that no line asks for
  field : ℕ → FieldShown → Telling
  part : ℕ → FieldShown → Telling
  shown : FieldShown → Telling
  -- of the line with this number, which asks for the worksheet in the format of this name: its text, or that it has none
  exported : ℕ → List ℕ → Option (List ℕ) → Telling
  -- the numbers of the fields in their order, the number of the next one, and the sessions
  sheet : ℕ → List ℕ → ℕ → List SessionShown → Telling
  whole : List ℕ → ℕ → List SessionShown → Telling
  -- the number of a fault and its name, and the offset of a damage
  fault : ℕ → List ℕ → Option ℕ → Telling
  -- the limit of time of the field with this number was over, and its interpreter was interrupted: what came of that, as a word
  over : ℕ → List ℕ → Telling
  -- at the end of an evaluation, how many fields show an answer, how many don't, and how many show one that is an error
  counted : ℕ → ℕ → ℕ → Telling
  -- the same, and for how many fields the limit of time was over, and how many were passed over
  counted_in_time : ℕ → ℕ → ℕ → ℕ → ℕ → Telling
  -- a field with this number, of this session, that a check evaluated, and what that took, where it is known
  checked : ℕ → List ℕ → Option Took → CheckReported → Telling
  -- at the end of a check, how many outputs were the same, how many differed, how many fields were unanswered and left out, how many answers
  -- came that have an error, and how many to fields that showed none
  compared : ℕ → ℕ → ℕ → ℕ → ℕ → ℕ → Telling
  -- the fault that no field has this number
  no_field : ℕ → Telling
  -- the fault that the program of this session isn't there
  no_program : List ℕ → Telling
  -- the input came to its end
  end : Telling
