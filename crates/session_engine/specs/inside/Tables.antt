-- The lives that a host runs, before and after a call on one of them.
use Rattle.std.specs.Prelude.{◌≡◌, ◌⊎◌, ℕ, ◌==◌, List, [], ◌∷◌, ◌++◌, Bool, false, Option, Some, None, Result, IfOk, ◌+◌}
use Rattle.std.specs.List.{list_any}
use Rattle.meta_format.specs.Stream.{Outer}
use Rattle.plugin_core.specs.declared.step.Step.{Step}
use Rattle.plugin_core.specs.declared.item.Item.{Item}
use Rattle.plugin_core.specs.Past.{Event, accepted}
use Rattle.plugin_core.specs.Kept.{LifeHasPast, Takes, Accepts}
use Rattle.plugin_core.specs.Kept.{InterpreterView}
use Rattle.session_engine.specs.Named.{without_named, replace_named}
use Rattle.session_engine.specs.declared.table.Running.{Running}
use Rattle.session_engine.specs.Host.{name_of, life_in, number_in}
use Rattle.session_engine.specs.World.{Going, waiting_in}
use Rattle.plugin_core.specs.Items.{first_line_of, is_line_of}

abbrev pub has_number : ℕ → Option Running → Bool
has_number number None = false
has_number number (Some r) = r.life.number == number

-- the field of the first item that waits in this life, where that is a line
abbrev pub line_in : Option Going → Option ℕ
line_in None = None
line_in (Some l) = first_line_of (waiting_in l)

-- the line of this field waits in this life
abbrev pub waits_at : ℕ → Option Going → Bool
waits_at id None = false
waits_at id (Some l) = list_any (λ i. is_line_of id i) (waiting_in l)

-- the life of this session is taken out, if there is one
abbrev pub TakesOut : List ℕ → List Running → List Running → Option Running → Type 0
TakesOut name old new None = (life_in old name ≡ None) × (new ≡ old)
TakesOut name old new (Some r) = (life_in old name ≡ Some r) × (new ≡ without_named name_of name old)

-- this running life, under the same name, in this later state
abbrev pub with_life : Running → InterpreterView → Running
with_life r life = record { name = r.name; life = life }

-- a piece goes to the life of this session, which has this number
pub record Feeds {E : Type 0} (name : List ℕ) (number : ℕ) (piece : List ℕ) (old new : List Running) (result : Result Step E) : Type 0 where
  pub before : Running
  pub found : life_in old name ≡ Some before
  pub numbered : before.life.number ≡ number
  pub life : InterpreterView
  pub same : life.number ≡ before.life.number
  pub put : new ≡ replace_named name_of name (with_life before life) old
  pub takes : (past : List Event) (blocks : List Outer) → LifeHasPast before.life past blocks → IfOk result (λ step. Takes past blocks piece step life)

abbrev pub FeedsIf : {E : Type 0} → List ℕ → ℕ → List ℕ → List Running → List Running → Option (Result Step E) → Type 0
FeedsIf name number piece old new None = (has_number number (life_in old name) ≡ false) × (new ≡ old)
FeedsIf name number piece old new (Some result) = Feeds name number piece old new result

-- the life of this session isn't over
abbrev pub GoesOnAt : List Running → List ℕ → Type 0
GoesOnAt rs name = (r : Running) → life_in rs name ≡ Some r → r.life.over ≡ false

-- who has an item that was asked: the number of the life, and the bytes that are sent to it now
pub record ItemTaken : Type 0 where
  pub number : ℕ
  pub sent : Option (List ℕ)

-- an item goes to the life of this session
pub record Joined (name : List ℕ) (item : Item) (old new : List Running) (taken : ItemTaken) : Type 0 where
  pub before : Running
  pub found : life_in old name ≡ Some before
  pub life : InterpreterView
  pub same : life.number ≡ before.life.number
  pub put : new ≡ replace_named name_of name (with_life before life) old
  pub reported : taken.number ≡ life.number
  pub accepts : (past : List Event) (blocks : List Outer) → LifeHasPast before.life past blocks → Accepts past blocks item taken.sent life

-- a life of this session begins with an item
pub record Begun (name : List ℕ) (next : ℕ) (item : Item) (old new : List Running) (taken : ItemTaken) : Type 0 where
  pub none : life_in old name ≡ None
  pub life : InterpreterView
  pub reported : taken.number ≡ next
  pub is_number : life.number ≡ next
  pub put : new ≡ old ++ record { name = name; life = life } ∷ []
  pub stands : LifeHasPast life (accepted item ∷ []) []
  pub nothing : taken.sent ≡ None

abbrev pub Asked : List ℕ → ℕ → Item → List Running → List Running → ItemTaken → Type 0
Asked name next item old new taken = Joined name item old new taken ⊎ Begun name next item old new taken

-- an item was asked, so that no life has begun and each has its number, or one has begun that can be taken out again
abbrev pub CanGoBack : List ℕ → List Running → ℕ → List Running → ℕ → Type 0
CanGoBack name old begun new now = ((now ≡ begun) × ((other : List ℕ) → number_in new other ≡ number_in old other)) ⊎ ((now ≡ begun + 1) × (without_named name_of name new ≡ old))
