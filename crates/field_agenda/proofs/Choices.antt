-- What an agenda of fields says, by what its functions found.
use Rattle.std.proofs.Common.{◌≡◌, ◌∙◌, ◌+◌, ◌<◌, ◌^◌, ◌≤◌, ℕ, List, [], ◌∷◌, None, Some, Ok, ap, get_or, inl, inr, length, map, refl, slice_get, subst, true}
use Rattle.std.specs.Prelude.{◌≢◌, ◌⊎◌, IfSome, Option}
use Rattle.std.proofs.lemmas.Option.{slice_get-get_or}
use Rattle.worksheet.specs.Contents.{Contents}
use Rattle.session_engine.specs.World.{World, sheet_in}
use Rattle.session_engine.specs.Gathers.{NoCheckpoints}
use Rattle.arrivals.specs.declared.sources.Input.TheVariants as input
use Rattle.live.specs.declared.holding.Hold.TheVariants as hold
use Rattle.live.specs.Arrivals.{IsOver, patience_at}
use Rattle.driver.specs.Steps.{most_together}
use Rattle.driver.specs.declared.action.Action.{Action}
use Rattle.driver.specs.declared.action.Action.TheVariants as action
use Rattle.evaluation.specs.Beside.{NoneJoins, joins}
use Rattle.evaluation.specs.Meant.{EndsHere, IsAsked}
use Rattle.evaluation.specs.declared.lasts.Last.{Last}
use Rattle.evaluation.specs.declared.plan.Plan.{Plan}
use Rattle.evaluation.specs.declared.plan.Stand.{Stand}
use Rattle.field_agenda.specs.declared.by_fields.ByFields.{ByFields}
use Rattle.field_agenda.specs.declared.stage.FieldDoing.TheVariants as doing
use Rattle.field_agenda.specs.Says.{GoesUnheard, IsUncounted, NoneLate, asks_field, stalls, watches}
use Rattle.field_agenda.specs.Standing.{asked_together, does_now}
use Rattle.field_agenda.specs.Together.{group_at}

-- the number at a place of what a slice shows
pub read_at : (l ids : List ℕ) (at : ℕ) → l ≡ ids → at < length l → slice_get ids at ≡ Some (get_or ids at 0)
read_at l ids at is within = slice_get-get_or ids at 0 (subst (λ (m : List ℕ). at < length m) is within)

pub asked_there : (plan : Plan) (s t : Contents) (l ids : List ℕ) (stand : Stand) (at id : ℕ) → s ≡ t → l ≡ ids → (slice_get l at ≡ Some id → IsAsked plan s.fields l stand at id)
    → slice_get ids at ≡ Some id → IsAsked plan t.fields ids stand at id
asked_there plan s t l ids stand at id same is next there =
    subst (λ (x : Contents). IsAsked plan x.fields ids stand at id) same (subst (λ (m : List ℕ). slice_get m at ≡ Some id → IsAsked plan s.fields m stand at id) is next there)

pub ends_there : (plan : Plan) (s t : Contents) (l ids : List ℕ) (stand : Stand) (stopped : Option ℕ) → s ≡ t → l ≡ ids → EndsHere plan s.fields l stand stopped → EndsHere plan t.fields ids stand stopped
ends_there plan s t l ids stand stopped same is here =
    subst (λ (x : Contents). EndsHere plan x.fields ids stand stopped) same (subst (λ (m : List ℕ). EndsHere plan s.fields m stand stopped) is here)

pub joins_there : (plan : Plan) (w : World) (l ids : List ℕ) (stand : Stand) (at id : ℕ) → l ≡ ids → (slice_get l at ≡ Some id → IsAsked plan (sheet_in w).fields l stand at id × (joins plan w stand at id ≡ true))
    → slice_get ids at ≡ Some id → IsAsked plan (sheet_in w).fields ids stand at id × (joins plan w stand at id ≡ true)
joins_there plan w l ids stand at id is next there =
    subst (λ (m : List ℕ). slice_get m at ≡ Some id → IsAsked plan (sheet_in w).fields m stand at id × (joins plan w stand at id ≡ true)) is next there

-- what a watch is, where none is late
pub watched : {P : Type 0} (a b : ByFields P) (w : World) (now : ℕ) (t : Action) → a.stand.held ≢ hold.Free → NoneJoins a.plan w a.ids a.stand → NoneLate a.ids a.stand w now
    → (IsOver a.stand.held now × (t ≡ action.Stall) × (b ≡ does_now a doing.Stall)) ⊎ ((IsOver a.stand.held now → ⊥) × (t ≡ action.Watch input.HeldBack (patience_at a.stand.held now)) × (b ≡ a))
    → GoesUnheard a w now (Ok t) b
watched a b w now t held none late (inl (over, is, same)) = stalls held none late over (ap Ok is) same
watched a b w now t held none late (inr (going, is, same)) = watches held none late going (ap Ok is) same

pub full : (s : Stand) (all : ℕ) → (2 ^ 64 ≤ s.asked + most_together + 1) ⊎ (2 ^ 64 ≤ s.overs + 1) → IsUncounted s all
full s all (inl many) = inl many
full s all (inr often) = inr (inl often)

pub beyond : (s : Stand) (all : ℕ) → (all < s.taken) ⊎ (2 ^ 31 ≤ all) → IsUncounted s all
beyond s all (inl past) = inr (inr (inl past))
beyond s all (inr many) = inr (inr (inr many))

-- the fields that are asked, by what slices show of those that were asked last and of all
pub group_there : (plan : Plan) (w : World) (lasts asked : List Last) (l ids : List ℕ) (at id : ℕ) (group : List ℕ) → lasts ≡ asked → l ≡ ids → (slice_get l at ≡ Some id → group ≡ group_at plan w lasts l at id)
    → slice_get ids at ≡ Some id → group ≡ group_at plan w asked ids at id
group_there plan w lasts asked l ids at id group so is made there =
    subst (λ (x : List Last). group ≡ group_at plan w x ids at id) so (subst (λ (m : List ℕ). slice_get m at ≡ Some id → group ≡ group_at plan w lasts m at id) is made there)

-- where it stands after them
pub stands_there : (s : Stand) (at : ℕ) (c d : Contents) (shown group all : List ℕ) (stand : Stand) → shown ≡ group → group ≡ all → c ≡ d → stand ≡ asked_together s at c.fields shown → stand ≡ asked_together s at d.fields all
stands_there s at c d shown group all stand is so same made =
    made ∙ ap (λ (l : List ℕ). asked_together s at c.fields l) (is ∙ so) ∙ ap (λ (x : Contents). asked_together s at x.fields all) same

-- no command that asks a field is a checkpoint
pub no_checkpoints : (group : List ℕ) → NoCheckpoints (map asks_field group)
no_checkpoints [] = tt
no_checkpoints (id ∷ group) = (refl, no_checkpoints group)

-- what is so of a place, or of something else, where there is one
pub at_place : {T : Type 0} (r : Option T) (P Q : T → Type 0) → ((at : T) → P at → Q at) → IfSome r P → IfSome r Q
at_place None P Q on so = so
at_place (Some at) P Q on so = on at so
