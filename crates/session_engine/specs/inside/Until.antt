-- What a play of a group promises that may stop at a refusal. No public contract names this.
use Rattle.std.specs.Prelude.{◌≡◌, Bool, List, [], true, false}
use Rattle.std.specs.List.{list_any}
use Rattle.host_events.specs.declared.event.Event.{Event}
use Rattle.host_events.specs.declared.outcome.Outcome.{Outcome}
use Rattle.session_engine.specs.declared.play.PlayFault.{PlayFault}
use Rattle.session_engine.specs.declared.play.PlayFault.TheVariants as halt
use Rattle.session_engine.specs.declared.play.GroupFault.{GroupFault}
use Rattle.session_engine.specs.World.{World}
use Rattle.session_engine.specs.Host.{HostView}
use Rattle.session_engine.specs.Crash.{HasPlayed}
use Rattle.session_engine.specs.Groups.{HaltsGroup, HaltsUpTo, StopsAtRefusal, TookGroup, TookUpTo, is_refusal}

-- with these outcomes, and these events left, a play ends that goes on after a refusal, or one that doesn't
abbrev pub EndsWith : Bool → List Outcome → List Event → Type 0
EndsWith false reported rest = rest ≡ []
EndsWith true reported rest = StopsAtRefusal reported rest

-- all events were taken, or those up to a refusal
pub record PlayedBy (up_to : Bool) (w : World) (events : List Event) (reported : List Outcome) (host : HostView) : Type 0 where
  pub rest : List Event
  pub played : HasPlayed w events rest reported host
  pub ends : EndsWith up_to reported rest

-- none of the outcomes before a fault is a refusal
abbrev pub NoneRefused : PlayFault → Type 0
NoneRefused (halt.NoRoom back) = Unit {0}
NoneRefused (halt.Stopped outcomes fault) = list_any is_refusal outcomes.items ≡ false

abbrev pub TookBy : Bool → World → List Event → List Outcome → HostView → HostView → Type 0
TookBy false w events reported old new = TookGroup w events reported old new
TookBy true w events reported old new = TookUpTo w events reported old new

abbrev pub HaltsBy : Bool → World → List Event → HostView → HostView → GroupFault → Type 0
HaltsBy false w events old new fault = HaltsGroup w events old new fault
HaltsBy true w events old new fault = HaltsUpTo w events old new fault
