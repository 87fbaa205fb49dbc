-- What a method of the driver did.
use Rattle.std.specs.Prelude.{ℕ, List, [], ◌++◌, Result}
use Rattle.session_engine.specs.World.{World}
use Rattle.session_engine.specs.Host.{IsHost}
use Rattle.offline_programs.specs.declared.fault.RunFault.{RunFault}
use Rattle.driver.specs.declared.driver.Driver.{Driver}
use Rattle.driver.specs.Items.{Item}
use Rattle.driver.specs.Place.{Rules}
use Rattle.driver.specs.Runs.{DidSteps, Parts, left_by_answer, parts, seen}

-- a driver, as runs see it
abbrev pub driver_parts : {D S K A : Type 0} → Driver D S K A → Parts A S K
driver_parts x = parts x.host x.sources x.sink x.agenda

-- Where the host stood for a world, steps led from this driver, which had this to do before anything else, to that driver. What is left to be done of
-- it follows from the answer; after a fault it is what comes after that.
abbrev pub DrivesUpTo : {D S K A T : Type 0} → Rules A S K → Driver D S K A → List Item → (T → List Item) → Result T RunFault → Driver D S K A → Type 0
DrivesUpTo R x todo left answer y = (n : ℕ) (rest : List Item) (w : World) → IsHost x.host w
    → DidSteps R (seen n w (driver_parts x)) (todo ++ rest) (left_by_answer (λ done. left done ++ rest)) answer (n, driver_parts y)

-- the same, up to where nothing of it is left
abbrev pub Drives : {D S K A T : Type 0} → Rules A S K → Driver D S K A → List Item → Result T RunFault → Driver D S K A → Type 0
Drives R x todo answer y = DrivesUpTo R x todo (λ done. []) answer y
