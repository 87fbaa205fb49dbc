-- What private functions add to the outputs of a cell.
use Rattle.std.specs.Prelude.{◌≡◌, ◌++◌, List, map}
use Rattle.serde_json.specs.View.{view}
use Rattle.serde_json.specs.declared.value.Value.{Value}
use Rattle.sheet_notebook.specs.Notebook.{part_output}
use Rattle.sheet_notebook.specs.Parts.{Part}

-- these parts were added at the end
abbrev pub AddsOutputs : List Value → List Value → List Part → Type 0
AddsOutputs old new parts = map view new ≡ map view old ++ map part_output parts
