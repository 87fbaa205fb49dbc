-- The table of the subcommands, in the order of the help.
use Rattle.std.specs.Prelude.{◌≡◌, ℕ, List, [], ◌∷◌, codes, slice_get, unwrap_or}
use Rattle.clap.specs.Words.{Text}
use Rattle.command_words.specs.declared.table.Row.{Row}
use Rattle.command_words.specs.declared.table.Shape.{Shape}
use Rattle.command_words.specs.declared.table.Shape.TheVariants as shape

abbrev pub rows : List (Text × Shape)
rows =
    (codes "blocks", shape.Stream)
    ∷ (codes "create", shape.Path)
    ∷ (codes "run", shape.Run)
    ∷ (codes "live", shape.Live)
    ∷ (codes "eval", shape.Eval)
    ∷ (codes "show", shape.Show)
    ∷ (codes "check", shape.Check)
    ∷ (codes "rescue", shape.Paths)
    ∷ (codes "export", shape.Format)
    ∷ (codes "history", shape.Path)
    ∷ (codes "restore", shape.Earlier)
    ∷ (codes "faults", shape.Help)
    ∷ []

-- the row with this number
abbrev pub listed_at : ℕ → Text × Shape
listed_at n = unwrap_or (slice_get rows n) ([], shape.Help)

pub record IsRow (at : ℕ) (row : Row) : Type 0 where
  pub name : row.name.now ≡ (listed_at at).0
  pub shape : row.shape ≡ (listed_at at).1
