-- Cells of a notebook, one after another.
use Rattle.std.proofs.Common.{◌≡◌, List, [], ◌∷◌, ◌++◌, map, refl, ap, sym, ◌∙◌, append_assoc, append-nil}
use Rattle.serde_json.specs.View.{items_of, items_view, view}
use Rattle.serde_json.specs.declared.value.Value.{Value}
use Rattle.worksheet.specs.declared.field.Field.{Field}
use Rattle.sheet_notebook.specs.Notebook.{cell_of}

-- these values are the cells of a front of the fields, and these fields are to come
abbrev pub Made : List Value → List Field → List Field → Type 0
Made values ahead all = map view values ++ map cell_of ahead ≡ map cell_of all

map_more : (values : List Value) (value : Value) → map view (values ++ value ∷ []) ≡ map view values ++ view value ∷ []
map_more [] value = refl
map_more (v ∷ values) value = ap (λ t. view v ∷ t) (map_more values value)

pub cell_made : (values more : List Value) (value : Value) (field : Field) (fields others all : List Field) → fields ≡ field ∷ others → Made values fields all → view value ≡ cell_of field → more ≡ values ++ value ∷ [] → Made more others all
cell_made values more value field fields others all e w is grown =
    ap (λ t. map view t ++ map cell_of others) grown
    ∙ ap (λ t. t ++ map cell_of others) (map_more values value)
    ∙ append_assoc (map view values) (view value ∷ []) (map cell_of others)
    ∙ ap (λ d. map view values ++ d ∷ map cell_of others) is
    ∙ ap (λ t. map view values ++ map cell_of t) (sym e)
    ∙ w

pub cells_made : (values : List Value) (fields all : List Field) → fields ≡ [] → Made values fields all → items_view values ≡ items_of (map cell_of all)
cells_made values fields all e w = ap items_of (sym (append-nil (map view values)) ∙ ap (λ t. map view values ++ map cell_of t) (sym e) ∙ w)

pub ruleset cell_steps = (cell_made, cells_made)
