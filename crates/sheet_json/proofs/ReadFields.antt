-- Fields and sessions read back.
use Rattle.std.proofs.Common.{◌≡◌, ℕ, Bool, List, Option, Some, None, option_map, refl, ap, ◌∙◌}
use Rattle.base64.specs.GeneralPurpose.{IsBytes}
use Rattle.sheet_json.specs.Bytes.{bytes_data}
use Rattle.sheet_json.specs.Blocks.{tree_data}
use Rattle.sheet_json.specs.Objects.{field_with, life_data, texts_data}
use Rattle.sheet_json.specs.Reading.{bytes_in, tree_in}
use Rattle.sheet_json.specs.Tellings.{FieldShown, SessionShown, State}
use Rattle.sheet_json.specs.Tellings as reported
use Rattle.sheet_json.specs.Reported.{count_in, field_read, list_in, of, option_in, StateHasBytes}
use Rattle.sheet_json.specs.Laws.{FieldsReadBack, SessionsReadBack}
use Rattle.sheet_json.proofs.Back.{bytes_back, blocks_read_back}
use Rattle.sheet_json.proofs.Tellings.{reason_back, texts_back}

abbrev whole_field : ℕ → List ℕ → List ℕ → State → FieldShown
whole_field id session input state = record { id = id; session = session; input = input; state = state }

of_field : (id : ℕ) (session input : List ℕ) (state : State) (r : Option State) → IsBytes session → r ≡ Some state
    → of (of (of (Some (λ s i t. whole_field id s i t)) (bytes_in (bytes_data session))) (Some input)) r ≡ Some (whole_field id session input state)
of_field id session input state r are is =
    ap (λ s. of (of (of (Some (λ t i u. whole_field id t i u)) s) (Some input)) r) (bytes_back session are) ∙ ap (of (Some (λ t. whole_field id session input t))) is

field_back : (id : ℕ) (session input : List ℕ) (state : State) → IsBytes session → StateHasBytes state → field_read (field_with id session input state) ≡ Some (whole_field id session input state)
field_back id session input (reported.answered prompt output) are good =
    of_field id session input (reported.answered prompt output) _ are
    (ap (λ r. of (option_map (λ p o. reported.answered p o) r) (tree_in (tree_data output))) (bytes_back prompt good.0) ∙ ap (of (Some (λ o. reported.answered prompt o))) (blocks_read_back output good.1))
field_back id session input (reported.lost why) are good = of_field id session input (reported.lost why) _ are (ap (option_map (λ w. reported.lost w)) (reason_back why))
field_back id session input reported.waiting are good = of_field id session input reported.waiting (Some reported.waiting) are refl
field_back id session input reported.empty are good = of_field id session input reported.empty (Some reported.empty) are refl

pub fields_read_back : FieldsReadBack
fields_read_back f are good = field_back f.id f.session f.input f.state are good

life_back : (life : Option ℕ) → option_in count_in (life_data life) ≡ Some life
life_back None = refl
life_back (Some life) = refl

abbrev whole_session : List ℕ → Bool → List (List ℕ) → Option ℕ → ℕ → SessionShown
whole_session name tab words life waiting = record { name = name; tab = tab; words = words; life = life; waiting = waiting }

pub sessions_read_back : SessionsReadBack
sessions_read_back s are good =
    ap (λ r. of (of (of (of (option_map (λ name tab words life waiting. whole_session name tab words life waiting) r) (Some s.tab)) (list_in bytes_in (texts_data s.words))) (option_in count_in (life_data s.life))) (Some s.waiting)) (bytes_back s.name are)
    ∙ ap (λ r. of (of (of (Some (λ words life waiting. whole_session s.name s.tab words life waiting)) r) (option_in count_in (life_data s.life))) (Some s.waiting)) (texts_back s.words good)
    ∙ ap (λ r. of (of (Some (λ life waiting. whole_session s.name s.tab s.words life waiting)) r) (Some s.waiting)) (life_back s.life)
