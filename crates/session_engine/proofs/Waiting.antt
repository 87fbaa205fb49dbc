-- Where the line of a field waits.
use Rattle.std.proofs.Common.{◌≡◌, ℕ, List, [], ◌∷◌, refl, ap, sym, ◌∙◌, subst, arith, Bool, true, false, Option, Some, None}
use Rattle.std.specs.Prelude.{if◌then◌else◌, ◌==◌, ◌||◌, option_map}
use Rattle.std.specs.List.{AllByRecursion, list_any}
use Rattle.std.specs.Str.{bytes_eq}
use Rattle.std.proofs.lemmas.Slice.Eq.{bytes_eq-Decides}
use Rattle.std.proofs.lemmas.Bool.Decides.{nat_tests}
use Rattle.worksheet.specs.declared.field.Field.{Field}
use Rattle.worksheet.specs.Contents.{Contents}
use Rattle.worksheet.specs.Checks.{field_in}
use Rattle.recovery.specs.Sheets.{StoreView}
use Rattle.plugin_core.specs.declared.item.Item.{Item}
use Rattle.plugin_core.specs.declared.item.Item.TheVariants as item
use Rattle.plugin_core.specs.Items.{is_line_of}
use Rattle.session_engine.specs.declared.table.Running.{Running}
use Rattle.session_engine.specs.Named.{NamesDiffer, first_named}
use Rattle.session_engine.specs.World.{World, Going, in_flight, life_of, sheet_in, waiting_in}
use Rattle.session_engine.specs.Host.{EngineStandsFor, HasField, HaveFields, owner_in}
use Rattle.session_engine.specs.inside.Tables.{waits_at}
use Rattle.session_engine.specs.inside.Words.{waits_in}

-- no line of a field waits in a life of another session
no_line : (sheet : Contents) (id : ℕ) (name : List ℕ) (items : List Item) → (owner_in sheet id ≡ Some name → ⊥) → AllByRecursion (HasField sheet name) items → list_any (λ i. is_line_of id i) items ≡ false
no_line sheet id name [] other all = refl
no_line sheet id name (item.Line n text ∷ items) other all = go (n == id) refl (no_line sheet id name items other all.1)
  where
    go : (b : Bool) → (n == id) ≡ b → list_any (λ i. is_line_of id i) items ≡ false → (b || list_any (λ i. is_line_of id i) items) ≡ false
    go true e rest = let same : n ≡ id = grind (arith, nat_tests, e) in absurd (other (subst (λ (k : ℕ). owner_in sheet k ≡ Some name) same all.0))
    go false e rest = rest
no_line sheet id name (item.Complete n text cursor ∷ items) other all = no_line sheet id name items other all.1

-- nor anywhere that of no field
none_waits : (sheet : Contents) (id : ℕ) (ls : List Going) → owner_in sheet id ≡ None → AllByRecursion (HaveFields sheet) ls → waits_in ls id ≡ false
none_waits sheet id [] none all = refl
none_waits sheet id (l ∷ ls) none all =
    let no = no_line sheet id l.name (waiting_in l) (λ is. let wrong : None ≡ Some l.name = sym none ∙ is in cc) all.0 in
    ap (λ (b : Bool). b || waits_in ls id) no ∙ none_waits sheet id ls none all.1

or_false : (b : Bool) → (b || false) ≡ b
or_false true = refl
or_false false = refl

waits_by : (sheet : Contents) (id : ℕ) (name : List ℕ) (ls : List Going) → owner_in sheet id ≡ Some name → AllByRecursion (HaveFields sheet) ls → NamesDiffer (λ (l : Going). l.name) ls
    → waits_in ls id ≡ waits_at id (first_named (λ (l : Going). l.name) name ls)
waits_by sheet id name [] own all apart = refl
waits_by sheet id name (l ∷ ls) own all apart = go (bytes_eq l.name name) refl (waits_by sheet id name ls own all.1 apart.1)
  where
    here : Bool
    here = list_any (λ i. is_line_of id i) (waiting_in l)

    go : (b : Bool) → bytes_eq l.name name ≡ b → waits_in ls id ≡ waits_at id (first_named (λ (l : Going). l.name) name ls)
        → (here || waits_in ls id) ≡ waits_at id (if b then Some l else first_named (λ (l : Going). l.name) name ls)
    go true e rest =
        let same : l.name ≡ name = (bytes_eq-Decides l.name name).0 e in
        let gone : first_named (λ (l : Going). l.name) name ls ≡ None = subst (λ (n : List ℕ). first_named (λ (l : Going). l.name) n ls ≡ None) same apart.0 in
        let no : waits_in ls id ≡ false = rest ∙ ap (waits_at id) gone in
        ap (λ (b : Bool). here || b) no ∙ or_false here
    go false e rest =
        let other : Some l.name ≡ Some name → bytes_eq l.name name ≡ true = λ is. (bytes_eq-Decides l.name name).1 (let same : l.name ≡ name = cc in same) in
        let no : here ≡ false = no_line sheet id l.name (waiting_in l) (λ is. let yes = other (sym is ∙ own) in let wrong : true ≡ false = sym yes ∙ e in cc) all.0 in
        ap (λ (b : Bool). b || waits_in ls id) no ∙ rest

module _ (store : StoreView) (rs : List Running) (begun : ℕ) (w : World) (id : ℕ) (h : EngineStandsFor store rs begun w) where
  -- a field is in flight where its line waits in the life of its session
  pub in_flight_by : (f : Field) → field_in (sheet_in w).fields id ≡ Some f → in_flight w id ≡ waits_at id (life_of w f.session)
  in_flight_by f e = waits_by (sheet_in w) id f.session w.lives (ap (λ (o : Option Field). option_map (λ g. g.session) o) e) h.fields h.apart

  pub none_in_flight : field_in (sheet_in w).fields id ≡ None → in_flight w id ≡ false
  none_in_flight e = none_waits (sheet_in w) id w.lives (ap (λ (o : Option Field). option_map (λ g. g.session) o) e) h.fields
