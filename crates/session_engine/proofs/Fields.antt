-- Fields that are there after one op more.
use Rattle.std.proofs.Common.{◌≡◌, ◌≤◌, ◌<◌, ◌+◌, ℕ, zero, suc, List, [], ◌∷◌, ◌++◌, length, length-append, drop, refl, ap, sym, ◌∙◌, subst, arith, Bool, true, false, Option, Some, None}
use Rattle.std.specs.Prelude.{if◌then◌else◌, ◌==◌, is_some, nat_lt, slice_get, option_to_list, option_map, option_and_then}
use Rattle.std.specs.List.{AllByRecursion}
use Rattle.std.proofs.lemmas.Bool.Decides.{nat_tests}
use Rattle.std.proofs.lemmas.List.{append-nil, drop-drop}
use Rattle.block_tree.specs.declared.reason.Reason.{Reason}
use Rattle.worksheet.specs.declared.op.Op.{Op}
use Rattle.worksheet.specs.declared.op.Op.TheVariants as op
use Rattle.worksheet.specs.declared.field.Field.{Field}
use Rattle.worksheet.specs.Contents.{Contents}
use Rattle.worksheet.specs.Ops.{sheet_of, exists, next_of, is_about, last_of, makes_or_ends, is_making, field_of}
use Rattle.worksheet.specs.inside.Words.{about}
use Rattle.worksheet.specs.Checks.{Allowed, field_in, has_field, first_refusal, numbers}
use Rattle.worksheet.specs.Edits.{AllBelow}
use Rattle.worksheet.proofs.OneMore.{about_from-push, changed, field_of-push, last_of-push}
use Rattle.worksheet.proofs.Existence.{has_what_exists, allowed_goes_on}
use Rattle.worksheet.proofs.NextLaws.{sound_of}
use Rattle.meta_format.specs.Stream.{Outer}
use Rattle.plugin_core.specs.Limits.{longest_prompt}
use Rattle.plugin_core.specs.Laws.{ShortPrompts}
use Rattle.plugin_core.specs.Past.{Event, items_of, received}
use Rattle.plugin_core.specs.Answers.{answers_of}
use Rattle.block_tree.specs.Tree.{Tree}
use Rattle.block_tree.specs.Output.{output}
use Rattle.plugin_core.specs.declared.step.Step.{Step}
use Rattle.plugin_core.specs.Kept.{InterpreterView, Takes}
use Rattle.plugin_core.specs.Items.{unanswered, waiting_of, prompt_of, answer_following, answer_to}
use Rattle.plugin_core.specs.inside.Words.{answered_with}
use Rattle.plugin_core.specs.Steps.{closed_by as closed_in}
use Rattle.plugin_core.proofs.Pasts.{items_of-received}
use Rattle.plugin_core.specs.declared.item.Item.{Item}
use Rattle.plugin_core.specs.declared.item.Item.TheVariants as item
use Rattle.session_engine.specs.World.{Going, waiting_in}
use Rattle.session_engine.specs.Host.{HasField, HaveFields, owner_in}
use Rattle.session_engine.specs.inside.Commits.{AllowedIf, IsOfField, answer_op, Spares, SparesItem, SparesLife}

exists_more : (id next : ℕ) (os : List Op) (o : Op) → Spares id o → is_about id next o ≡ true → is_making (last_of makes_or_ends os) ≡ true → is_making (last_of makes_or_ends (os ++ o ∷ [])) ≡ true
exists_more id next os (op.Session name tab words) s a h = rw (last_of-push makes_or_ends os (op.Session name tab words)) h
exists_more id next os (op.New after session input) s a h = rw (last_of-push makes_or_ends os (op.New after session input)) refl
exists_more id next os (op.Set other input) s a h = rw (last_of-push makes_or_ends os (op.Set other input)) h
exists_more id next os (op.Remove other) s a h = absurd (let no : true ≡ false = sym a ∙ s in cc)
exists_more id next os (op.Move other after) s a h = rw (last_of-push makes_or_ends os (op.Move other after)) h
exists_more id next os (op.Clear other) s a h = rw (last_of-push makes_or_ends os (op.Clear other)) h
exists_more id next os (op.Answer other prompt output) s a h = rw (last_of-push makes_or_ends os (op.Answer other prompt output)) h
exists_more id next os (op.Lost other why) s a h = rw (last_of-push makes_or_ends os (op.Lost other why)) h
exists_more id next os (op.Ids number) s a h = rw (last_of-push makes_or_ends os (op.Ids number)) h

exists_still : (os : List Op) (o : Op) (id : ℕ) → Spares id o → exists os id ≡ true → exists (os ++ o ∷ []) id ≡ true
exists_still os o id s h = subst (λ (l : List Op). is_making (last_of makes_or_ends l) ≡ true) (sym (about_from-push id 1 os o)) (go (is_about id (next_of os) o) refl)
  where
    go : (b : Bool) → is_about id (next_of os) o ≡ b → is_making (last_of makes_or_ends (about id os ++ (if b then o ∷ [] else []))) ≡ true
    go true e = exists_more id (next_of os) (about id os) o s e h
    go false e = rw (append-nil (about id os)) h

has_by : (os : List Op) (id : ℕ) → Allowed os → has_field (sheet_of os) id ≡ exists os id
has_by os id allowed = ap (λ (o : Option Field). is_some o) (has_what_exists os allowed id) ∙ go (exists os id)
  where
    go : (b : Bool) → is_some (if b then Some (field_of os id) else None) ≡ b
    go true = refl
    go false = refl

pub has_still : (os : List Op) (o : Op) (id : ℕ) → Allowed os → first_refusal (sheet_of os) o ≡ None → Spares id o → has_field (sheet_of os) id ≡ true → has_field (sheet_of (os ++ o ∷ [])) id ≡ true
has_still os o id allowed next s h = has_by (os ++ o ∷ []) id (allowed_goes_on os o allowed next) ∙ exists_still os o id s (sym (has_by os id allowed) ∙ h)

-- the session of a field, by the ops
owner_by : (os : List Op) (id : ℕ) → Allowed os → owner_in (sheet_of os) id ≡ (if exists os id then Some (field_of os id).session else None)
owner_by os id allowed = ap (λ (o : Option Field). option_map (λ f. f.session) o) (has_what_exists os allowed id) ∙ go (exists os id)
  where
    go : (b : Bool) → option_map (λ f. f.session) (if b then Some (field_of os id) else None) ≡ (if b then Some (field_of os id).session else None)
    go true = refl
    go false = refl

has_owner : (b : Bool) (session name : List ℕ) → (if b then Some session else None) ≡ Some name → (b ≡ true) × (session ≡ name)
has_owner true session name h = (refl, cc)
has_owner false session name h = cc

number_below : (bound id : ℕ) (fs : List Field) → AllBelow bound (numbers fs) → (name : List ℕ) → option_map (λ f. f.session) (field_in fs id) ≡ Some name → id < bound
number_below bound id [] below name h = cc
number_below bound id (f ∷ fs) below name h = go (f.id == id) refl h (number_below bound id fs below.1 name)
  where
    go : (b : Bool) → (f.id == id) ≡ b → option_map (λ f. f.session) (if b then Some f else field_in fs id) ≡ Some name → (option_map (λ f. f.session) (field_in fs id) ≡ Some name → id < bound) → id < bound
    go true e h rest = let same : f.id ≡ id = grind (arith, nat_tests, e) in subst (λ (n : ℕ). n < bound) same below.0
    go false e h rest = rest h

session_still : (os : List Op) (o : Op) (id : ℕ) → id < next_of os → (field_of (os ++ o ∷ []) id).session ≡ (field_of os id).session
session_still os o id h = ap (λ (f : Field). f.session) (field_of-push os o id) ∙ go o (is_about id (next_of os) o) refl
  where
    go : (p : Op) (b : Bool) → is_about id (next_of os) p ≡ b → (if b then changed p (field_of os id) else field_of os id).session ≡ (field_of os id).session
    go p false e = refl
    go (op.Session name tab words) true e = refl
    go (op.New after session input) true e = absurd (let same : next_of os ≡ id = grind (arith, nat_tests, e) in omega (arith, h, same))
    go (op.Set other input) true e = refl
    go (op.Remove other) true e = refl
    go (op.Move other after) true e = refl
    go (op.Clear other) true e = refl
    go (op.Answer other prompt output) true e = refl
    go (op.Lost other why) true e = refl
    go (op.Ids number) true e = refl

owner_still : (os : List Op) (o : Op) (id : ℕ) (name : List ℕ) → Allowed os → first_refusal (sheet_of os) o ≡ None → Spares id o → owner_in (sheet_of os) id ≡ Some name → owner_in (sheet_of (os ++ o ∷ [])) id ≡ Some name
owner_still os o id name allowed next s h =
    let was = has_owner (exists os id) (field_of os id).session name (sym (owner_by os id allowed) ∙ h) in
    let below = number_below (next_of os) id (sheet_of os).fields (sound_of os allowed).below name h in
    owner_by (os ++ o ∷ []) id (allowed_goes_on os o allowed next)
    ∙ ap (λ (b : Bool). if b then Some (field_of (os ++ o ∷ []) id).session else None) (exists_still os o id s was.0)
    ∙ ap (λ (n : List ℕ). Some n) (session_still os o id below ∙ was.1)

items_still : (os : List Op) (o : Op) (name : List ℕ) (items : List Item) → Allowed os → first_refusal (sheet_of os) o ≡ None → AllByRecursion (SparesItem o) items → AllByRecursion (HasField (sheet_of os) name) items
    → AllByRecursion (HasField (sheet_of (os ++ o ∷ [])) name) items
items_still os o name [] allowed next s all = tt
items_still os o name (item.Line id text ∷ items) allowed next s all = (owner_still os o id name allowed next s.0 all.0, items_still os o name items allowed next s.1 all.1)
items_still os o name (item.Complete id text cursor ∷ items) allowed next s all = (tt, items_still os o name items allowed next s.1 all.1)

pub fields_still : (os : List Op) (o : Op) (ls : List Going) → Allowed os → first_refusal (sheet_of os) o ≡ None → AllByRecursion (SparesLife o) ls → AllByRecursion (HaveFields (sheet_of os)) ls
    → AllByRecursion (HaveFields (sheet_of (os ++ o ∷ []))) ls
fields_still os o [] allowed next s all = tt
fields_still os o (l ∷ ls) allowed next s all = (items_still os o l.name (waiting_in l) allowed next s.0 all.0, fields_still os o ls allowed next s.1 all.1)

-- an answer takes no field away
spared_items : (id : ℕ) (prompt : List ℕ) (out : Tree) (items : List Item) → AllByRecursion (SparesItem (op.Answer id prompt out)) items
spared_items id prompt out [] = tt
spared_items id prompt out (item.Line other text ∷ items) = (tt, spared_items id prompt out items)
spared_items id prompt out (item.Complete other text cursor ∷ items) = (tt, spared_items id prompt out items)

pub spared : (id : ℕ) (prompt : List ℕ) (out : Tree) (ls : List Going) → AllByRecursion (SparesLife (op.Answer id prompt out)) ls
spared id prompt out [] = tt
spared id prompt out (l ∷ ls) = (spared_items id prompt out (waiting_in l), spared id prompt out ls)

-- nor does a reason
lost_items : (id : ℕ) (why : Reason) (items : List Item) → AllByRecursion (SparesItem (op.Lost id why)) items
lost_items id why [] = tt
lost_items id why (item.Line other text ∷ items) = (tt, lost_items id why items)
lost_items id why (item.Complete other text cursor ∷ items) = (tt, lost_items id why items)

pub spared_lost : (id : ℕ) (why : Reason) (ls : List Going) → AllByRecursion (SparesLife (op.Lost id why)) ls
spared_lost id why [] = tt
spared_lost id why (l ∷ ls) = (lost_items id why (waiting_in l), spared_lost id why ls)

all_drop : {A : Type 0} (P : A → Type 0) (n : ℕ) (xs : List A) → AllByRecursion P xs → AllByRecursion P (drop n xs)
all_drop P zero xs all = all
all_drop P (suc n) [] all = tt
all_drop P (suc n) (x ∷ xs) all = all_drop P n xs all.1

-- an answer more: of the items that wait some wait no longer
fewer : (P : Item → Type 0) (before : List Outer) (b : Option Outer) (items : List Item) → AllByRecursion P (unanswered before items) → AllByRecursion P (unanswered (before ++ option_to_list b) items)
fewer P [] None items all = all
fewer P [] (Some b) items all = all
fewer P (a ∷ before) None items all = subst (λ (bs : List Outer). AllByRecursion P (drop (length bs) items)) (sym (append-nil before)) all
fewer P (a ∷ before) (Some b) items all =
    let n : length (before ++ b ∷ []) ≡ length before + 1 = length-append before (b ∷ []) in
    let e : drop (length (before ++ b ∷ [])) items ≡ drop 1 (drop (length before) items) = ap (λ (k : ℕ). drop k items) n ∙ sym (drop-drop 1 (length before) items) in
    subst (λ (l : List Item). AllByRecursion P l) (sym e) (all_drop P 1 (drop (length before) items) all)

pub waiting_still : (P : Item → Type 0) (past : List Event) (before after : List Outer) (piece : List ℕ) (b : Option Outer)
    → answers_of (past ++ received piece ∷ []) after ≡ answers_of past before ++ option_to_list b
    → AllByRecursion P (waiting_of past before) → AllByRecursion P (waiting_of (past ++ received piece ∷ []) after)
waiting_still P past before after piece b answers all =
    subst (λ (bs : List Outer). AllByRecursion P (unanswered bs (items_of (past ++ received piece ∷ [])))) (sym answers)
    (subst (λ (is : List Item). AllByRecursion P (unanswered (answers_of past before ++ option_to_list b) is)) (sym (items_of-received past piece))
    (fewer P (answers_of past before) b (items_of past) all))

first_dropped : (P : Item → Type 0) (n : ℕ) (items : List Item) (i : Item) → slice_get items n ≡ Some i → AllByRecursion P (drop n items) → P i
first_dropped P n [] i h all = cc
first_dropped P zero (x ∷ items) i h all = let e : x ≡ i = cc in subst P e all.0
first_dropped P (suc n) (x ∷ items) i h all = first_dropped P n items i h all

-- a line of a session's field is that of a field that there is
has_of : (sheet : Contents) (id : ℕ) (name : List ℕ) → owner_in sheet id ≡ Some name → has_field sheet id ≡ true
has_of sheet id name h = go (field_in sheet.fields id) h
  where
    go : (o : Option Field) → option_map (λ f. f.session) o ≡ Some name → is_some o ≡ true
    go None h = cc
    go (Some f) h = refl

pub of_fields : (sheet : Contents) (name : List ℕ) (items : List Item) → AllByRecursion (HasField sheet name) items → AllByRecursion (IsOfField sheet) items
of_fields sheet name [] all = tt
of_fields sheet name (item.Line id text ∷ items) all = (has_of sheet id name all.0, of_fields sheet name items all.1)
of_fields sheet name (item.Complete id text cursor ∷ items) all = (tt, of_fields sheet name items all.1)

-- what answers the first waiting item is allowed
pub allowed_answer : ShortPrompts → (sheet : Contents) (past : List Event) (before : List Outer) (b : Outer) → AllByRecursion (IsOfField sheet) (waiting_of past before) → AllowedIf sheet (answer_op (answered_with past before b))
allowed_answer short sheet past before b all = go (answers_of past before) (items_of past) (prompt_of past before) (short past before) all
  where
    line : (o : Option Item) (prompt : List ℕ) → length prompt ≤ longest_prompt → ((i : Item) → o ≡ Some i → IsOfField sheet i) → AllowedIf sheet (answer_op (option_map (λ i. answer_to i prompt (output b.block)) o))
    line None prompt le has = tt
    line (Some (item.Line id text)) prompt le has =
        let f : has_field sheet id ≡ true = has (item.Line id text) refl in
        let k : nat_lt longest_prompt (length prompt) ≡ false = grind (arith, nat_tests, le) in
        rw (f, k) refl
    line (Some (item.Complete id text cursor)) prompt le has = tt

    go : (answers : List Outer) (items : List Item) (prompt : List ℕ) → length prompt ≤ longest_prompt → AllByRecursion (IsOfField sheet) (unanswered answers items) → AllowedIf sheet (answer_op (answer_following answers items prompt b.block))
    go [] items prompt le all = tt
    go (a ∷ answers) items prompt le all = line (slice_get items (length answers)) prompt le (λ i e. first_dropped (IsOfField sheet) (length answers) items i e all)

-- so is what a step answers
pub allowed_step : ShortPrompts → (sheet : Contents) (l : Going) (piece : List ℕ) (step : Step) (life : InterpreterView) → HaveFields sheet l → Takes l.past l.blocks piece step life → AllowedIf sheet (answer_op step.answered)
allowed_step short sheet l piece step life fields takes =
    subst (λ (s : Step). AllowedIf sheet (answer_op s.answered)) (sym takes.gives) (go (closed_in l.past l.blocks (received piece) takes.after))
  where
    go : (o : Option Outer) → AllowedIf sheet (answer_op (option_and_then (answered_with l.past l.blocks) o))
    go None = tt
    go (Some b) = allowed_answer short sheet l.past l.blocks b (of_fields sheet l.name (waiting_in l) fields)
