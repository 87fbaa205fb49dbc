-- Nothing that is printed has a float.
use Rattle.std.proofs.Common.{◌≡◌, ℕ, Bool, true, false, cond, ◌||◌, List, [], ◌∷◌, map, Option, Some, None, refl, ap, ap₂, sym, subst}
use Rattle.std.specs.Str.{is_utf8}
use Rattle.block_tree.specs.Tree.{Items, Tree, end, text, block}
use Rattle.scheme_text.specs.declared.answer.Completions.{Completions}
use Rattle.plugin_core.specs.declared.item.Item.{Item}
use Rattle.plugin_core.specs.declared.item.Item.TheVariants as item
use Rattle.serde_json.specs.Data as json
use Rattle.serde_json.specs.View.{items_of}
use Rattle.serde_json.specs.Written.{has_float, items_have_float}
use Rattle.sheet_json.specs.Bytes.{base64_data, bytes_data}
use Rattle.sheet_json.specs.Blocks.{block_object, items_data, tree_data}
use Rattle.sheet_json.specs.Lines.{json_line}
use Rattle.sheet_json.specs.Objects.{answer_data, checked_data, completions_data, count, event_data, text_or_null, field_with, life_data, lost_data, prompt_data, reply_data, session_data, shown_data, telling_data, took_data, why_data}
use Rattle.sheet_json.specs.Sheets.{telling_line}
use Rattle.sheet_json.specs.Shown.{still_field, whole_of}
use Rattle.worksheet.specs.Contents.{Contents}
use Rattle.block_tree.specs.declared.reason.Reason.{Reason}
use Rattle.worksheet.specs.declared.field.Answer.{Answer}
use Rattle.worksheet.specs.declared.field.Field.{Field}
use Rattle.sheet_json.specs.Tellings.{CheckReported, EventReported, Reply, SessionShown, State, Telling}
use Rattle.sheet_json.specs.Tellings as reported
use Rattle.sheet_json.specs.declared.checks.Took.{Took}

bytes_none : (b : List ℕ) → has_float (bytes_data b) ≡ false
bytes_none b = elim (is_utf8 b) as (λ t. has_float (cond t (json.string b) (base64_data b)) ≡ false) [ true ↦ refl | false ↦ refl ]

framed_none : (channel : Bool) (name : List ℕ) (inside : json.Items) → items_have_float inside ≡ false → has_float (block_object channel name inside) ≡ false
framed_none channel name inside h = ap₂ (λ a b. a || (b || false)) h (bytes_none name)

items_none : (items : Items) → items_have_float (items_data items) ≡ false
items_none end = refl
items_none (text t rest) = ap₂ (λ a b. a || b) (bytes_none t) (items_none rest)
items_none (block channel name inside rest) = ap₂ (λ a b. a || b) (framed_none channel name (items_data inside) (items_none inside)) (items_none rest)

tree_none : (b : Tree) → has_float (tree_data b) ≡ false
tree_none b = framed_none b.channel b.name (items_data b.items) (items_none b.items)

two : (a b c : Bool) → a ≡ false → b ≡ false → c ≡ false → (a || (b || c)) ≡ false
two a b c p q r = ap₂ (λ x y. x || y) p (ap₂ (λ x y. x || y) q r)

field_none : (id : ℕ) (session input : List ℕ) (state : State) → has_float (field_with id session input state) ≡ false
field_none id session input (reported.answered prompt output) =
    two (has_float (tree_data output)) (has_float (bytes_data prompt)) _ (tree_none output) (bytes_none prompt)
    (two (has_float (bytes_data session)) (has_float (shown_data output)) false (bytes_none session) (bytes_none _) refl)
field_none id session input (reported.lost why) = ap (λ b. b || false) (bytes_none session)
field_none id session input reported.waiting = ap (λ b. b || false) (bytes_none session)
field_none id session input reported.empty = ap (λ b. b || false) (bytes_none session)

row_none : {A : Type 0} (f : A → json.Data) → ((x : A) → has_float (f x) ≡ false) → (xs : List A) → items_have_float (items_of (map f xs)) ≡ false
row_none f h [] = refl
row_none f h (x ∷ xs) = ap₂ (λ a b. a || b) (h x) (row_none f h xs)

life_none : (life : Option ℕ) → has_float (life_data life) ≡ false
life_none None = refl
life_none (Some life) = refl

session_none : (s : SessionShown) → has_float (session_data s) ≡ false
session_none s = two (has_float (life_data s.life)) (has_float (bytes_data s.name)) _ (life_none s.life) (bytes_none s.name) (ap (λ b. b || false) (row_none bytes_data bytes_none s.words))

whole_none : (ids : List ℕ) (sessions : List SessionShown) (next : ℕ) → has_float (telling_data (reported.whole ids next sessions)) ≡ false
whole_none ids sessions next = ap₂ (λ a b. a || (b || false)) (row_none count (λ x. refl) ids) (row_none session_data session_none sessions)

lost_none : (i : Item) → has_float (lost_data i) ≡ false
lost_none (item.Line id line) = ap (λ b. b || false) (bytes_none line)
lost_none (item.Complete id line cursor) = refl

completions_none : (given : Option Completions) → has_float (completions_data given) ≡ false
completions_none None = refl
completions_none (Some c) = ap₂ (λ a b. a || (b || false)) (row_none bytes_data bytes_none c.rest) (bytes_none c.root)

reply_none : (line : ℕ) (r : Reply) → has_float (reply_data line r) ≡ false
reply_none line reported.done = refl
reply_none line (reported.made id) = refl
reply_none line (reported.asked life) = refl
reply_none line (reported.refused why) = refl
reply_none line reported.bad = refl
reply_none line reported.nothing = refl
reply_none line (reported.waited true) = refl
reply_none line (reported.waited false) = refl
reply_none line (reported.interrupted outcome) = refl
reply_none line (reported.undone first) = refl

prompt_none : (next : Option (List ℕ)) → has_float (prompt_data next) ≡ false
prompt_none None = refl
prompt_none (Some prompt) = bytes_none prompt

event_none : (session : List ℕ) (life : ℕ) (e : EventReported) → has_float (event_data session life e) ≡ false
event_none session life (reported.banner output next) =
    two (has_float (prompt_data next)) (has_float (tree_data output)) _ (prompt_none next) (tree_none output)
    (two (has_float (bytes_data session)) (has_float (shown_data output)) false (bytes_none session) (bytes_none _) refl)
event_none session life (reported.answer id prompt output next) =
    two (has_float (prompt_data next)) (has_float (tree_data output)) _ (prompt_none next) (tree_none output)
    (two (has_float (bytes_data prompt)) (has_float (bytes_data session)) _ (bytes_none prompt) (bytes_none session) (ap (λ b. b || false) (bytes_none _)))
event_none session life (reported.completed id given) = ap₂ (λ a b. a || (b || false)) (bytes_none session) (completions_none given)
event_none session life (reported.input line) = ap₂ (λ a b. a || (b || false)) (bytes_none session) (bytes_none line)
event_none session life (reported.ended why lost) = ap₂ (λ a b. a || (b || false)) (row_none lost_data lost_none lost) (bytes_none session)
event_none session life (reported.warned outcome) = ap (λ b. b || false) (bytes_none session)
event_none session life (reported.partial bytes) = ap₂ (λ a b. a || (b || false)) (bytes_none bytes) (bytes_none session)

answer_none : (answer : Option Answer) → has_float (answer_data answer) ≡ false
answer_none None = refl
answer_none (Some a) = two (has_float (tree_data a.output)) (has_float (bytes_data a.prompt)) _ (tree_none a.output) (bytes_none a.prompt) (ap (λ b. b || false) (bytes_none _))

why_none : (why : Option Reason) → has_float (why_data why) ≡ false
why_none None = refl
why_none (Some why) = refl

took_none : (took : Option Took) → has_float (took_data took) ≡ false
took_none None = refl
took_none (Some took) = refl

checked_none : (id : ℕ) (session : List ℕ) (took : Option Took) (c : CheckReported) → has_float (checked_data id session took c) ≡ false
checked_none id session took reported.same = ap₂ (λ a b. a || (b || false)) (bytes_none session) (took_none took)
checked_none id session took reported.left_out = ap₂ (λ a b. a || (b || false)) (bytes_none session) (took_none took)
checked_none id session took (reported.differs input shows came) =
    two (has_float (answer_data came)) (has_float (bytes_data session)) _ (answer_none came) (bytes_none session) (ap₂ (λ a b. a || (b || false)) (answer_none shows) (took_none took))
checked_none id session took (reported.unanswered input shows why) =
    two (has_float (why_data why)) (has_float (bytes_data session)) _ (why_none why) (bytes_none session) (ap₂ (λ a b. a || (b || false)) (answer_none shows) (took_none took))
checked_none id session took (reported.new input came) =
    two (has_float (answer_data came)) (has_float (bytes_data session)) _ (answer_none came) (bytes_none session) (ap (λ b. b || false) (took_none took))

export_none : (given : Option (List ℕ)) → (has_float (text_or_null given) || false) ≡ false
export_none None = refl
export_none (Some bytes) = ap (λ b. b || false) (bytes_none bytes)

pub none_reported : (t : Telling) → has_float (telling_data t) ≡ false
none_reported reported.hello = refl
none_reported (reported.reply line r) = reply_none line r
none_reported (reported.stopped line session life lost) = ap₂ (λ a b. a || (b || false)) (row_none lost_data lost_none lost) (bytes_none session)
none_reported (reported.event session life e) = event_none session life e
none_reported (reported.field line f) = ap (λ b. b || false) (field_none f.id f.session f.input f.state)
none_reported (reported.part line f) = ap (λ b. b || false) (field_none f.id f.session f.input f.state)
none_reported (reported.shown f) = ap (λ b. b || false) (field_none f.id f.session f.input f.state)
none_reported (reported.sheet line ids next sessions) = whole_none ids sessions next
none_reported (reported.exported line format given) = export_none given
none_reported (reported.whole ids next sessions) = whole_none ids sessions next
none_reported (reported.fault n name None) = refl
none_reported (reported.fault n name (Some offset)) = refl
none_reported (reported.over id outcome) = refl
none_reported (reported.counted answered unanswered errors) = refl
none_reported (reported.counted_in_time answered unanswered errors over passed) = refl
none_reported (reported.checked id session took c) = checked_none id session took c
none_reported (reported.compared same differ unanswered left_out errors new) = refl
none_reported (reported.no_field id) = refl
none_reported (reported.no_program session) = ap (λ b. b || false) (bytes_none session)
none_reported reported.end = refl

-- a value that is printed has none
pub reported_has_none : (t : Telling) (d : json.Data) → d ≡ telling_data t → has_float d ≡ false
reported_has_none t d e = subst (λ (x : json.Data). has_float x ≡ false) (sym e) (none_reported t)

pub field_has_none : (field : Field) (d : json.Data) → d ≡ telling_data (still_field field) → has_float d ≡ false
field_has_none field = reported_has_none (still_field field)

pub whole_has_none : (sheet : Contents) (d : json.Data) → d ≡ telling_data (whole_of sheet) → has_float d ≡ false
whole_has_none sheet = reported_has_none (whole_of sheet)

pub reported_line : (t : Telling) (d : json.Data) (bytes : List ℕ) → d ≡ telling_data t → bytes ≡ json_line d → bytes ≡ telling_line t
reported_line t d bytes e is = subst (λ (x : json.Data). bytes ≡ json_line x) e is
