-- What is printed is plain.
use Rattle.std.proofs.Common.{◌≡◌, ℕ, suc, max, ◌+◌, ◌*◌, ◌≤◌, ◌||◌, ◌&&◌, Bool, true, false, cond, List, [], ◌∷◌, map, Option, Some, None, arith, refl, ap₂, nat_le}
use Rattle.std.specs.List.{AllByRecursion}
use Rattle.std.specs.Str.{is_utf8}
use Rattle.std.proofs.lemmas.Bool.Decides.{nat_tests}
use Rattle.block_tree.specs.Shape.{is_block, is_proper, is_tag_name, levels, longest_tag}
use Rattle.block_tree.specs.Tree.{Tree, end, text, block}
use Rattle.block_tree.specs.Tree as tree
use Rattle.block_tree.specs.declared.reason.Reason.{Reason}
use Rattle.worksheet.specs.declared.field.Answer.{Answer}
use Rattle.worksheet.specs.Refusals.{refusal_number}
use Rattle.worksheet.specs.declared.refusal.Refusal.{Refusal}
use Rattle.worksheet.specs.declared.refusal.Refusal.TheVariants as refusal
use Rattle.scheme_text.specs.declared.answer.Completions.{Completions}
use Rattle.plugin_core.specs.declared.item.Item.{Item}
use Rattle.plugin_core.specs.declared.item.Item.TheVariants as item
use Rattle.serde_json.specs.Data.{Data, Items, Members, null, boolean, string, array, object, no_items, no_members, member}
use Rattle.serde_json.specs.Data as json
use Rattle.serde_json.specs.View.{items_of}
use Rattle.sheet_json.specs.Bytes.{base64_data, bytes_data}
use Rattle.sheet_json.specs.Blocks.{block_object, items_data, tree_data}
use Rattle.sheet_json.specs.Objects.{answer_data, checked_data, completions_data, count, event_data, text_or_null, field_with, ids_data, life_data, lost_data, losts_data, prompt_data, reply_data, session_data, sessions_data, telling_data, texts_data, took_data, typed, why_data}
use Rattle.sheet_json.specs.Plain.{ArePlain, HasPlain, Is64, IsPlain, IsSoundAnswer, IsSoundCheck, IsSoundTelling, IsSoundEvent, IsSoundItem, IsSoundLife, IsSoundReply, IsSoundSession, IsSoundState, IsSoundTook}
use Rattle.sheet_json.specs.Tellings.{CheckReported, Telling, Reply, EventReported, SessionShown, State}
use Rattle.sheet_json.specs.Tellings as reported
use Rattle.sheet_json.specs.declared.checks.Took.{Took}

a_text : {n : ℕ} {s : List ℕ} → IsPlain n (string s)
a_text = record { floats = refl; nests = omega arith; counts = tt }

a_flag : {n : ℕ} {b : Bool} → IsPlain n (boolean b)
a_flag = record { floats = refl; nests = omega arith; counts = tt }

no_value : {n : ℕ} → IsPlain n null
no_value = record { floats = refl; nests = omega arith; counts = tt }

a_count : {n x : ℕ} → Is64 x → IsPlain n (count x)
a_count h = record { floats = refl; nests = omega arith; counts = h }

no_more : {n : ℕ} → HasPlain n no_members
no_more = record { floats = refl; nest = omega arith; counts = tt }

max_within : (a b n : ℕ) → a ≤ n → b ≤ n → max a b ≤ n
max_within a b n p q = omega (arith, p, q)

a_member : {n : ℕ} {k : List ℕ} {d : Data} {ms : Members} → IsPlain n d → HasPlain n ms → HasPlain n (member k d ms)
a_member p q = record { floats = ap₂ (λ a b. a || b) p.floats q.floats; nest = max_within _ _ _ p.nests q.nest; counts = (p.counts, q.counts) }

an_object : {n : ℕ} {ms : Members} → HasPlain n ms → IsPlain (suc n) (object ms)
an_object p = record { floats = p.floats; nests = omega (arith, p.nest); counts = p.counts }

nothing_in : {n : ℕ} → ArePlain n no_items
nothing_in = record { floats = refl; nest = omega arith; counts = tt }

an_item : {n : ℕ} {d : Data} {ds : Items} → IsPlain n d → ArePlain n ds → ArePlain n (json.item d ds)
an_item p q = record { floats = ap₂ (λ a b. a || b) p.floats q.floats; nest = max_within _ _ _ p.nests q.nest; counts = (p.counts, q.counts) }

an_array : {n : ℕ} {ds : Items} → ArePlain n ds → IsPlain (suc n) (array ds)
an_array p = record { floats = p.floats; nests = omega (arith, p.nest); counts = p.counts }

-- within more
deeper : {n m : ℕ} {d : Data} → n ≤ m → IsPlain n d → IsPlain m d
deeper h p = record { floats = p.floats; nests = omega (arith, h, p.nests); counts = p.counts }

items_deeper : {n m : ℕ} {ds : Items} → n ≤ m → ArePlain n ds → ArePlain m ds
items_deeper h p = record { floats = p.floats; nest = omega (arith, h, p.nest); counts = p.counts }

some_bytes : {n : ℕ} (bytes : List ℕ) → IsPlain (suc n) (bytes_data bytes)
some_bytes {n} bytes = elim (is_utf8 bytes) as (λ b. IsPlain (suc n) (cond b (string bytes) (base64_data bytes))) [ true ↦ a_text | false ↦ an_object (a_member a_text no_more) ]

a_block : {n : ℕ} (channel : Bool) (name : List ℕ) (inside : Items) → ArePlain (suc n) inside → IsPlain (suc (suc (suc n))) (block_object channel name inside)
a_block channel name inside p = an_object (a_member (an_array p) (a_member a_text (a_member (some_bytes name) no_more)))

all_items : (items : tree.Items) → ArePlain (1 + 2 * levels items) (items_data items)
all_items end = nothing_in
all_items (text t rest) = an_item (deeper (omega arith) (some_bytes {n = 0} t)) (all_items rest)
all_items (block channel name inside rest) =
    an_item (deeper {n = suc (suc (suc (2 * levels inside)))} (omega arith) (a_block channel name (items_data inside) (items_deeper (omega arith) (all_items inside)))) (items_deeper (omega arith) (all_items rest))

three : (a b c : Bool) → (a && b && c) ≡ true → c ≡ true
three true true c h = h
three true false c h = absurd (no h)
  where
    no : false ≡ true → ⊥
    no e = cc e
three false b c h = absurd (no h)
  where
    no : false ≡ true → ⊥
    no e = cc e

few_levels : (b : Tree) → is_block b ≡ true → 1 + levels b.items ≤ 32
few_levels b is =
    let within : nat_le (1 + levels b.items) 32 ≡ true = three (is_tag_name longest_tag b.name) (is_proper longest_tag b.items) (nat_le (1 + levels b.items) 32) is in
    grind (arith, nat_tests, within)

a_tree : {n : ℕ} (b : Tree) → is_block b ≡ true → 65 ≤ n → IsPlain n (tree_data b)
a_tree b is h = deeper {n = suc (suc (suc (2 * levels b.items)))} (omega (arith, few_levels b is, h)) (a_block b.channel b.name (items_data b.items) (items_deeper (omega arith) (all_items b.items)))

-- Rows, and the objects of tellings.

a_row : {A : Type 0} {n : ℕ} (f : A → Data) (Good : A → Type 0) → ((x : A) → Good x → IsPlain n (f x)) → (xs : List A) → AllByRecursion Good xs → ArePlain n (items_of (map f xs))
a_row f Good h [] good = nothing_in
a_row f Good h (x ∷ xs) good = an_item (h x good.0) (a_row f Good h xs good.1)

texts_in : (texts : List (List ℕ)) → ArePlain 1 (items_of (map bytes_data texts))
texts_in [] = nothing_in
texts_in (t ∷ texts) = an_item (some_bytes t) (texts_in texts)

texts_plain : {n : ℕ} (texts : List (List ℕ)) → 2 ≤ n → IsPlain n (texts_data texts)
texts_plain texts h = deeper h (an_array (texts_in texts))

number_small : (why : Refusal) → Is64 (refusal_number why)
number_small refusal.NoSession = omega arith
number_small refusal.NoField = omega arith
number_small refusal.InFlight = omega arith
number_small refusal.SessionExists = omega arith
number_small refusal.BadName = omega arith
number_small refusal.BadWords = omega arith
number_small refusal.BadInput = omega arith
number_small refusal.SamePlace = omega arith
number_small refusal.TooManySessions = omega arith
number_small refusal.TooManyFields = omega arith
number_small refusal.IdsSpent = omega arith
number_small refusal.NoTab = omega arith
number_small refusal.BadCursor = omega arith
number_small refusal.QueueFull = omega arith
number_small refusal.LivesSpent = omega arith
number_small refusal.JournalFull = omega arith
number_small refusal.OutOfMemory = omega arith

a_type : {n : ℕ} {name : List ℕ} → HasPlain n (typed name)
a_type = a_member a_text no_more

reply_plain : (line : ℕ) (r : Reply) → Is64 line → IsSoundReply r → IsPlain 1 (reply_data line r)
reply_plain line reported.done l s = an_object (a_member (a_count l) a_type)
reply_plain line (reported.made id) l s = an_object (a_member (a_count s) (a_member (a_count l) a_type))
reply_plain line (reported.asked life) l s = an_object (a_member (a_count s) (a_member (a_count l) a_type))
reply_plain line (reported.refused why) l s = an_object (a_member (a_count l) (a_member a_text (a_member (a_count (number_small why)) a_type)))
reply_plain line reported.bad l s = an_object (a_member (a_count l) a_type)
reply_plain line reported.nothing l s = an_object (a_member (a_count l) a_type)
reply_plain line (reported.waited true) l s = an_object (a_member (a_count l) (a_member a_text a_type))
reply_plain line (reported.waited false) l s = an_object (a_member (a_count l) (a_member a_text a_type))
reply_plain line (reported.interrupted outcome) l s = an_object (a_member (a_count l) (a_member a_text a_type))
reply_plain line (reported.undone first) l s = an_object (a_member (a_count s) (a_member (a_count l) a_type))

lost_plain : (i : Item) → IsSoundItem i → IsPlain 2 (lost_data i)
lost_plain (item.Line id line) s = an_object (a_member (a_count s) (a_member (some_bytes line) no_more))
lost_plain (item.Complete id line cursor) s = an_object (a_member (a_count s.1) (a_member (a_count s.0) (a_member a_text no_more)))

losts_plain : {n : ℕ} (lost : List Item) → AllByRecursion IsSoundItem lost → 3 ≤ n → IsPlain n (losts_data lost)
losts_plain lost s h = deeper h (an_array (a_row lost_data IsSoundItem lost_plain lost s))

completions_plain : (given : Option Completions) → IsPlain 66 (completions_data given)
completions_plain None = no_value
completions_plain (Some c) = an_object (a_member (texts_plain c.rest (omega arith)) (a_member (some_bytes c.root) no_more))

prompt_plain : {n : ℕ} (next : Option (List ℕ)) → IsPlain (suc n) (prompt_data next)
prompt_plain None = no_value
prompt_plain (Some prompt) = some_bytes prompt

event_plain : (session : List ℕ) (life : ℕ) (e : EventReported) → Is64 life → IsSoundEvent e → IsPlain 67 (event_data session life e)
event_plain session life (reported.banner output next) l s =
    an_object (a_member (a_count l) (a_member (prompt_plain next) (a_member (a_tree output s (omega arith)) (a_member (some_bytes session) (a_member (some_bytes _) a_type)))))
event_plain session life (reported.answer id prompt output next) l s =
    an_object (a_member (a_count s.0) (a_member (a_count l) (a_member (prompt_plain next) (a_member (a_tree output s.1 (omega arith)) (a_member (some_bytes prompt) (a_member (some_bytes session) (a_member (some_bytes _) a_type)))))))
event_plain session life (reported.completed id given) l s =
    an_object (a_member (a_count s) (a_member (a_count l) (a_member (some_bytes session) (a_member (completions_plain given) a_type))))
event_plain session life (reported.input line) l s = an_object (a_member (a_count l) (a_member (some_bytes session) (a_member (some_bytes line) a_type)))
event_plain session life (reported.ended why lost) l s =
    an_object (a_member (a_count l) (a_member (losts_plain lost s (omega arith)) (a_member a_text (a_member (some_bytes session) a_type))))
event_plain session life (reported.warned outcome) l s = an_object (a_member (a_count l) (a_member a_text (a_member (some_bytes session) a_type)))
event_plain session life (reported.partial bytes) l s = an_object (a_member (some_bytes bytes) (a_member (a_count l) (a_member (some_bytes session) a_type)))

field_plain : (id : ℕ) (session input : List ℕ) (state : State) → Is64 id → IsSoundState state → IsPlain 66 (field_with id session input state)
field_plain id session input (reported.answered prompt output) i s =
    an_object (a_member (a_count i) (a_member a_text (a_member (a_tree output s (omega arith)) (a_member (some_bytes prompt) (a_member (some_bytes session) (a_member (some_bytes _) (a_member a_text no_more)))))))
field_plain id session input (reported.lost why) i s = an_object (a_member (a_count i) (a_member a_text (a_member a_text (a_member (some_bytes session) (a_member a_text no_more)))))
field_plain id session input reported.waiting i s = an_object (a_member (a_count i) (a_member a_text (a_member (some_bytes session) (a_member a_text no_more))))
field_plain id session input reported.empty i s = an_object (a_member (a_count i) (a_member a_text (a_member (some_bytes session) (a_member a_text no_more))))

life_plain : {n : ℕ} (life : Option ℕ) → IsSoundLife life → IsPlain n (life_data life)
life_plain None s = no_value
life_plain (Some life) s = a_count s

session_plain : (s : SessionShown) → IsSoundSession s → IsPlain 64 (session_data s)
session_plain s h =
    an_object (a_member (life_plain s.life h.0) (a_member (some_bytes s.name) (a_member a_flag (a_member (a_count h.1) (a_member (texts_plain s.words (omega arith)) no_more)))))

ids_plain : (ids : List ℕ) → AllByRecursion Is64 ids → IsPlain 66 (ids_data ids)
ids_plain ids s = an_array (a_row count Is64 (λ x h. a_count h) ids s)

sessions_plain : (sessions : List SessionShown) → AllByRecursion IsSoundSession sessions → IsPlain 66 (sessions_data sessions)
sessions_plain sessions s = deeper (omega arith) (an_array (a_row session_data IsSoundSession session_plain sessions s))

answer_plain : (answer : Option Answer) → IsSoundAnswer answer → IsPlain 66 (answer_data answer)
answer_plain None s = no_value
answer_plain (Some a) s = an_object (a_member (a_tree a.output s (omega arith)) (a_member (some_bytes a.prompt) (a_member (some_bytes _) no_more)))

why_plain : {n : ℕ} (why : Option Reason) → IsPlain n (why_data why)
why_plain None = no_value
why_plain (Some why) = a_text

took_plain : (took : Option Took) → IsSoundTook took → IsPlain 66 (took_data took)
took_plain None s = no_value
took_plain (Some took) s = an_object (a_member (a_count s) (a_member a_flag no_more))

checked_plain : (id : ℕ) (session : List ℕ) (took : Option Took) (c : CheckReported) → Is64 id → IsSoundTook took → IsSoundCheck c → IsPlain 67 (checked_data id session took c)
checked_plain id session took reported.same i k s = an_object (a_member (a_count i) (a_member (some_bytes session) (a_member (took_plain took k) (a_member a_text (a_member a_text no_more)))))
checked_plain id session took reported.left_out i k s = an_object (a_member (a_count i) (a_member (some_bytes session) (a_member (took_plain took k) (a_member a_text (a_member a_text no_more)))))
checked_plain id session took (reported.differs input shows came) i k s =
    an_object (a_member (answer_plain came s.1) (a_member (a_count i) (a_member a_text (a_member (some_bytes session) (a_member (answer_plain shows s.0) (a_member (took_plain took k) (a_member a_text (a_member a_text no_more))))))))
checked_plain id session took (reported.unanswered input shows why) i k s =
    an_object (a_member (a_count i) (a_member a_text (a_member (why_plain why) (a_member (some_bytes session) (a_member (answer_plain shows s) (a_member (took_plain took k) (a_member a_text (a_member a_text no_more))))))))
checked_plain id session took (reported.new input came) i k s =
    an_object (a_member (answer_plain came s) (a_member (a_count i) (a_member a_text (a_member (some_bytes session) (a_member (took_plain took k) (a_member a_text (a_member a_text no_more)))))))

export_plain : (given : Option (List ℕ)) → IsPlain 66 (text_or_null given)
export_plain None = no_value
export_plain (Some bytes) = some_bytes bytes

-- so its text is defined and one line, and reads back
pub tellings_are_plain : (t : Telling) → IsSoundTelling t → IsPlain 67 (telling_data t)
tellings_are_plain reported.hello s = an_object (a_member (a_count (omega arith)) (a_member a_text (a_member (a_count (omega arith)) (a_member a_text (a_member a_text no_more)))))
tellings_are_plain (reported.reply line r) s = deeper (omega arith) (reply_plain line r s.0 s.1)
tellings_are_plain (reported.stopped line session life lost) s =
    an_object (a_member (a_count s.1) (a_member (a_count s.0) (a_member (losts_plain lost s.2 (omega arith)) (a_member (some_bytes session) a_type))))
tellings_are_plain (reported.event session life e) s = event_plain session life e s.0 s.1
tellings_are_plain (reported.field line f) s = an_object (a_member (field_plain f.id f.session f.input f.state s.1.0 s.1.1) (a_member (a_count s.0) a_type))
tellings_are_plain (reported.part line f) s = an_object (a_member (field_plain f.id f.session f.input f.state s.1.0 s.1.1) (a_member (a_count s.0) (a_member a_flag a_type)))
tellings_are_plain (reported.shown f) s = an_object (a_member (field_plain f.id f.session f.input f.state s.0 s.1) a_type)
tellings_are_plain (reported.sheet line ids next sessions) s =
    an_object (a_member (ids_plain ids s.1) (a_member (a_count s.0) (a_member (a_count s.2) (a_member (sessions_plain sessions s.3) a_type))))
tellings_are_plain (reported.exported line format given) s = an_object (a_member a_text (a_member (a_count s) (a_member (export_plain given) a_type)))
tellings_are_plain (reported.whole ids next sessions) s = an_object (a_member (ids_plain ids s.0) (a_member (a_count s.1) (a_member (sessions_plain sessions s.2) a_type)))
tellings_are_plain (reported.fault n name None) s = an_object (a_member a_text (a_member (a_count s) a_type))
tellings_are_plain (reported.fault n name (Some offset)) s = an_object (a_member a_text (a_member (a_count s.0) (a_member (a_count s.1) a_type)))
tellings_are_plain (reported.over id outcome) s = an_object (a_member (a_count s) (a_member a_text a_type))
tellings_are_plain (reported.counted answered unanswered errors) s = an_object (a_member (a_count s.0) (a_member (a_count s.2) (a_member a_text (a_member (a_count s.1) no_more))))
tellings_are_plain (reported.counted_in_time answered unanswered errors over passed) s =
    an_object (a_member (a_count s.0) (a_member (a_count s.2) (a_member (a_count s.3) (a_member (a_count s.4) (a_member a_text (a_member (a_count s.1) no_more))))))
tellings_are_plain (reported.checked id session took c) s = checked_plain id session took c s.0 s.1 s.2
tellings_are_plain (reported.compared same differ unanswered left_out errors new) s =
    an_object (a_member (a_count s.1) (a_member (a_count s.4) (a_member (a_count s.3) (a_member (a_count s.5) (a_member (a_count s.0) (a_member a_text (a_member (a_count s.2) no_more)))))))
tellings_are_plain (reported.no_field id) s = an_object (a_member (a_count s) (a_member a_text (a_member (a_count (omega arith)) a_type)))
tellings_are_plain (reported.no_program session) s = an_object (a_member a_text (a_member (a_count (omega arith)) (a_member (some_bytes session) a_type)))
tellings_are_plain reported.end s = an_object a_type
