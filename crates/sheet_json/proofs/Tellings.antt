-- What is printed reads back.
use Rattle.std.proofs.Common.{◌≡◌, ℕ, true, false, List, [], ◌∷◌, map, Option, Some, None, cond, option_map, refl, ap, ◌∙◌}
use Rattle.std.specs.List.{AllByRecursion}
use Rattle.std.specs.Prelude.{IfSome}
use Rattle.std.specs.Str.{is_utf8}
use Rattle.base64.specs.GeneralPurpose.{IsBytes}
use Rattle.block_tree.specs.Tree.{Tree}
use Rattle.block_tree.specs.declared.reason.Reason.{Reason}
use Rattle.block_tree.specs.declared.reason.Reason.TheVariants as reason
use Rattle.worksheet.specs.Refusals.{refusal_number}
use Rattle.worksheet.specs.declared.refusal.Refusal.{Refusal}
use Rattle.worksheet.specs.declared.refusal.Refusal.TheVariants as refusal
use Rattle.scheme_text.specs.declared.answer.Completions.{Completions}
use Rattle.plugin_core.specs.declared.item.Item.{Item}
use Rattle.plugin_core.specs.declared.item.Item.TheVariants as item
use Rattle.sheet_text.specs.Replies.{reason_name}
use Rattle.serde_json.specs.Data as json
use Rattle.serde_json.specs.View.{items_of}
use Rattle.sheet_json.specs.Bytes.{base64_data, bytes_data}
use Rattle.sheet_json.specs.Blocks.{tree_data}
use Rattle.sheet_json.specs.Objects.{completions_data, count, text_or_null, lost_data, losts_data, prompt_data, texts_data}
use Rattle.sheet_json.specs.Reading.{bytes_in, tree_in, HasBytes}
use Rattle.sheet_json.specs.Tellings.{EventReported}
use Rattle.sheet_json.specs.Tellings as reported
use Rattle.sheet_json.specs.Reported.{completions_in, each_in, list_in, lost_in, of, option_in, prompt_in, reason_named, refusal_in, CompletionsHaveBytes, ItemHasBytes, PromptHasBytes}
use Rattle.sheet_json.specs.Laws.{CountsReadBack, EventsReadBack, ExportsReadBack, RepliesReadBack}
use Rattle.sheet_json.proofs.Back.{base64_back, bytes_back, blocks_read_back}

refusal_back : (why : Refusal) → refusal_in (count (refusal_number why)) ≡ Some why
refusal_back refusal.NoSession = refl
refusal_back refusal.NoField = refl
refusal_back refusal.InFlight = refl
refusal_back refusal.SessionExists = refl
refusal_back refusal.BadName = refl
refusal_back refusal.BadWords = refl
refusal_back refusal.BadInput = refl
refusal_back refusal.SamePlace = refl
refusal_back refusal.TooManySessions = refl
refusal_back refusal.TooManyFields = refl
refusal_back refusal.IdsSpent = refl
refusal_back refusal.NoTab = refl
refusal_back refusal.BadCursor = refl
refusal_back refusal.QueueFull = refl
refusal_back refusal.LivesSpent = refl
refusal_back refusal.JournalFull = refl
refusal_back refusal.OutOfMemory = refl

pub reason_back : (why : Reason) → reason_named (reason_name why) ≡ Some why
reason_back reason.StartRefused = refl
reason_back reason.Ended = refl
reason_back reason.ReadFault = refl
reason_back reason.SendFault = refl
reason_back reason.Stalled = refl
reason_back reason.BadTag = refl
reason_back reason.TooDeep = refl
reason_back reason.TooLong = refl
reason_back reason.Stopped = refl

pub replies_read_back : RepliesReadBack
replies_read_back line reported.done = refl
replies_read_back line (reported.made id) = refl
replies_read_back line (reported.asked life) = refl
replies_read_back line (reported.refused why) = ap (λ r. option_map (λ x. reported.reply line x) (option_map (λ x. reported.refused x) r)) (refusal_back why)
replies_read_back line reported.bad = refl
replies_read_back line reported.nothing = refl
replies_read_back line (reported.waited true) = refl
replies_read_back line (reported.waited false) = refl
replies_read_back line (reported.interrupted outcome) = refl
replies_read_back line (reported.undone first) = refl

pub counts_read_back : CountsReadBack
counts_read_back = ((λ a u e. refl), (λ a u e over passed. refl), (λ id outcome. refl))

export_back : (text : Option (List ℕ)) → IfSome text IsBytes → option_in bytes_in (text_or_null text) ≡ Some text
export_back None good = refl
export_back (Some text) good =
    elim (is_utf8 text) as (λ b. option_in bytes_in (cond b (json.string text) (base64_data text)) ≡ Some (Some text))
    [ true ↦ refl | false ↦ ap (option_map (λ x. Some x)) (base64_back text good) ]

pub exports_read_back : ExportsReadBack
exports_read_back line format text good = ap (of (Some (λ t. reported.exported line format t))) (export_back text good)

tree_back : (b : Tree) → HasBytes b → tree_in (tree_data b) ≡ Some b
tree_back = blocks_read_back

-- each thing of a list reads back
each_back : {A : Type 0} (f : A → json.Data) (read : json.Data → Option A) (Good : A → Type 0) → ((x : A) → Good x → read (f x) ≡ Some x)
    → (xs : List A) → AllByRecursion Good xs → each_in read (items_of (map f xs)) ≡ Some xs
each_back f read Good h [] good = refl
each_back f read Good h (x ∷ xs) good =
    ap (λ r. of (option_map (λ y ys. y ∷ ys) r) (each_in read (items_of (map f xs)))) (h x good.0) ∙ ap (λ r. of (Some (λ ys. x ∷ ys)) r) (each_back f read Good h xs good.1)

pub texts_back : (texts : List (List ℕ)) → AllByRecursion IsBytes texts → list_in bytes_in (texts_data texts) ≡ Some texts
texts_back texts good = each_back bytes_data bytes_in IsBytes bytes_back texts good

lost_back : (i : Item) → ItemHasBytes i → lost_in (lost_data i) ≡ Some i
lost_back (item.Line id line) good = ap (λ r. of (Some (λ l. item.Line id l)) r) (bytes_back line good)
lost_back (item.Complete id line cursor) good = refl

losts_back : (lost : List Item) → AllByRecursion ItemHasBytes lost → list_in lost_in (losts_data lost) ≡ Some lost
losts_back lost good = each_back lost_data lost_in ItemHasBytes lost_back lost good

completions_back : (given : Option Completions) → CompletionsHaveBytes given → option_in completions_in (completions_data given) ≡ Some given
completions_back None good = refl
completions_back (Some c) good =
    ap (λ r. option_map (λ x. Some x) (of (option_map (λ root rest. record { root = root; rest = rest }) r) (list_in bytes_in (texts_data c.rest)))) (bytes_back c.root good.0)
    ∙ ap (λ r. option_map (λ x. Some x) (of (Some (λ rest. record { root = c.root; rest = rest })) r)) (texts_back c.rest good.1)

-- with its session and its life
of_life : (session : List ℕ) (life : ℕ) (e : EventReported) (r : Option EventReported) → IsBytes session → r ≡ Some e
    → of (of (option_map (λ s l x. reported.event s l x) (bytes_in (bytes_data session))) (Some life)) r ≡ Some (reported.event session life e)
of_life session life e r are is =
    ap (λ s. of (of (option_map (λ t l x. reported.event t l x) s) (Some life)) r) (bytes_back session are) ∙ ap (of (Some (λ x. reported.event session life x))) is

prompt_back : (next : Option (List ℕ)) → PromptHasBytes next → prompt_in (prompt_data next) ≡ Some next
prompt_back None good = refl
prompt_back (Some prompt) good =
    elim (is_utf8 prompt) as (λ b. option_in bytes_in (cond b (json.string prompt) (base64_data prompt)) ≡ Some (Some prompt))
    [ true ↦ refl | false ↦ ap (option_map (λ x. Some x)) (base64_back prompt good) ]

pub events_read_back : EventsReadBack
events_read_back session life (reported.banner output next) are good =
    of_life session life (reported.banner output next) _ are
    (ap (λ r. of (option_map (λ o n. reported.banner o n) r) (prompt_in (prompt_data next))) (tree_back output good.0) ∙ ap (of (Some (λ n. reported.banner output n))) (prompt_back next good.1))
events_read_back session life (reported.answer id prompt output next) are good =
    of_life session life (reported.answer id prompt output next) _ are
    (ap (λ r. of (of (of (Some (λ p o n. reported.answer id p o n)) r) (tree_in (tree_data output))) (prompt_in (prompt_data next))) (bytes_back prompt good.0)
    ∙ ap (λ r. of (of (Some (λ o n. reported.answer id prompt o n)) r) (prompt_in (prompt_data next))) (tree_back output good.1)
    ∙ ap (of (Some (λ n. reported.answer id prompt output n))) (prompt_back next good.2))
events_read_back session life (reported.completed id given) are good =
    of_life session life (reported.completed id given) _ are (ap (of (Some (λ c. reported.completed id c))) (completions_back given good))
events_read_back session life (reported.input line) are good = of_life session life (reported.input line) _ are (ap (option_map (λ l. reported.input l)) (bytes_back line good))
events_read_back session life (reported.ended why lost) are good =
    of_life session life (reported.ended why lost) _ are
    (ap (λ r. of (option_map (λ w items. reported.ended w items) r) (list_in lost_in (losts_data lost))) (reason_back why) ∙ ap (of (Some (λ items. reported.ended why items))) (losts_back lost good))
events_read_back session life (reported.warned outcome) are good = of_life session life (reported.warned outcome) (Some (reported.warned outcome)) are refl
events_read_back session life (reported.partial bytes) are good = of_life session life (reported.partial bytes) _ are (ap (option_map (λ b. reported.partial b)) (bytes_back bytes good))
