-- A piece tells the answer that it closes.
use Rattle.std.proofs.Common.{◌≡◌, ℕ, ◌<◌, List, [], ◌∷◌, ◌++◌, length, refl, ap, sym, ◌∙◌, arith, true, Option, Some, None, suc, zero, drop}
use Rattle.std.specs.Prelude.{is_some, slice_get, option_map, option_and_then}
use Rattle.block_tree.specs.Tree.{Tree}
use Rattle.meta_format.specs.Stream.{Outer}
use Rattle.meta_format.specs.Faults.{Kind}
use Rattle.plugin_core.specs.declared.item.Item.{Item}
use Rattle.plugin_core.specs.Past.{Event, received, items_of}
use Rattle.plugin_core.specs.Answers.{first_from, answers_of, ask_of}
use Rattle.plugin_core.specs.inside.Words.{default_in, answered_with}
use Rattle.plugin_core.specs.Items.{bytes_of, prompt_of, answer_to, answer_following}
use Rattle.plugin_core.specs.Steps.{closed_by, sent_by, unless_ended, step_of}
use Rattle.plugin_core.specs.inside.Changes.{closed_among}
use Rattle.plugin_core.proofs.OneMore.{Adds, answered_some, closed_by-received, sent_by-received, next_item}
use Rattle.block_tree.specs.Output.{output}

there : (k : ℕ) (is : List Item) (q : List ℕ) (b : Tree) → k < length is → is_some (option_map (λ i. answer_to i q b) (slice_get is k)) ≡ true
there k [] q b h = absurd (omega arith)
there zero (i ∷ is) q b h = refl
there (suc k) (i ∷ is) q b h = there k is q b (omega arith)

answer_reported : (fs : List Outer) (is : List Item) (q : List ℕ) (b : Tree) → length fs < suc (length is) → is_some (answer_following fs is q b) ≡ true
answer_reported [] is q b h = refl
answer_reported (f ∷ fs) is q b h = there (length fs) is q (output b) (omega arith)

pub reported-received : (ts : List Event) (bs : List Outer) (p : List ℕ) (fs : List Outer) (fault : Option Kind) → Adds ts bs p fs
    → is_some (step_of ts bs p (bs ++ fs) fault).answered ≡ is_some (closed_by ts bs (received p) (bs ++ fs))
reported-received ts bs p fs fault a =
    let c = closed_by-received ts bs p fs a in
    ap (λ (o : Option Outer). is_some (option_and_then (answered_with ts bs) o)) c ∙ asked (ask_of ts bs) refl ∙ sym (ap (λ (o : Option Outer). is_some o) c)
  where
    closes : (place : ℕ) → ask_of ts bs ≡ Some place → (o : Option Outer) → is_some (option_and_then (answered_with ts bs) o) ≡ is_some o
    closes place e None = refl
    closes place e (Some b) = answer_reported (answers_of ts bs) (items_of ts) (prompt_of ts bs) b.block (answered_some ts bs place e)

    asked : (o : Option ℕ) → ask_of ts bs ≡ o → is_some (option_and_then (answered_with ts bs) (closed_among o fs)) ≡ is_some (closed_among o fs)
    asked None e = refl
    asked (Some place) e = closes place e (first_from place fs)

pub silent-received : (ts : List Event) (bs : List Outer) (p : List ℕ) (fs : List Outer) (fault : Option Kind) → Adds ts bs p fs → closed_by ts bs (received p) (bs ++ fs) ≡ None
    → ((step_of ts bs p (bs ++ fs) fault).default_input ≡ None) × ((step_of ts bs p (bs ++ fs) fault).send ≡ None)
silent-received ts bs p fs fault a e = (ap (λ (o : Option Outer). option_and_then (λ (b : Outer). default_in b.block) o) e, unsent fault)
  where
    nothing : sent_by ts bs (received p) (bs ++ fs) ≡ None
    nothing = sent_by-received ts bs p fs a ∙ ap (λ (o : Option Outer). option_map bytes_of (next_item o (drop (length (answers_of ts bs)) (items_of ts)))) (sym (closed_by-received ts bs p fs a) ∙ e)

    unsent : (fault : Option Kind) → unless_ended fault (sent_by ts bs (received p) (bs ++ fs)) ≡ None
    unsent None = nothing
    unsent (Some kind) = refl
