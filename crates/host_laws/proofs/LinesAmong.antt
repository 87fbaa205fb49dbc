-- How many lines of a field are among items, and how many an answer takes out of them.
use Rattle.std.proofs.Common.{◌≡◌, ◌+◌, ◌≤◌, ℕ, zero, suc, List, [], ◌∷◌, ◌++◌, length, drop, refl, ap, ◌∙◌, subst, arith, append-nil, length-append, Bool, true, false, Option, Some, None}
use Rattle.std.specs.Prelude.{if◌then◌else◌, ◌||◌, nat_eq, slice_get, option_map, option_and_then, option_to_list}
use Rattle.std.specs.List.{list_any}
use Rattle.block_tree.specs.Tree.{Tree}
use Rattle.block_tree.specs.Output.{output}
use Rattle.meta_format.specs.Stream.{Outer}
use Rattle.meta_format.specs.Faults.{Kind}
use Rattle.plugin_core.specs.declared.item.Item.{Item}
use Rattle.plugin_core.specs.declared.item.Item.TheVariants as item
use Rattle.plugin_core.specs.declared.step.Answered.{Answered}
use Rattle.plugin_core.specs.declared.step.Answered.TheVariants as answered
use Rattle.plugin_core.specs.Past.{received, stream_of, items_of}
use Rattle.plugin_core.specs.Past.{Event as LifeEvent}
use Rattle.plugin_core.specs.Answers.{answers_of}
use Rattle.plugin_core.specs.Items.{answer_following, answer_to, first_line_of, is_line_of, prompt_of, unanswered, waiting_of}
use Rattle.plugin_core.specs.inside.Words.{next_beyond, answered_with}
use Rattle.plugin_core.specs.Steps.{Reads, step_of}
use Rattle.plugin_core.specs.Steps.{closed_by as closed_in}
use Rattle.plugin_core.proofs.Pasts.{items_of-received}
use Rattle.host_laws.specs.Laws.{lines_among}
use Rattle.host_laws.proofs.Growing.{one_answer}

pub lines-push : (id : ℕ) (items : List Item) (i : Item) → lines_among id (items ++ i ∷ []) ≡ lines_among id items + (if is_line_of id i then 1 else 0)
lines-push id [] i = omega arith
lines-push id (j ∷ items) i = let more = lines-push id items i in omega (arith, more)

pub none_among : (id : ℕ) (items : List Item) → list_any (λ i. is_line_of id i) items ≡ false → lines_among id items ≡ 0
none_among id [] h = refl
none_among id (i ∷ items) h = go (is_line_of id i) h (none_among id items)
  where
    go : (b : Bool) → (b || list_any (λ i. is_line_of id i) items) ≡ false → (list_any (λ i. is_line_of id i) items ≡ false → lines_among id items ≡ 0) → (if b then 1 else 0) + lines_among id items ≡ 0
    go true h rest = cc
    go false h rest = let more = rest h in omega (arith, more)

abbrev pub one_of : ℕ → ℕ → ℕ
one_of other id = if nat_eq other id then 1 else 0

-- how many lines of a field an answer is of
abbrev pub answers_one : ℕ → Option Answered → ℕ
answers_one id None = 0
answers_one id (Some (answered.Banner b)) = 0
answers_one id (Some (answered.Line other prompt out)) = one_of other id
answers_one id (Some (answered.Complete other result)) = 0

module _ (id : ℕ) (prompt : List ℕ) (out : Tree) where
  one_less : (k : ℕ) (items : List Item) → lines_among id (drop (suc k) items) + answers_one id (option_map (λ i. answer_to i prompt out) (slice_get items k)) ≡ lines_among id (drop k items)
  one_less zero [] = refl
  one_less zero (item.Line other text ∷ items) = omega arith
  one_less zero (item.Complete other text cursor ∷ items) = omega arith
  one_less (suc k) [] = refl
  one_less (suc k) (i ∷ items) = one_less k items

-- what waits after an answer, and before it
left_waiting : (id : ℕ) (answers : List Outer) (o : Option Outer) (items : List Item) (prompt : List ℕ)
    → lines_among id (unanswered (answers ++ option_to_list o) items) + answers_one id (option_and_then (λ b. answer_following answers items prompt b.block) o) ≡ lines_among id (unanswered answers items)
left_waiting id [] None items prompt = omega arith
left_waiting id [] (Some b) items prompt = omega arith
left_waiting id (a ∷ answers) None items prompt = rw (append-nil answers) (omega arith)
left_waiting id (a ∷ answers) (Some b) items prompt =
    let e : length (answers ++ b ∷ []) ≡ suc (length answers) = omega (arith, length-append answers (b ∷ [])) in
    rw e (one_less id prompt (output b.block) (length answers) items)

module _ (id : ℕ) (past : List LifeEvent) (before after : List Outer) (piece : List ℕ) (fault : Option Kind) where
  last_is : (xs : List Outer) (o : Option Outer) → next_beyond xs (xs ++ option_to_list o) ≡ o
  last_is [] None = refl
  last_is [] (Some b) = refl
  last_is (x ∷ xs) o = last_is xs o

  pub after_piece : Reads (stream_of past) before None → Reads (stream_of (past ++ received piece ∷ [])) after fault
      → lines_among id (waiting_of (past ++ received piece ∷ []) after) + answers_one id (step_of past before piece after fault).answered ≡ lines_among id (waiting_of past before)
  after_piece old new =
      let a = one_answer past piece before after fault old new in
      let c : closed_in past before (received piece) after ≡ a.closed = ap (λ (bs : List Outer). next_beyond (answers_of past before) bs) a.answers ∙ last_is (answers_of past before) a.closed in
      let w : lines_among id (waiting_of (past ++ received piece ∷ []) after) ≡ lines_among id (unanswered (answers_of past before ++ option_to_list a.closed) (items_of past)) =
      ap (λ (bs : List Outer). lines_among id (unanswered bs (items_of (past ++ received piece ∷ [])))) a.answers
      ∙ ap (λ (is : List Item). lines_among id (unanswered (answers_of past before ++ option_to_list a.closed) is)) (items_of-received past piece) in
      let s : answers_one id (step_of past before piece after fault).answered ≡ answers_one id (option_and_then (λ b. answer_following (answers_of past before) (items_of past) (prompt_of past before) b.block) a.closed) =
      ap (λ (o : Option Outer). answers_one id (option_and_then (answered_with past before) o)) c in
      let t = left_waiting id (answers_of past before) a.closed (items_of past) (prompt_of past before) in
      omega (arith, w, s, t)

-- the first line is one of the lines
pub first_one : (id : ℕ) (items : List Item) (other : ℕ) → first_line_of items ≡ Some other → one_of other id ≤ lines_among id items
first_one id [] other h = cc
first_one id (item.Line a text ∷ items) other h = let same : a ≡ other = cc in subst (λ (n : ℕ). one_of n id ≤ one_of a id + lines_among id items) same (omega arith)
first_one id (item.Complete a text cursor ∷ items) other h = cc
