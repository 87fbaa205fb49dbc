-- Prompts are short.
use Rattle.std.proofs.Common.{◌≡◌, ℕ, ◌≤◌, List, [], ◌∷◌, length, take, subst, arith, Option, Some, None, unwrap_or}
use Rattle.std.specs.Prelude.{codes, option_map}
use Rattle.std.proofs.lemmas.List.{length-take}
use Rattle.block_tree.specs.Tree.{Tree}
use Rattle.block_tree.specs.Output.{text_on_channel}
use Rattle.meta_format.specs.Stream.{Outer}
use Rattle.plugin_core.specs.Limits.{longest_prompt}
use Rattle.plugin_core.specs.Answers.{answers_of}
use Rattle.plugin_core.specs.Blocks.{prompt_after}
use Rattle.plugin_core.specs.inside.Words.{prompt_in, first_prompt}
use Rattle.plugin_core.specs.Laws.{ShortPrompts}

cut : (o : Option (List ℕ)) (q : List ℕ) → length q ≤ longest_prompt → length (unwrap_or (option_map (λ text. take longest_prompt text) o) q) ≤ longest_prompt
cut None q h = h
cut (Some text) q h = omega (arith, length-take longest_prompt text)

short_next : (b : Tree) (q : List ℕ) → length q ≤ longest_prompt → length (unwrap_or (prompt_in b) q) ≤ longest_prompt
short_next b q h = cut (text_on_channel (codes "prompt") b) q h

pub short_in : (b : Tree) (q : List ℕ) → prompt_in b ≡ Some q → length q ≤ longest_prompt
short_in b q e = subst (λ (o : Option (List ℕ)). length (unwrap_or o []) ≤ longest_prompt) e (short_next b [] (omega arith))

short_after : (q : List ℕ) (bs : List Outer) → length q ≤ longest_prompt → length (prompt_after q bs) ≤ longest_prompt
short_after q [] h = h
short_after q (b ∷ bs) h = short_after (unwrap_or (prompt_in b.block) q) bs (short_next b.block q h)

pub short_prompts : ShortPrompts
short_prompts past blocks = short_after first_prompt (answers_of past blocks) (omega arith)
