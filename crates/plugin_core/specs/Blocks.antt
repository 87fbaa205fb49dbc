-- What an answer's block says of the lines after it. (docs/use/PROTOCOL.md, prompts and default input.)
use Rattle.std.specs.Prelude.{ℕ, List, [], ◌∷◌, take, codes, option_map, unwrap_or}
use Rattle.block_tree.specs.Output.{text_on_channel}
use Rattle.meta_format.specs.Stream.{Outer}
use Rattle.plugin_core.specs.Limits.{longest_prompt}

-- the prompt of the last of these answers that has one, cut to its first bytes, or else this prompt
abbrev pub prompt_after : List ℕ → List Outer → List ℕ
prompt_after prompt [] = prompt
prompt_after prompt (b ∷ bs) = prompt_after (unwrap_or (option_map (λ text. take longest_prompt text) (text_on_channel (codes "prompt") b.block)) prompt) bs
