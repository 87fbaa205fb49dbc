-- How much a life may hold. (docs/use/PROTOCOL.md, one life; prompts and default input.)
use Rattle.std.specs.Prelude.{ℕ}

-- the most bytes of a prompt: a longer one is cut there
abbrev pub longest_prompt : ℕ
longest_prompt = 1024

-- the most items of a life that wait for their answers
abbrev pub most_waiting : ℕ
most_waiting = 1024
