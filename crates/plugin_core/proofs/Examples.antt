-- Worked examples of the definitions.
use Rattle.std.proofs.Common.{◌≡◌, ℕ, List, [], ◌∷◌, ◌++◌, refl, Some, None, true, false}
use Rattle.std.specs.Prelude.{codes, replicate}
use Rattle.block_tree.specs.Tree.{Items, Tree, end, text, block}
use Rattle.block_tree.specs.Output.{output}
use Rattle.block_tree.specs.inside.Words.{no_output}
use Rattle.meta_format.specs.Stream.{Outer}
use Rattle.plugin_core.specs.declared.item.Item.{Item}
use Rattle.plugin_core.specs.declared.item.Item.TheVariants as item
use Rattle.plugin_core.specs.declared.step.Answered.TheVariants as answered
use Rattle.block_tree.specs.declared.reason.Reason.TheVariants as reason
use Rattle.meta_format.specs.Faults.{bad_tag}
use Rattle.plugin_core.specs.Past.{Event, accepted, received}
use Rattle.plugin_core.specs.Answers.{answers_of}
use Rattle.plugin_core.specs.Steps.{step_of, sent_by}
use Rattle.plugin_core.specs.inside.Words.{prompt_in, default_in}

abbrev x : Item
x = item.Line 1 (codes "x")

abbrev y : Item
y = item.Line 2 (codes "y")

abbrev bytes : ℕ → List ℕ
bytes n = replicate n 0

abbrev verbatim : List ℕ → Tree
verbatim t = record { channel = false; name = codes "verbatim"; items = text t end }

abbrev empty : Tree
empty = record { channel = false; name = codes "verbatim"; items = end }

abbrev banner : Outer
banner = record { start = 0; stop = 11; block = empty }

abbrev a : Outer
a = record { start = 11; stop = 23; block = verbatim (codes "A") }

abbrev b : Outer
b = record { start = 23; stop = 35; block = verbatim (codes "B") }

abbrev c : Outer
c = record { start = 35; stop = 47; block = verbatim (codes "C") }

abbrev both : List Event
both = accepted x ∷ accepted y ∷ received (bytes 11) ∷ []

two_in_one_piece : answers_of (both ++ received (bytes 24) ∷ received (bytes 12) ∷ []) (banner ∷ a ∷ b ∷ c ∷ []) ≡ banner ∷ a ∷ c ∷ []
two_in_one_piece = refl

cut_between : answers_of (both ++ received (bytes 12) ∷ received (bytes 12) ∷ []) (banner ∷ a ∷ b ∷ []) ≡ banner ∷ a ∷ b ∷ []
cut_between = refl

cut_inside : answers_of (both ++ received (bytes 17) ∷ received (bytes 7) ∷ received (bytes 12) ∷ []) (banner ∷ a ∷ b ∷ c ∷ []) ≡ banner ∷ a ∷ c ∷ []
cut_inside = refl

dropped_when_cut_inside : answers_of (both ++ received (bytes 17) ∷ received (bytes 7) ∷ []) (banner ∷ a ∷ b ∷ []) ≡ banner ∷ a ∷ []
dropped_when_cut_inside = refl

-- a fault after A in its piece: A is returned, nothing is sent, y is lost
fault_after : step_of both (banner ∷ []) (bytes 14) (banner ∷ a ∷ []) (Some bad_tag)
    ≡ record { answered = Some (answered.Line 1 (codes "> ") (verbatim (codes "A"))); default_input = None; send = None; ended = Some (record { reason = reason.BadTag; lost = y ∷ [] }) }
fault_after = refl

sends_the_next : step_of both (banner ∷ []) (bytes 12) (banner ∷ a ∷ []) None
    ≡ record { answered = Some (answered.Line 1 (codes "> ") (verbatim (codes "A"))); default_input = None; send = Some (codes "y" ++ 10 ∷ []); ended = None }
sends_the_next = refl

-- accepted while the banner has not closed, and after all is answered
waits_for_the_banner : sent_by (accepted x ∷ []) [] (accepted y) [] ≡ None
waits_for_the_banner = refl

sent_at_once : sent_by (accepted x ∷ received (bytes 11) ∷ received (bytes 12) ∷ []) (banner ∷ a ∷ []) (accepted y) (banner ∷ a ∷ []) ≡ Some (codes "y" ++ 10 ∷ [])
sent_at_once = refl

-- prompts and default inputs
abbrev prompt_hash : Items → Tree
prompt_hash i = record { channel = true; name = codes "prompt"; items = i }

inner_prompt : prompt_in (prompt_hash (text (codes "A") (block true (codes "prompt") (text (codes "B") end) (text (codes "C") end)))) ≡ Some (codes "B")
inner_prompt = refl

deep_text : prompt_in (prompt_hash (text (codes "A") (block false (codes "latex") (text (codes "x") end) (text (codes "C") end)))) ≡ Some (codes "AxC")
deep_text = refl

abbrev input_with_prompt : Tree
input_with_prompt = record { channel = true; name = codes "input"; items = text (codes "a") (block true (codes "prompt") (text (codes "b") end) end) }

default_is : default_in input_with_prompt ≡ Some (codes "ab")
default_is = refl

prompt_is : prompt_in input_with_prompt ≡ Some (codes "b")
prompt_is = refl

output_is : output input_with_prompt ≡ no_output
output_is = refl

-- the format prompt: is no prompt
format_prompt : prompt_in (record { channel = false; name = codes "prompt"; items = text (codes "a") end }) ≡ None
format_prompt = refl

joined : output (record { channel = false; name = codes "verbatim"; items = text (codes "4") (block true (codes "prompt") (text (codes "> ") end) (text (codes "2") end)) }) ≡ verbatim (codes "42")
joined = refl
