-- Which outputs hold an answer to a request of completions, and the text that is read in them. (docs/use/PROTOCOL.md, completion.)
use Rattle.std.specs.Prelude.{ℕ, ◌==◌, ◌&&◌, ◌||◌, not, Bool, true, false, List, [], Option, Some, None, codes, if◌then◌else◌}
use Rattle.std.specs.List.{list_all}
use Rattle.std.specs.Str.{bytes_eq}
use Rattle.block_tree.specs.Tree.{Items, Tree, end, text, block}

-- white space: tab, line feed, form feed, carriage return and space
abbrev pub is_white : ℕ → Bool
is_white c = c == 9 || c == 10 || c == 12 || c == 13 || c == 32

-- a format, and not a channel, of the name that is wanted
abbrev pub is_format : List ℕ → Bool → List ℕ → Bool
is_format wanted channel name = not channel && bytes_eq name wanted

-- the text of at most one text and no block
abbrev pub lone_text : Items → Option (List ℕ)
lone_text end = Some []
lone_text (text t end) = Some t
lone_text _ = None

-- no block, and only white space
abbrev pub is_blank : Items → Bool
is_blank end = true
is_blank (text t rest) = list_all is_white t && is_blank rest
is_blank (block channel name inside rest) = false

-- The text of one block of the format 'scheme' that holds no block, where all else is white space. Where all is, the empty text.
abbrev pub text_among_blanks : Items → Option (List ℕ)
text_among_blanks end = Some []
text_among_blanks (text t rest) = if list_all is_white t then text_among_blanks rest else None
text_among_blanks (block channel name inside rest) = if is_format (codes "scheme") channel name && is_blank rest then lone_text inside else None

-- the text that is read for an output, where there is one
abbrev pub answer_text : Tree → Option (List ℕ)
answer_text b =
    if is_format (codes "scheme") b.channel b.name then lone_text b.items
    else if is_format (codes "verbatim") b.channel b.name then text_among_blanks b.items
    else None
