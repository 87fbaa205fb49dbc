-- Code blocks of Markdown, between fences of backquotes (CommonMark 0.31, "Fenced code blocks").
use Rattle.std.specs.Prelude.{ℕ, ◌+◌, ◌==◌, List, [], ◌∷◌, ◌++◌, cond, max, replicate}

-- how many backquotes a text begins with
unfoldable pub run_at_start : List ℕ → ℕ
run_at_start [] = 0
run_at_start (byte ∷ rest) = cond (byte == 96) (run_at_start rest + 1) 0

-- the most backquotes that stand side by side in a text
unfoldable pub longest_run : List ℕ → ℕ
longest_run [] = 0
longest_run (byte ∷ rest) = max (run_at_start (byte ∷ rest)) (longest_run rest)

-- the length of a text's fence: three backquotes, and more than stand side by side in it
abbrev pub fence_length : List ℕ → ℕ
fence_length lines = max 3 (longest_run lines + 1)

-- so many backquotes
abbrev pub fence_of : ℕ → List ℕ
fence_of length = replicate length 96

-- lines between two fences of this length, the first of which these words follow
abbrev pub fenced_by : ℕ → List ℕ → List ℕ → List ℕ
fenced_by length words lines = fence_of length ++ words ++ 10 ∷ [] ++ lines ++ fence_of length ++ 10 ∷ []

-- lines between their fences
abbrev pub fenced : List ℕ → List ℕ → List ℕ
fenced words lines = fenced_by (fence_length lines) words lines
