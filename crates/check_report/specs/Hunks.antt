-- How one text became another: one hunk of a unified diff, from the first line that differs to the last.
use Rattle.std.specs.Prelude.{ℕ, ◌+◌, ◌-◌, ◌==◌, ◌||◌, Bool, List, [], ◌∷◌, ◌++◌, codes, cond, drop, length, min, nat_lt, reverse, take}
use Rattle.std.specs.Fmt.{decimal}
use Rattle.std.specs.List.{common_prefix_len, flat_map}
use Rattle.std.specs.Str.{bytes_eq}
use Rattle.bstr.specs.Text.{lines_of}
use Rattle.check_report.specs.declared.hunks.Hunk.{Hunk}

-- how many lines both texts begin with
abbrev pub front_of : List (List ℕ) → List (List ℕ) → ℕ
front_of old new = common_prefix_len bytes_eq old new

-- how many both end with, of the lines after those
abbrev pub back_of : List (List ℕ) → List (List ℕ) → ℕ
back_of old new = min (common_prefix_len bytes_eq (reverse old) (reverse new)) (min (length old) (length new) - front_of old new)

-- What differs stands between the lines that both begin with and those that both end with.
abbrev pub hunk_of : List (List ℕ) → List (List ℕ) → Hunk
hunk_of old new = record { front = front_of old new; back = back_of old new; old = length old; new = length new }

-- Of those that both begin with at most the last three are shown: how many aren't, and how many are.
abbrev pub hidden : Hunk → ℕ
hidden h = h.front - 3

abbrev pub before : Hunk → ℕ
before h = h.front - hidden h

-- of those that both end with at most the first three
abbrev pub after : Hunk → ℕ
after h = min h.back 3

-- where these begin in the old text
abbrev pub tail_start : Hunk → ℕ
tail_start h = h.old - h.back

-- how many lines of each text stand between them
abbrev pub lines_removed : Hunk → ℕ
lines_removed h = h.old - h.back - h.front

abbrev pub lines_added : Hunk → ℕ
lines_added h = h.new - h.back - h.front

-- how many lines it shows of a text of which so many stand between them
abbrev pub hunk_length : Hunk → ℕ → ℕ
hunk_length h own = before h + own + after h

-- the number of the first of so many lines, and of the one before where they are none
abbrev pub first_line : Hunk → ℕ → ℕ
first_line h n = cond (n == 0) (hidden h) (hidden h + 1)

-- where they begin, and how many they are
abbrev pub range_text : Hunk → ℕ → List ℕ
range_text h n = decimal (first_line h n) ++ (44 ∷ decimal n)

-- where the hunk stands in either text
abbrev pub place_text : Hunk → List ℕ
place_text h = codes "@@ -" ++ (range_text h (hunk_length h (lines_removed h)) ++ (codes " +" ++ (range_text h (hunk_length h (lines_added h)) ++ codes " @@\n")))

-- whether lines are left out, which the place tells
abbrev pub is_cut : Hunk → Bool
is_cut h = nat_lt 3 h.front || nat_lt 3 h.back

abbrev pub head_text : Hunk → List ℕ
head_text h = cond (is_cut h) (place_text h) []

-- so many lines from one on
abbrev pub some_lines : ℕ → ℕ → List (List ℕ) → List (List ℕ)
some_lines from count lines = take count (drop from lines)

-- the same of a text, each with a mark in front
abbrev pub marked_part : List ℕ → ℕ → ℕ → List ℕ → List ℕ
marked_part mark from count text = flat_map (λ line. mark ++ line) (some_lines from count (lines_of text))

-- The hunk: its place where lines are left out, then its lines in their order: those of both texts indented, those of the old one with `- ` in
-- front, and those of the new one with `+ `.
abbrev pub hunk_text : Hunk → List ℕ → List ℕ → List ℕ
hunk_text h old new =
    head_text h
    ++ (marked_part (codes "  ") (hidden h) (before h) old
    ++ (marked_part (codes "- ") h.front (lines_removed h) old
    ++ (marked_part (codes "+ ") h.front (lines_added h) new
    ++ marked_part (codes "  ") (tail_start h) (after h) old)))
