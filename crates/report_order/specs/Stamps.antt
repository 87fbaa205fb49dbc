-- The same over a writer whose bytes are seen: which bytes it held at which moment of the log.
use Rattle.std.specs.Prelude.{◌≡◌, ◌⊎◌, ℕ, List, [], ◌∷◌, ◌++◌, Option, Result, MatchResult, codes}
use Rattle.std.specs.Io.KnownBytes.{Appends}
use Rattle.report_order.specs.Log.{LogHistory, LeavesAlways, all_durable}
use Rattle.report_order.specs.Order.{Added, BeginsWith, added_to}

-- what is written of an op
abbrev pub ok_text : List ℕ
ok_text = codes "ok\n"

-- There was a moment at which the writer held these bytes, and from which on a crash leaves these ops. What the writer holds only grows, so
-- what it held more was written after they were durable.
pub record StampedWith (held_at : Option (List ℕ) → LogHistory → Type 0) (ops : List ℕ) (last : LogHistory) (bytes : Option (List ℕ)) : Type 0 where
  pub at : LogHistory
  pub held : held_at bytes at
  pub kept : LeavesAlways (BeginsWith ops) at last

-- Of each of these ops in turn its text was written, after a moment from which on a crash leaves the op and all before it.
pub data WrittenInOrder (held_at : Option (List ℕ) → LogHistory → Type 0) (before : List ℕ) (last : LogHistory) : List ℕ → Option (List ℕ) → Option (List ℕ) → Type 0 where
  none : {c : Option (List ℕ)} → WrittenInOrder held_at before last [] c c
  more : {done : List ℕ} {c mid new : Option (List ℕ)} (op : ℕ) → WrittenInOrder held_at before last done c mid
      → StampedWith held_at (before ++ (done ++ op ∷ [])) last mid → Appends mid new ok_text
      → WrittenInOrder held_at before last (done ++ op ∷ []) c new

-- The text of the first of the other ops couldn't be written, which was tried after the same.
pub record NextUnwritten (held_at : Option (List ℕ) → LogHistory → Type 0) (x : Added) (rest : List ℕ) (last : LogHistory) (mid : Option (List ℕ)) : Type 0 where
  pub op : ℕ
  pub tail : List ℕ
  pub split : rest ≡ op ∷ tail
  pub stamped : StampedWith held_at (x.before ++ (x.ops ++ op ∷ [])) last mid

-- Some of the first ops were put on the log, and of each of them its text was written: all, and the log has these and no more; or the log
-- failed at the next one, of which nothing is written; or the text of that couldn't be written.
pub record ServesByText {E : Type 0} (held_at : Option (List ℕ) → LogHistory → Type 0) (x : Added) (last : LogHistory) (old new : Option (List ℕ)) (result : Result Unit E) : Type 0 where
  pub done : List ℕ
  pub rest : List ℕ
  pub split : x.ops ≡ done ++ rest
  pub mid : Option (List ℕ)
  pub written : WrittenInOrder held_at x.before last done old mid
  pub end : MatchResult result (λ _. (rest ≡ []) × (new ≡ mid) × (last.now ≡ all_durable (x.before ++ x.ops)))
      (λ _. (new ≡ mid) ⊎ NextUnwritten held_at (added_to x.before done) rest last mid)
