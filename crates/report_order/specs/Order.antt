-- Ops that are reported when they are durable: the common order of a log's history and of what was reported.
use Rattle.std.specs.Prelude.{◌≡◌, ◌⊎◌, ℕ, List, [], ◌∷◌, ◌++◌, Bool, true, false, Result, MatchResult}
use Rattle.report_order.specs.Log.{LogHistory, LeavesAlways, all_durable}

-- these ops stand first
pub record BeginsWith (ops all : List ℕ) : Type 0 where
  pub rest : List ℕ
  pub is : all ≡ ops ++ rest

-- What a log had, and ops after that.
pub record Added : Type 0 where
  pub before : List ℕ
  pub ops : List ℕ

-- these two as one value
abbrev pub added_to : List ℕ → List ℕ → Added
added_to before ops = record { before = before; ops = ops }

-- From one teller to another these ops were reported, one after another. When one was, the log's history was `at`, which the teller's
-- relation names; and from that moment to the last one a crash leaves that op and all before it.
pub data ReportedInOrder {W : Type 0} (tried : W → ℕ → LogHistory → Bool → W → Type 0) (before : List ℕ) (last : LogHistory) : List ℕ → W → W → Type 0 where
  none : {w : W} → ReportedInOrder tried before last [] w w
  more : {done : List ℕ} {op : ℕ} {w mid new : W} {at : LogHistory} → ReportedInOrder tried before last done w mid
      → tried mid op at true new → LeavesAlways (BeginsWith (before ++ (done ++ op ∷ []))) at last
      → ReportedInOrder tried before last (done ++ op ∷ []) w new

-- The first of the other ops couldn't be reported whole; it was durable, too, before that was tried.
pub record NextWithheld {W : Type 0} (tried : W → ℕ → LogHistory → Bool → W → Type 0) (x : Added) (rest : List ℕ) (last : LogHistory) (mid new : W) : Type 0 where
  pub op : ℕ
  pub tail : List ℕ
  pub split : rest ≡ op ∷ tail
  pub at : LogHistory
  pub went : tried mid op at false new
  pub kept : LeavesAlways (BeginsWith (x.before ++ (x.ops ++ op ∷ []))) at last

-- Some of the first ops were put on the log and reported: all, and the log has these and no more; or the log failed at the next one, of which
-- nothing was reported; or that couldn't be reported.
pub record ServedInOrder {W E : Type 0} (tried : W → ℕ → LogHistory → Bool → W → Type 0) (x : Added) (last : LogHistory) (old new : W) (result : Result Unit E) : Type 0 where
  pub done : List ℕ
  pub rest : List ℕ
  pub split : x.ops ≡ done ++ rest
  pub mid : W
  pub reported : ReportedInOrder tried x.before last done old mid
  pub end : MatchResult result (λ _. (rest ≡ []) × (new ≡ mid) × (last.now ≡ all_durable (x.before ++ x.ops)))
      (λ _. (new ≡ mid) ⊎ NextWithheld tried (added_to x.before done) rest last mid new)
