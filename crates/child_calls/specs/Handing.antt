-- Children that are processes: each call on a child is one call on the process of its life, and what that answered is the answer.
use Rattle.std.specs.Prelude.{◌≡◌, ◌⊎◌, ◌==◌, ◌&&◌, ◌++◌, ℕ, Bool, List, [], ◌∷◌, Option, Some, None, position, remove, slice_set}
use Rattle.std.specs.Str.{bytes_eq}
use Rattle.child_calls.specs.Calls.{Call, start, send, receive, interrupt, stop, Answer, done, fault, no_memory}
use Rattle.child_calls.specs.Deeds.{Deed}
use Rattle.child_calls.specs.Parts.{ByFirst}
use Rattle.child_calls.specs.Deeds as deed
use Rattle.child_calls.specs.declared.lives.RunningProcess.{RunningProcess}

-- What the calls on processes, and on what launches them, may lead to.
pub record Ways (L P : Type 0) : Type 1 where
  -- words were launched: the process, or none
  pub launched : L → List (List ℕ) → Option P → L → Type 0
  -- a process was sent the signal SIGINT
  pub signalled : L → P → Answer → L → P → Type 0
  pub did : P → Deed → Answer → P → Type 0

abbrev pub ways : {L P : Type 0} → (L → List (List ℕ) → Option P → L → Type 0) → (L → P → Answer → L → P → Type 0) → (P → Deed → Answer → P → Type 0) → Ways L P
ways launched signalled did = record { launched = launched; signalled = signalled; did = did }

-- What launches processes, and those that run, in the order in which they were started.
pub record Stand (L P : Type 0) : Type 0 where
  pub launcher : L
  pub running : List (RunningProcess P)

abbrev pub stand : {L P : Type 0} → L → List (RunningProcess P) → Stand L P
stand launcher running = record { launcher = launcher; running = running }

abbrev pub runs_for : {P : Type 0} → List ℕ → ℕ → RunningProcess P → Bool
runs_for name life r = bytes_eq r.name name && (r.life == life)

-- the process of a life
abbrev pub launched_for : {P : Type 0} → List ℕ → ℕ → P → RunningProcess P
launched_for name life p = record { name = name; life = life; process = p }

-- the same life, whose process stands so now
abbrev pub with_process : {P : Type 0} → P → RunningProcess P → RunningProcess P
with_process p r = record r { process = p }

module _ {L P : Type 0} (s : Stand L P) where
  -- by the first child of this life; where none runs nothing is called, and the answer is a fault
  abbrev pub AtLife : List ℕ → ℕ → Answer → Stand L P → (ℕ → RunningProcess P → Type 0) → Type 0
  AtLife name life a t by = ByFirst (position (runs_for name life) s.running) s.running ((a ≡ fault) × (t ≡ s)) by

  -- this process is in the place of the one that was there, and all else is as before
  abbrev pub Changed : ℕ → RunningProcess P → P → L → Stand L P → Type 0
  Changed i r p launcher t = t ≡ stand launcher (slice_set s.running i (with_process p r))

module _ {L P : Type 0} (w : Ways L P) where
  -- Each call is one call of its kind on the process of its life, which no other call touches. A piece that was read, and that there is no
  -- memory to hand out, is answered as a fault.
  abbrev pub HandsOn : Stand L P → Call → Answer → Stand L P → Type 0
  HandsOn s (start name life words) a t =
      ((p : P) × w.launched s.launcher words (Some p) t.launcher × (a ≡ done) × (t.running ≡ s.running ++ launched_for name life p ∷ []))
      ⊎ ((a ≡ fault) × (t.running ≡ s.running) × ((t.launcher ≡ s.launcher) ⊎ w.launched s.launcher words None t.launcher))
  HandsOn s (send name life bytes) a t =
      AtLife s name life a t (λ i r. (p : P) × w.did r.process (deed.write bytes) a p × Changed s i r p s.launcher t)
  HandsOn s (receive name life) a t =
      ((a ≡ no_memory) × (t ≡ s))
      ⊎ AtLife s name life a t
      (λ i r. (p : P) × (came : Answer) × w.did r.process deed.read came p × Changed s i r p s.launcher t × ((a ≡ came) ⊎ (a ≡ fault)))
  HandsOn s (interrupt name life) a t =
      AtLife s name life a t (λ i r. (p : P) × (launcher : L) × w.signalled s.launcher r.process a launcher p × Changed s i r p launcher t)
  HandsOn s (stop name life) a t =
      AtLife s name life a t (λ i r. (p : P) × w.did r.process deed.stop a p × (t ≡ stand s.launcher (remove s.running i)))
