-- What is known of a sink that notes whether the last text went out, over a stream that is stamped.
use Rattle.std.specs.Prelude.{◌≡◌, ℕ, Bool, List, Option}
use Rattle.disk_model.specs.Disk.{DiskView}
use Rattle.tellings.specs.Voice.{Voice}
use Rattle.driver.specs.Place.{SinkRules, sink_rules}

-- What was printed so far, where that is known, and whether all of the last text went out.
pub record PrintedSoFar : Type 0 where
  pub text : Option (List ℕ)
  pub whole : Bool

abbrev pub printed_so_far : Option (List ℕ) → Bool → PrintedSoFar
printed_so_far text whole = record { text = text; whole = whole }

-- Each text is tried after those before it, and whether all of it went out is noted. When it was tried the stream held what was printed so far, and the disk
-- was in this state: `held` says that there was such a moment. Each byte after these was written later.
abbrev pub noting_rules : Voice → (Option (List ℕ) → DiskView → Type 0) → SinkRules PrintedSoFar
noting_rules V held = sink_rules V (λ k. k.text) (λ k disk text whole l. held k.text disk × (l.whole ≡ whole))
