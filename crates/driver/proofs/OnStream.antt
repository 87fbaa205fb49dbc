-- A run that prints with a voice on a stream, as it is seen by what the stream holds.
use Rattle.std.proofs.Common.{◌≡◌, ℕ, Bool, List}
use Rattle.std.specs.Prelude.{Option, Result}
use Rattle.disk_model.specs.Disk.{DiskView}
use Rattle.offline_programs.specs.declared.fault.RunFault.{RunFault}
use Rattle.tellings.specs.Voice.{Voice}
use Rattle.driver.specs.declared.noting.Noting.{Noting}
use Rattle.driver.specs.declared.voiced.Voiced.{Voiced}
use Rattle.driver.specs.Noted.{PrintedSoFar, noting_rules, printed_so_far}
use Rattle.driver.specs.Over.{Over, ProgramParts, program_parts}
use Rattle.driver.specs.Place.{AgendaRules, SinkRules, SourceRules, rules, sink_rules}
use Rattle.driver.proofs.Seen.{over_seen}

module _ {A C T W : Type 0} (S : AgendaRules A) (s : SourceRules C) (V : Voice) (contents : W → Option (List ℕ)) (held : Option (List ℕ) → DiskView → Type 0) where
  abbrev given_sink : SinkRules (Noting (Voiced T W))
  given_sink = sink_rules V (λ k. contents k.sink.writer) (λ k disk text whole l. held (contents k.sink.writer) disk × (l.whole ≡ whole))

  abbrev seen_of : ProgramParts A C (Noting (Voiced T W)) → ProgramParts A C PrintedSoFar
  seen_of x = program_parts x.disk x.sources (printed_so_far (contents x.sink.sink.writer) x.sink.whole) x.agenda

  pub over_on_stream : (first last : ProgramParts A C (Noting (Voiced T W))) (answer : Result (Unit {0}) RunFault) → Over (rules S s given_sink) first last answer
      → Over (rules S s (noting_rules V held)) (seen_of first) (seen_of last) answer
  over_on_stream first last answer o =
      over_seen (rules S s given_sink) S (λ (k : PrintedSoFar). k.text) (λ (k : PrintedSoFar) (disk : DiskView) (text : List ℕ) (whole : Bool) (l : PrintedSoFar). held k.text disk × (l.whole ≡ whole))
      (λ (a : A). a) (λ (k : Noting (Voiced T W)). printed_so_far (contents k.sink.writer) k.whole)
      (λ a w n r b said. said) (λ a w b reported. reported) (λ a w n c note b heeds. heeds) (λ a w first more b joins. joins) (λ k d text whole l t. record { tried = t.tried; appends = t.appends })
      (λ k d text whole l t. record { tries = record { tried = t.tries.tried; appends = t.tries.appends }; front = t.front })
      (λ k d text why l t. record { tried = t.tried; cut = t.cut }) first last answer o
