-- A format of what is printed of a live worksheet: in words, or as JSON.
use Rattle.std.specs.Prelude.{◌≡◌, ◌⊎◌, ℕ, ◌+◌, Bool, false, true, List, [], ◌∷◌, ◌++◌, MatchResult, Option, Result, codes}
use Rattle.std.specs.Io.KnownBytes.{Appends}
use Rattle.std.specs.List.{flat_map}
use Rattle.worksheet.specs.Contents.{Contents}
use Rattle.host_events.specs.declared.outcome.Outcome.{Outcome}
use Rattle.host_events.specs.declared.reply.Reply.{Reply}
use Rattle.session_engine.specs.World.{World}
use Rattle.offline_programs.specs.declared.fault.RunFault.{RunFault}
use Rattle.offline_programs.specs.declared.fault.RunFault.TheVariants as fault
use Rattle.sheet_export.specs.declared.formats.Format.{Format}
use Rattle.tellings.specs.declared.note.Boundary.{Boundary}
use Rattle.tellings.specs.declared.note.Note.{Note}

-- The texts of a voice. In what is printed of a line, the number of the line comes first.
pub record Voice : Type 0 where
  -- what stands first and last
  pub frame : Boundary → List ℕ
  -- what is printed of a line, or of a wait that it began, apart from replies
  pub note : Note → List ℕ
  -- the reply to a line, where this is the worksheet after it
  pub reply : ℕ → Contents → Reply → List ℕ
  -- what came of a life, where events led to this world
  pub came : World → Reply → List ℕ
  -- a worksheet, and the field with this number
  pub sheet : ℕ → World → List ℕ
  pub field : ℕ → ℕ → World → List ℕ
  -- a worksheet in a format, or that it isn't written in it
  pub exported : ℕ → Format → Contents → List ℕ
  -- a fault, which is printed last
  pub fault : RunFault → List ℕ
  -- whether memory is taken for what is written
  pub takes_memory : Bool
  -- whether what is printed of a line, and of what came of a life, is whole lines
  pub in_lines : Bool

-- The title of a worksheet's page: no path of it is known.
abbrev pub page_title : List ℕ
page_title = codes "worksheet"

-- what came of lives, in order, where events led to this world
abbrev pub lives_text : Voice → World → List Reply → List ℕ
lives_text V w replies = flat_map (V.came w) replies

-- the replies to as many lines, of which this is the number of the first, where this is the worksheet after all of them
abbrev pub numbered_text : Voice → ℕ → Contents → List Outcome → List ℕ
numbered_text V line sheet [] = []
numbered_text V line sheet (o ∷ outcomes) = V.reply line sheet o.reply ++ numbered_text V (line + 1) sheet outcomes

-- these bytes are whole lines, or none
abbrev pub AreLines : List ℕ → Type 0
AreLines bytes = (bytes ≡ []) ⊎ ((before : List ℕ) × (bytes ≡ before ++ 10 ∷ []))

-- Where a voice writes in lines, what it prints of a line and of what came of a life is whole lines.
pub record KeepsToLines (V : Voice) : Type 0 where
  pub reply : V.in_lines ≡ true → (line : ℕ) (sheet : Contents) (r : Reply) → AreLines (V.reply line sheet r)
  pub came : V.in_lines ≡ true → (w : World) (r : Reply) → AreLines (V.came w r)

-- A beginning of this text was written, of whole lines where the voice writes in lines, and nothing else.
pub record WroteFront (in_lines : Bool) (old new : Option (List ℕ)) (text : List ℕ) : Type 0 where
  pub front : List ℕ
  pub rest : List ℕ
  pub split : front ++ rest ≡ text
  pub lines : in_lines ≡ true → AreLines front
  pub wrote : Appends old new front

-- what was written of a text where the writer failed: of a voice that writes in lines a beginning of it
abbrev pub BrokenOff : Bool → Option (List ℕ) → Option (List ℕ) → List ℕ → RunFault → Type 0
BrokenOff in_lines old new text why = why ≡ fault.Output → in_lines ≡ true → WroteFront false old new text

-- What was written of a text, and not whole: where there was no memory for it, and where the writer failed.
pub record CutShort (in_lines : Bool) (old new : Option (List ℕ)) (text : List ℕ) (why : RunFault) : Type 0 where
  pub lacked : why ≡ fault.OutOfMemory → WroteFront in_lines old new text
  pub broken : BrokenOff in_lines old new text why

-- what was written of a line of JSON: all of it, or, where the writer failed, a beginning of it
abbrev pub WroteLine : Result (Unit {0}) RunFault → Option (List ℕ) → Option (List ℕ) → List ℕ → Type 0
WroteLine result old new text = MatchResult result (λ _. Appends old new text) (BrokenOff true old new text)

-- nothing was written where there was no memory for the text
abbrev pub Unwritten : {W : Type 0} → W → W → RunFault → Type 0
Unwritten old new why = why ≡ fault.OutOfMemory → new ≡ old

-- Why something isn't printed: the writer failed, or there was no memory for it.
abbrev pub IsWithheld : Voice → RunFault → Type 0
IsWithheld V why = (why ≡ fault.Output) ⊎ ((why ≡ fault.OutOfMemory) × (V.takes_memory ≡ true))
