-- What is printed in JSON is whole lines. No public clause speaks of it: each voice cites it where it meets `Tells`.
use Rattle.std.proofs.Common.{◌≡◌, ◌∙◌, ℕ, List, [], ◌∷◌, ◌++◌, false, Option, Some, None, ap, append-nil, append_assoc, inl, inr, refl, subst, sym}
use Rattle.std.proofs.lemmas.Bool.{true≢false}
use Rattle.std.specs.List.{flat_map}
use Rattle.worksheet.specs.Contents.{Contents}
use Rattle.worksheet.specs.declared.field.Field.{Field}
use Rattle.plugin_core.specs.declared.step.Ended.{Ended}
use Rattle.host_events.specs.declared.reply.ChildReply.{ChildReply}
use Rattle.host_events.specs.declared.reply.Reply.{Reply}
use Rattle.host_events.specs.declared.reply.Reply.TheVariants as reply
use Rattle.session_engine.specs.World.{World, in_flight, sheet_in}
use Rattle.serde_json.specs.Written.{compact_text}
use Rattle.sheet_json.specs.Objects.{telling_data}
use Rattle.sheet_json.specs.Sheets.{telling_line}
use Rattle.sheet_json.specs.Shown.{field_reported}
use Rattle.sheet_json.specs.Tellings.{EventReported, Telling}
use Rattle.sheet_json.specs.Tellings as reported
use Rattle.tellings.specs.Json as texts
use Rattle.tellings.specs.Words.{in_words}
use Rattle.tellings.specs.Voice.{AreLines, KeepsToLines, Voice}

-- lines after lines
pub lines_joined : (a b : List ℕ) → AreLines a → AreLines b → AreLines (a ++ b)
lines_joined a b first (inl is) = subst AreLines (sym (ap (λ t. a ++ t) is ∙ append-nil a)) first
lines_joined a b first (inr (before, is)) = inr (a ++ before, ap (λ t. a ++ t) is ∙ sym (append_assoc a before (10 ∷ [])))

pub lines_of_each : {X : Type 0} (f : X → List ℕ) → ((x : X) → AreLines (f x)) → (xs : List X) → AreLines (flat_map f xs)
lines_of_each f each [] = inl refl
lines_of_each f each (x ∷ xs) = lines_joined (f x) (flat_map f xs) (each x) (lines_of_each f each xs)

-- a voice that doesn't write in lines keeps to them
pub no_lines : (V : Voice) → V.in_lines ≡ false → KeepsToLines V
no_lines V not = record { reply = λ so. absurd (true≢false (sym so ∙ not)); came = λ so. absurd (true≢false (sym so ∙ not)) }

pub telling_in_line : (t : Telling) → AreLines (telling_line t)
telling_in_line t = inr (compact_text (telling_data t), refl)

event_in_line : (session : List ℕ) (life : ℕ) (e : Option EventReported) → AreLines (texts.event_line session life e)
event_in_line session life None = inl refl
event_in_line session life (Some e) = telling_in_line (reported.event session life e)

pub closed_in_lines : (sheet : Contents) (next : Option (List ℕ)) (child : ChildReply) → AreLines (texts.closed_json sheet next child)
closed_in_lines sheet next child = event_in_line child.name child.life _

pub default_in_lines : (child : ChildReply) → AreLines (texts.default_json child)
default_in_lines child = event_in_line child.name child.life _

child_in_lines : (sheet : Contents) (next : Option (List ℕ)) (child : ChildReply) → AreLines (texts.child_json sheet next child)
child_in_lines sheet next child =
    lines_joined (texts.closed_json sheet next child) (texts.default_json child ++ texts.ended_json child) (closed_in_lines sheet next child)
    (lines_joined (texts.default_json child) (texts.ended_json child) (default_in_lines child) (event_in_line child.name child.life _))

pub came_in_lines : (w : World) (r : Reply) → AreLines (texts.came_json w r)
came_in_lines w (reply.Child child) = child_in_lines (sheet_in w) (texts.prompt_at w child.name) child
came_in_lines w reply.Done = inl refl
came_in_lines w (reply.Field id) = inl refl
came_in_lines w (reply.Asked life) = inl refl
came_in_lines w (reply.Refused why) = inl refl
came_in_lines w reply.Nothing = inl refl

stopped_in_line : (line : ℕ) (child : ChildReply) (ended : Option Ended) → AreLines (texts.stopped_with line child ended)
stopped_in_line line child None = telling_in_line (reported.reply line reported.done)
stopped_in_line line child (Some ended) = telling_in_line (reported.stopped line child.name child.life ended.lost)

reply_in_line : (line : ℕ) (r : Reply) → AreLines (texts.reply_json line r)
reply_in_line line reply.Done = telling_in_line (reported.reply line reported.done)
reply_in_line line (reply.Field id) = telling_in_line (reported.reply line (reported.made id))
reply_in_line line (reply.Asked life) = telling_in_line (reported.reply line (reported.asked life))
reply_in_line line (reply.Refused why) = telling_in_line (reported.reply line (reported.refused why))
reply_in_line line (reply.Child child) = stopped_in_line line child child.ended
reply_in_line line reply.Nothing = telling_in_line (reported.reply line reported.nothing)

pub json_in_lines : KeepsToLines texts.in_json
json_in_lines = record { reply = λ so line sheet r. reply_in_line line r; came = λ so. came_in_lines }

pub parts_in_lines : (line : ℕ) (w : World) (fields : List Field) → AreLines (texts.parts_text line w fields)
parts_in_lines line w fields = lines_of_each (texts.part_line line w) (λ field. telling_in_line (reported.part line (field_reported (in_flight w field.id) field))) fields

pub words_in_no_lines : KeepsToLines in_words
words_in_no_lines = no_lines in_words refl
