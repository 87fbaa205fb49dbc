-- What is printed, as lines of JSON. (docs/use/JSON.md.)
use Rattle.std.specs.Prelude.{ℕ, true, List, [], ◌++◌, Option, Some, None, map, option_map, option_and_then, length, codes, cond}
use Rattle.std.specs.List.{flat_map}
use Rattle.worksheet.specs.Checks.{field_in}
use Rattle.worksheet.specs.Contents.{Contents}
use Rattle.worksheet.specs.declared.field.Field.{Field}
use Rattle.worksheet.specs.declared.field.Session.{Session}
use Rattle.worksheet.specs.declared.refusal.Refusal.TheVariants as refusal
use Rattle.plugin_core.specs.declared.step.Ended.{Ended}
use Rattle.plugin_core.specs.Items.{prompt_of}
use Rattle.host_events.specs.declared.reply.ChildReply.{ChildReply}
use Rattle.host_events.specs.declared.reply.Reply.{Reply}
use Rattle.host_events.specs.declared.reply.Reply.TheVariants as reply
use Rattle.session_engine.specs.World.{Going, World, in_flight, life_of, sheet_in, waiting_in}
use Rattle.child_calls.specs.declared.seat.Seat.{Seat}
use Rattle.child_edge.specs.declared.interrupting.Interrupted.{Interrupted}
use Rattle.child_edge.specs.declared.interrupting.Interrupted.TheVariants as interrupted
use Rattle.offline_programs.specs.declared.fault.RunFault.{RunFault}
use Rattle.sheet_json.specs.Replies.{closed_event, ended_event}
use Rattle.sheet_json.specs.Sheets.{telling_line}
use Rattle.sheet_json.specs.Shown.{field_reported, ids_of, session_shown}
use Rattle.sheet_json.specs.Tellings.{EventReported, SessionShown, Telling}
use Rattle.sheet_json.specs.Tellings as reported
use Rattle.sheet_export.specs.Formats.{format_name, has_text, text_in}
use Rattle.sheet_export.specs.declared.formats.Format.{Format}
use Rattle.tellings.specs.Voice.{Voice, page_title}
use Rattle.tellings.specs.Faults.{fault_name, fault_number, fault_offset}
use Rattle.tellings.specs.declared.note.Boundary.{Boundary}
use Rattle.tellings.specs.declared.note.Boundary.TheVariants as boundary
use Rattle.tellings.specs.declared.note.Note.{Note}
use Rattle.tellings.specs.declared.note.Counts.{Counts}
use Rattle.tellings.specs.declared.note.Overs.{Overs}
use Rattle.tellings.specs.declared.note.Note.TheVariants as note

abbrev pub frame_json : Boundary → List ℕ
frame_json boundary.Hello = telling_line reported.hello
frame_json boundary.End = telling_line reported.end
frame_json (boundary.NoField id) = telling_line (reported.no_field id)
frame_json (boundary.NoProgram name) = telling_line (reported.no_program name)

-- what came of the wish to interrupt an interpreter
abbrev pub interrupt_json : ℕ → Interrupted → List ℕ
interrupt_json line interrupted.NoSession = telling_line (reported.reply line (reported.refused refusal.NoSession))
interrupt_json line interrupted.Idle = telling_line (reported.reply line (reported.interrupted (codes "idle")))
interrupt_json line interrupted.Sent = telling_line (reported.reply line (reported.interrupted (codes "sent")))
interrupt_json line interrupted.Failed = telling_line (reported.reply line (reported.interrupted (codes "failed")))

-- what came of an interrupt, as a word
abbrev pub outcome_name : Interrupted → List ℕ
outcome_name interrupted.NoSession = codes "idle"
outcome_name interrupted.Idle = codes "idle"
outcome_name interrupted.Sent = codes "sent"
outcome_name interrupted.Failed = codes "failed"

-- a life was interrupted, since the time of a wait was over
abbrev pub warned_json : Seat → Interrupted → List ℕ
warned_json seat reported_of = telling_line (reported.event seat.name seat.life (reported.warned (outcome_name reported_of)))

-- what an evaluation came to, with how many fields were over and passed over, where these are counted
abbrev pub counted_json : Counts → Option Overs → List ℕ
counted_json counts None = telling_line (reported.counted counts.answered counts.unanswered counts.errors)
counted_json counts (Some overs) = telling_line (reported.counted_in_time counts.answered counts.unanswered counts.errors overs.over overs.passed)

abbrev pub note_json : Note → List ℕ
note_json (note.Bad line) = telling_line (reported.reply line reported.bad)
note_json (note.Nothing line) = telling_line (reported.reply line reported.nothing)
note_json (note.Waited line timed) = telling_line (reported.reply line (reported.waited timed))
note_json (note.Interrupted line name reported_of) = interrupt_json line reported_of
note_json (note.Over id reported_of) = telling_line (reported.over id (outcome_name reported_of))
note_json (note.Warned seat reported_of) = warned_json seat reported_of
note_json (note.Counted counts) = counted_json counts counts.overs
note_json (note.Undone first last) = telling_line (reported.reply last (reported.undone first))

-- what is printed of a life, if anything
abbrev pub event_line : List ℕ → ℕ → Option EventReported → List ℕ
event_line session life None = []
event_line session life (Some e) = telling_line (reported.event session life e)

-- what closed, with the prompt of the line that would be asked next, the default input of that, and the end of the life
abbrev pub closed_json : Contents → Option (List ℕ) → ChildReply → List ℕ
closed_json sheet next child = event_line child.name child.life (option_and_then (closed_event sheet next) child.closed)

abbrev pub default_json : ChildReply → List ℕ
default_json child = event_line child.name child.life (option_map (λ text. reported.input text) child.default_input)

abbrev pub ended_json : ChildReply → List ℕ
ended_json child = event_line child.name child.life (option_map ended_event child.ended)

abbrev pub child_json : Contents → Option (List ℕ) → ChildReply → List ℕ
child_json sheet next child = closed_json sheet next child ++ (default_json child ++ ended_json child)

-- the prompt that a line of this session would have if it were asked now
abbrev pub prompt_at : World → List ℕ → Option (List ℕ)
prompt_at w name = option_map (λ l. prompt_of l.past l.blocks) (life_of w name)

abbrev pub came_json : World → Reply → List ℕ
came_json w (reply.Child child) = child_json (sheet_in w) (prompt_at w child.name) child
came_json w reply.Done = []
came_json w (reply.Field id) = []
came_json w (reply.Asked life) = []
came_json w (reply.Refused why) = []
came_json w reply.Nothing = []

-- the life that a line stopped, with the items that were lost
abbrev pub stopped_with : ℕ → ChildReply → Option Ended → List ℕ
stopped_with line child None = telling_line (reported.reply line reported.done)
stopped_with line child (Some ended) = telling_line (reported.stopped line child.name child.life ended.lost)

abbrev pub stopped_json : ℕ → ChildReply → List ℕ
stopped_json line child = stopped_with line child child.ended

-- the reply to a line; what comes of a life is one where the line stopped it
abbrev pub reply_json : ℕ → Reply → List ℕ
reply_json line reply.Done = telling_line (reported.reply line reported.done)
reply_json line (reply.Field id) = telling_line (reported.reply line (reported.made id))
reply_json line (reply.Asked life) = telling_line (reported.reply line (reported.asked life))
reply_json line (reply.Refused why) = telling_line (reported.reply line (reported.refused why))
reply_json line (reply.Child child) = stopped_json line child
reply_json line reply.Nothing = telling_line (reported.reply line reported.nothing)

-- a field of a print, by whether its line waits
abbrev pub part_line : ℕ → World → Field → List ℕ
part_line line w field = telling_line (reported.part line (field_reported (in_flight w field.id) field))

abbrev pub parts_text : ℕ → World → List Field → List ℕ
parts_text line w fields = flat_map (part_line line w) fields

-- a session, by its life and by how many items wait in it
abbrev pub waiting_count : Option Going → ℕ
waiting_count None = 0
waiting_count (Some life) = length (waiting_in life)

abbrev pub session_at : World → Session → SessionShown
session_at w s = session_shown (option_map (λ l. l.number) (life_of w s.name)) (waiting_count (life_of w s.name)) s

-- what the fields and sessions are together
abbrev pub whole_reported : ℕ → World → Telling
whole_reported line w = reported.sheet line (ids_of (sheet_in w)) (sheet_in w).next (map (session_at w) (sheet_in w).sessions)

abbrev pub sheet_json : ℕ → World → List ℕ
sheet_json line w = parts_text line w (sheet_in w).fields ++ telling_line (whole_reported line w)

-- the field that a line asks for, or that there is none
abbrev pub field_json : ℕ → World → Option Field → List ℕ
field_json line w None = telling_line (reported.reply line (reported.refused refusal.NoField))
field_json line w (Some field) = telling_line (reported.field line (field_reported (in_flight w field.id) field))

abbrev pub fault_json : RunFault → List ℕ
fault_json why = telling_line (reported.fault (fault_number why) (fault_name why) (fault_offset why))

-- the text of a worksheet in a format, where it has one
abbrev pub text_reported : Format → Contents → Option (List ℕ)
text_reported format sheet = cond (has_text format sheet) (Some (text_in format page_title sheet)) None

abbrev pub exported_json : ℕ → Format → Contents → List ℕ
exported_json line format sheet = telling_line (reported.exported line (format_name format) (text_reported format sheet))

-- Lines of JSON, which programs read.
abbrev pub in_json : Voice
in_json = record {
  frame = frame_json;
  note = note_json;
  reply = λ line sheet r. reply_json line r;
  came = came_json;
  sheet = sheet_json;
  field = λ line id w. field_json line w (field_in (sheet_in w).fields id);
  exported = exported_json;
  fault = fault_json;
  takes_memory = true;
  in_lines = true;
}
