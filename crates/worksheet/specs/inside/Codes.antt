-- Worksheets as tuples, as the check wants it for a value that contracts see.
use Rattle.std.specs.Prelude.{ℕ, Bool, List, Option, refl}
use Rattle.std.specs.Coded.{Coded, code_by, coded×, coded_ℕ, coded_bool, coded_list, coded_option}
use Rattle.block_tree.specs.Tree.{Tree}
use Rattle.block_tree.specs.inside.Code.{coded_tree}
use Rattle.block_tree.specs.inside.ReasonCode.{coded_reason}
use Rattle.block_tree.specs.declared.reason.Reason.{Reason}
use Rattle.worksheet.specs.declared.field.Answer.{Answer}
use Rattle.worksheet.specs.declared.field.Field.{Field}
use Rattle.worksheet.specs.declared.field.Session.{Session}
use Rattle.worksheet.specs.Contents.{Contents, SheetView}

abbrev pub coded_bytes : Coded (List ℕ)
coded_bytes = coded_list coded_ℕ

abbrev pub coded_answer : Coded Answer
coded_answer = code_by (List ℕ × Tree) (coded× coded_bytes coded_tree)
    (λ a. (a.prompt, a.output)) (λ p. record { prompt = p.0; output = p.1 }) (λ _. refl)

abbrev pub coded_field : Coded Field
coded_field = code_by (ℕ × (List ℕ × (List ℕ × (Option Answer × Option Reason)))) (coded× coded_ℕ (coded× coded_bytes (coded× coded_bytes (coded× (coded_option coded_answer) (coded_option coded_reason)))))
    (λ f. (f.id, (f.session, (f.input, (f.answer, f.lost))))) (λ p. record { id = p.0; session = p.1.0; input = p.1.1.0; answer = p.1.1.1.0; lost = p.1.1.1.1 }) (λ _. refl)

abbrev pub coded_session : Coded Session
coded_session = code_by (List ℕ × (Bool × List (List ℕ))) (coded× coded_bytes (coded× coded_bool (coded_list coded_bytes)))
    (λ s. (s.name, (s.tab, s.words))) (λ p. record { name = p.0; tab = p.1.0; words = p.1.1 }) (λ _. refl)

abbrev pub coded_contents : Coded Contents
coded_contents = code_by (List Field × (List Session × ℕ)) (coded× (coded_list coded_field) (coded× (coded_list coded_session) coded_ℕ))
    (λ s. (s.fields, (s.sessions, s.next))) (λ p. record { fields = p.0; sessions = p.1.0; next = p.1.1 }) (λ _. refl)

abbrev pub coded_held : Coded SheetView
coded_held = code_by (Contents × (Option ℕ × Option (List ℕ))) (coded× coded_contents (coded× (coded_option coded_ℕ) (coded_option coded_bytes)))
    (λ h. (h.contents, (h.field_room, h.session_room))) (λ p. record { contents = p.0; field_room = p.1.0; session_room = p.1.1 }) (λ _. refl)
