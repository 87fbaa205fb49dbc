-- Which life an interrupt is of.
use Rattle.std.proofs.Common.{◌≡◌, ℕ, List, Option, Some, None, refl, ap, sym, ◌∙◌, subst}
use Rattle.std.specs.Prelude.{option_map}
use Rattle.worksheet.specs.Contents.{Contents}
use Rattle.worksheet.specs.Checks.{session_named}
use Rattle.worksheet.specs.declared.field.Session.{Session}
use Rattle.session_engine.specs.declared.host.LifeView.{LifeView}
use Rattle.session_engine.specs.World.{World, life_of, sheet_in}
use Rattle.child_edge.specs.Faithful.{Relation}
use Rattle.child_edge.specs.Interrupts.{Interrupts, InterruptsFirst, InterruptsOf}
use Rattle.child_edge.specs.Seats.{life_view, seat_of}
use Rattle.child_edge.specs.declared.interrupting.Interrupted.{Interrupted}
use Rattle.child_edge.specs.declared.interrupting.Interrupted.TheVariants as interrupted

-- the session of a host's worksheet by bytes that are a name
pub named : (sheet : Contents) (w : World) (bytes name : List ℕ) (s : Option Session) → sheet ≡ sheet_in w → bytes ≡ name → s ≡ session_named sheet.sessions bytes
    → s ≡ session_named (sheet_in w).sessions name
named sheet w bytes name s of_world of_name e = e ∙ (ap (λ (x : Contents). session_named x.sessions bytes) of_world ∙ ap (λ (x : List ℕ). session_named (sheet_in w).sessions x) of_name)

module _ {C : Type 0} (R : Relation C) (w : World) (name : List ℕ) (c : C) (s : Option Session) (is : s ≡ session_named (sheet_in w).sessions name) where
  pub no_session : s ≡ None → Interrupts R w name c interrupted.NoSession c
  no_session none = subst (λ (x : Option Session). InterruptsOf R x (seat_of name (option_map life_view (life_of w name))) c interrupted.NoSession c) (sym none ∙ is) (refl, refl)

  pub in_session : (d : C) (reported : Interrupted) (one : Session) (view : Option LifeView) → s ≡ Some one → view ≡ option_map life_view (life_of w name)
      → InterruptsFirst R (seat_of name view) c reported d → Interrupts R w name c reported d
  in_session d reported one view some life p =
      subst (λ (x : Option Session). InterruptsOf R x (seat_of name (option_map life_view (life_of w name))) c reported d) (sym some ∙ is)
      (subst (λ (v : Option LifeView). InterruptsFirst R (seat_of name v) c reported d) life p)
