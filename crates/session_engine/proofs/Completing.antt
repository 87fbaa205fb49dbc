-- Lemmas on requests of completions.
use Rattle.std.proofs.Common.{◌≡◌, ◌≤◌, ◌<◌, inl, inr, ⊎_elim, ℕ, zero, suc, List, [], ◌∷◌, length, refl, ap, sym, ◌∙◌, subst, arith, Bool, true, false, Option, Some, None}
use Rattle.std.specs.Prelude.{nat_le, nat_lt, ◌&&◌, not, drop, slice_index}
use Rattle.std.proofs.lemmas.Bool.Decides.{nat_tests}
use Rattle.std.specs.Str.{IsCharBoundary}
use Rattle.disk_model.specs.Disk.{DiskView}
use Rattle.worksheet.specs.declared.refusal.Refusal.{Refusal}
use Rattle.worksheet.specs.declared.refusal.Refusal.TheVariants as refusal
use Rattle.worksheet.specs.declared.field.Field.{Field}
use Rattle.worksheet.specs.Checks.{first_of, field_in}
use Rattle.worksheet.proofs.Finds.{none_applies}
use Rattle.plugin_core.specs.declared.item.Item.{Item}
use Rattle.plugin_core.specs.declared.item.Item.TheVariants as item
use Rattle.host_events.specs.declared.command.Command.{Command}
use Rattle.host_events.specs.declared.command.Command.TheVariants as command
use Rattle.host_events.specs.declared.event.Event.TheVariants as event
use Rattle.host_events.specs.declared.reply.Reply.TheVariants as reply
use Rattle.session_engine.specs.World.{World, sheet_in, life_of, session_of_field, input_of}
use Rattle.session_engine.specs.inside.Words.{by_field}
use Rattle.session_engine.specs.Refused.{begins_inside, is_cursor, queue_refusals, cursor_refusals, tab_refusals}
use Rattle.session_engine.specs.Does.{Does, asks_completions, asks_item, does, tells, following, CommandDoes, MayDo}
use Rattle.session_engine.specs.Host.{HasField, OnDisk}
use Rattle.session_engine.specs.inside.Parts.{asks, with_item}
use Rattle.session_engine.specs.inside.Commits.{GivesRequest, RefusesRequest}
use Rattle.session_engine.proofs.Asking.{asked_reported, asked_leads, asked_on_disk, session_is}
use Rattle.session_engine.proofs.Changing.{first_after}

-- Cursors.

inside : (text : List ℕ) (at : ℕ) → begins_inside (drop at text) ≡ true → (at < length text) × (128 ≤ slice_index text at) × (slice_index text at < 192)
inside [] zero h = cc
inside [] (suc at) h = cc
inside (b ∷ bs) zero h = go (nat_le 128 b) (nat_lt b 192) refl refl h
  where
    go : (x y : Bool) → nat_le 128 b ≡ x → nat_lt b 192 ≡ y → (x && y) ≡ true → (0 < length (b ∷ bs)) × (128 ≤ b) × (b < 192)
    go true true e f h = (omega arith, grind (arith, nat_tests, e), grind (arith, nat_tests, f))
    go true false e f h = cc
    go false y e f h = cc
inside (b ∷ bs) (suc at) h = let i = inside bs at h in let less = i.0 in (omega (arith, less), i.1, i.2)

outside : (text : List ℕ) (at : ℕ) → begins_inside (drop at text) ≡ false → at < length text → 128 ≤ slice_index text at → 192 ≤ slice_index text at
outside [] at h less from = absurd (omega (arith, less))
outside (b ∷ bs) zero h less from = go (nat_le 128 b) (nat_lt b 192) refl refl h
  where
    go : (x y : Bool) → nat_le 128 b ≡ x → nat_lt b 192 ≡ y → (x && y) ≡ false → 192 ≤ b
    go true true e f h = cc
    go true false e f h = grind (arith, nat_tests, f)
    go false y e f h = absurd (grind (arith, nat_tests, e, from))
outside (b ∷ bs) (suc at) h less from = outside bs at h (omega (arith, less)) from

pub cursor_at_boundary : (text : List ℕ) (at : ℕ) → IsCharBoundary text at → is_cursor text at ≡ true
cursor_at_boundary text at h = go (nat_le at (length text)) (begins_inside (drop at text)) refl refl
  where
    go : (x y : Bool) → nat_le at (length text) ≡ x → begins_inside (drop at text) ≡ y → (x && not y) ≡ true
    go true false e f = refl
    go true true e f = let i = inside text at f in let under = i.2 in let least = h.1 i.0 i.1 in absurd (omega (arith, under, least))
    go false y e f = let within = h.0 in absurd (grind (arith, nat_tests, e, within))

pub boundary_at_cursor : (text : List ℕ) (at : ℕ) → is_cursor text at ≡ true → IsCharBoundary text at
boundary_at_cursor text at h = go (nat_le at (length text)) (begins_inside (drop at text)) refl refl h
  where
    go : (x y : Bool) → nat_le at (length text) ≡ x → begins_inside (drop at text) ≡ y → (x && not y) ≡ true → IsCharBoundary text at
    go true false e f h = (grind (arith, nat_tests, e), outside text at f)
    go true true e f h = cc
    go false y e f h = cc

pub no_boundary : (text : List ℕ) (at : ℕ) → (IsCharBoundary text at → ⊥) → is_cursor text at ≡ false
no_boundary text at h = go (is_cursor text at) refl
  where
    go : (b : Bool) → is_cursor text at ≡ b → b ≡ false
    go true e = absurd (h (boundary_at_cursor text at e))
    go false e = refl

-- The first refusal at a cursor.

module _ (w : World) (name text : List ℕ) (cursor : ℕ) where
  pub bad_cursor : (IsCharBoundary text cursor → ⊥) → first_of (cursor_refusals w name text cursor) ≡ Some refusal.BadCursor
  bad_cursor bad = ap (λ (b : Bool). first_of ((refusal.BadCursor, not b) ∷ queue_refusals w (life_of w name))) (no_boundary text cursor bad)

  pub good_cursor : IsCharBoundary text cursor → first_of (cursor_refusals w name text cursor) ≡ first_of (queue_refusals w (life_of w name))
  good_cursor good = ap (λ (b : Bool). first_of ((refusal.BadCursor, not b) ∷ queue_refusals w (life_of w name))) (cursor_at_boundary text cursor good)

-- What is asked of the field's input.

module _ (w : World) (id cursor : ℕ) (f : Field) (e : field_in (sheet_in w).fields id ≡ Some f) (tab : first_of (tab_refusals w id) ≡ None) where
  input_is : input_of w id ≡ f.input
  input_is = ap (λ (o : Option Field). by_field o [] (λ g. g.input)) e

  at_field : (text : List ℕ) → first_of (cursor_refusals w (session_of_field w id) text cursor) ≡ first_of (cursor_refusals w f.session text cursor)
  at_field text = ap (λ (n : List ℕ). first_of (cursor_refusals w n text cursor)) (session_is w id f e)

  asks_is : (text : List ℕ) (i : Item) → i ≡ item.Complete id text cursor → asks_completions w id text cursor ≡ asks_item w i None f.session (life_of w f.session)
  asks_is text i is =
      ap (λ (n : List ℕ). asks_item w (item.Complete id text cursor) None n (life_of w n)) (session_is w id f e)
      ∙ ap (λ (j : Item). asks_item w j None f.session (life_of w f.session)) (sym is)

  pub input_asked : (i : Item) → i ≡ item.Complete id f.input cursor → first_of (cursor_refusals w f.session f.input cursor) ≡ None → GivesRequest w (command.Complete id cursor) f.session i
  input_asked i is none = record {
    none = first_after (tab_refusals w id) (cursor_refusals w (session_of_field w id) (input_of w id) cursor) tab
        ∙ at_field (input_of w id)
        ∙ ap (λ (t : List ℕ). first_of (cursor_refusals w f.session t cursor)) input_is
        ∙ none;
    takes = refl;
    left = (none_applies (cursor_refusals w f.session f.input cursor) none).1.1.0;
    has = subst (λ (j : Item). HasField (sheet_in w) f.session j) (sym is) tt;
    does_is = ap (λ (t : List ℕ). asks_completions w id t cursor) input_is ∙ asks_is f.input i is;
  }

-- What a request does.

pub request_refused : (w : World) (c : Command) (r : Refusal) → RefusesRequest w c r → MayDo w (event.Command c) (tells w (reply.Refused r))
request_refused w c r why = ⊎_elim
    (λ first. subst (λ (x : Option Refusal). CommandDoes w c x (tells w (reply.Refused r))) (sym first) refl)
    (λ want. subst (λ (x : Option Refusal). CommandDoes w c x (tells w (reply.Refused r))) (sym want.0) (inr (want.1, ap (λ (x : Refusal). tells w (reply.Refused x)) want.2)))
    why

module _ (w : World) (c : Command) (name : List ℕ) (i : Item) (g : GivesRequest w c name i) where
  pub request_done : MayDo w (event.Command c) (does w c)
  request_done = subst (λ (x : Option Refusal). CommandDoes w c x (does w c)) (sym g.none) (inl refl)

  pub request_reported : asks w name i (life_of w name) ≡ (does w c).reported
  request_reported = sym (ap (λ (d : Does). d.reported) g.does_is ∙ asked_reported w i None name (life_of w name))

  pub request_leads : with_item w name i (life_of w name) ≡ following w (does w c)
  request_leads = sym (ap (following w) g.does_is ∙ asked_leads w i None name (life_of w name))

  pub request_on_disk : (old new : DiskView) → new ≡ old → OnDisk w.ops (does w c).again (does w c).op old new
  request_on_disk old new same = subst (λ (d : Does). OnDisk w.ops d.again d.op old new) (sym g.does_is) (asked_on_disk w i None name (life_of w name) old new same)
