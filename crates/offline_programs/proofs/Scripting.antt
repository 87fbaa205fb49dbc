-- Lines of a script over a worksheet, one after another.
use Rattle.std.proofs.Common.{◌≡◌, ◌+◌, ◌≤◌, ℕ, zero, suc, true, false, List, [], ◌∷◌, ◌++◌, Option, Some, None, refl, ap, sym, ◌∙◌, subst, append_assoc, append-nil, length, drop, arith}
use Rattle.std.proofs.KnownBytes.{Appends-trans, Appends-nil}
use Rattle.std.proofs.lemmas.Bool.{false≢true}
use Rattle.std.proofs.lemmas.List.{length-map}
use Rattle.std.specs.Io.KnownBytes.{Appends}
use Rattle.bstr.specs.Text.{lines_of, lines_from, line_len, without_terminator}
use Rattle.worksheet.specs.declared.op.Op.{Op}
use Rattle.worksheet.specs.declared.op.Op.TheVariants as op
use Rattle.worksheet.specs.declared.refusal.Refusal.{Refusal}
use Rattle.worksheet.specs.declared.refusal.Refusal.TheVariants as refusal
use Rattle.worksheet.specs.Contents.{Contents, SheetView}
use Rattle.worksheet.specs.Ops.{sheet_of}
use Rattle.worksheet.specs.Checks.{first_refusal, room_for, takes_memory}
use Rattle.host_events.specs.declared.reply.Reply.{Reply}
use Rattle.host_events.specs.declared.reply.Reply.TheVariants as reply
use Rattle.sheet_text.specs.Script.{line_of, wants_memory}
use Rattle.sheet_text.specs.Texts.{reply_text}
use Rattle.sheet_text.specs.declared.script.ScriptLine.{ScriptLine}
use Rattle.sheet_text.specs.declared.script.ScriptLine.TheVariants as line
use Rattle.host_events.specs.Commands.{reply_to}
use Rattle.offline_programs.specs.Memory.{OpRan, done, refused, unkept, LineRan, unread, LinesRan, script_lines}

-- An op.

abbrev pub OpDone : List Op → Op → Reply → Contents → Type 0
OpDone ops o answer sheet = (after : List Op) × OpRan ops o answer after × (sheet ≡ sheet_of after)

pub op_refused : (ops : List Op) (o : Op) (s : Contents) (why : Refusal) → s ≡ sheet_of ops → Some why ≡ first_refusal s o → OpDone ops o (reply.Refused why) s
op_refused ops o s why h e = (ops, refused why (subst (λ t. first_refusal t o ≡ Some why) h (sym e)), h)

pub op_done : (ops : List Op) (o : Op) (s t : Contents) (answer : Reply) → s ≡ sheet_of ops → None ≡ first_refusal s o → answer ≡ reply_to s o → t ≡ sheet_of (ops ++ o ∷ []) → OpDone ops o answer t
op_done ops o s t answer h e is k =
    (ops ++ o ∷ [], subst (λ a. OpRan ops o a (ops ++ o ∷ [])) (sym (is ∙ ap (λ c. reply_to c o) h)) (done (subst (λ c. first_refusal c o ≡ None) h (sym e))), k)

-- an op for which there may be no room takes memory
pub takes_when_refused : (held : SheetView) (o : Op) → (room_for held o ≡ true → ⊥) → takes_memory o ≡ true
takes_when_refused held (op.Session name tab words) h = refl
takes_when_refused held (op.New after session input) h = refl
takes_when_refused held (op.Set id input) h = absurd (h refl)
takes_when_refused held (op.Remove id) h = absurd (h refl)
takes_when_refused held (op.Move id after) h = absurd (h refl)
takes_when_refused held (op.Clear id) h = absurd (h refl)
takes_when_refused held (op.Answer id prompt output) h = absurd (h refl)
takes_when_refused held (op.Lost id reason) h = absurd (h refl)
takes_when_refused held (op.Ids number) h = absurd (h refl)

pub op_unkept : (ops : List Op) (o : Op) (s t : Contents) (answer : Reply) → takes_memory o ≡ true → s ≡ sheet_of ops → None ≡ first_refusal s o → answer ≡ reply.Refused refusal.OutOfMemory → t ≡ s → OpDone ops o answer t
op_unkept ops o s t answer grows h e is k =
    (ops, subst (λ a. OpRan ops o a ops) (sym is) (unkept grows (subst (λ c. first_refusal c o ≡ None) h (sym e))), k ∙ h)

-- A line.

pub as_said : (number : ℕ) (ops : List Op) (text : List ℕ) (after : List Op) (l : Option ScriptLine) (m : Option ScriptLine) → l ≡ m → LineRan number ops m text after → LineRan number ops l text after
as_said number ops text after l m e ran = subst (λ x. LineRan number ops x text after) (sym e) ran

pub unread_line : (number : ℕ) (ops : List Op) (l : Option ScriptLine) → wants_memory l ≡ true → LineRan number ops l (reply_text (reply.Refused refusal.OutOfMemory)) ops
unread_line number ops None h = let e : false ≡ true = h in absurd (false≢true e)
unread_line number ops (Some line.Skip) h = absurd (false≢true h)
unread_line number ops (Some line.Wait) h = absurd (false≢true h)
unread_line number ops (Some line.Print) h = absurd (false≢true h)
unread_line number ops (Some (line.Command reported)) h = unread reported h

-- Lines.

-- what is written so far is what the lines so far give, whatever the rest gives
pub record SoFar (a b : Option (List ℕ)) (sheet : Contents) (number : ℕ) (lines all : List (List ℕ)) : Type 0 where
  pub ops : List Op
  pub text : List ℕ
  pub stands : sheet ≡ sheet_of ops
  pub wrote : Appends a b text
  pub goes_on : (rest : List ℕ) → LinesRan (number + 1) ops lines rest → LinesRan 1 [] all (text ++ rest)

pub nothing_so_far : (a : Option (List ℕ)) (sheet : Contents) (all : List (List ℕ)) → sheet ≡ sheet_of [] → SoFar a a sheet 0 all all
nothing_so_far a sheet all h = record { ops = []; text = []; stands = h; wrote = Appends-nil a; goes_on = λ rest ran. ran }

pub one_more : (a b c : Option (List ℕ)) (sheet new : Contents) (number : ℕ) (lines : List (List ℕ)) (line : List ℕ) (others all : List (List ℕ)) → lines ≡ line ∷ others
    → (so : SoFar a b sheet number lines all) → (first : List ℕ) (after : List Op) → LineRan (number + 1) so.ops (line_of line) first after → new ≡ sheet_of after → Appends b c first
    → SoFar a c new (number + 1) others all
one_more a b c sheet new number lines line others all e so first after ran k p = record {
  ops = after;
  text = so.text ++ first;
  stands = k;
  wrote = Appends-trans a b c so.text first so.wrote p;
  goes_on = λ rest more. subst (LinesRan 1 [] all) (sym (append_assoc so.text first rest))
      (so.goes_on (first ++ rest) (subst (λ ls. LinesRan (number + 1) so.ops ls (first ++ rest)) (sym e) (first, after, rest, ran, more, refl)));
}

pub all_done : (a b : Option (List ℕ)) (sheet : Contents) (number : ℕ) (lines all : List (List ℕ)) → lines ≡ [] → SoFar a b sheet number lines all → (text : List ℕ) × LinesRan 1 [] all text × Appends a b text
all_done a b sheet number lines all e so =
    (so.text ++ [], so.goes_on [] (subst (λ ls. LinesRan (number + 1) so.ops ls []) (sym e) refl), subst (Appends a b) (sym (append-nil so.text)) so.wrote)

lines-few : (fuel : ℕ) (bytes : List ℕ) → length (lines_from fuel bytes) ≤ fuel
unfolding lines_from
lines-few zero bytes = omega arith
lines-few (suc n) [] = omega arith
lines-few (suc n) (b ∷ rest) = omega (arith, lines-few n (drop (line_len (b ∷ rest)) (b ∷ rest)))

-- a script has at most as many lines as bytes
pub script-few : (bytes : List ℕ) → length (script_lines bytes) ≤ length bytes
script-few bytes = rw (length-map (lines_of bytes) without_terminator) (lines-few (length bytes) bytes)
