-- What holds wherever a history leads.
use Rattle.std.proofs.Common.{◌≡◌, ℕ, List, [], ◌∷◌, ◌++◌, refl, sym, subst, arith, Bool, true, false, Option, Some, None}
use Rattle.std.specs.Prelude.{if◌then◌else◌, ◌==◌, ◌||◌}
use Rattle.std.specs.List.{AllByRecursion, list_any}
use Rattle.std.specs.Str.{bytes_eq}
use Rattle.std.proofs.lemmas.Bool.Decides.{nat_tests}
use Rattle.meta_format.specs.Stream.{Outer}
use Rattle.worksheet.specs.declared.op.Op.{Op}
use Rattle.worksheet.specs.declared.op.Op.TheVariants as op
use Rattle.worksheet.specs.Ops.{sheet_of}
use Rattle.worksheet.specs.Checks.{Allowed, first_of, first_refusal}
use Rattle.worksheet.proofs.Finds.{none_applies}
use Rattle.worksheet.proofs.Existence.{allowed_goes_on}
use Rattle.plugin_core.specs.declared.item.Item.{Item}
use Rattle.plugin_core.specs.declared.item.Item.TheVariants as item
use Rattle.plugin_core.specs.Past.{received, stream_of}
use Rattle.plugin_core.specs.Items.{is_line_of}
use Rattle.plugin_core.specs.Steps.{Reads}
use Rattle.plugin_core.proofs.Pasts.{stream_of-accepted}
use Rattle.plugin_core.proofs.OneMore.{waiting_of-accepted}
use Rattle.plugin_core.proofs.ByAskPoints.{reads_lie}
use Rattle.session_engine.specs.Named.{without_named, replace_named}
use Rattle.session_engine.specs.World.{World, Going, sheet_in, waiting_in, life_of}
use Rattle.session_engine.specs.inside.Words.{waits_in, with_op, with_piece, joined_by, begun_with}
use Rattle.session_engine.specs.Refused.{refusals_but_room}
use Rattle.session_engine.specs.inside.Parts.{with_life, without_life, with_item}
use Rattle.session_engine.proofs.Fields.{waiting_still}
use Rattle.session_engine.proofs.Standing.{all_at}
use Rattle.host_laws.proofs.Growing.{one_answer, alive_start}
use Rattle.host_laws.proofs.FieldLaws.{HasInput, KeepsInput, input_stays}

-- a line is the input of a field that there is
abbrev pub HasLine : List Op → Item → Type 0
HasLine os (item.Line id text) = HasInput os id text
HasLine os (item.Complete id text cursor) = Unit {0}

-- a life that goes on: its blocks are those of its stream, and each line that waits is its field's input
pub record SoundLife (os : List Op) (l : Going) : Type 0 where
  pub reads : Reads (stream_of l.past) l.blocks None
  pub lines : AllByRecursion (HasLine os) (waiting_in l)

pub record Sound (w : World) : Type 0 where
  pub allowed : Allowed w.ops
  pub lives : AllByRecursion (SoundLife w.ops) w.lives

all_without : {A : Type 0} (P : A → Type 0) (name_of : A → List ℕ) (name : List ℕ) (xs : List A) → AllByRecursion P xs → AllByRecursion P (without_named name_of name xs)
all_without P name_of name [] all = tt
all_without P name_of name (x ∷ xs) all = go (bytes_eq (name_of x) name) (all_without P name_of name xs all.1)
  where
    go : (b : Bool) → AllByRecursion P (without_named name_of name xs) → AllByRecursion P (if b then xs else x ∷ without_named name_of name xs)
    go true rest = all.1
    go false rest = (all.0, rest)

all_replaced : {A : Type 0} (P : A → Type 0) (name_of : A → List ℕ) (name : List ℕ) (y : A) (xs : List A) → AllByRecursion P xs → P y → AllByRecursion P (replace_named name_of name y xs)
all_replaced P name_of name y [] all one = tt
all_replaced P name_of name y (x ∷ xs) all one = go (bytes_eq (name_of x) name) (all_replaced P name_of name y xs all.1 one)
  where
    go : (b : Bool) → AllByRecursion P (replace_named name_of name y xs) → AllByRecursion P (if b then y ∷ xs else x ∷ replace_named name_of name y xs)
    go true rest = (one, all.1)
    go false rest = (all.0, rest)

all_push : {A : Type 0} (P : A → Type 0) (xs : List A) (x : A) → AllByRecursion P xs → P x → AllByRecursion P (xs ++ x ∷ [])
all_push P [] x all one = (one, tt)
all_push P (y ∷ xs) x all one = (all.0, all_push P xs x all.1 one)

all_map : {A : Type 0} (P Q : A → Type 0) (xs : List A) → ((x : A) → P x → Q x) → AllByRecursion P xs → AllByRecursion Q xs
all_map P Q [] f all = tt
all_map P Q (x ∷ xs) f all = (f x all.0, all_map P Q xs f all.1)

-- Lives.

pub gone : (name : List ℕ) (w : World) → Sound w → Sound (without_life name w)
gone name w h = record { allowed = h.allowed; lives = all_without (SoundLife w.ops) (λ l. l.name) name w.lives h.lives }

pub put : (l : Going) (w : World) → Sound w → SoundLife w.ops l → Sound (with_life l w)
put l w h one = record { allowed = h.allowed; lives = all_replaced (SoundLife w.ops) (λ m. m.name) l.name l w.lives h.lives one }

pub the_life : (name : List ℕ) (l : Going) (w : World) → Sound w → life_of w name ≡ Some l → SoundLife w.ops l
the_life name l w h e = all_at (SoundLife w.ops) (λ m. m.name) name l w.lives h.lives e

pub begun : (w : World) (name : List ℕ) (i : Item) → HasLine w.ops i → SoundLife w.ops (begun_with w name i)
begun w name i has = record { reads = alive_start; lines = (has, tt) }

pub joined : (os : List Op) (l : Going) (i : Item) → HasLine os i → SoundLife os l → SoundLife os (joined_by l i)
joined os l i has h = record {
  reads = subst (λ (s : List ℕ). Reads s l.blocks None) (sym (stream_of-accepted l.past i)) h.reads;
  lines = subst (λ (is : List Item). AllByRecursion (HasLine os) is) (sym (waiting_of-accepted l.past l.blocks i (reads_lie (stream_of l.past) l.blocks None h.reads)))
      (all_push (HasLine os) (waiting_in l) i h.lines has);
}

pub asked : (w : World) (name : List ℕ) (i : Item) (life : Option Going) → life_of w name ≡ life → Sound w → HasLine w.ops i → Sound (with_item w name i life)
asked w name i None e h has = record { allowed = h.allowed; lives = all_push (SoundLife w.ops) w.lives (begun_with w name i) h.lives (begun w name i has) }
asked w name i (Some l) e h has = put (joined_by l i) w h (joined w.ops l i has (the_life name l w h e))

pub pieced : (os : List Op) (l : Going) (piece : List ℕ) (blocks : List Outer) → SoundLife os l → Reads (stream_of (l.past ++ received piece ∷ [])) blocks None → SoundLife os (with_piece l piece blocks)
pieced os l piece blocks h reads =
    let one = one_answer l.past piece l.blocks blocks None h.reads reads in
    record { reads = reads; lines = waiting_still (HasLine os) l.past l.blocks blocks piece one.closed one.answers h.lines }

-- One op more.

abbrev pub KeepsLine : Op → Item → Type 0
KeepsLine o (item.Line id text) = KeepsInput id o
KeepsLine o (item.Complete id text cursor) = Unit {0}

line_stays : (os : List Op) (o : Op) → Allowed os → first_refusal (sheet_of os) o ≡ None → (items : List Item) → AllByRecursion (KeepsLine o) items → AllByRecursion (HasLine os) items → AllByRecursion (HasLine (os ++ o ∷ [])) items
line_stays os o allowed next [] keeps all = tt
line_stays os o allowed next (item.Line id text ∷ items) keeps all = (input_stays os o id text allowed next keeps.0 all.0, line_stays os o allowed next items keeps.1 all.1)
line_stays os o allowed next (item.Complete id text cursor ∷ items) keeps all = (tt, line_stays os o allowed next items keeps.1 all.1)

lives_stay : (os : List Op) (o : Op) → Allowed os → first_refusal (sheet_of os) o ≡ None → (ls : List Going) → AllByRecursion (λ l. AllByRecursion (KeepsLine o) (waiting_in l)) ls → AllByRecursion (SoundLife os) ls
    → AllByRecursion (SoundLife (os ++ o ∷ [])) ls
lives_stay os o allowed next [] keeps all = tt
lives_stay os o allowed next (l ∷ ls) keeps all = (record { reads = all.0.reads; lines = line_stays os o allowed next (waiting_in l) keeps.0 all.0.lines }, lives_stay os o allowed next ls keeps.1 all.1)

abbrev pub KeepsLines : Op → World → Type 0
KeepsLines o w = AllByRecursion (λ l. AllByRecursion (KeepsLine o) (waiting_in l)) w.lives

pub committed : (o : Op) (w : World) → Sound w → first_refusal (sheet_in w) o ≡ None → KeepsLines o w → Sound (with_op o w)
committed o w h next keeps = record { allowed = allowed_goes_on w.ops o h.allowed next; lives = lives_stay w.ops o h.allowed next w.lives keeps h.lives }

-- ops that keep all inputs
every_item : (o : Op) → ((id : ℕ) → KeepsInput id o) → (items : List Item) → AllByRecursion (KeepsLine o) items
every_item o all [] = tt
every_item o all (item.Line id text ∷ items) = (all id, every_item o all items)
every_item o all (item.Complete id text cursor ∷ items) = (tt, every_item o all items)

every_life : (o : Op) → ((id : ℕ) → KeepsInput id o) → (ls : List Going) → AllByRecursion (λ l. AllByRecursion (KeepsLine o) (waiting_in l)) ls
every_life o all [] = tt
every_life o all (l ∷ ls) = (every_item o all (waiting_in l), every_life o all ls)

pub every_line : (o : Op) (w : World) → ((id : ℕ) → KeepsInput id o) → KeepsLines o w
every_line o w all = every_life o all w.lives

-- and ops about a field whose line doesn't wait
other_items : (id : ℕ) (o : Op) → ((other : ℕ) → (id == other) ≡ false → KeepsInput other o) → (items : List Item) → list_any (λ i. is_line_of id i) items ≡ false → AllByRecursion (KeepsLine o) items
other_items id o all [] h = tt
other_items id o all (item.Line other text ∷ items) h = go (other == id) refl h (other_items id o all items)
  where
    go : (b : Bool) → (other == id) ≡ b → (b || list_any (λ i. is_line_of id i) items) ≡ false → (list_any (λ i. is_line_of id i) items ≡ false → AllByRecursion (KeepsLine o) items)
        → AllByRecursion (KeepsLine o) (item.Line other text ∷ items)
    go true e h rest = cc
    go false e h rest = (all other (grind (arith, nat_tests, e)), rest h)
other_items id o all (item.Complete other text cursor ∷ items) h = (tt, other_items id o all items h)

other_lives : (id : ℕ) (o : Op) → ((other : ℕ) → (id == other) ≡ false → KeepsInput other o) → (ls : List Going) → waits_in ls id ≡ false → AllByRecursion (λ l. AllByRecursion (KeepsLine o) (waiting_in l)) ls
other_lives id o all [] h = tt
other_lives id o all (l ∷ ls) h = go (list_any (λ i. is_line_of id i) (waiting_in l)) refl h (other_lives id o all ls)
  where
    go : (b : Bool) → list_any (λ i. is_line_of id i) (waiting_in l) ≡ b → (b || waits_in ls id) ≡ false → (waits_in ls id ≡ false → AllByRecursion (λ l. AllByRecursion (KeepsLine o) (waiting_in l)) ls)
        → AllByRecursion (λ l. AllByRecursion (KeepsLine o) (waiting_in l)) (l ∷ ls)
    go true e h rest = cc
    go false e h rest = (other_items id o all (waiting_in l) e, rest h)

pub checked : (w : World) (o : Op) → first_of (refusals_but_room w o) ≡ None → KeepsLines o w
checked w (op.Session name tab words) h = every_line (op.Session name tab words) w (λ id. tt)
checked w (op.New place session input) h = every_line (op.New place session input) w (λ id. tt)
checked w (op.Set id input) h = other_lives id (op.Set id input) (λ other e. e) w.lives (none_applies (refusals_but_room w (op.Set id input)) h).1.0
checked w (op.Remove id) h = other_lives id (op.Remove id) (λ other e. e) w.lives (none_applies (refusals_but_room w (op.Remove id)) h).1.0
checked w (op.Move id place) h = every_line (op.Move id place) w (λ id. tt)
checked w (op.Clear id) h = every_line (op.Clear id) w (λ id. tt)
checked w (op.Answer id prompt output) h = every_line (op.Answer id prompt output) w (λ id. tt)
checked w (op.Lost id why) h = every_line (op.Lost id why) w (λ id. tt)
checked w (op.Ids number) h = every_line (op.Ids number) w (λ id. tt)
