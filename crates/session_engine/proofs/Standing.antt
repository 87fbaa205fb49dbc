-- What a host stands for, after a change of its parts.
use Rattle.std.proofs.Common.{◌≡◌, ◌+◌, ℕ, List, [], ◌∷◌, length, refl, ap, sym, ◌∙◌, subst, arith, Bool, true, false, Option, Some, None}
use Rattle.std.specs.Prelude.{if◌then◌else◌, ◌==◌}
use Rattle.std.specs.List.{AllByRecursion}
use Rattle.std.specs.Str.{bytes_eq}
use Rattle.std.proofs.lemmas.Bool.Decides.{nat_tests}
use Rattle.std.specs.Bool.{IsTrue}
use Rattle.disk_model.specs.Disk.{DiskView, SameDisk, InModel, Leaves}
use Rattle.worksheet.specs.declared.op.Op.{Op}
use Rattle.worksheet.specs.Checks.{first_refusal}
use Rattle.worksheet.proofs.Existence.{allowed_goes_on}
use Rattle.recovery.specs.Code.{code_of}
use Rattle.recovery.specs.Sheets.{StoreView, SameStore, IsSheetImage}
use Rattle.session_engine.specs.inside.Commits.{Committed, SparesLife}
use Rattle.session_engine.proofs.Naming.{differ_put, differ_without}
use Rattle.session_engine.proofs.Fields.{fields_still}
use Rattle.session_engine.specs.declared.table.Running.{Running}
use Rattle.session_engine.specs.Named.{first_named, without_named, replace_named}
use Rattle.session_engine.specs.Host.{name_of, life_in}
use Rattle.session_engine.specs.inside.Tables.{has_number}
use Rattle.block_tree.specs.declared.reason.Reason.{Reason}
use Rattle.session_engine.specs.World.{World, Going, life_of, with_number, sheet_in, fits_in}
use Rattle.session_engine.specs.inside.Words.{with_op, fits}
use Rattle.session_engine.specs.Does.{ends}
use Rattle.session_engine.specs.inside.Parts.{with_life, without_life}
use Rattle.session_engine.specs.Host.{RunsAs, Lives, HaveFields, EngineStandsFor}
use Rattle.session_engine.proofs.Tables.{Found, found, not_found}

-- where no life with a number is in the host's hands, none goes on
pub no_life : (number : ℕ) (name : List ℕ) (rs : List Running) (w : World) → Lives rs w.lives → has_number number (life_in rs name) ≡ false → with_number number (life_of w name) ≡ None
no_life number name rs w s h = go (life_in rs name) refl h
  where
    go : (o : Option Running) → life_in rs name ≡ o → has_number number o ≡ false → with_number number (life_of w name) ≡ None
    go None e h = rw (not_found name rs w.lives s e) refl
    go (Some r) e h =
        let f = found name rs w.lives r s e in
        let n : (f.life.number == number) ≡ false = ap (λ (k : ℕ). k == number) (sym f.runs.number) ∙ h in
        rw (f.is, n) refl

-- where it is, it goes on
pub the_life : (number : ℕ) (name : List ℕ) (rs : List Running) (w : World) (r : Running) (f : Found rs w.lives name r) → life_in rs name ≡ Some r → has_number number (life_in rs name) ≡ true
    → with_number number (life_of w name) ≡ Some f.life
the_life number name rs w r f e h =
    let n : (f.life.number == number) ≡ true = ap (λ (k : ℕ). k == number) (sym f.runs.number) ∙ (let t : has_number number (Some r) ≡ true = sym (ap (λ (o : Option Running). has_number number o) e) ∙ h in t) in
    rw (f.is, n) refl

all_without : {A : Type 0} (P : A → Type 0) (name_of : A → List ℕ) (name : List ℕ) (xs : List A) → AllByRecursion P xs → AllByRecursion P (without_named name_of name xs)
all_without P name_of name [] all = tt
all_without P name_of name (x ∷ xs) all = go (bytes_eq (name_of x) name) (all_without P name_of name xs all.1)
  where
    go : (b : Bool) → AllByRecursion P (without_named name_of name xs) → AllByRecursion P (if b then xs else x ∷ without_named name_of name xs)
    go true rest = all.1
    go false rest = (all.0, rest)

all_replaced : {A : Type 0} (P : A → Type 0) (name_of : A → List ℕ) (name : List ℕ) (y : A) (xs : List A) → AllByRecursion P xs → P y → AllByRecursion P (replace_named name_of name y xs)
all_replaced P name_of name y [] all one = tt
all_replaced P name_of name y (x ∷ xs) all one = go (bytes_eq (name_of x) name) (all_replaced P name_of name y xs all.1 one)
  where
    go : (b : Bool) → AllByRecursion P (replace_named name_of name y xs) → AllByRecursion P (if b then y ∷ xs else x ∷ replace_named name_of name y xs)
    go true rest = (one, all.1)
    go false rest = (all.0, rest)

pub all_at : {A : Type 0} (P : A → Type 0) (name_of : A → List ℕ) (name : List ℕ) (x : A) (xs : List A) → AllByRecursion P xs → first_named name_of name xs ≡ Some x → P x
all_at P name_of name x [] all h = cc
all_at P name_of name x (y ∷ xs) all h = go (bytes_eq (name_of y) name) h (all_at P name_of name x xs all.1)
  where
    go : (b : Bool) → (if b then Some y else first_named name_of name xs) ≡ Some x → (first_named name_of name xs ≡ Some x → P x) → P x
    go true h rest = let e : y ≡ x = cc in subst P e all.0
    go false h rest = rest h

-- a life in place of what it was
pub put : (store : StoreView) (rs : List Running) (begun : ℕ) (w : World) (name : List ℕ) (r q : Running) (m : Going) → EngineStandsFor store rs begun w → Found rs w.lives name r → RunsAs q m → HaveFields (sheet_in w) m
    → m.name ≡ name → EngineStandsFor store (replace_named name_of name q rs) begun (with_life m w)
put store rs begun w name r q m h f runs fields named = record {
  still_open = h.still_open;
  contents = h.contents;
  allowed = h.allowed;
  images = h.images;
  room = h.room;
  end = h.end;
  begun_is = h.begun_is;
  bound = h.bound;
  lives_are = subst (λ (n : List ℕ). Lives (replace_named name_of name q rs) (replace_named (λ (l : Going). l.name) n m w.lives)) (sym named) (f.put q m runs);
  fields = all_replaced (HaveFields (sheet_in w)) (λ (l : Going). l.name) m.name m w.lives h.fields fields;
  apart = differ_put (λ (l : Going). l.name) m w.lives h.apart;
}

-- an op is on the disk and in the worksheet
pub committed : (store new : StoreView) (rs : List Running) (begun : ℕ) (w : World) (o : Op) → EngineStandsFor store rs begun w → Committed store w.ops o new → SameDisk store.disk new.disk
    → first_refusal (sheet_in w) o ≡ None → AllByRecursion (SparesLife o) w.lives → EngineStandsFor new rs begun (with_op o w)
committed store new rs begun w o h done same next spares = record {
  still_open = done.still_open;
  contents = done.contents;
  allowed = allowed_goes_on w.ops o h.allowed next;
  images = λ model. done.images (subst IsTrue same.keeps_model model);
  room = same.room ∙ h.room;
  end = done.end ∙ ap (λ (n : ℕ). n + 5 + length (code_of o)) h.end;
  begun_is = h.begun_is;
  bound = h.bound;
  lives_are = h.lives_are;
  fields = fields_still w.ops o w.lives h.allowed next spares h.fields;
  apart = h.apart;
}

-- a life is gone
pub gone : (store : StoreView) (rs : List Running) (begun : ℕ) (w : World) (name : List ℕ) (r : Running) → EngineStandsFor store rs begun w → Found rs w.lives name r
    → EngineStandsFor store (without_named name_of name rs) begun (without_life name w)
gone store rs begun w name r h f = record {
  still_open = h.still_open;
  contents = h.contents;
  allowed = h.allowed;
  images = h.images;
  room = h.room;
  end = h.end;
  begun_is = h.begun_is;
  bound = h.bound;
  lives_are = f.rest;
  fields = all_without (HaveFields (sheet_in w)) (λ (l : Going). l.name) name w.lives h.fields;
  apart = differ_without (λ (l : Going). l.name) name w.lives h.apart;
}

-- what is returned for an end, by the parts of a life
pub reported_end : (l : Going) (name : List ℕ) (number : ℕ) (why : Reason) (killed : Bool) → name ≡ l.name → number ≡ l.number
    → ends (record { name = name; number = number; past = l.past; blocks = l.blocks }) why killed ≡ ends l why killed
reported_end l name number why killed e f = ap (λ (n : List ℕ). ends (record { name = n; number = number; past = l.past; blocks = l.blocks }) why killed) e
    ∙ ap (λ (k : ℕ). ends (record { name = l.name; number = k; past = l.past; blocks = l.blocks }) why killed) f

-- a store in which nothing has changed
pub unchanged : (store new : StoreView) (rs : List Running) (begun : ℕ) (w : World) → EngineStandsFor store rs begun w → SameStore store new → EngineStandsFor new rs begun w
unchanged store new rs begun w h same = record {
  still_open = same.closed ∙ h.still_open;
  contents = same.contents ∙ h.contents;
  allowed = h.allowed;
  images = subst (λ (d : DiskView). InModel d (Leaves (IsSheetImage (sheet_in w)) d.history.now)) (sym same.disk) h.images;
  room = ap (λ (d : DiskView). d.room) same.disk ∙ h.room;
  end = same.end ∙ h.end;
  begun_is = h.begun_is;
  bound = h.bound;
  lives_are = h.lives_are;
  fields = h.fields;
  apart = h.apart;
}

-- an op fits after the world's end where it fits after the store's
pub fit_in : (store : StoreView) (rs : List Running) (begun : ℕ) (w : World) (o : Op) → EngineStandsFor store rs begun w → fits w o ≡ fits_in store.disk.room store.end o
fit_in store rs begun w o h = ap (λ (k : ℕ). fits_in k w.end o) (sym h.room) ∙ ap (λ (k : ℕ). fits_in store.disk.room k o) (sym h.end)

pub with_number_there : (number : ℕ) (name : List ℕ) (rs : List Running) (r : Running) → life_in rs name ≡ Some r → r.life.number ≡ number → has_number number (life_in rs name) ≡ true
with_number_there number name rs r e is =
    let n : (r.life.number == number) ≡ true = grind (arith, nat_tests, is) in
    ap (λ (o : Option Running). has_number number o) e ∙ n
