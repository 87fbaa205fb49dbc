-- Fields, and whose they are, after one op more.
use Rattle.std.proofs.Common.{◌≡◌, ◌<◌, ◌≤◌, ◌+◌, ℕ, List, [], ◌∷◌, ◌++◌, map, refl, ap, sym, ◌∙◌, subst, arith, append_assoc, Bool, true, false, Option, Some, None}
use Rattle.std.specs.Prelude.{if◌then◌else◌, ◌==◌, not, cond, is_some}
use Rattle.std.specs.Str.{bytes_eq}
use Rattle.std.specs.List.{find}
use Rattle.std.proofs.lemmas.Bool.Decides.{nat_tests}
use Rattle.std.proofs.lemmas.List.{append-nil}
use Rattle.block_tree.specs.Tree.{Tree}
use Rattle.block_tree.specs.declared.reason.Reason.{Reason}
use Rattle.worksheet.specs.declared.op.Op.{Op}
use Rattle.worksheet.specs.declared.op.Op.TheVariants as op
use Rattle.worksheet.specs.declared.field.Field.{Field}
use Rattle.worksheet.specs.declared.field.Answer.{Answer}
use Rattle.worksheet.specs.Ops.{next_of, next_after, order_after, is_about, field_of, placed, put_after}
use Rattle.worksheet.specs.inside.Words.{order_of, without}
use Rattle.worksheet.specs.Edits.{AllBelow}
use Rattle.worksheet.specs.Checks.{numbers}
use Rattle.worksheet.proofs.OneMore.{next_from-push, order_from-push, field_of-push, changed}
use Rattle.worksheet.proofs.SoundLaws.{AllBelow-more}
use Rattle.plugin_core.specs.declared.item.Item.{Item}
use Rattle.plugin_core.specs.declared.item.Item.TheVariants as item
use Rattle.session_engine.specs.inside.Words.{by_field}
use Rattle.host_laws.specs.Apart.{commanded, is_commanded, seen_by}
use Rattle.host_laws.proofs.ApartOps.{commanded-push, next_alike, session_alike}

-- The same ops but answers and reasons, and the same answers of this session's fields.
pub record Seen (name : List ℕ) (a b : List Op) : Type 0 where
  pub ops : commanded a ≡ commanded b
  pub answers : (id : ℕ) → (field_of a id).session ≡ name → (field_of a id).answer ≡ (field_of b id).answer

pub seen_itself : (name : List ℕ) (a : List Op) → Seen name a a
seen_itself name a = record { ops = refl; answers = λ id h. refl }

pub seen_back : (name : List ℕ) (a b : List Op) → Seen name a b → Seen name b a
seen_back name a b s = record { ops = sym s.ops; answers = λ id h. sym (s.answers id (session_alike a b id s.ops ∙ h)) }

pub seen_on : (name : List ℕ) (a b c : List Op) → Seen name a b → Seen name b c → Seen name a c
seen_on name a b c s t = record { ops = s.ops ∙ t.ops; answers = λ id h. s.answers id h ∙ t.answers id (sym (session_alike a b id s.ops) ∙ h) }

changed_alike : (name : List ℕ) (o : Op) (f g : Field) → (f.session ≡ name → f.answer ≡ g.answer) → (changed o f).session ≡ name → (changed o f).answer ≡ (changed o g).answer
changed_alike name (op.Session other tab words) f g s h = s h
changed_alike name (op.New after session input) f g s h = refl
changed_alike name (op.Set id input) f g s h = refl
changed_alike name (op.Remove id) f g s h = s h
changed_alike name (op.Move id after) f g s h = s h
changed_alike name (op.Clear id) f g s h = refl
changed_alike name (op.Answer id prompt output) f g s h = refl
changed_alike name (op.Lost id reason) f g s h = refl
changed_alike name (op.Ids number) f g s h = s h

-- an op that both have
seen_push : (name : List ℕ) (a b : List Op) (o : Op) → Seen name a b → Seen name (a ++ o ∷ []) (b ++ o ∷ [])
seen_push name a b o s = record {
  ops = commanded-push a o ∙ ap (λ (os : List Op). os ++ (if is_commanded o then o ∷ [] else [])) s.ops ∙ sym (commanded-push b o);
  answers = λ id h.
      let there : field_of (b ++ o ∷ []) id ≡ (if is_about id (next_of a) o then changed o (field_of b id) else field_of b id) =
      field_of-push b o id ∙ ap (λ (n : ℕ). if is_about id n o then changed o (field_of b id) else field_of b id) (sym (next_alike a b s.ops)) in
      ap (λ (f : Field). f.answer) (field_of-push a o id)
      ∙ go (is_about id (next_of a) o) (field_of a id) (field_of b id) (s.answers id) (sym (ap (λ (f : Field). f.session) (field_of-push a o id)) ∙ h)
      ∙ sym (ap (λ (f : Field). f.answer) there);
}
  where
    go : (c : Bool) (f g : Field) → (f.session ≡ name → f.answer ≡ g.answer) → (if c then changed o f else f).session ≡ name → (if c then changed o f else f).answer ≡ (if c then changed o g else g).answer
    go true f g s h = changed_alike name o f g s h
    go false f g s h = s h

pub seen_more : (name : List ℕ) (a b os : List Op) → Seen name a b → Seen name (a ++ os) (b ++ os)
seen_more name a b [] s = subst (λ (x : List Op). Seen name x (b ++ [])) (sym (append-nil a)) (subst (λ (y : List Op). Seen name a y) (sym (append-nil b)) s)
seen_more name a b (o ∷ os) s =
    subst (λ (x : List Op). Seen name x (b ++ o ∷ os)) (append_assoc a (o ∷ []) os)
    (subst (λ (y : List Op). Seen name ((a ++ o ∷ []) ++ os) y) (append_assoc b (o ∷ []) os) (seen_more name (a ++ o ∷ []) (b ++ o ∷ []) os (seen_push name a b o s)))

-- an answer of another session's field, on the left alone
pub seen_past : (name other : List ℕ) (a b : List Op) (id : ℕ) (prompt : List ℕ) (output : Tree) → (field_of a id).session ≡ other → (other ≡ name → ⊥) → Seen name a b → Seen name (a ++ op.Answer id prompt output ∷ []) b
seen_past name other a b id prompt output owner apart s = record {
  ops = commanded-push a (op.Answer id prompt output) ∙ append-nil (commanded a) ∙ s.ops;
  answers = λ j h.
      ap (λ (f : Field). f.answer) (field_of-push a (op.Answer id prompt output) j)
      ∙ go j (id == j) refl (sym (ap (λ (f : Field). f.session) (field_of-push a (op.Answer id prompt output) j)) ∙ h);
}
  where
    go : (j : ℕ) (c : Bool) → (id == j) ≡ c → (if c then changed (op.Answer id prompt output) (field_of a j) else field_of a j).session ≡ name
        → (if c then changed (op.Answer id prompt output) (field_of a j) else field_of a j).answer ≡ (field_of b j).answer
    go j true e h =
        let same : id ≡ j = grind (arith, nat_tests, e) in
        absurd (apart (sym owner ∙ ap (λ (k : ℕ). (field_of a k).session) same ∙ h))
    go j false e h = s.answers j h

-- a reason of a field that shows no answer, on the left alone
pub seen_lost : (name : List ℕ) (a b : List Op) (id : ℕ) (why : Reason) → (field_of a id).answer ≡ None → Seen name a b → Seen name (a ++ op.Lost id why ∷ []) b
seen_lost name a b id why none s = record {
  ops = commanded-push a (op.Lost id why) ∙ append-nil (commanded a) ∙ s.ops;
  answers = λ j h.
      ap (λ (f : Field). f.answer) (field_of-push a (op.Lost id why) j)
      ∙ go j (id == j) refl (sym (ap (λ (f : Field). f.session) (field_of-push a (op.Lost id why) j)) ∙ h);
}
  where
    go : (j : ℕ) (c : Bool) → (id == j) ≡ c → (if c then changed (op.Lost id why) (field_of a j) else field_of a j).session ≡ name
        → (if c then changed (op.Lost id why) (field_of a j) else field_of a j).answer ≡ (field_of b j).answer
    go j true e h =
        let same : id ≡ j = grind (arith, nat_tests, e) in
        sym (ap (λ (k : ℕ). (field_of a k).answer) (sym same) ∙ none) ∙ s.answers j h
    go j false e h = s.answers j h

pub same_field : (name : List ℕ) (f g : Field) → f.id ≡ g.id → f.session ≡ g.session → f.input ≡ g.input → (f.session ≡ name → f.answer ≡ g.answer) → (c : Bool) → bytes_eq f.session name ≡ c → (c ≡ true → f.session ≡ name) → seen_by name f ≡ seen_by name g
same_field name f g i s t a true e own =
    let d : bytes_eq g.session name ≡ true = ap (λ (m : List ℕ). bytes_eq m name) (sym s) ∙ e in
    let b : f.answer ≡ g.answer = a (own refl) in
    rw (e, d) (ap (λ (k : ℕ). record { id = k; session = f.session; input = f.input; answer = f.answer; lost = None }) i
    ∙ ap (λ (k : List ℕ). record { id = g.id; session = k; input = f.input; answer = f.answer; lost = None }) s
    ∙ ap (λ (k : List ℕ). record { id = g.id; session = g.session; input = k; answer = f.answer; lost = None }) t
    ∙ ap (λ (k : Option Answer). record { id = g.id; session = g.session; input = g.input; answer = k; lost = None }) b)
same_field name f g i s t a false e own =
    let d : bytes_eq g.session name ≡ false = ap (λ (m : List ℕ). bytes_eq m name) (sym s) ∙ e in
    rw (e, d) (ap (λ (k : ℕ). record { id = k; session = f.session; input = f.input; answer = None; lost = None }) i
    ∙ ap (λ (k : List ℕ). record { id = g.id; session = k; input = f.input; answer = None; lost = None }) s
    ∙ ap (λ (k : List ℕ). record { id = g.id; session = g.session; input = k; answer = None; lost = None }) t)

-- Whose a field is.

-- the field of a line has been made, and is this session's
abbrev pub HasOwner : List Op → List ℕ → Item → Type 0
HasOwner os name (item.Line id text) = (id < next_of os) × ((field_of os id).session ≡ name)
HasOwner os name (item.Complete id text cursor) = Unit {0}

-- an op that moves no field that there isn't, and takes no number back
abbrev pub MovesOne : List Op → Op → Type 0
MovesOne os (op.Session name tab words) = Unit {0}
MovesOne os (op.New after session input) = Unit {0}
MovesOne os (op.Set id input) = Unit {0}
MovesOne os (op.Remove id) = Unit {0}
MovesOne os (op.Move id after) = id < next_of os
MovesOne os (op.Clear id) = Unit {0}
MovesOne os (op.Answer id prompt output) = Unit {0}
MovesOne os (op.Lost id reason) = Unit {0}
MovesOne os (op.Ids number) = next_of os ≤ number

next_grows : (os : List Op) (o : Op) (id : ℕ) → MovesOne os o → id < next_of os → id < next_of (os ++ o ∷ [])
next_grows os o id m h = subst (λ (n : ℕ). id < n) (sym (next_from-push 1 os o)) (go o m)
  where
    go : (p : Op) → MovesOne os p → id < next_after (next_of os) p
    go (op.Session name tab words) m = h
    go (op.New after session input) m = omega (arith, h)
    go (op.Set j input) m = h
    go (op.Remove j) m = h
    go (op.Move j after) m = h
    go (op.Clear j) m = h
    go (op.Answer j prompt output) m = h
    go (op.Lost j reason) m = h
    go (op.Ids number) m = omega (arith, h, m)

owner_still : (os : List Op) (o : Op) (id : ℕ) → id < next_of os → (field_of (os ++ o ∷ []) id).session ≡ (field_of os id).session
owner_still os o id h = ap (λ (f : Field). f.session) (field_of-push os o id) ∙ go o (is_about id (next_of os) o) refl
  where
    go : (p : Op) (c : Bool) → is_about id (next_of os) p ≡ c → (if c then changed p (field_of os id) else field_of os id).session ≡ (field_of os id).session
    go p false e = refl
    go (op.Session name tab words) true e = refl
    go (op.New after session input) true e = absurd (let same : next_of os ≡ id = grind (arith, nat_tests, e) in omega (arith, h, same))
    go (op.Set j input) true e = refl
    go (op.Remove j) true e = refl
    go (op.Move j after) true e = refl
    go (op.Clear j) true e = refl
    go (op.Answer j prompt output) true e = refl
    go (op.Lost j reason) true e = refl
    go (op.Ids number) true e = refl

pub owned_still : (os : List Op) (o : Op) (name : List ℕ) (i : Item) → MovesOne os o → HasOwner os name i → HasOwner (os ++ o ∷ []) name i
owned_still os o name (item.Line id text) m h = (next_grows os o id m h.0, owner_still os o id h.0 ∙ h.1)
owned_still os o name (item.Complete id text cursor) m h = tt

-- A field that there is, among these.
pub found_owner : (os : List Op) (bound id : ℕ) (ids : List ℕ) → AllBelow bound ids → is_some (find (λ f. f.id == id) (map (field_of os) ids)) ≡ true
    → (id < bound) × (by_field (find (λ f. f.id == id) (map (field_of os) ids)) [] (λ f. f.session) ≡ (field_of os id).session)
found_owner os bound id [] below h = cc
found_owner os bound id (j ∷ ids) below h = go (j == id) refl h (found_owner os bound id ids below.1)
  where
    go : (c : Bool) → (j == id) ≡ c → is_some (cond c (Some (field_of os j)) (find (λ f. f.id == id) (map (field_of os) ids))) ≡ true
        → (is_some (find (λ f. f.id == id) (map (field_of os) ids)) ≡ true → (id < bound) × (by_field (find (λ f. f.id == id) (map (field_of os) ids)) [] (λ f. f.session) ≡ (field_of os id).session))
        → (id < bound) × (by_field (cond c (Some (field_of os j)) (find (λ f. f.id == id) (map (field_of os) ids))) [] (λ f. f.session) ≡ (field_of os id).session)
    go true e h rest = let same : j ≡ id = grind (arith, nat_tests, e) in (subst (λ (k : ℕ). k < bound) same below.0, ap (λ (k : ℕ). (field_of os k).session) same)
    go false e h rest = rest h

below_after : (bound x : ℕ) (test : ℕ → Bool) (ids : List ℕ) → AllBelow bound ids → x < bound → AllBelow bound (put_after test x ids)
below_after bound x test [] below h = tt
below_after bound x test (j ∷ ids) below h = go (test j) (below_after bound x test ids below.1 h)
  where
    go : (c : Bool) → AllBelow bound (put_after test x ids) → AllBelow bound (if c then j ∷ x ∷ ids else j ∷ put_after test x ids)
    go true rest = (below.0, (h, below.1))
    go false rest = (below.0, rest)

below_placed : (bound after x : ℕ) (ids : List ℕ) → AllBelow bound ids → x < bound → AllBelow bound (placed after x ids)
below_placed bound after x ids below h = go (after == 0)
  where
    go : (c : Bool) → AllBelow bound (if c then x ∷ ids else put_after (λ other. other == after) x ids)
    go true = (h, below)
    go false = below_after bound x (λ other. other == after) ids below h

below_without : (bound x : ℕ) (ids : List ℕ) → AllBelow bound ids → AllBelow bound (without x ids)
below_without bound x [] below = tt
below_without bound x (j ∷ ids) below = go (not (j == x)) (below_without bound x ids below.1)
  where
    go : (c : Bool) → AllBelow bound (without x ids) → AllBelow bound (cond c (j ∷ without x ids) (without x ids))
    go true rest = (below.0, rest)
    go false rest = rest

below_rising : (bound more : ℕ) (ids : List ℕ) → bound ≤ more → AllBelow bound ids → AllBelow more ids
below_rising bound more [] le below = tt
below_rising bound more (j ∷ ids) le below = (omega (arith, le, below.0), below_rising bound more ids le below.1)

pub below_push : (os : List Op) (o : Op) → MovesOne os o → AllBelow (next_of os) (order_of os) → AllBelow (next_of (os ++ o ∷ [])) (order_of (os ++ o ∷ []))
below_push os o m below = subst (λ (n : ℕ). AllBelow n (order_of (os ++ o ∷ []))) (sym (next_from-push 1 os o))
    (subst (λ (ids : List ℕ). AllBelow (next_after (next_of os) o) ids) (sym (order_from-push 1 [] os o)) (go o m))
  where
    go : (p : Op) → MovesOne os p → AllBelow (next_after (next_of os) p) (order_after (next_of os) p (order_of os))
    go (op.Session name tab words) m = below
    go (op.New after session input) m = below_placed (next_of os + 1) after (next_of os) (order_of os) (AllBelow-more (next_of os) (order_of os) below) (omega arith)
    go (op.Set j input) m = below
    go (op.Remove j) m = below_without (next_of os) j (order_of os) below
    go (op.Move j after) m = below_placed (next_of os) after j (without j (order_of os)) (below_without (next_of os) j (order_of os) below) m
    go (op.Clear j) m = below
    go (op.Answer j prompt output) m = below
    go (op.Lost j reason) m = below
    go (op.Ids number) m = below_rising (next_of os) number (order_of os) m below

pub below_of : (os : List Op) (bound : ℕ) (ids : List ℕ) → AllBelow bound (numbers (map (field_of os) ids)) → AllBelow bound ids
below_of os bound [] h = tt
below_of os bound (j ∷ ids) h = (h.0, below_of os bound ids h.1)
