-- What a session sees of the worksheet that a history leads to.
use Rattle.std.proofs.Common.{◌≡◌, ℕ, List, [], ◌∷◌, ◌++◌, length, drop, map, refl, ap, sym, ◌∙◌, subst, append_assoc, Bool, true, false, Option, Some, None}
use Rattle.std.specs.Prelude.{if◌then◌else◌}
use Rattle.std.specs.Str.{bytes_eq}
use Rattle.std.proofs.lemmas.List.{append-nil}
use Rattle.block_tree.specs.declared.reason.Reason.{Reason}
use Rattle.worksheet.specs.declared.op.Op.{Op}
use Rattle.worksheet.specs.declared.op.Op.TheVariants as op
use Rattle.worksheet.specs.declared.field.Field.{Field}
use Rattle.worksheet.specs.Ops.{field_of}
use Rattle.worksheet.specs.inside.Words.{order_of}
use Rattle.plugin_core.specs.Laws.{OneReading}
use Rattle.host_events.specs.declared.event.Event.{Event}
use Rattle.host_events.specs.declared.event.Event.TheVariants as event
use Rattle.host_events.specs.declared.outcome.Outcome.{Outcome}
use Rattle.session_engine.specs.World.{World, with_op_if, sheet_in}
use Rattle.session_engine.specs.Does.{Gives, Runs}
use Rattle.host_laws.specs.Apart.{SessionsSeeTheirOwn, LookAlike, seen_by, Reported, reported_to, session_tells, is_kept, added, but_reasons, AreAlike, commanded, named}
use Rattle.host_laws.proofs.ByParts.{by_parts}
use Rattle.host_laws.proofs.ApartLives.{same_name, is_itself}
use Rattle.host_laws.proofs.ApartOps.{drop_length, order_alike, next_alike, sessions_alike, session_alike, input_alike}
use Rattle.host_laws.proofs.ApartFields.{Seen, seen_itself, seen_back, seen_on, seen_more, seen_past, seen_lost, same_field}
use Rattle.host_laws.proofs.ApartOwners.{OpOwned, child_grows}
use Rattle.host_laws.proofs.ApartAdds.{Adds, adds, lost_none, opened_waits}
use Rattle.host_laws.proofs.ApartSteps.{none_reported}
use Rattle.host_laws.proofs.InFlight.{Waits, waits_step}
use Rattle.host_laws.proofs.ApartRuns.{sessions_are_independent}

-- all ops that are reported
abbrev pub ops_reported : List Reported → List Op
ops_reported [] = []
ops_reported (t ∷ ts) = t.ops ++ ops_reported ts

-- what an event adds is seen by what it tells
seen_adds : (n : List ℕ) (w v : World) (b : List Op) → Adds w v → Seen n w.ops b → Seen n v.ops (b ++ added w v)
seen_adds n w v b (Adds.nothing e) s =
    subst (λ (os : List Op). Seen n os (b ++ added w v)) (sym e) (subst (λ (os : List Op). Seen n w.ops (b ++ os)) (sym (none_reported w v e)) (subst (λ (os : List Op). Seen n w.ops os) (sym (append-nil b)) s))
seen_adds n w v b (Adds.an_op o t e) s =
    let reported : added w v ≡ o ∷ [] = ap but_reasons (ap (λ (os : List Op). drop (length w.ops) os) e ∙ drop_length w.ops (o ∷ [])) ∙ ap (λ (c : Bool). if c then o ∷ [] else []) t in
    subst (λ (os : List Op). Seen n os (b ++ added w v)) (sym e) (subst (λ (os : List Op). Seen n (w.ops ++ o ∷ []) (b ++ os)) (sym reported) (seen_more n w.ops b (o ∷ []) s))
seen_adds n w v b (Adds.a_reason id why none e) s =
    let reported : added w v ≡ [] = ap but_reasons (ap (λ (os : List Op). drop (length w.ops) os) e ∙ drop_length w.ops (op.Lost id why ∷ [])) in
    subst (λ (os : List Op). Seen n os (b ++ added w v)) (sym e)
    (subst (λ (os : List Op). Seen n (w.ops ++ op.Lost id why ∷ []) (b ++ os)) (sym reported) (subst (λ (os : List Op). Seen n (w.ops ++ op.Lost id why ∷ []) os) (sym (append-nil b)) (seen_lost n w.ops b id why none s)))

-- an answer of another session isn't seen, nor a reason
unseen : (n : List ℕ) (w : World) (e : Event) (o : Outcome) (v : World) (b : List Op) → is_kept n e ≡ false → Waits w → Gives w e o v → Seen n w.ops b → Seen n v.ops b
unseen n w (event.Command c) o v b k h g s = cc
unseen n w (event.Child m number c) o v b k h g s =
    let parts = by_parts w (event.Child m number c) o v g in
    let r = child_grows m w number c o v h.owned parts in
    let a = adds w (event.Child m number c) o v h parts in
    subst (λ (z : World). Seen n z.ops b) (sym r.is) (go r.on r.kept r.given r.mine (λ id why e. lost_none w v id why a (ap (λ (z : World). z.ops) r.is ∙ e)))
  where
    apart : m ≡ n → ⊥
    apart e = let t : bytes_eq m n ≡ true = ap (λ (j : List ℕ). bytes_eq j n) e ∙ is_itself n in let f : true ≡ false = sym t ∙ k in cc

    go : (z : World) → z.ops ≡ w.ops → (p : Option Op) → OpOwned w.ops m p → ((id : ℕ) (why : Reason) → (with_op_if p z).ops ≡ w.ops ++ op.Lost id why ∷ [] → (field_of w.ops id).answer ≡ None) → Seen n (with_op_if p z).ops b
    go z kept None mine none = subst (λ (os : List Op). Seen n os b) (sym kept) s
    go z kept (Some (op.Session other tab words)) mine none = absurd mine
    go z kept (Some (op.New after session input)) mine none = absurd mine
    go z kept (Some (op.Set id input)) mine none = absurd mine
    go z kept (Some (op.Remove id)) mine none = absurd mine
    go z kept (Some (op.Move id after)) mine none = absurd mine
    go z kept (Some (op.Clear id)) mine none = absurd mine
    go z kept (Some (op.Answer id prompt output)) mine none = subst (λ (os : List Op). Seen n (os ++ op.Answer id prompt output ∷ []) b) (sym kept) (seen_past n m w.ops b id prompt output mine apart s)
    go z kept (Some (op.Ids number)) mine none = absurd mine
    go z kept (Some (op.Lost id why)) mine none =
        subst (λ (os : List Op). Seen n (os ++ op.Lost id why ∷ []) b) (sym kept) (seen_lost n w.ops b id why (none id why (ap (λ (os : List Op). os ++ op.Lost id why ∷ []) kept)) s)

-- what is reported is all that is seen
seen_run : (n : List ℕ) (w : World) (es : List Event) (os : List Outcome) (v : World) (run : Runs w es os v) (b : List Op) → Waits w → Seen n w.ops b → Seen n v.ops (b ++ ops_reported (session_tells n w es os v run))
seen_run n w [] [] v run b h s = subst (λ (z : World). Seen n z.ops (b ++ [])) (sym run) (subst (λ (os : List Op). Seen n w.ops os) (sym (append-nil b)) s)
seen_run n w [] (o ∷ os) v run b h s = absurd run
seen_run n w (e ∷ es) [] v run b h s = absurd run
seen_run n w (e ∷ es) (o ∷ os) v run b h s = go (is_kept n e) refl (λ c t. seen_run n run.0 es os v run.2 c (waits_step w e o run.0 h run.1) t)
  where
    go : (k : Bool) → is_kept n e ≡ k → ((c : List Op) → Seen n run.0.ops c → Seen n v.ops (c ++ ops_reported (session_tells n run.0 es os v run.2)))
        → Seen n v.ops (b ++ ops_reported (if k then reported_to n w e o run.0 ∷ session_tells n run.0 es os v run.2 else session_tells n run.0 es os v run.2))
    go false k ih = ih b (unseen n w e o run.0 b k h run.1 s)
    go true k ih =
        let more : Seen n run.0.ops (b ++ added w run.0) = seen_adds n w run.0 b (adds w e o run.0 h (by_parts w e o run.0 run.1)) s in
        subst (λ (os : List Op). Seen n v.ops os) (append_assoc b (added w run.0) (ops_reported (session_tells n run.0 es os v run.2))) (ih (b ++ added w run.0) more)

same_fields : (n : List ℕ) (a b : List Op) (ids : List ℕ) → Seen n a b → map (seen_by n) (map (field_of a) ids) ≡ map (seen_by n) (map (field_of b) ids)
same_fields n a b [] s = refl
same_fields n a b (id ∷ ids) s =
    ap (λ (fs : List Field). seen_by n (field_of a id) ∷ fs) (same_fields n a b ids s)
    ∙ ap (λ (f : Field). f ∷ map (seen_by n) (map (field_of b) ids))
    (same_field n (field_of a id) (field_of b id) refl (session_alike a b id s.ops) (input_alike a b id s.ops) (s.answers id) (bytes_eq (field_of a id).session n) refl (λ e. same_name (field_of a id).session n e))

look_alike : (n : List ℕ) (v u : World) → Seen n v.ops u.ops → LookAlike n (sheet_in v) (sheet_in u)
look_alike n v u s = record {
  fields = same_fields n v.ops u.ops (order_of v.ops) s ∙ ap (λ (ids : List ℕ). map (seen_by n) (map (field_of u.ops) ids)) (order_alike v.ops u.ops s.ops);
  sessions = sessions_alike v.ops u.ops s.ops;
  next = next_alike v.ops u.ops s.ops;
}

pub sessions_see_their_own : OneReading → SessionsSeeTheirOwn
sessions_see_their_own one name w x es fs os ps v u opened opens ops run other q r h m =
    let alike : AreAlike name w x = record { ops = ap commanded ops; lives = ap (named name) opened.0 ∙ sym (ap (named name) opens.0) } in
    let same = (sessions_are_independent one name w x es fs os ps v u alike run other q r h m).0 in
    let left = seen_run name w es os v run w.ops (opened_waits w opened) (seen_itself name w.ops) in
    let right : Seen name u.ops (w.ops ++ ops_reported (session_tells name x fs ps u other)) = subst (λ (b : List Op). Seen name u.ops (b ++ ops_reported (session_tells name x fs ps u other))) (sym ops) (seen_run name x fs ps u other x.ops (opened_waits x opens) (seen_itself name x.ops)) in (
      same,
      look_alike name v u (seen_on name v.ops (w.ops ++ ops_reported (session_tells name w es os v run)) u.ops left
          (subst (λ (ts : List Reported). Seen name (w.ops ++ ops_reported ts) u.ops) (sym same) (seen_back name u.ops (w.ops ++ ops_reported (session_tells name x fs ps u other)) right))),
    )
