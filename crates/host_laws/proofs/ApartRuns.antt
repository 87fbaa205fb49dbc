-- Two histories that are merged alike for a session.
use Rattle.std.proofs.Common.{◌≡◌, ℕ, List, [], ◌∷◌, ◌++◌, refl, ap, sym, ◌∙◌, subst, Bool, true, false, Option, Some, None}
use Rattle.std.specs.Prelude.{if◌then◌else◌}
use Rattle.worksheet.specs.declared.op.Op.{Op}
use Rattle.plugin_core.specs.Laws.{OneReading}
use Rattle.host_events.specs.declared.event.Event.{Event}
use Rattle.host_events.specs.declared.event.Event.TheVariants as event
use Rattle.host_events.specs.declared.outcome.Outcome.{Outcome}
use Rattle.session_engine.specs.World.{World}
use Rattle.session_engine.specs.Does.{Gives, Runs}
use Rattle.host_laws.specs.Apart.{AreAlike, SessionsAreIndependent, Reported, reported_to, session_tells, life_numbers, NoneRefused, kept, is_kept, concerns, begins, is_refusal_reply, added}
use Rattle.host_laws.proofs.ByParts.{by_parts}
use Rattle.host_laws.proofs.ApartLives.{same_name}
use Rattle.host_laws.proofs.ApartSteps.{alike_back, alike_on, other_child, own_child}
use Rattle.host_laws.proofs.ApartCommands.{Same, command_same, begins_alike}

-- an event of others
other_gives : (n : List ℕ) (w : World) (e : Event) (o : Outcome) (v : World) → is_kept n e ≡ false → Gives w e o v → AreAlike n w v
other_gives n w (event.Command c) o v k g = cc
other_gives n w (event.Child m number c) o v k g = other_child n m w number c o v k (by_parts w (event.Child m number c) o v g)

begins_not : (n : List ℕ) (w : World) (e : Event) → is_kept n e ≡ false → begins n w e ≡ []
begins_not n w (event.Command c) k = cc
begins_not n w (event.Child m number c) k = refl

-- an event that both have
both : OneReading → (n : List ℕ) (w x : World) (e : Event) (o p : Outcome) (v u : World) → is_kept n e ≡ true → AreAlike n w x → Gives w e o v → Gives x e p u
    → is_refusal_reply o.reply ≡ false → is_refusal_reply p.reply ≡ false → begins n w e ≡ begins n x e → Same n w x e o p v u
both one n w x (event.Command c) o p v u k a g h q r b = command_same n w x c o p v u a (by_parts w (event.Command c) o v g) (by_parts x (event.Command c) p u h) q r b
both one n w x (event.Child m number c) o p v u k a g h q r b =
    let s : n ≡ m = sym (same_name m n k) in
    let g2 : Gives w (event.Child n number c) o v = subst (λ (j : List ℕ). Gives w (event.Child j number c) o v) (sym s) g in
    let h2 : Gives x (event.Child n number c) p u = subst (λ (j : List ℕ). Gives x (event.Child j number c) p u) (sym s) h in
    let r = own_child one n w x number c o p v u a (by_parts w (event.Child n number c) o v g2) (by_parts x (event.Child n number c) p u h2) in
    record { alike = r.alike; about = refl; says = λ t. r.says; adds = r.adds }

reported_alike : (n : List ℕ) (w x : World) (e : Event) (o p : Outcome) (v u : World) → Same n w x e o p v u → reported_to n w e o v ≡ reported_to n x e p u
reported_alike n w x e o p v u s =
    ap (λ (k : Option Outcome). record { event = e; outcome = k; ops = added w v }) (go (concerns n w e) s.says ∙ ap (λ (b : Bool). if b then Some p else None) s.about)
    ∙ ap (λ (os : List Op). record { event = e; outcome = if concerns n x e then Some p else None; ops = os }) s.adds
  where
    go : (b : Bool) → (b ≡ true → o ≡ p) → (if b then Some o else None) ≡ (if b then Some p else None)
    go true says = ap (λ (k : Outcome). Some k) (says refl)
    go false says = refl

abbrev pub Law : List ℕ → World → World → List Event → List Event → List Outcome → List Outcome → World → World → Type 0
Law n w x es fs os ps v u = AreAlike n w x → (run : Runs w es os v) (other : Runs x fs ps u) → NoneRefused os → NoneRefused ps
    → kept n es ≡ kept n fs → life_numbers n w es os v run ≡ life_numbers n x fs ps u other → (session_tells n w es os v run ≡ session_tells n x fs ps u other) × AreAlike n v u

-- histories with nothing of the session
none_left : (n : List ℕ) (x : World) (fs : List Event) (ps : List Outcome) (u : World) (other : Runs x fs ps u) → kept n fs ≡ [] → (session_tells n x fs ps u other ≡ []) × AreAlike n x u
none_left n x [] [] u other h = (refl, subst (λ (y : World). AreAlike n x y) (sym other) (record { ops = refl; lives = refl }))
none_left n x [] (p ∷ ps) u other h = absurd other
none_left n x (f ∷ fs) [] u other h = absurd other
none_left n x (f ∷ fs) (p ∷ ps) u other h = go (is_kept n f) refl h (none_left n other.0 fs ps u other.2)
  where
    go : (b : Bool) → is_kept n f ≡ b → (if b then f ∷ kept n fs else kept n fs) ≡ [] → (kept n fs ≡ [] → (session_tells n other.0 fs ps u other.2 ≡ []) × AreAlike n other.0 u)
        → ((if b then reported_to n x f p other.0 ∷ session_tells n other.0 fs ps u other.2 else session_tells n other.0 fs ps u other.2) ≡ []) × AreAlike n x u
    go true k h ih = cc
    go false k h ih = let g = ih h in (g.0, alike_on n x other.0 u (other_gives n x f p other.0 k other.1) g.1)

-- an event of others on the right
skip_right : (n : List ℕ) (w x : World) (es fs : List Event) (f : Event) (os ps : List Outcome) (p : Outcome) (v u : World) → is_kept n f ≡ false
    → ((y : World) → Law n w y es fs os ps v u) → Law n w x es (f ∷ fs) os (p ∷ ps) v u
skip_right n w x es fs f os ps p v u k law a run other q r h m =
    let b = other_gives n x f p other.0 k other.1 in
    let g = law other.0 (alike_on n w x other.0 a b) run other.2 q r.1 (h ∙ ap (λ (b : Bool). if b then f ∷ kept n fs else kept n fs) k)
    (m ∙ ap (λ (ks : List ℕ). ks ++ life_numbers n other.0 fs ps u other.2) (begins_not n x f k)) in
    (g.0 ∙ sym (ap (λ (b : Bool). if b then reported_to n x f p other.0 ∷ session_tells n other.0 fs ps u other.2 else session_tells n other.0 fs ps u other.2) k), g.1)

-- an event of others on the left
skip_left : (n : List ℕ) (w x : World) (es fs : List Event) (e : Event) (os ps : List Outcome) (o : Outcome) (v u : World) → is_kept n e ≡ false
    → ((y : World) → Law n y x es fs os ps v u) → Law n w x (e ∷ es) fs (o ∷ os) ps v u
skip_left n w x es fs e os ps o v u k law a run other q r h m =
    let b = other_gives n w e o run.0 k run.1 in
    let g = law run.0 (alike_on n run.0 w x (alike_back n w run.0 b) a) run.2 other q.1 r (sym (ap (λ (b : Bool). if b then e ∷ kept n es else kept n es) k) ∙ h)
    (sym (ap (λ (ks : List ℕ). ks ++ life_numbers n run.0 es os v run.2) (begins_not n w e k)) ∙ m) in
    (ap (λ (b : Bool). if b then reported_to n w e o run.0 ∷ session_tells n run.0 es os v run.2 else session_tells n run.0 es os v run.2) k ∙ g.0, g.1)

tail_is : (e f : Event) (xs ys : List Event) → e ∷ xs ≡ f ∷ ys → (e ≡ f) × (xs ≡ ys)
tail_is e f xs ys h = (cc, cc)

-- an event of both
take_both : OneReading → (n : List ℕ) (w x : World) (es fs : List Event) (e : Event) (os ps : List Outcome) (o p : Outcome) (v u : World) → is_kept n e ≡ true
    → ((y z : World) → Law n y z es fs os ps v u) → Law n w x (e ∷ es) (e ∷ fs) (o ∷ os) (p ∷ ps) v u
take_both one n w x es fs e os ps o p v u k law a run other q r h m =
    let b = begins_alike n w x e a (life_numbers n run.0 es os v run.2) (life_numbers n other.0 fs ps u other.2) m in
    let s = both one n w x e o p run.0 other.0 k a run.1 other.1 q.0 r.0 b.0 in
    let j : e ∷ kept n es ≡ e ∷ kept n fs = sym (ap (λ (b : Bool). if b then e ∷ kept n es else kept n es) k) ∙ h ∙ ap (λ (b : Bool). if b then e ∷ kept n fs else kept n fs) k in
    let g = law run.0 other.0 s.alike run.2 other.2 q.1 r.1 (tail_is e e (kept n es) (kept n fs) j).1 b.1 in
    let t = reported_alike n w x e o p run.0 other.0 s in (
      ap (λ (b : Bool). if b then reported_to n w e o run.0 ∷ session_tells n run.0 es os v run.2 else session_tells n run.0 es os v run.2) k
          ∙ ap (λ (d : Reported). d ∷ session_tells n run.0 es os v run.2) t
          ∙ ap (λ (ds : List Reported). reported_to n x e p other.0 ∷ ds) g.0
          ∙ sym (ap (λ (b : Bool). if b then reported_to n x e p other.0 ∷ session_tells n other.0 fs ps u other.2 else session_tells n other.0 fs ps u other.2) k),
      g.1,
    )

catch_up : OneReading → (n : List ℕ) (e : Event) (es : List Event) (o : Outcome) (os : List Outcome) (w v : World) → is_kept n e ≡ true
    → ((y z : World) (fs : List Event) (ps : List Outcome) (u : World) → Law n y z es fs os ps v u)
    → (fs : List Event) (ps : List Outcome) (x u : World) → Law n w x (e ∷ es) fs (o ∷ os) ps v u
catch_up one n e es o os w v k law [] ps x u = λ a run other q r h m. let j : e ∷ kept n es ≡ [] = sym (ap (λ (b : Bool). if b then e ∷ kept n es else kept n es) k) ∙ h in cc
catch_up one n e es o os w v k law (f ∷ fs) [] x u = λ a run other q r h m. absurd other
catch_up one n e es o os w v k law (f ∷ fs) (p ∷ ps) x u = go (is_kept n f) refl (λ y. catch_up one n e es o os w v k law fs ps y u)
  where
    go : (b : Bool) → is_kept n f ≡ b → ((y : World) → Law n w y (e ∷ es) fs (o ∷ os) ps v u) → Law n w x (e ∷ es) (f ∷ fs) (o ∷ os) (p ∷ ps) v u
    go false j ih = skip_right n w x (e ∷ es) fs f (o ∷ os) ps p v u j ih
    go true j ih = λ a run other q r h m.
        let z : e ∷ kept n es ≡ f ∷ kept n fs = sym (ap (λ (b : Bool). if b then e ∷ kept n es else kept n es) k) ∙ h ∙ ap (λ (b : Bool). if b then f ∷ kept n fs else kept n fs) j in
        let y : e ≡ f = (tail_is e f (kept n es) (kept n fs) z).0 in
        subst (λ (d : Event). Law n w x (e ∷ es) (d ∷ fs) (o ∷ os) (p ∷ ps) v u) y (take_both one n w x es fs e os ps o p v u k (λ b c. law b c fs ps u)) a run other q r h m

law : OneReading → (n : List ℕ) (es : List Event) (os : List Outcome) (w x : World) (fs : List Event) (ps : List Outcome) (v u : World) → Law n w x es fs os ps v u
law one n [] [] w x fs ps v u = λ a run other q r h m.
    let g = none_left n x fs ps u other (sym h) in
    (sym g.0, alike_on n v x u (subst (λ (y : World). AreAlike n y x) (sym run) a) g.1)
law one n [] (o ∷ os) w x fs ps v u = λ a run other q r h m. absurd run
law one n (e ∷ es) [] w x fs ps v u = λ a run other q r h m. absurd run
law one n (e ∷ es) (o ∷ os) w x fs ps v u = go (is_kept n e) refl (λ y z gs rs t. law one n es os y z gs rs v t)
  where
    go : (b : Bool) → is_kept n e ≡ b → ((y z : World) (gs : List Event) (rs : List Outcome) (t : World) → Law n y z es gs os rs v t) → Law n w x (e ∷ es) fs (o ∷ os) ps v u
    go false k ih = skip_left n w x es fs e os ps o v u k (λ y. ih y x fs ps u)
    go true k ih = catch_up one n e es o os w v k ih fs ps x u

pub sessions_are_independent : OneReading → SessionsAreIndependent
sessions_are_independent one name w x es fs os ps v u a run other q r h m = law one name es os w x fs ps v u a run other q r h m
