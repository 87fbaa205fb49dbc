-- One event in two worlds that are alike for a session.
use Rattle.std.proofs.Common.{◌≡◌, ℕ, List, [], ◌∷◌, ◌++◌, length, drop, refl, ap, sym, ◌∙◌, subst, Bool, true, false, Option, Some, None}
use Rattle.std.specs.Prelude.{if◌then◌else◌, ◌==◌}
use Rattle.std.specs.Str.{bytes_eq}
use Rattle.std.proofs.lemmas.List.{append-nil}
use Rattle.meta_format.specs.Stream.{Outer}
use Rattle.meta_format.specs.Faults.{Kind}
use Rattle.worksheet.specs.declared.op.Op.{Op}
use Rattle.worksheet.specs.declared.op.Op.TheVariants as op
use Rattle.plugin_core.specs.declared.step.Step.{Step}
use Rattle.plugin_core.specs.declared.step.Ended.{Ended}
use Rattle.block_tree.specs.declared.reason.Reason.{Reason}
use Rattle.block_tree.specs.declared.reason.Reason.TheVariants as reason
use Rattle.plugin_core.specs.declared.step.Answered.{Answered}
use Rattle.plugin_core.specs.declared.step.Answered.TheVariants as answered
use Rattle.plugin_core.specs.Past.{received, stream_of}
use Rattle.plugin_core.specs.Steps.{step_of}
use Rattle.plugin_core.specs.Laws.{OneReading}
use Rattle.host_events.specs.declared.event.ChildEvent.{ChildEvent}
use Rattle.host_events.specs.declared.event.ChildEvent.TheVariants as child
use Rattle.host_events.specs.declared.event.Event.TheVariants as event
use Rattle.host_events.specs.declared.outcome.Outcome.{Outcome}
use Rattle.host_events.specs.declared.reply.Reply.TheVariants as reply
use Rattle.session_engine.specs.Named.{without_named, replace_named}
use Rattle.session_engine.specs.World.{World, Going, kept_at_end, life_of, waiting_in, with_number, with_op_if}
use Rattle.session_engine.specs.inside.Words.{with_op, with_piece, reported_of}
use Rattle.session_engine.specs.Does.{op_by, ends, replies}
use Rattle.host_laws.specs.inside.Given.{Childed, Ended_by, Pieced, Ignored, GivesByParts}
use Rattle.session_engine.specs.inside.Parts.{without_life, goes_on}
use Rattle.host_laws.specs.Apart.{AreAlike, named, commanded, is_commanded, added, but_reasons}
use Rattle.host_laws.proofs.ApartLives.{is_itself, put_first, rest_of, front_of, replaced_other, without_other, replaced_own, without_own, first_is, first_has}
use Rattle.host_laws.proofs.ApartOps.{commanded-push, drop_length, drop_itself}
use Rattle.session_engine.proofs.Losing.{if_lost, if_pieced, op_if_lives}
use Rattle.plugin_core.specs.Items.{first_line_of}
use Rattle.session_engine.specs.inside.Commits.{kept_for}

pub alike_back : (n : List ℕ) (w v : World) → AreAlike n w v → AreAlike n v w
alike_back n w v a = record { ops = sym a.ops; lives = sym a.lives }

pub alike_on : (n : List ℕ) (u w v : World) → AreAlike n u w → AreAlike n w v → AreAlike n u v
alike_on n u w v a b = record { ops = a.ops ∙ b.ops; lives = a.lives ∙ b.lives }

pub life_alike : (n : List ℕ) (w x : World) → AreAlike n w x → life_of w n ≡ life_of x n
life_alike n w x a = first_is n w.lives ∙ ap front_of a.lives ∙ sym (first_is n x.lives)

-- An event gives the same in two worlds, and leads to worlds that are alike.
pub record Gives_alike (n : List ℕ) (w x : World) (o p : Outcome) (v u : World) : Type 0 where
  pub alike : AreAlike n v u
  pub says : o ≡ p
  pub adds : added w v ≡ added x u

moved : (n : List ℕ) (w x : World) (o p : Outcome) (v u : World) (a b : Outcome) (c d : World) → o ≡ a → p ≡ b → v ≡ c → u ≡ d → Gives_alike n w x a b c d → Gives_alike n w x o p v u
moved n w x o p v u a b c d oa pb vc ud g = record {
  alike = record {
    ops = ap (λ (z : World). commanded z.ops) vc ∙ g.alike.ops ∙ sym (ap (λ (z : World). commanded z.ops) ud);
    lives = ap (λ (z : World). named n z.lives) vc ∙ g.alike.lives ∙ sym (ap (λ (z : World). named n z.lives) ud);
  };
  says = oa ∙ g.says ∙ sym pb;
  adds = ap (λ (z : World). added w z) vc ∙ g.adds ∙ sym (ap (λ (z : World). added x z) ud);
}

pub push_alike : (n : List ℕ) (w x : World) (o : Op) → AreAlike n w x → AreAlike n (with_op o w) (with_op o x)
push_alike n w x o a = record {
  ops = commanded-push w.ops o ∙ ap (λ (os : List Op). os ++ (if is_commanded o then o ∷ [] else [])) a.ops ∙ sym (commanded-push x.ops o);
  lives = a.lives;
}

pub nothing_added : (w x : World) (os us : List Op) → os ≡ w.ops → us ≡ x.ops → but_reasons (drop (length w.ops) os) ≡ but_reasons (drop (length x.ops) us)
nothing_added w x os us e f = ap but_reasons (ap (λ (l : List Op). drop (length w.ops) l) e ∙ drop_itself w.ops ∙ sym (drop_itself x.ops) ∙ sym (ap (λ (l : List Op). drop (length x.ops) l) f))

pub one_added : (w x : World) (o : Op) → but_reasons (drop (length w.ops) (w.ops ++ o ∷ [])) ≡ but_reasons (drop (length x.ops) (x.ops ++ o ∷ []))
one_added w x o = ap but_reasons (drop_length w.ops (o ∷ []) ∙ sym (drop_length x.ops (o ∷ [])))

-- a reason isn't reported, and is no op that was commanded
pub none_reported : (w u : World) → u.ops ≡ w.ops → added w u ≡ []
none_reported w u e = ap but_reasons (ap (λ (l : List Op). drop (length w.ops) l) e ∙ drop_itself w.ops)

pub reason_reported : (w u : World) (id : ℕ) (why : Reason) → u.ops ≡ w.ops → added w (with_op (op.Lost id why) u) ≡ []
reason_reported w u id why e = ap but_reasons (ap (λ (l : List Op). drop (length w.ops) (l ++ op.Lost id why ∷ [])) e ∙ drop_length w.ops (op.Lost id why ∷ []))

pub kept_reported : (room end : ℕ) (why : Reason) (line : Option ℕ) (w u : World) → u.ops ≡ w.ops → added w (with_op_if (kept_for room end why line) u) ≡ []
kept_reported room end why line w u e = if_lost (λ p. added w (with_op_if p u) ≡ []) room end why line (none_reported w u e) (λ id f. reason_reported w u id why e)

pub kept_commanded : (room end : ℕ) (why : Reason) (line : Option ℕ) (u : World) → commanded (with_op_if (kept_for room end why line) u).ops ≡ commanded u.ops
kept_commanded room end why line u = if_lost (λ p. commanded (with_op_if p u).ops ≡ commanded u.ops) room end why line refl (λ id f. commanded-push u.ops (op.Lost id why) ∙ append-nil (commanded u.ops))

-- a line is lost in both
pub lost_alike : (n : List ℕ) (w x u y : World) (why : Reason) (line : Option ℕ) → AreAlike n u y
    → AreAlike n (with_op_if (kept_for w.room w.end why line) u) (with_op_if (kept_for x.room x.end why line) y)
lost_alike n w x u y why line a = record {
  ops = kept_commanded w.room w.end why line u ∙ a.ops ∙ sym (kept_commanded x.room x.end why line y);
  lives = ap (named n) (op_if_lives (kept_for w.room w.end why line) u) ∙ a.lives ∙ sym (ap (named n) (op_if_lives (kept_for x.room x.end why line) y));
}

-- The session's own child.

pub own_gone : (n : List ℕ) (w x : World) → AreAlike n w x → named n (without_named (λ l. l.name) n w.lives) ≡ named n (without_named (λ l. l.name) n x.lives)
own_gone n w x a = without_own n w.lives ∙ ap rest_of a.lives ∙ sym (without_own n x.lives)

pub own_put : (n : List ℕ) (y : Going) (w x : World) → bytes_eq y.name n ≡ true → AreAlike n w x
    → named n (replace_named (λ l. l.name) n y w.lives) ≡ named n (replace_named (λ l. l.name) n y x.lives)
own_put n y w x e a = replaced_own n y w.lives e ∙ ap (put_first y) a.lives ∙ sym (replaced_own n y x.lives e)

own_end : (w x : World) (l : Going) (why : Reason) (killed : Bool) → AreAlike l.name w x
    → Gives_alike l.name w x (ends l why killed) (ends l why killed) (with_op_if (kept_at_end w why (Some l)) (without_life l.name w)) (with_op_if (kept_at_end x why (Some l)) (without_life l.name x))
own_end w x l why killed a =
    let line = first_line_of (waiting_in l) in
    record {
      alike = lost_alike l.name w x (without_life l.name w) (without_life l.name x) why line (record { ops = a.ops; lives = own_gone l.name w x a });
      says = refl;
      adds = kept_reported w.room w.end why line w (without_life l.name w) refl ∙ sym (kept_reported x.room x.end why line x (without_life l.name x) refl);
    }

own_on : (w x : World) (l y : Going) (e : Option Ended) → y.name ≡ l.name → AreAlike l.name w x → AreAlike l.name (goes_on y e w) (goes_on y e x)
own_on w x l y None s a = record {
  ops = a.ops;
  lives = ap (λ (m : List ℕ). named l.name (replace_named (λ l. l.name) m y w.lives)) s
      ∙ own_put l.name y w x (ap (λ (m : List ℕ). bytes_eq m l.name) s ∙ is_itself l.name) a
      ∙ sym (ap (λ (m : List ℕ). named l.name (replace_named (λ l. l.name) m y x.lives)) s);
}
own_on w x l y (Some e) s a = record {
  ops = a.ops;
  lives = ap (λ (m : List ℕ). named l.name (without_named (λ l. l.name) m w.lives)) s ∙ own_gone l.name w x a ∙ sym (ap (λ (m : List ℕ). named l.name (without_named (λ l. l.name) m x.lives)) s);
}

ops_kept : (l : Going) (e : Option Ended) (w : World) → (goes_on l e w).ops ≡ w.ops
ops_kept l None w = refl
ops_kept l (Some e) w = refl

module _ (w x : World) (l y : Going) (o : Outcome) (e : Option Ended) (s : y.name ≡ l.name) (a : AreAlike l.name w x) where
  no_op : Gives_alike l.name w x o o (goes_on y e w) (goes_on y e x)
  no_op = record { alike = own_on w x l y e s a; says = refl; adds = nothing_added w x (goes_on y e w).ops (goes_on y e x).ops (ops_kept y e w) (ops_kept y e x) }

  an_op : (p : Op) → Gives_alike l.name w x o o (with_op p (goes_on y e w)) (with_op p (goes_on y e x))
  an_op p = record {
    alike = push_alike l.name (goes_on y e w) (goes_on y e x) p (own_on w x l y e s a);
    says = refl;
    adds = ap (λ (os : List Op). but_reasons (drop (length w.ops) (os ++ p ∷ []))) (ops_kept y e w) ∙ one_added w x p ∙ sym (ap (λ (os : List Op). but_reasons (drop (length x.ops) (os ++ p ∷ []))) (ops_kept y e x));
  }

  an_end : (why : Reason) (line : Option ℕ) → Gives_alike l.name w x o o (with_op_if (kept_for w.room w.end why line) (goes_on y e w)) (with_op_if (kept_for x.room x.end why line) (goes_on y e x))
  an_end why line = record {
    alike = lost_alike l.name w x (goes_on y e w) (goes_on y e x) why line (own_on w x l y e s a);
    says = refl;
    adds = kept_reported w.room w.end why line w (goes_on y e w) (ops_kept y e w) ∙ sym (kept_reported x.room x.end why line x (goes_on y e x) (ops_kept y e x));
  }

own_step : (w x : World) (l y : Going) (o : Outcome) (p : Option Answered) (e : Option Ended) → y.name ≡ l.name → AreAlike l.name w x
    → Gives_alike l.name w x o o (with_op_if (op_by w.room w.end p e) (goes_on y e w)) (with_op_if (op_by x.room x.end p e) (goes_on y e x))
own_step w x l y o None None s a = no_op w x l y o None s a
own_step w x l y o None (Some z) s a = an_end w x l y o (Some z) s a z.reason (first_line_of z.lost)
own_step w x l y o (Some (answered.Banner b)) None s a = no_op w x l y o None s a
own_step w x l y o (Some (answered.Banner b)) (Some z) s a = an_end w x l y o (Some z) s a z.reason (first_line_of z.lost)
own_step w x l y o (Some (answered.Line id prompt output)) e s a = an_op w x l y o e s a (op.Answer id prompt output)
own_step w x l y o (Some (answered.Complete id result)) e s a = no_op w x l y o e s a

own_piece : OneReading → (w x : World) (l : Going) (piece : List ℕ) (o p : Outcome) (v u : World) → AreAlike l.name w x → Pieced w (Some l) piece o v → Pieced x (Some l) piece p u → Gives_alike l.name w x o p v u
own_piece one w x l piece o p v u a g h =
    let r = one (stream_of (l.past ++ received piece ∷ [])) g.0 h.0 g.1 h.1 g.2.0 h.2.0 in
    let s : step_of l.past l.blocks piece g.0 g.1 ≡ step_of l.past l.blocks piece h.0 h.1 = ap (λ (bs : List Outer). step_of l.past l.blocks piece bs g.1) r.0 ∙ ap (λ (k : Option Kind). step_of l.past l.blocks piece h.0 k) r.1 in
    let mine : Step = step_of l.past l.blocks piece g.0 g.1 in
    moved l.name w x o p v u (reported_of l mine) (reported_of l mine) (with_op_if (op_by w.room w.end mine.answered mine.ended) (goes_on (with_piece l piece g.0) mine.ended w))
    (with_op_if (op_by x.room x.end mine.answered mine.ended) (goes_on (with_piece l piece g.0) mine.ended x))
    g.2.1 (h.2.1 ∙ ap (λ (t : Step). reported_of l t) (sym s)) g.2.2
    (h.2.2 ∙ ap (λ (t : Step). with_op_if (op_by x.room x.end t.answered t.ended) (goes_on (with_piece l piece h.0) t.ended x)) (sym s)
    ∙ ap (λ (bs : List Outer). with_op_if (op_by x.room x.end mine.answered mine.ended) (goes_on (with_piece l piece bs) mine.ended x)) (sym r.0))
    (own_step w x l (with_piece l piece g.0) (reported_of l mine) mine.answered mine.ended refl a)

ignored : (n : List ℕ) (w x : World) (o p : Outcome) (v u : World) → AreAlike n w x → Ignored w o v → Ignored x p u → Gives_alike n w x o p v u
ignored n w x o p v u a g h = moved n w x o p v u (replies reply.Nothing) (replies reply.Nothing) w x g.0 h.0 g.1 h.1 (record { alike = a; says = refl; adds = nothing_added w x w.ops x.ops refl refl })

ended : (w x : World) (l : Going) (why : Reason) (killed : Bool) (o p : Outcome) (v u : World) → AreAlike l.name w x → Ended_by w (Some l) why killed o v → Ended_by x (Some l) why killed p u → Gives_alike l.name w x o p v u
ended w x l why killed o p v u a g h = moved l.name w x o p v u (ends l why killed) (ends l why killed) (with_op_if (kept_at_end w why (Some l)) (without_life l.name w)) (with_op_if (kept_at_end x why (Some l)) (without_life l.name x)) g.0 h.0 g.1 h.1 (own_end w x l why killed a)

own_life : OneReading → (w x : World) (l : Going) (c : ChildEvent) (o p : Outcome) (v u : World) → AreAlike l.name w x → Childed w (Some l) c o v → Childed x (Some l) c p u → Gives_alike l.name w x o p v u
own_life one w x l child.StartRefused o p v u a g h = ended w x l reason.StartRefused false o p v u a g h
own_life one w x l (child.Piece piece) o p v u a g h = own_piece one w x l piece o p v u a g h
own_life one w x l child.End o p v u a g h = ended w x l reason.Ended true o p v u a g h
own_life one w x l child.ReadFault o p v u a g h = ended w x l reason.ReadFault true o p v u a g h
own_life one w x l child.SendFault o p v u a g h = ended w x l reason.SendFault true o p v u a g h
own_life one w x l child.Stalled o p v u a g h = ended w x l reason.Stalled true o p v u a g h
own_life one w x l child.StopFault o p v u a g h = ignored l.name w x o p v u a g h

no_life : (w : World) (c : ChildEvent) (o : Outcome) (v : World) → Childed w None c o v → Ignored w o v
no_life w child.StartRefused o v g = g
no_life w (child.Piece piece) o v g = g
no_life w child.End o v g = g
no_life w child.ReadFault o v g = g
no_life w child.SendFault o v g = g
no_life w child.Stalled o v g = g
no_life w child.StopFault o v g = g

pub own_child : OneReading → (n : List ℕ) (w x : World) (number : ℕ) (c : ChildEvent) (o p : Outcome) (v u : World) → AreAlike n w x
    → GivesByParts w (event.Child n number c) o v → GivesByParts x (event.Child n number c) p u → Gives_alike n w x o p v u
own_child one n w x number c o p v u a g h = go (life_of w n) refl g (subst (λ (k : Option Going). Childed x (with_number number k) c p u) (sym (life_alike n w x a)) h)
  where
    go : (k : Option Going) → life_of w n ≡ k → Childed w (with_number number k) c o v → Childed x (with_number number k) c p u → Gives_alike n w x o p v u
    go None e g h = ignored n w x o p v u a (no_life w c o v g) (no_life x c p u h)
    go (Some l) e g h = here (l.number == number) (first_has n w.lives l e) g h
      where
        here : (b : Bool) → l.name ≡ n → Childed w (if b then Some l else None) c o v → Childed x (if b then Some l else None) c p u → Gives_alike n w x o p v u
        here true s g h = subst (λ (m : List ℕ). Gives_alike m w x o p v u) s (own_life one w x l c o p v u (subst (λ (m : List ℕ). AreAlike m w x) (sym s) a) g h)
        here false s g h = ignored n w x o p v u a (no_life w c o v g) (no_life x c p u h)

-- Another session's child.

at_alike : (n : List ℕ) (w v z : World) → v ≡ z → AreAlike n w z → AreAlike n w v
at_alike n w v z e a = subst (λ (y : World). AreAlike n w y) (sym e) a

other_op : (n : List ℕ) (w z : World) (room end : ℕ) (a : Option Answered) (e : Option Ended) → AreAlike n w z → AreAlike n w (with_op_if (op_by room end a e) z)
other_op n w z room end x e a = if_pieced (λ p. AreAlike n w (with_op_if p z)) room end x e a
    (λ id prompt output f. record { ops = a.ops ∙ sym (commanded-push z.ops (op.Answer id prompt output) ∙ append-nil (commanded z.ops)); lives = a.lives })
    (λ y id f g none. record { ops = a.ops ∙ sym (commanded-push z.ops (op.Lost id y.reason) ∙ append-nil (commanded z.ops)); lives = a.lives })

other_on : (n : List ℕ) (w : World) (y : Going) (e : Option Ended) → bytes_eq y.name n ≡ false → AreAlike n w (goes_on y e w)
other_on n w y None h = record { ops = refl; lives = sym (replaced_other n y w.lives h) }
other_on n w y (Some e) h = record { ops = refl; lives = sym (without_other n y.name w.lives h) }

pub other_end : (n : List ℕ) (w : World) (m : List ℕ) (p : Option Op) → commanded (with_op_if p (without_life m w)).ops ≡ commanded w.ops → bytes_eq m n ≡ false → AreAlike n w (with_op_if p (without_life m w))
other_end n w m p same h = record { ops = sym same; lives = sym (ap (named n) (op_if_lives p (without_life m w)) ∙ without_other n m w.lives h) }

ended_other : (n : List ℕ) (w : World) (l : Going) (why : Reason) (v : World) → bytes_eq l.name n ≡ false → v ≡ with_op_if (kept_at_end w why (Some l)) (without_life l.name w) → AreAlike n w v
ended_other n w l why v h is = at_alike n w v (with_op_if (kept_at_end w why (Some l)) (without_life l.name w)) is
    (other_end n w l.name (kept_at_end w why (Some l)) (kept_commanded w.room w.end why (first_line_of (waiting_in l)) (without_life l.name w)) h)

other_life : (n : List ℕ) (w : World) (l : Going) (c : ChildEvent) (o : Outcome) (v : World) → bytes_eq l.name n ≡ false → Childed w (Some l) c o v → AreAlike n w v
other_life n w l child.StartRefused o v h g = ended_other n w l reason.StartRefused v h g.1
other_life n w l (child.Piece piece) o v h g =
    let s : Step = step_of l.past l.blocks piece g.0 g.1 in
    at_alike n w v (with_op_if (op_by w.room w.end s.answered s.ended) (goes_on (with_piece l piece g.0) s.ended w)) g.2.2
    (other_op n w (goes_on (with_piece l piece g.0) s.ended w) w.room w.end s.answered s.ended (other_on n w (with_piece l piece g.0) s.ended h))
other_life n w l child.End o v h g = ended_other n w l reason.Ended v h g.1
other_life n w l child.ReadFault o v h g = ended_other n w l reason.ReadFault v h g.1
other_life n w l child.SendFault o v h g = ended_other n w l reason.SendFault v h g.1
other_life n w l child.Stalled o v h g = ended_other n w l reason.Stalled v h g.1
other_life n w l child.StopFault o v h g = at_alike n w v w g.1 (record { ops = refl; lives = refl })

pub other_child : (n m : List ℕ) (w : World) (number : ℕ) (c : ChildEvent) (o : Outcome) (v : World) → bytes_eq m n ≡ false → GivesByParts w (event.Child m number c) o v → AreAlike n w v
other_child n m w number c o v h g = go (life_of w m) refl g
  where
    go : (k : Option Going) → life_of w m ≡ k → Childed w (with_number number k) c o v → AreAlike n w v
    go None e g = at_alike n w v w (no_life w c o v g).1 (record { ops = refl; lives = refl })
    go (Some l) e g = here (l.number == number) (first_has m w.lives l e) g
      where
        here : (b : Bool) → l.name ≡ m → Childed w (if b then Some l else None) c o v → AreAlike n w v
        here true s g = other_life n w l c o v (ap (λ (k : List ℕ). bytes_eq k n) s ∙ h) g
        here false s g = at_alike n w v w (no_life w c o v g).1 (record { ops = refl; lives = refl })
