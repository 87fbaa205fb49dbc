use Rattle.std.proofs.Common.{◌≡◌, ℕ, length, ap, sym, ◌∙◌, refl, subst, true, false, Option, Some, None}
use Rattle.std.specs.Prelude.{nat_le}
use Rattle.std.proofs.lemmas.Bool.{le-leb, lt-leb}
use Rattle.worksheet.specs.declared.refusal.Refusal.TheVariants as refusal
use Rattle.worksheet.specs.Checks.{first_of}
use Rattle.plugin_core.specs.Limits.{most_waiting}
use Rattle.session_engine.specs.Limits.{most_lives}
use Rattle.session_engine.specs.declared.table.Running.{Running}
use Rattle.session_engine.specs.World.{Going, life_of, waiting_in}
use Rattle.session_engine.specs.Refused.{queue_refusals}
use Rattle.session_engine.specs.Host.{name_of, life_in}
use Rattle.session_engine.proofs.Tables.{placed, none, found, not_found}
use Rattle.session_engine.proofs.engine.Engine.queue.Goals as goal

pub returns-then-waiting-ge-MOST_WAITING : goal.returns-then-waiting-ge-MOST_WAITING
returns-then-waiting-ge-MOST_WAITING g c = λ w h.
    let rs = c.args.self.now.lives.items in
    let r = c.index.result.now in
    let p = placed name_of c.args.name rs c.in-Some.place (sym c.place_of.ensures.found ∙ c.in-Some.is) in
    let here : life_in rs c.args.name ≡ Some r = p.found r ∙ ap (λ (x : Running). Some x) (sym c.index.ensures) in
    let f = found c.args.name rs w.lives r h.lives_are here in
    let n : c.waiting.result ≡ length (waiting_in f.life) = c.waiting.ensures f.life.past f.life.blocks f.runs.stands in
    let full : nat_le most_waiting (length (waiting_in f.life)) ≡ true = ap (λ (k : ℕ). nat_le most_waiting k) (sym n) ∙ le-leb most_waiting c.waiting.result c.if-waiting-ge-MOST_WAITING.true in
    subst (λ (o : Option Going). Some refusal.QueueFull ≡ first_of (queue_refusals w o)) (sym f.is) (rw full refl)

pub returns-else-waiting-ge-MOST_WAITING : goal.returns-else-waiting-ge-MOST_WAITING
returns-else-waiting-ge-MOST_WAITING g c = λ w h.
    let rs = c.args.self.now.lives.items in
    let r = c.index.result.now in
    let p = placed name_of c.args.name rs c.in-Some.place (sym c.place_of.ensures.found ∙ c.in-Some.is) in
    let here : life_in rs c.args.name ≡ Some r = p.found r ∙ ap (λ (x : Running). Some x) (sym c.index.ensures) in
    let f = found c.args.name rs w.lives r h.lives_are here in
    let n : c.waiting.result ≡ length (waiting_in f.life) = c.waiting.ensures f.life.past f.life.blocks f.runs.stands in
    let room : nat_le most_waiting (length (waiting_in f.life)) ≡ false = ap (λ (k : ℕ). nat_le most_waiting k) (sym n) ∙ lt-leb most_waiting c.waiting.result c.if-waiting-ge-MOST_WAITING.false in
    subst (λ (o : Option Going). None ≡ first_of (queue_refusals w o)) (sym f.is) (rw room refl)

pub returns-then-self-ge-MOST_LIVES : goal.returns-then-self-ge-MOST_LIVES
returns-then-self-ge-MOST_LIVES g c = λ w h.
    let rs = c.args.self.now.lives.items in
    let e : life_of w c.args.name ≡ None = not_found c.args.name rs w.lives h.lives_are (none name_of c.args.name 0 rs (sym c.place_of.ensures.found ∙ c.in-None.is)) in
    let spent : nat_le most_lives w.begun ≡ true = ap (λ (k : ℕ). nat_le most_lives k) (sym h.begun_is) ∙ le-leb most_lives c.args.self.now.begun c.if-self-ge-MOST_LIVES.true in
    subst (λ (o : Option Going). Some refusal.LivesSpent ≡ first_of (queue_refusals w o)) (sym e) (rw spent refl)

pub returns-else-self-ge-MOST_LIVES : goal.returns-else-self-ge-MOST_LIVES
returns-else-self-ge-MOST_LIVES g c = λ w h.
    let rs = c.args.self.now.lives.items in
    let e : life_of w c.args.name ≡ None = not_found c.args.name rs w.lives h.lives_are (none name_of c.args.name 0 rs (sym c.place_of.ensures.found ∙ c.in-None.is)) in
    let left : nat_le most_lives w.begun ≡ false = ap (λ (k : ℕ). nat_le most_lives k) (sym h.begun_is) ∙ lt-leb most_lives c.args.self.now.begun c.if-self-ge-MOST_LIVES.false in
    subst (λ (o : Option Going). None ≡ first_of (queue_refusals w o)) (sym e) (rw left refl)
