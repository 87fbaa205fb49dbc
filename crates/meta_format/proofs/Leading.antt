-- Where rows of marks lead.
use Rattle.std.proofs.Common.{◌≡◌, ℕ, zero, suc, ◌<◌, ◌≤◌, Bool, List, [], ◌∷◌, ◌++◌, refl, sym, subst, arith}
use Rattle.block_tree.specs.inside.Marks.{Mark, open_mark, letter, close_mark}
use Rattle.meta_format.specs.inside.Rows.{Leads, Begins, IsOpen}

pub Leads-append : (most d e f : ℕ) (ms ns : List Mark) → Leads most d ms e → Leads most e ns f → Leads most d (ms ++ ns) f
Leads-append most d e f [] ns l k = subst (λ x. Leads most x ns f) (sym l) k
Leads-append most zero e f (m ∷ ms) ns l k = absurd l
Leads-append most (suc d) e f (letter c ∷ ms) ns l k = Leads-append most (suc d) e f ms ns l k
Leads-append most (suc d) e f (open_mark channel name ∷ ms) ns l k = (l.0, Leads-append most (suc (suc d)) e f ms ns l.1 k)
Leads-append most (suc d) e f (close_mark ∷ ms) ns l k = Leads-append most d e f ms ns l k

pub Begins-append : (most e f : ℕ) (ms ns : List Mark) → Begins most ms e → Leads most e ns f → Begins most (ms ++ ns) f
Begins-append most e f [] ns o k = absurd o
Begins-append most e f (letter c ∷ ms) ns o k = absurd o
Begins-append most e f (close_mark ∷ ms) ns o k = absurd o
Begins-append most e f (open_mark channel name ∷ ms) ns o k = (o.0, Leads-append most 1 e f ms ns o.1 k)

pub open_more : (most levels : ℕ) (channel : Bool) (name : List ℕ) (ms : List Mark) → IsOpen most ms levels → levels < most → Begins most (ms ++ open_mark channel name ∷ []) (suc levels)
open_more most levels channel name [] o h = (omega arith, let e : 1 ≡ suc levels = omega arith in e)
open_more most zero channel name (m ∷ ms) o h = absurd (omega arith)
open_more most (suc levels) channel name (m ∷ ms) o h = Begins-append most (suc levels) (suc (suc levels)) (m ∷ ms) (open_mark channel name ∷ []) o.1 (h, refl)

pub IsOpen-from_Begins : (most d : ℕ) (ms : List Mark) → Begins most ms (suc d) → IsOpen most ms (suc d)
IsOpen-from_Begins most d [] o = absurd o
IsOpen-from_Begins most d (m ∷ ms) o = (omega arith, o)

pub Begins-from_IsOpen : (most d : ℕ) (ms : List Mark) → IsOpen most ms (suc d) → Begins most ms (suc d)
Begins-from_IsOpen most d [] o = absurd (let e : suc d ≡ 0 = o in omega arith)
Begins-from_IsOpen most d (m ∷ ms) o = o.1

pub Leads-bound : (most d e : ℕ) (ms : List Mark) → Leads most d ms e → d ≤ most → e ≤ most
Leads-bound most d e [] l h = omega arith
Leads-bound most zero e (m ∷ ms) l h = absurd l
Leads-bound most (suc d) e (letter c ∷ ms) l h = Leads-bound most (suc d) e ms l h
Leads-bound most (suc d) e (open_mark channel name ∷ ms) l h = Leads-bound most (suc (suc d)) e ms l.1 (omega (arith, l.0))
Leads-bound most (suc d) e (close_mark ∷ ms) l h = Leads-bound most d e ms l (omega arith)

pub Begins-bound : (most e : ℕ) (ms : List Mark) → Begins most ms e → e ≤ most
Begins-bound most e [] o = absurd o
Begins-bound most e (letter c ∷ ms) o = absurd o
Begins-bound most e (close_mark ∷ ms) o = absurd o
Begins-bound most e (open_mark channel name ∷ ms) o = Leads-bound most 1 e ms o.1 (omega (arith, o.0))
