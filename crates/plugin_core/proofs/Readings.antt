-- A stream has one reading, and a piece gives one step.
use Rattle.std.proofs.Common.{◌≡◌, ℕ, List, ◌++◌, length, take, refl, ap, sym, ◌∙◌, subst, arith, Option, Some, None}
use Rattle.std.proofs.Math.Seq.{take-append_seam}
use Rattle.meta_format.specs.Limits.{Limits, limits, IsRoomy}
use Rattle.meta_format.specs.Stream.{Outer, Stream}
use Rattle.meta_format.specs.Faults.{Kind, FirstFault}
use Rattle.plugin_core.specs.Steps.{step_of}
use Rattle.plugin_core.specs.Laws.{OneReading, OneStep}

roomy : IsRoomy limits
roomy = record { levels = omega arith; block = omega arith }

front_is : (s a b c d : List ℕ) → s ≡ a ++ b → s ≡ c ++ d → length a ≡ length c → a ≡ c
front_is s a b c d e f h = sym (take-append_seam a b) ∙ ap (take (length a)) (sym e ∙ f) ∙ ap (λ n. take n (c ++ d)) h ∙ take-append_seam c d

-- Where streams have one list of blocks each, and one first fault.
pub one_of_streams : ((most : Limits) → IsRoomy most → (s : List ℕ) (blocks others : List Outer) (tail rest : List ℕ) → Stream most s blocks tail → Stream most s others rest → (blocks ≡ others) × (tail ≡ rest))
    → ((most : Limits) → IsRoomy most → (s : List ℕ) (at place : ℕ) (kind other : Kind) → FirstFault most s at kind → FirstFault most s place other → (at ≡ place) × (kind ≡ other))
    → OneReading
one_of_streams stream fault s blocks others None None h k = ((stream limits roomy s blocks others h.0.0 k.0.0 h.0.1 k.0.1).0, refl)
one_of_streams stream fault s blocks others None (Some other) h k = absurd (h.1 k.0 other k.1.first.fault)
one_of_streams stream fault s blocks others (Some kind) None h k = absurd (k.1 h.0 kind h.1.first.fault)
one_of_streams stream fault s blocks others (Some kind) (Some other) h k =
    let f = fault limits roomy s h.0 k.0 kind other h.1.first k.1.first in
    let same : h.1.front ≡ k.1.front = front_is s h.1.front h.1.rest k.1.front k.1.rest h.1.is k.1.is (sym h.1.at_is ∙ f.0 ∙ k.1.at_is) in
    ((stream limits roomy k.1.front blocks others h.1.tail k.1.tail (subst (λ (t : List ℕ). Stream limits t blocks h.1.tail) same h.1.stream) k.1.stream).0, ap (λ (x : Kind). Some x) f.1)

pub one_of_steps : OneReading → OneStep
one_of_steps one past before piece step other life another h k =
    let e = one _ h.after k.after h.fault k.fault h.reads k.reads in
    h.gives ∙ ap (λ (blocks : List Outer). step_of past before piece blocks h.fault) e.0 ∙ ap (λ (fault : Option Kind). step_of past before piece k.after fault) e.1 ∙ sym k.gives
