-- One byte of many.
use Rattle.std.proofs.Common.{◌≡◌, ℕ, List, [], ◌∷◌, ◌++◌, refl, sym, ap, ◌∙◌, append-nil, Option, Some, None, Ok, Err}
use Rattle.std.specs.Prelude.{option_to_list}
use Rattle.meta_format.specs.Limits.{Limits}
use Rattle.meta_format.specs.Stream.{Outer}
use Rattle.meta_format.specs.Faults.{Kind, bad_tag, too_deep, too_long}
use Rattle.meta_format.specs.inside.Machine.{broken, State, after, next, run}
use Rattle.meta_format.specs.inside.Scan.{mode_of, scan_state, Steps, Scans}
use Rattle.meta_format.specs.Found.{outer_of, outers}
use Rattle.meta_format.specs.declared.scan.Scanner.{Scanner}
use Rattle.meta_format.specs.declared.scan.Found.{Found}
use Rattle.meta_format.specs.declared.scan.Stop.{Stop}
use Rattle.meta_format.specs.declared.scan.Stop.TheVariants as stop
use Rattle.meta_format.proofs.Unique.{following, apply_after, run_broken}

next_beyond : (most : Limits) (old : Scanner) (before : List Outer) (c : ℕ) → next most (scan_state old before) c ≡ following before (next most (scan_state old []) c)
next_beyond most old before c =
    ap (λ o. next most (scan_state old o) c) (sym (append-nil before)) ∙ apply_after before (scan_state old []) (after most old.at (mode_of old) c)

pub scan_byte : (most : Limits) (old new : Scanner) (before : List Outer) (c : ℕ) (found : Option Found) (rest : List ℕ) → Steps most old c (Ok found) new
    → run most (scan_state old before) (c ∷ rest) ≡ run most (scan_state new (before ++ outers (option_to_list found))) rest
scan_byte most old new before c found rest h = ap (λ q. run most q rest) (next_beyond most old before c ∙ ap (following before) h)

pub scan_none : (most : Limits) (old new : Scanner) (before : List Outer) (c : ℕ) (rest : List ℕ) → Steps most old c (Ok None) new
    → run most (scan_state old before) (c ∷ rest) ≡ run most (scan_state new before) rest
scan_none most old new before c rest h = scan_byte most old new before c None rest h ∙ ap (λ o. run most (scan_state new o) rest) (append-nil before)

pub scan_one : (most : Limits) (old new : Scanner) (before : List Outer) (c : ℕ) (found : Found) (rest : List ℕ) → Steps most old c (Ok (Some found)) new
    → run most (scan_state old before) (c ∷ rest) ≡ run most (scan_state new (before ++ outer_of found ∷ [])) rest
scan_one most old new before c found rest h = scan_byte most old new before c (Some found) rest h

pub outers_push : (fs : List Found) (f : Found) → outers (fs ++ f ∷ []) ≡ outers fs ++ outer_of f ∷ []
outers_push [] f = refl
outers_push (g ∷ fs) f = ap (λ os. outer_of g ∷ os) (outers_push fs f)

halted : (most : Limits) (mid : Scanner) (out : List Outer) (c at : ℕ) (kind : Kind) (rest : List ℕ) (q : State)
    → run most (scan_state mid out) (c ∷ rest) ≡ q → next most (scan_state mid []) c ≡ record { at = at; out = []; mode = broken kind at }
    → q ≡ record { at = at; out = out; mode = broken kind at }
halted most mid out c at kind rest q h k =
    sym h ∙ ap (λ p. run most p rest) (next_beyond most mid out c ∙ ap (following out) k) ∙ run_broken most at at (out ++ []) kind rest
    ∙ ap (λ o. record { at = at; out = o; mode = broken kind at }) (append-nil out)

pub scan_stop : (most : Limits) (old mid new : Scanner) (before : List Found) (found : List Found) (s : List ℕ) (c : ℕ) (e : Stop) (rest : List ℕ)
    → run most (scan_state mid (outers found)) (c ∷ rest) ≡ run most (scan_state old (outers before)) s → Steps most mid c (Err e) new
    → Scans most (scan_state old (outers before)) s (Err e) new found
scan_stop most old mid new before found s c stop.BadTag rest h k = halted most mid (outers found) c new.at bad_tag rest (run most (scan_state old (outers before)) s) h k
scan_stop most old mid new before found s c stop.TooDeep rest h k = halted most mid (outers found) c new.at too_deep rest (run most (scan_state old (outers before)) s) h k
scan_stop most old mid new before found s c stop.TooLong rest h k = halted most mid (outers found) c new.at too_long rest (run most (scan_state old (outers before)) s) h k
scan_stop most old mid new before found s c stop.OutOfMemory rest h k = tt

pub ruleset byte_rules = (scan_none, scan_one, scan_stop, outers_push)

fell : (most : Limits) (mid : State) (c at : ℕ) (out : List Outer) (kind : Kind) (rest : List ℕ) (q : State)
    → run most mid (c ∷ []) ≡ record { at = at; out = out; mode = broken kind at } → run most mid (c ∷ rest) ≡ q → q ≡ record { at = at; out = out; mode = broken kind at }
fell most mid c at out kind rest q h k = sym k ∙ ap (λ p. run most p rest) h ∙ run_broken most at at out kind rest

-- a fault at one byte is one of all
pub scans_stopped : (most : Limits) (old mid new : Scanner) (before between found : List Found) (c : ℕ) (rest s : List ℕ) (e : Stop)
    → Scans most (scan_state mid (outers between)) (c ∷ []) (Err e) new found → run most (scan_state mid (outers between)) (c ∷ rest) ≡ run most (scan_state old (outers before)) s
    → Scans most (scan_state old (outers before)) s (Err e) new found
scans_stopped most old mid new before between found c rest s stop.BadTag h k = fell most (scan_state mid (outers between)) c new.at (outers found) bad_tag rest (run most (scan_state old (outers before)) s) h k
scans_stopped most old mid new before between found c rest s stop.TooDeep h k = fell most (scan_state mid (outers between)) c new.at (outers found) too_deep rest (run most (scan_state old (outers before)) s) h k
scans_stopped most old mid new before between found c rest s stop.TooLong h k = fell most (scan_state mid (outers between)) c new.at (outers found) too_long rest (run most (scan_state old (outers before)) s) h k
scans_stopped most old mid new before between found c rest s stop.OutOfMemory h k = tt
