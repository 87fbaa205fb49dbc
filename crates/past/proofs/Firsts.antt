-- The first payloads of a front.
use Rattle.std.proofs.Common.{◌≡◌, ◌<◌, ◌≤◌, ◌+◌, ℕ, List, [], ◌++◌, length, Option, Some, None, Result, Ok, Err, inl, inr, refl, sym, ap, ◌∙◌, subst, length-append, arith}
use Rattle.std.specs.Prelude.{IfOk, take}
use Rattle.std.proofs.lemmas.List.{take_all, take-append-le}
use Rattle.disk_model.specs.Disk.{DiskView, Image, InModel, Looks, Rises, SameDisk, bytes_on}
use Rattle.journal.specs.Front.{FrontView, HasGivenFront, ImageHasFront, TellsHeader}
use Rattle.journal.specs.Open.{IsPassing}
use Rattle.journal.specs.declared.journal.OpenFault.{OpenFault}
use Rattle.journal.specs.declared.opening.OpenCause.{OpenCause}
use Rattle.journal.specs.declared.opening.OpenCause.TheVariants as opens
use Rattle.offline_programs.specs.declared.fault.RunFault.TheVariants as fault
use Rattle.past.specs.Earlier.{FirstAreRead, IsOfFirst, StandFirst, TellsOfLack, TellsOfPast, after_first}
use Rattle.past.specs.declared.fault.PastFault.{PastFault}
use Rattle.past.specs.declared.fault.PastFault.TheVariants as past
use Rattle.past.specs.inside.First.{FindsFirst, lack}
use Rattle.recovery.specs.Laws.{LongestRescue}
use Rattle.recovery.specs.Rescued.{IsRescued}
use Rattle.recovery.specs.Sheets.{Makes}
use Rattle.recovery.specs.declared.rescuing.Rescued.{Rescued}
use Rattle.recovery.specs.inside.Rescuing.{FindsRescued, Stops}
use Rattle.recovery.proofs.Rescues.{LeftInFront, ReachedInFront}
use Rattle.worksheet.specs.Contents.{Contents, SheetView}
use Rattle.worksheet.specs.Ops.{sheet_of}
use Rattle.worksheet.specs.declared.op.Op.{Op}

-- the ops whose payloads were given stand first on the disk
pub stand_first : (old now : FrontView) (ops : List Op) (payloads : List (List ℕ)) (sheet : Contents) → Makes ops sheet → HasGivenFront old [] payloads → LeftInFront now ops payloads → StandFirst (bytes_on old.disk) ops
stand_first old now ops payloads sheet makes has far = record {
  left = far.left;
  damaged = old.damaged;
  front = subst (λ (l : List (List ℕ)). ImageHasFront (bytes_on old.disk) l old.damaged) far.are has.has;
  makes = record { typed = makes.typed; lengths = makes.lengths; allowed = makes.allowed; is = refl };
}

-- so many were given
pub enough_given : {D : Type 0} (old now : FrontView) (sheet : SheetView) (kept n : ℕ) (disk : D) (payloads : List (List ℕ)) (reached : ReachedInFront old now sheet.contents kept)
    → HasGivenFront old [] payloads → LeftInFront now reached.ops payloads → kept ≡ n
    → FindsFirst (bytes_on old.disk) n (record { disk = disk; sheet = sheet; kept = kept; damage = None })
enough_given old now sheet kept n disk payloads reached has far all = inr (
  all,
  refl,
  (reached.ops, stand_first old now reached.ops payloads sheet.contents reached.makes has far, reached.makes.is, reached.count),
)

-- fewer were given, and a payload was refused
pub few_before : {D : Type 0} (i : Image) (n : ℕ) (disk : D) (sheet : SheetView) (kept : ℕ) (cause : OpenCause) (result : Result (Rescued D) (OpenFault D)) → Stops disk sheet kept cause result
    → kept < n → IfOk result (FindsRescued i) → IfOk result (FindsFirst i n)
few_before {D = D} i n disk sheet kept (opens.Damaged gate) result stops less found =
    subst (λ (r : Result (Rescued D) (OpenFault D)). IfOk r (FindsFirst i n)) (sym stops)
    (inl (less, subst (λ (r : Result (Rescued D) (OpenFault D)). IfOk r (FindsRescued i)) stops found))
few_before {D = D} i n disk sheet kept opens.NotASheet result stops less found = subst (λ (r : Result (Rescued D) (OpenFault D)). IfOk r (FindsFirst i n)) (sym stops) tt
few_before {D = D} i n disk sheet kept opens.Disk result stops less found = subst (λ (r : Result (Rescued D) (OpenFault D)). IfOk r (FindsFirst i n)) (sym stops) tt
few_before {D = D} i n disk sheet kept opens.OutOfMemory result stops less found = subst (λ (r : Result (Rescued D) (OpenFault D)). IfOk r (FindsFirst i n)) (sym stops) tt

-- and those are at most so many
pub most_before : {D : Type 0} (n : ℕ) (disk : D) (sheet : SheetView) (kept : ℕ) (cause : OpenCause) (result : Result (Rescued D) (OpenFault D)) → Stops disk sheet kept cause result
    → kept < n → IfOk result (λ found. found.kept ≤ n)
most_before {D = D} n disk sheet kept (opens.Damaged gate) result stops less = subst (λ (r : Result (Rescued D) (OpenFault D)). IfOk r (λ found. found.kept ≤ n)) (sym stops) (omega (arith, less))
most_before {D = D} n disk sheet kept opens.NotASheet result stops less = subst (λ (r : Result (Rescued D) (OpenFault D)). IfOk r (λ found. found.kept ≤ n)) (sym stops) tt
most_before {D = D} n disk sheet kept opens.Disk result stops less = subst (λ (r : Result (Rescued D) (OpenFault D)). IfOk r (λ found. found.kept ≤ n)) (sym stops) tt
most_before {D = D} n disk sheet kept opens.OutOfMemory result stops less = subst (λ (r : Result (Rescued D) (OpenFault D)). IfOk r (λ found. found.kept ≤ n)) (sym stops) tt

first_of_more : (ops more : List Op) → take (length ops) (ops ++ more) ≡ ops
first_of_more ops more = take-append-le (length ops) ops more (omega arith) ∙ take_all (length ops) ops (omega arith)

-- the ops that stand first are the first of those that a rescue keeps
pub after_enough : LongestRescue → (i : Image) (n : ℕ) (ops all : List Op) (damage : Option ℕ) (sheet : Contents) → StandFirst i ops → length ops ≡ n → sheet ≡ sheet_of ops → IsRescued i all damage
    → (n ≤ length all) × (sheet ≡ after_first n all)
after_enough longest i n ops all damage sheet first count is rescued =
    let more = longest i all damage ops first.left first.damaged rescued first.makes.typed first.makes.allowed first.front in (
      omega (arith, count, ap length more.1, length-append ops more.0),
      is ∙ ap sheet_of (sym (first_of_more ops more.0) ∙ ap (λ (m : ℕ). take m (ops ++ more.0)) count ∙ ap (λ (l : List Op). take n l) (sym more.1)),
    )

lack_no_fault : {T P : Type 0} (n : ℕ) (damage : Option ℕ) → let one : Result T PastFault = Err (lack n damage) in one ≡ Err (past.Run (fault.Open opens.Disk)) → P
lack_no_fault n None e = absurd cc
lack_no_fault n (Some gate) e = absurd cc

-- of n that were asked for fewer were found
few_after : {D : Type 0} (i : Image) (n : ℕ) (found : Rescued D) (damage : Option ℕ) → found.damage ≡ damage → found.kept < n → FindsFirst i n found → TellsOfPast i n (lack n damage)
few_after i n found None is less (inl few) = (refl, (few.1.0, subst (λ (d : Option ℕ). IsRescued i few.1.0 d) is few.1.1, omega (arith, less, few.1.3)))
few_after i n found (Some gate) is less (inl few) = (few.1.0, subst (λ (d : Option ℕ). IsRescued i few.1.0 d) is few.1.1, omega (arith, less, few.1.3))
few_after i n found None is less (inr enough) = absurd (omega (arith, less, enough.0))
few_after i n found (Some gate) is less (inr enough) = absurd (omega (arith, less, enough.0))

-- so many were found
all_after : LongestRescue → {D : Type 0} (i : Image) (n : ℕ) (found : Rescued D) → (found.kept < n → ⊥) → FindsFirst i n found → (all : List Op) (damage : Option ℕ) → IsRescued i all damage
    → (n ≤ length all) × (found.sheet.contents ≡ after_first n all)
all_after longest i n found most (inl few) all damage rescued = absurd (most few.0)
all_after longest i n found most (inr enough) all damage rescued =
    after_enough longest i n enough.2.0 all damage found.sheet.contents enough.2.1 (omega (arith, enough.0, enough.2.3)) enough.2.2 rescued

enough_found : {D : Type 0} (i : Image) (n : ℕ) (found : Rescued D) → (found.kept < n → ⊥) → FindsFirst i n found
    → IsOfFirst i n found
enough_found i n found most (inl few) = absurd (most few.0)
enough_found i n found most (inr enough) = (enough.2.0, enough.2.1, omega (arith, enough.0, enough.2.3), enough.2.2)

damage_none : {D : Type 0} (i : Image) (n : ℕ) (found : Rescued D) → (found.kept < n → ⊥) → FindsFirst i n found → found.damage ≡ None
damage_none i n found most (inl few) = absurd (most few.0)
damage_none i n found most (inr enough) = enough.1

module _ {D : Type 0} (view : D → DiskView) (n : ℕ) (disk : D) (found : Rescued D) (same : SameDisk (view disk) (view found.disk))
    (looks : InModel (view disk) (Looks (view disk).history (view found.disk).history)) (faults : (view found.disk).faults ≡ (view disk).faults)
    (finds : InModel (view disk) (FindsFirst (bytes_on (view disk)) n found)) where
  pub read_few : found.kept < n → FirstAreRead view n disk found.disk (Err (lack n found.damage))
  read_few less = record {
    same = same;
    looks = looks;
    disk_is = tt;
    made = tt;
    counted = tt;
    whole = λ model. tt;
    after_them = λ model. few_after (bytes_on (view disk)) n found found.damage refl less (finds model);
    of_all = λ model all damage rescued. tt;
    failed = λ e. lack_no_fault n found.damage e;
    steady = λ none. faults;
  }

  pub read_all : LongestRescue → (found.kept < n → ⊥) → (ops : List Op) × Makes ops found.sheet.contents × (length ops ≡ n) → found.kept ≡ n → FirstAreRead view n disk found.disk (Ok found)
  read_all longest most made counted = record {
    same = same;
    looks = looks;
    disk_is = refl;
    made = made;
    counted = counted;
    whole = λ model. damage_none (bytes_on (view disk)) n found most (finds model);
    after_them = λ model. enough_found (bytes_on (view disk)) n found most (finds model);
    of_all = λ model. all_after longest (bytes_on (view disk)) n found most (finds model);
    failed = λ e. absurd cc;
    steady = λ none. faults;
  }

headed : (i : Image) (n : ℕ) (cause : OpenCause) → TellsHeader i cause → TellsOfLack i n cause
headed i n (opens.Damaged gate) reported = absurd reported
headed i n opens.NotASheet reported = reported
headed i n opens.Disk reported = tt
headed i n opens.OutOfMemory reported = tt

pub passing_reported : (i : Image) (cause : OpenCause) → IsPassing cause → TellsHeader i cause
passing_reported i (opens.Damaged gate) passing = absurd passing
passing_reported i opens.NotASheet passing = absurd passing
passing_reported i opens.Disk passing = tt
passing_reported i opens.OutOfMemory passing = tt

same_cause : {T : Type 0} (one two : OpenCause) → let why : Result T PastFault = Err (past.Run (fault.Open one)) in why ≡ Err (past.Run (fault.Open two)) → one ≡ two
same_cause one two e = cc

-- a disk that isn't read as far, for a cause that isn't in the bytes after its header
pub read_none : {D : Type 0} (view : D → DiskView) (n : ℕ) (disk after : D) (cause : OpenCause) → SameDisk (view disk) (view after) → InModel (view disk) (Looks (view disk).history (view after).history)
    → InModel (view disk) (TellsHeader (bytes_on (view disk)) cause) → (cause ≡ opens.Disk → Rises (view disk).faults (view after).faults)
    → ((cause ≡ opens.Disk → ⊥) → (view after).faults ≡ (view disk).faults) → FirstAreRead view n disk after (Err (past.Run (fault.Open cause)))
read_none view n disk after cause same looks reported failed steady = record {
  same = same;
  looks = looks;
  disk_is = tt;
  made = tt;
  counted = tt;
  whole = λ model. tt;
  after_them = λ model. headed (bytes_on (view disk)) n cause (reported model);
  of_all = λ model all damage rescued. tt;
  failed = λ e. failed (same_cause cause opens.Disk e);
  steady = λ none. steady (λ e. none (ap (λ (c : OpenCause). Err (past.Run (fault.Open c))) e));
}
