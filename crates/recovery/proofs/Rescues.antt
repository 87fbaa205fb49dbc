-- What a rescue finds.
use Rattle.std.proofs.Common.{◌≡◌, ℕ, Bool, false, List, [], ◌∷◌, ◌++◌, length, Option, Some, None, Result, Ok, Err, refl, sym, ap, ◌∙◌, subst, append_assoc, append-nil, length-append, arith}
use Rattle.std.specs.Prelude.{IfOk, IfErr}
use Rattle.std.specs.List.{AllByRecursion}
use Rattle.std.proofs.lemmas.List.{append_cancel_left}
use Rattle.disk_model.specs.Disk.{Image, InModel, bytes_on}
use Rattle.worksheet.specs.declared.op.Op.{Op}
use Rattle.worksheet.specs.Contents.{Contents, SheetView}
use Rattle.worksheet.specs.Ops.{sheet_of}
use Rattle.worksheet.specs.Checks.{Allowed, AllowedFrom, first_refusal}
use Rattle.worksheet.proofs.Existence.{allowed_goes_on}
use Rattle.journal.specs.Area.{end_of}
use Rattle.journal.specs.Front.{FrontView, HasFront, HasGivenFront, ImageHasFront, TellsHeader, damage_at}
use Rattle.journal.specs.Kept.{active_of}
use Rattle.journal.specs.Laws.{OneFront}
use Rattle.journal.specs.Limits.{longest_payload}
use Rattle.journal.specs.Open.{IsPassing}
use Rattle.journal.specs.declared.walk.Payload.{Payload}
use Rattle.journal.specs.declared.journal.OpenFault.{OpenFault}
use Rattle.journal.specs.declared.opening.OpenCause.{OpenCause}
use Rattle.journal.specs.declared.opening.OpenCause.TheVariants as opens
use Rattle.recovery.specs.Code.{code_of, IsPayloadOf, IsTyped}
use Rattle.recovery.specs.Sheets.{codes_of, Makes}
use Rattle.recovery.specs.Rescued.{IsRescued, StopsAfter, stops_at}
use Rattle.recovery.specs.Laws.{LongestRescue, OneRescue, RescueOfWhole}
use Rattle.recovery.specs.inside.Rescuing.{FindsRescued, Stops}
use Rattle.recovery.specs.inside.Taken.{TakesOps, Refuses}
use Rattle.recovery.specs.declared.rescuing.Rescued.{Rescued}
use Rattle.recovery.proofs.Allowed.{allowed_have_code}
use Rattle.recovery.proofs.Images.{head_is, same_op}
use Rattle.recovery.proofs.Taking.{codes_push}

-- the payloads so far are taken, and these are left
pub record LeftInFront (now : FrontView) (ops : List Op) (payloads : List (List ℕ)) : Type 0 where
  pub left : List (List ℕ)
  pub given : HasGivenFront now (codes_of ops) left
  pub are : payloads ≡ codes_of ops ++ left

-- a front has given the payloads of so many ops, which make this sheet
pub record ReachedInFront (old now : FrontView) (sheet : Contents) (kept : ℕ) : Type 0 where
  pub ops : List Op
  pub makes : Makes ops sheet
  pub count : kept ≡ length ops
  pub damaged : now.damaged ≡ old.damaged
  pub so_far : InModel old.disk ((payloads : List (List ℕ)) → HasGivenFront old [] payloads → LeftInFront now ops payloads)

-- one payload more
pub left_beyond : (now following : FrontView) (ops : List Op) (payloads : List (List ℕ)) (bytes : List ℕ) (sheet : Contents) (far : LeftInFront now ops payloads)
    → ((others : List (List ℕ)) × (far.left ≡ bytes ∷ others) × HasGivenFront following (codes_of ops ++ bytes ∷ []) others)
    → (takes : TakesOps ops bytes sheet) → LeftInFront following (ops ++ takes.next ∷ []) payloads
left_beyond now following ops payloads bytes sheet far next takes =
    let codes : codes_of ops ++ bytes ∷ [] ≡ codes_of (ops ++ takes.next ∷ []) =
    ap (λ (b : List ℕ). codes_of ops ++ b ∷ []) takes.is ∙ sym (codes_push ops takes.next) in
    record {
      left = next.0;
      given = subst (λ (l : List (List ℕ)). HasGivenFront following l next.0) codes next.2;
      are = far.are ∙ ap (λ (l : List (List ℕ)). codes_of ops ++ l) next.1 ∙ sym (append_assoc (codes_of ops) (bytes ∷ []) next.0)
          ∙ ap (λ (l : List (List ℕ)). l ++ next.0) codes;
    }

-- what stops it is what stops a rescue
module _ (old now : FrontView) (ops : List Op) (payloads : List (List ℕ)) (makes : Makes ops (sheet_of ops)) (same : now.damaged ≡ old.damaged)
    (has : HasGivenFront old [] payloads) (far : LeftInFront now ops payloads) where
  whole_front : (left : List (List ℕ)) → far.left ≡ left → ImageHasFront (bytes_on old.disk) (codes_of ops ++ left) old.damaged
  whole_front left is = subst (λ (l : List (List ℕ)). ImageHasFront (bytes_on old.disk) l old.damaged) (far.are ∙ ap (λ (l : List (List ℕ)). codes_of ops ++ l) is) has.has

  pub rescued_whole : (damage : Option ℕ) → far.left ≡ [] → damage ≡ damage_at now.damaged now.end → IsRescued (bytes_on old.disk) ops damage
  rescued_whole damage none reported = record {
    left = [];
    damaged = old.damaged;
    front = whole_front [] none;
    makes = makes;
    stops = tt;
    damage_is = reported ∙ ap (λ (b : Bool). damage_at b now.end) same
        ∙ ap (λ (n : ℕ). damage_at old.damaged n) (far.given.end_is ∙ ap (λ (l : List (List ℕ)). end_of (codes_of ops ++ l)) none ∙ ap end_of (append-nil (codes_of ops)));
  }

  pub rescued_before : (gate : ℕ) (payload : List ℕ) (others : List (List ℕ)) → far.left ≡ payload ∷ others → gate ≡ now.gate
      → ((o : Op) → IsPayloadOf o payload → first_refusal (sheet_of ops) o ≡ None → ⊥) → IsRescued (bytes_on old.disk) ops (Some gate)
  rescued_before gate payload others next here wrong = record {
    left = payload ∷ others;
    damaged = old.damaged;
    front = whole_front (payload ∷ others) next;
    makes = makes;
    stops = wrong;
    damage_is = ap (λ (n : ℕ). Some n) (here ∙ far.given.gate_is);
  }

own_sheet : (ops : List Op) (sheet : Contents) → Makes ops sheet → Makes ops (sheet_of ops)
own_sheet ops sheet makes = record { typed = makes.typed; lengths = makes.lengths; allowed = makes.allowed; is = refl }

-- all was given
pub found_whole : {D : Type 0} (old now : FrontView) (sheet : SheetView) (kept : ℕ) (disk : D) (damage : Option ℕ) (payloads : List (List ℕ)) (reached : ReachedInFront old now sheet.contents kept)
    → HasGivenFront old [] payloads → (far : LeftInFront now reached.ops payloads) → far.left ≡ [] → damage ≡ damage_at now.damaged now.end
    → FindsRescued (bytes_on old.disk) (record { disk = disk; sheet = sheet; kept = kept; damage = damage })
found_whole old now sheet kept disk damage payloads reached has far none reported = (
  reached.ops,
  rescued_whole old now reached.ops payloads (own_sheet reached.ops sheet.contents reached.makes) reached.damaged has far damage none reported,
  reached.makes.is,
  reached.count,
)

-- a payload was refused
pub found_before : {D : Type 0} (old now : FrontView) (before sheet : SheetView) (kept : ℕ) (disk : D) (p : Payload) (payloads : List (List ℕ)) (cause : OpenCause) (result : Result (Rescued D) (OpenFault D)) (reached : ReachedInFront old now before.contents kept)
    → HasGivenFront old [] payloads → (far : LeftInFront now reached.ops payloads) (others : List (List ℕ)) → far.left ≡ p.bytes ∷ others → p.gate ≡ now.gate → sheet.contents ≡ before.contents
    → Refuses reached.ops p cause → Stops disk sheet kept cause result → IfOk result (FindsRescued (bytes_on old.disk))
found_before {D = D} old now before sheet kept disk p payloads (opens.Damaged gate) result reached has far others next here same refuses stops =
    subst (λ (r : Result (Rescued D) (OpenFault D)). IfOk r (FindsRescued (bytes_on old.disk))) (sym stops) (
      reached.ops,
      rescued_before old now reached.ops payloads (own_sheet reached.ops before.contents reached.makes) reached.damaged has far gate p.bytes others next (refuses.0 ∙ here) refuses.1,
      same ∙ reached.makes.is,
      reached.count,
    )
found_before old now before sheet kept disk p payloads opens.NotASheet result reached has far others next here same refuses stops = absurd refuses
found_before old now before sheet kept disk p payloads opens.Disk result reached has far others next here same refuses stops = absurd refuses
found_before {D = D} old now before sheet kept disk p payloads opens.OutOfMemory result reached has far others next here same refuses stops =
    subst (λ (r : Result (Rescued D) (OpenFault D)). IfOk r (FindsRescued (bytes_on old.disk))) (sym stops) tt

-- and over any disk
pub made_before : {D : Type 0} (ops : List Op) (before sheet : SheetView) (kept : ℕ) (disk : D) (p : Payload) (cause : OpenCause) (result : Result (Rescued D) (OpenFault D)) → Makes ops before.contents → kept ≡ length ops
    → sheet.contents ≡ before.contents → Refuses ops p cause → Stops disk sheet kept cause result → IfOk result (λ found. (os : List Op) × Makes os found.sheet.contents × (found.kept ≡ length os))
made_before {D = D} ops before sheet kept disk p (opens.Damaged gate) result makes count same refuses stops =
    subst (λ (r : Result (Rescued D) (OpenFault D)). IfOk r (λ found. (os : List Op) × Makes os found.sheet.contents × (found.kept ≡ length os))) (sym stops)
    (ops, subst (λ (s : Contents). Makes ops s) (sym same) makes, count)
made_before ops before sheet kept disk p opens.NotASheet result makes count same refuses stops = absurd refuses
made_before ops before sheet kept disk p opens.Disk result makes count same refuses stops = absurd refuses
made_before {D = D} ops before sheet kept disk p opens.OutOfMemory result makes count same refuses stops =
    subst (λ (r : Result (Rescued D) (OpenFault D)). IfOk r (λ found. (os : List Op) × Makes os found.sheet.contents × (found.kept ≡ length os))) (sym stops) tt

-- Allowed ops whose payloads stand there are the first of those that are rescued.
longest_from : (before ops others : List Op) (left rest : List (List ℕ)) → Allowed before → AllowedFrom before ops → AllowedFrom before others → AllByRecursion IsTyped ops → AllByRecursion IsTyped others
    → codes_of ops ++ left ≡ codes_of others ++ rest → StopsAfter (before ++ ops) left → (more : List Op) × (ops ≡ others ++ more)
longest_from before ops [] left rest allowed fa fb ta tb same stops = (ops, refl)
longest_from before [] (y ∷ others) [] rest allowed fa fb ta tb same stops = absurd cc
longest_from before [] (y ∷ others) (p ∷ left) rest allowed fa fb ta tb same stops =
    let parts = head_is p (code_of y) left (codes_of others ++ rest) same in
    absurd (stops y (record { typed = tb.0; fits = allowed_have_code before y allowed fb.0; is = parts.0 }) (subst (λ (l : List Op). first_refusal (sheet_of l) y ≡ None) (sym (append-nil before)) fb.0))
longest_from before (x ∷ ops) (y ∷ others) left rest allowed fa fb ta tb same stops =
    let parts = head_is (code_of x) (code_of y) (codes_of ops ++ left) (codes_of others ++ rest) same in
    let first : x ≡ y = same_op before x y allowed fa.0 fb.0 ta.0 tb.0 parts.0 in
    let following : AllowedFrom (before ++ x ∷ []) others = subst (λ (z : Op). AllowedFrom (before ++ z ∷ []) others) (sym first) fb.1 in
    let more = longest_from (before ++ x ∷ []) ops others left rest (allowed_goes_on before x allowed fa.0) fa.1 following ta.1 tb.1 parts.1
    (subst (λ (l : List Op). StopsAfter l left) (sym (append_assoc before (x ∷ []) ops)) stops) in
    (more.0, ap (λ (z : Op). z ∷ ops) first ∙ ap (λ (l : List Op). y ∷ l) more.1)

pub longest_rescue : OneFront → LongestRescue
longest_rescue fronts i ops damage others left damaged rescued typed allowed front =
    let same = fronts longest_payload (omega arith) (active_of i) (codes_of ops ++ rescued.left) (codes_of others ++ left) rescued.damaged damaged rescued.front.front front.front in
    longest_from [] ops others rescued.left left tt rescued.makes.allowed allowed rescued.makes.typed typed same.0 rescued.stops

none_more : (a b : List Op) (x y : List Op) → a ≡ b ++ x → b ≡ a ++ y → a ≡ b
none_more a b [] y one two = one ∙ append-nil b
none_more a b (o ∷ x) y one two = absurd (omega (arith, ap length one, ap length two, length-append b (o ∷ x), length-append a y))

pub one_rescue : OneFront → OneRescue
one_rescue fronts i ops others damage again one two =
    let first = longest_rescue fronts i ops damage others two.left two.damaged one two.makes.typed two.makes.allowed two.front in
    let second = longest_rescue fronts i others again ops one.left one.damaged two one.makes.typed one.makes.allowed one.front in
    let same : ops ≡ others = none_more ops others first.0 second.0 first.1 second.1 in
    let fronted = fronts longest_payload (omega arith) (active_of i) (codes_of ops ++ one.left) (codes_of others ++ two.left) one.damaged two.damaged one.front.front two.front.front in
    let left : one.left ≡ two.left = append_cancel_left (codes_of ops) one.left two.left (fronted.0 ∙ ap (λ (l : List Op). codes_of l ++ two.left) (sym same)) in (
      same,
      one.damage_is ∙ ap (λ (l : List (List ℕ)). stops_at l one.damaged (end_of (codes_of ops))) left ∙ ap (λ (b : Bool). stops_at two.left b (end_of (codes_of ops))) fronted.1
          ∙ ap (λ (l : List Op). stops_at two.left two.damaged (end_of (codes_of l))) same ∙ sym two.damage_is,
    )

pub rescue_of_whole : OneFront → RescueOfWhole
rescue_of_whole fronts i sheet ops damage image rescued =
    let whole : IsRescued i image.ops None = record {
      left = [];
      damaged = false;
      front = record {
        headed = image.stands.headed;
        front = subst (λ (l : List (List ℕ)). HasFront longest_payload (active_of i) l false) (sym (append-nil (codes_of image.ops))) image.stands.stands;
      };
      makes = own_sheet image.ops sheet image.makes;
      stops = tt;
      damage_is = refl;
    } in
    let same = one_rescue fronts i ops image.ops damage None rescued whole in
    (ap sheet_of same.0 ∙ sym image.makes.is, same.1)

-- a cause that isn't in the bytes says nothing of a header
passing_tells : (i : Image) (cause : OpenCause) → IsPassing cause → TellsHeader i cause
passing_tells i (opens.Damaged gate) passing = passing
passing_tells i opens.NotASheet passing = absurd passing
passing_tells i opens.Disk passing = tt
passing_tells i opens.OutOfMemory passing = tt

pub passing_header : {D T : Type 0} (i : Image) (result : Result T (OpenFault D)) → IfErr result (λ e. IsPassing e.cause) → IfErr result (λ e. TellsHeader i e.cause)
passing_header i (Ok x) passing = tt
passing_header i (Err e) passing = passing_tells i e.cause passing
