-- Changes that are listed one after another.
use Rattle.std.proofs.Common.{◌≡◌, ◌+◌, ℕ, List, [], ◌∷◌, ◌++◌, length, Option, Some, None, Err, inl, inr, refl, sym, ap, ap₂, ◌∙◌, subst, append_assoc, append-nil, arith}
use Rattle.std.specs.Io.KnownBytes.{Appends}
use Rattle.std.proofs.KnownBytes.{Appends-trans}
use Rattle.disk_model.specs.Disk.{Image, bytes_on}
use Rattle.journal.specs.Front.{FrontView, HasGivenFront, ImageHasFront, TellsHeader, damage_at}
use Rattle.journal.specs.Open.{IsPassing}
use Rattle.journal.specs.declared.opening.OpenCause.{OpenCause}
use Rattle.journal.specs.declared.opening.OpenCause.TheVariants as opens
use Rattle.journal.specs.declared.walk.Payload.{Payload}
use Rattle.offline_programs.specs.declared.fault.RunFault.{RunFault}
use Rattle.offline_programs.specs.declared.fault.RunFault.TheVariants as fault
use Rattle.past.specs.History.{ListsFirst, TellsEnd, TellsList, change_line, changes_from, history_text}
use Rattle.past.specs.inside.Listing.{ListsNext, RefusesIn, RefusesToList, list_answer}
use Rattle.past.proofs.Firsts.{stand_first}
use Rattle.recovery.specs.Sheets.{Makes, codes_of}
use Rattle.recovery.specs.inside.Taken.{Refuses}
use Rattle.recovery.proofs.Rescues.{LeftInFront, ReachedInFront, rescued_before, rescued_whole}
use Rattle.recovery.proofs.Taking.{codes_push}
use Rattle.worksheet.specs.Contents.{Contents}
use Rattle.worksheet.specs.Ops.{next_after, next_from, sheet_of}
use Rattle.worksheet.specs.declared.op.Op.{Op}

-- the list of ops and of one more
changes_push : (number next : ℕ) (ops : List Op) (o : Op) → changes_from number next (ops ++ o ∷ []) ≡ changes_from number next ops ++ change_line (number + length ops) (next_from next ops) o
changes_push number next [] o = append-nil (change_line number next o) ∙ ap (λ (n : ℕ). change_line n next o) (omega arith)
changes_push number next (p ∷ ops) o =
    ap (λ (l : List ℕ). change_line number next p ++ l) (changes_push (number + 1) (next_after next p) ops o)
    ∙ sym (append_assoc (change_line number next p) (changes_from (number + 1) (next_after next p) ops) (change_line (number + 1 + length ops) (next_from (next_after next p) ops) o))
    ∙ ap (λ (n : ℕ). (change_line number next p ++ changes_from (number + 1) (next_after next p) ops) ++ change_line n (next_from (next_after next p) ops) o) (omega arith)

-- the line of one more was written after theirs
pub one_listed : (a b c : Option (List ℕ)) (ops : List Op) (o : Op) (sheet : Contents) (count : ℕ) → count ≡ length ops → sheet ≡ sheet_of ops
    → Appends a b (history_text ops) → Appends b c (change_line (count + 1) sheet.next o) → Appends a c (history_text (ops ++ o ∷ []))
one_listed a b c ops o sheet count counted is before line =
    let number : count + 1 ≡ 1 + length ops = omega (arith, counted) in
    let line-is : change_line (count + 1) sheet.next o ≡ change_line (1 + length ops) (next_from 1 ops) o =
    ap₂ (λ (n m : ℕ). change_line n m o) number (ap (λ (s : Contents). s.next) is) in
    subst (Appends a c) (ap (λ (l : List ℕ). history_text ops ++ l) line-is ∙ sym (changes_push 1 1 ops o)) (Appends-trans a b c (history_text ops) (change_line (count + 1) sheet.next o) before line)

-- what a payload that isn't taken says
pub refuses_in : (ops : List Op) (p : Payload) (nothing : Type 0) (line : Op → Type 0) (cause : OpenCause) → Refuses ops p cause → nothing → RefusesIn ops p nothing line cause
refuses_in ops p nothing line (opens.Damaged gate) refuses still = (refuses, still)
refuses_in ops p nothing line opens.NotASheet refuses still = refuses
refuses_in ops p nothing line opens.Disk refuses still = refuses
refuses_in ops p nothing line opens.OutOfMemory refuses still = inl still

-- what is listed of a payload whose op there was no memory for
pub lists_next : (ops : List Op) (p : Payload) (nothing : Type 0) (line : Op → Type 0) (cause : OpenCause) → cause ≡ opens.OutOfMemory → ListsNext ops p line → RefusesIn ops p nothing line cause
lists_next ops p nothing line cause is next = subst (λ (c : OpenCause). RefusesIn ops p nothing line c) (sym is) (inr next)

own_sheet : (ops : List Op) (sheet : Contents) → Makes ops sheet → Makes ops (sheet_of ops)
own_sheet ops sheet makes = record { typed = makes.typed; lengths = makes.lengths; allowed = makes.allowed; is = refl }

-- all was given
pub list_whole : (old now : FrontView) (sheet : Contents) (count : ℕ) (damage : Option ℕ) (payloads : List (List ℕ)) (written : List ℕ → Type 0) (nothing : Type 0) (reached : ReachedInFront old now sheet count)
    → HasGivenFront old [] payloads → (far : LeftInFront now reached.ops payloads) → far.left ≡ [] → damage ≡ damage_at now.damaged now.end → written (history_text reached.ops)
    → TellsList (bytes_on old.disk) written nothing (list_answer damage)
list_whole old now sheet count None payloads written nothing reached has far none reported text =
    (reached.ops, rescued_whole old now reached.ops payloads (own_sheet reached.ops sheet reached.makes) reached.damaged has far None none reported, text)
list_whole old now sheet count (Some gate) payloads written nothing reached has far none reported text =
    (reached.ops, rescued_whole old now reached.ops payloads (own_sheet reached.ops sheet reached.makes) reached.damaged has far (Some gate) none reported, text)

-- a part of what was written
list_first : (old now : FrontView) (sheet : Contents) (count : ℕ) (payloads : List (List ℕ)) (written : List ℕ → Type 0) (reached : ReachedInFront old now sheet count)
    → HasGivenFront old [] payloads → LeftInFront now reached.ops payloads → written (history_text reached.ops) → ListsFirst (bytes_on old.disk) written
list_first old now sheet count payloads written reached has far text = (reached.ops, stand_first old now reached.ops payloads sheet reached.makes has far, text)

list_next : (old now : FrontView) (ops : List Op) (p : Payload) (payloads : List (List ℕ)) (written : List ℕ → Type 0) (line : Op → Type 0)
    → HasGivenFront old [] payloads → (far : LeftInFront now ops payloads) (others : List (List ℕ)) → far.left ≡ p.bytes ∷ others → ((o : Op) → line o → written (history_text (ops ++ o ∷ [])))
    → ListsNext ops p line → ListsFirst (bytes_on old.disk) written
list_next old now ops p payloads written line has far others next more listed =
    let takes = listed.1 in
    let are : payloads ≡ codes_of (ops ++ takes.next ∷ []) ++ others =
    far.are ∙ ap (λ (l : List (List ℕ)). codes_of ops ++ l) next ∙ sym (append_assoc (codes_of ops) (p.bytes ∷ []) others)
    ∙ ap (λ (b : List ℕ). (codes_of ops ++ b ∷ []) ++ others) takes.is ∙ ap (λ (l : List (List ℕ)). l ++ others) (sym (codes_push ops takes.next)) in (
      ops ++ takes.next ∷ [],
      record {
        left = others;
        damaged = old.damaged;
        front = subst (λ (l : List (List ℕ)). ImageHasFront (bytes_on old.disk) l old.damaged) are has.has;
        makes = own_sheet (ops ++ takes.next ∷ []) listed.0 takes.makes;
      },
      more takes.next listed.2,
    )

list_refused : (old now : FrontView) (sheet : Contents) (count : ℕ) (p : Payload) (payloads : List (List ℕ)) (cause : OpenCause) (written : List ℕ → Type 0) (nothing still : Type 0) (line : Op → Type 0) (reached : ReachedInFront old now sheet count)
    → HasGivenFront old [] payloads → (far : LeftInFront now reached.ops payloads) (others : List (List ℕ)) → far.left ≡ p.bytes ∷ others → p.gate ≡ now.gate → (still → written (history_text reached.ops))
    → ((o : Op) → line o → written (history_text (reached.ops ++ o ∷ []))) → RefusesIn reached.ops p still line cause → TellsEnd (bytes_on old.disk) written nothing cause
list_refused old now sheet count p payloads (opens.Damaged gate) written nothing still line reached has far others next here text more refuses = (
  reached.ops,
  rescued_before old now reached.ops payloads (own_sheet reached.ops sheet reached.makes) reached.damaged has far gate p.bytes others next (refuses.0.0 ∙ here) refuses.0.1,
  text refuses.1,
)
list_refused old now sheet count p payloads opens.NotASheet written nothing still line reached has far others next here text more refuses = absurd refuses
list_refused old now sheet count p payloads opens.Disk written nothing still line reached has far others next here text more refuses = absurd refuses
list_refused old now sheet count p payloads opens.OutOfMemory written nothing still line reached has far others next here text more (inl same) = inr (list_first old now sheet count payloads written reached has far (text same))
list_refused old now sheet count p payloads opens.OutOfMemory written nothing still line reached has far others next here text more (inr listed) = inr (list_next old now reached.ops p payloads written line has far others next more listed)

-- a payload wasn't listed
pub list_before : (old now : FrontView) (sheet : Contents) (count : ℕ) (p : Payload) (payloads : List (List ℕ)) (why : RunFault) (written : List ℕ → Type 0) (nothing still : Type 0) (line : Op → Type 0) (reached : ReachedInFront old now sheet count)
    → HasGivenFront old [] payloads → (far : LeftInFront now reached.ops payloads) (others : List (List ℕ)) → far.left ≡ p.bytes ∷ others → p.gate ≡ now.gate → (still → written (history_text reached.ops))
    → ((o : Op) → line o → written (history_text (reached.ops ++ o ∷ []))) → RefusesToList reached.ops p still line why → TellsList (bytes_on old.disk) written nothing (Err why)
list_before old now sheet count p payloads (fault.Open cause) written nothing still line reached has far others next here text more refuses = list_refused old now sheet count p payloads cause written nothing still line reached has far others next here text more refuses
list_before old now sheet count p payloads fault.Output written nothing still line reached has far others next here text more refuses = tt
list_before old now sheet count p payloads fault.Input written nothing still line reached has far others next here text more refuses = absurd refuses
list_before old now sheet count p payloads fault.InputTooLong written nothing still line reached has far others next here text more refuses = absurd refuses
list_before old now sheet count p payloads fault.OutOfMemory written nothing still line reached has far others next here text more refuses = absurd refuses
list_before old now sheet count p payloads (fault.Host why) written nothing still line reached has far others next here text more refuses = absurd refuses
list_before old now sheet count p payloads fault.InUse written nothing still line reached has far others next here text more refuses = absurd refuses
list_before old now sheet count p payloads fault.SecondFile written nothing still line reached has far others next here text more refuses = absurd refuses

-- a cause that isn't in the bytes ends a list where it has come to
list_passing : (i : Image) (written : List ℕ → Type 0) (nothing : Type 0) (cause : OpenCause) → IsPassing cause → ListsFirst i written → TellsList i written nothing (Err (fault.Open cause))
list_passing i written nothing (opens.Damaged gate) passing first = absurd passing
list_passing i written nothing opens.NotASheet passing first = absurd passing
list_passing i written nothing opens.Disk passing first = inr first
list_passing i written nothing opens.OutOfMemory passing first = inr first

pub list_stopped : (old now : FrontView) (sheet : Contents) (count : ℕ) (payloads : List (List ℕ)) (written : List ℕ → Type 0) (nothing : Type 0) (cause : OpenCause) (reached : ReachedInFront old now sheet count)
    → HasGivenFront old [] payloads → LeftInFront now reached.ops payloads → written (history_text reached.ops) → IsPassing cause → TellsList (bytes_on old.disk) written nothing (Err (fault.Open cause))
list_stopped old now sheet count payloads written nothing cause reached has far text passing = list_passing (bytes_on old.disk) written nothing cause passing (list_first old now sheet count payloads written reached has far text)

-- and one for which no front was begun, before all
pub list_none : (i : Image) (written : List ℕ → Type 0) (nothing : Type 0) (cause : OpenCause) → TellsHeader i cause → nothing → TellsList i written nothing (Err (fault.Open cause))
list_none i written nothing (opens.Damaged gate) reported still = absurd reported
list_none i written nothing opens.NotASheet reported still = (reported, still)
list_none i written nothing opens.Disk reported still = inl still
list_none i written nothing opens.OutOfMemory reported still = inl still

-- the front and the text so far
pub record ListedInFront (old now : FrontView) (sheet : Contents) (count : ℕ) (written : List ℕ → Type 0) : Type 0 where
  pub reached : ReachedInFront old now sheet count
  pub text : written (history_text reached.ops)
