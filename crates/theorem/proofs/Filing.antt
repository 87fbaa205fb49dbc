-- What all acts leave, and where an answer came from.
use Rattle.std.proofs.Common.{◌≡◌, ◌∙◌, ◌⊎◌, inl, inr, ⊎_elim, ℕ, List, [], ◌∷◌, ◌++◌, refl, ap, sym, subst, append-nil, append_assoc, IsTrue, Some, None}
use Rattle.std.specs.List.{AllByRecursion}
use Rattle.block_tree.specs.Tree.{Tree}
use Rattle.disk_model.specs.Disk.{DiskView, History, Image, InModel, LeavesOnly}
use Rattle.worksheet.specs.declared.op.Op.{Op}
use Rattle.worksheet.specs.declared.op.Op.TheVariants as op
use Rattle.worksheet.specs.declared.field.Field.{Field}
use Rattle.worksheet.specs.declared.field.Answer.{Answer}
use Rattle.worksheet.specs.Contents.{Contents}
use Rattle.worksheet.specs.Ops.{sheet_of}
use Rattle.worksheet.specs.Checks.{Allowed, AllowedFrom, field_in, first_refusal}
use Rattle.worksheet.proofs.Existence.{allowed_goes_on}
use Rattle.worksheet.proofs.NextLaws.{same_next}
use Rattle.recovery.specs.Sheets.{IsSheetImage}
use Rattle.recovery.specs.Laws.{OneSheet}
use Rattle.host_laws.specs.Turns.{Has, HostsInTurn}
use Rattle.theorem.specs.Story.{CrashedSince}
use Rattle.host_events.specs.declared.event.Event.{Event}
use Rattle.theorem.specs.Copies.{PutIn, PutsWhole, WholeOnCopy}
use Rattle.theorem.specs.Acts.{Act, CameIn, Did, Files, HasFirst, KeepFieldOn, PutAfter, StaysIn, Uses, WasPut, no_use, turns_of, filing, nothing_done, by_hosts, by_filing}
use Rattle.host_laws.proofs.FieldLaws.{AnsweredBy, HasItsLine, KeepsInput, by_op, its_line_stays}
use Rattle.theorem.proofs.Reported.{at_crash}
use Rattle.theorem.proofs.Visits.{invocations_left}

-- Answers are put after a worksheet.
module _ (sheet : Contents) (given : List Event) where
  -- each field of the worksheet has its line there still
  abbrev KeepLines : List Op → Type 0
  KeepLines os = (f : Field) → Has sheet f → HasItsLine os f

  lines_at_first : (os : List Op) → sheet ≡ sheet_of os → KeepLines os
  lines_at_first os is f has = record { field = f; found = subst (λ (s : Contents). Has s f) is has; session = refl; input = refl }

  lines_stay : (os : List Op) (o : Op) → Allowed os → first_refusal (sheet_of os) o ≡ None → PutsWhole sheet given o → KeepLines os → KeepLines (os ++ o ∷ [])
  lines_stay os o allowed next whole keeps f has = its_line_stays os o f allowed next (subst (KeepsInput f.id) (sym whole.puts) tt) (keeps f has)

  -- what an op put in is whole, where the field shows it then
  whole_now : (os : List Op) (o : Op) (f : Field) → KeepLines os → PutsWhole sheet given o → AnsweredBy os o f → WholeOnCopy sheet given f
  whole_now os o f keeps whole by =
      let same : op.Answer whole.field.id whole.answer.prompt whole.answer.output ≡ op.Answer f.id by.prompt by.output = sym whole.puts ∙ by.is in
      let number : whole.field.id ≡ f.id = cc in
      let answer : Some whole.answer ≡ f.answer = (let p : whole.answer.prompt ≡ by.prompt = cc in let t : whole.answer.output ≡ by.output = cc in
      ap (λ (x : List ℕ). Some (record { prompt = x; output = whole.answer.output })) p ∙ ap (λ (x : Tree). Some (record { prompt = by.prompt; output = x })) t ∙ sym (ap (λ (g : Field). g.answer) by.now)) in
      let line = keeps whole.field whole.has in
      let there : field_in (sheet_of os).fields f.id ≡ Some line.field = subst (λ (n : ℕ). field_in (sheet_of os).fields n ≡ Some line.field) number line.found in
      let both : Some line.field ≡ Some by.before = sym there ∙ by.found in
      let before : line.field ≡ by.before = cc in
      let w = whole.whole in
      record {
        host = w.host;
        shown = w.shown;
        number = w.number ∙ number;
        session = w.session ∙ sym line.session ∙ ap (λ (g : Field). g.session) before ∙ sym (ap (λ (g : Field). g.session) by.now);
        input = w.input ∙ sym line.input ∙ ap (λ (g : Field). g.input) before ∙ sym (ap (λ (g : Field). g.input) by.now);
        shows = w.shows ∙ answer;
        answered = w.answered;
      }

  -- an answer of a worksheet with ops more was there before and has stayed, or one of them put it in
  put_shown : (os taken : List Op) → Allowed os → AllowedFrom os taken → KeepLines os → AllByRecursion (PutsWhole sheet given) taken → (f : Field) (a : Answer) → Has (sheet_of (os ++ taken)) f → f.answer ≡ Some a
      → (Has (sheet_of os) f × KeepFieldOn os taken f) ⊎ WasPut sheet given os taken f
  put_shown os [] allowed from keeps whole f a has some = inl (subst (λ (l : List Op). Has (sheet_of l) f) (append-nil os) has, tt)
  put_shown os (o ∷ rest) allowed from keeps whole f a has some =
      ⊎_elim
      (λ here. ⊎_elim (λ before. inl (before, here))
      (λ by. inr (record {
        earlier = [];
        later = rest;
        prompt = by.prompt;
        output = by.output;
        split = ap (λ (p : Op). p ∷ rest) by.is;
        shows = ap (λ (g : Field). g.answer) by.now;
        stays = subst (λ (p : Op). KeepFieldOn (os ++ p ∷ []) rest f) by.is here.1;
        whole = whole_now os o f keeps whole.0 by;
      }))
      (by_op os f a allowed some o from.0 here.0))
      (λ late. inr (record {
        earlier = o ∷ late.earlier;
        later = late.later;
        prompt = late.prompt;
        output = late.output;
        split = ap (λ (l : List Op). o ∷ l) late.split;
        shows = late.shows;
        stays = subst (λ (l : List Op). KeepFieldOn l late.later f) (append_assoc os (o ∷ []) (late.earlier ++ op.Answer f.id late.prompt late.output ∷ [])) late.stays;
        whole = late.whole;
      }))
      (put_shown (os ++ o ∷ []) rest (allowed_goes_on os o allowed from.0) from.1 (lines_stay os o allowed from.0 whole.0 keeps) whole.1 f a
      (subst (λ (l : List Op). Has (sheet_of l) f) (sym (append_assoc os (o ∷ []) rest)) has) some)

-- the first of ops that are allowed one after another
from_front : (os done rest : List Op) → AllowedFrom os (done ++ rest) → AllowedFrom os done
from_front os [] rest from = tt
from_front os (o ∷ done) rest from = (from.0, from_front (os ++ o ∷ []) done rest from.1)

-- the first of ops that are all so
front_of : (P : Op → Type 0) (done rest : List Op) → AllByRecursion P (done ++ rest) → AllByRecursion P done
front_of P [] rest all = tt
front_of P (o ∷ done) rest all = (all.0, front_of P done rest all.1)

-- ops that are allowed after others are so after any that make the same worksheet, and lead to the same one
same_after : (a b more : List Op) → Allowed a → sheet_of a ≡ sheet_of b → AllowedFrom b more → AllowedFrom a more × (sheet_of (a ++ more) ≡ sheet_of (b ++ more))
same_after a b [] allowed same from = (tt, ap sheet_of (append-nil a) ∙ (same ∙ sym (ap sheet_of (append-nil b))))
same_after a b (o ∷ more) allowed same from =
    let here : first_refusal (sheet_of a) o ≡ None = subst (λ (s : Contents). first_refusal s o ≡ None) (sym same) from.0 in
    let rest = same_after (a ++ o ∷ []) (b ++ o ∷ []) more (allowed_goes_on a o allowed here) (same_next a b o allowed same here) from.1 in (
      (here, rest.0),
      ap sheet_of (sym (append_assoc a (o ∷ []) more)) ∙ (rest.1 ∙ ap sheet_of (append_assoc b (o ∷ []) more)),
    )

-- What a filing left.
module _ (before : Image) (sheet : Contents) (image : IsSheetImage sheet before) (one : OneSheet) (mid : Image) (disk back : DiskView) (ops : List Op) (put : PutIn) (f : Files before disk ops put back) where
  abbrev Filed : List Op → Type 0
  Filed reported = (t : Contents) × PutAfter sheet put reported t × IsSheetImage t mid

  is : sheet ≡ sheet_of ops
  is = one sheet (sheet_of ops) before image f.found

  model : IsTrue f.now.keeps_model
  model = subst IsTrue (sym f.same.keeps_model) f.keeps_model

  some_put : (reported : List Op) → HasFirst ops put.ops reported mid → Filed reported
  some_put reported among =
      let from = from_front ops among.done among.rest (subst (λ (l : List Op). AllowedFrom ops l) among.split f.from) in
      let after = same_after f.found.ops ops among.done f.found.makes.allowed (sym f.found.makes.is) from in (
        sheet_of (ops ++ among.done),
        record {
          ops = f.found.ops;
          is = is ∙ f.found.makes.is;
          allowed = f.found.makes.allowed;
          taken = among.done;
          lost = among.rest;
          split = among.split;
          withheld = among.withheld;
          has = among.has;
          answers = subst (λ (s : Contents). AllByRecursion (PutsWhole s put.given) among.done) (sym is)
              (front_of (PutsWhole (sheet_of ops) put.given) among.done among.rest (subst (AllByRecursion (PutsWhole (sheet_of ops) put.given)) among.split f.answers));
          from = after.0;
          now = sym after.1;
        },
        among.image,
      )

  pub was_filing : (reported : List Op) (since : History) → InModel f.now (LeavesOnly (HasFirst ops put.ops reported) since back.history) → CrashedSince since back.history mid → Filed reported
  was_filing reported since holds crashed = some_put reported (at_crash (HasFirst ops put.ops reported) since back.history mid (holds model) crashed)

-- What all acts left: from a worksheet, however it was made, to another.
pub record AllDid (room : ℕ) (before : Image) (sheet : Contents) (acts : List Act) (after : Image) : Type 0 where
  pub last : Contents
  pub did : Did room before sheet acts after last
  pub image : IsSheetImage last after

pub all_did : HostsInTurn → OneSheet → (room : ℕ) (before : Image) (sheet : Contents) (acts : List Act) (after : Image) → IsSheetImage sheet before → Uses room before acts after
    → AllDid room before sheet acts after
all_did hosts one room before sheet acts after image no_use = record { last = sheet; did = nothing_done; image = image }
all_did hosts one room before sheet acts after image (turns_of {mid = mid} {turns = turns} {acts = others} invocations more) =
    let l = invocations_left hosts room image.ops before mid turns image.makes.allowed (subst (λ (s : Contents). IsSheetImage s before) image.makes.is image) invocations in
    let rest = all_did hosts one room mid (sheet_of l.kept) others after l.image more in
    record { last = rest.last; did = by_hosts image.ops image.makes.is l refl rest.did; image = rest.image }
all_did hosts one room before sheet acts after image (filing {mid = mid} {put = put} {reported = reported} {acts = others} disk back ops files since holds crashed more) =
    let left = was_filing before sheet image one mid disk back ops put files reported since holds crashed in
    let rest = all_did hosts one room mid left.0 others after left.2 more in
    record { last = rest.last; did = by_filing left.1 left.2 rest.did; image = rest.image }

-- where an answer came from
pub came : (room : ℕ) (before : Image) (s : Contents) (acts : List Act) (after : Image) (u : Contents) → (d : Did room before s acts after u)
    → (f : Field) (a : Answer) → Has u f → f.answer ≡ Some a → (Has s f × StaysIn d f) ⊎ CameIn d f
came room before s acts after u nothing_done f a has some = inl (has, tt)
came room before s acts after u (by_hosts {mid = mid} {t = t} {turns = turns} {acts = others} first is l now more) f a has some =
    ⊎_elim
    (λ here. ⊎_elim (λ was. inl (subst (λ (c : Contents). Has c f) (sym is) was.0, (was.1, here.1))) (λ answered. inr (inl (answered, here.1)))
    (l.shows f a (subst (λ (c : Contents). Has c f) now here.0) some))
    (λ late. inr (inr late))
    (came room mid t others after u more f a has some)
came room before s acts after u (by_filing {mid = mid} {t = t} {put = one} {acts = others} p image more) f a has some =
    ⊎_elim
    (λ here. ⊎_elim (λ was. inl (subst (λ (c : Contents). Has c f) (sym p.is) was.0, (was.1, here.1))) (λ put. inr (inl (put, here.1)))
    (put_shown s one.given p.ops p.taken p.allowed p.from (lines_at_first s one.given p.ops p.is) p.answers f a (subst (λ (c : Contents). Has c f) p.now here.0) some))
    (λ late. inr (inr late))
    (came room mid t others after u more f a has some)
