-- Why words of `eval` ask for no plan.
use Rattle.std.proofs.Common.{◌≡◌, ◌≤◌, inl, inr, ℕ, List, [], ◌∷◌, Option, Some, None, sym, subst, Ok, Err, true, false}
use Rattle.std.specs.Prelude.{◌⊎◌, ◌&&◌, Bool, nat_le}
use Rattle.clap.specs.Words.{Text}
use Rattle.sheet_text.specs.Script.{number_written}
use Rattle.command_words.specs.Asked.{EvalView}
use Rattle.host_cli.specs.Plans.{AsksNoPlan, NamesSpared, NamesTime, from_asked, jobs_asked, jobs_by, jobs_if, most_jobs, named_asked, numbers_in, stops_early, which_asked, which_from, which_named}
use Rattle.host_cli.specs.declared.plans.PlanFault.{PlanFault}
use Rattle.host_cli.specs.declared.plans.PlanFault.TheVariants as plans
use Rattle.host_cli.specs.inside.Reading.{IsWhy}
use Rattle.evaluation.specs.declared.plan.Which.{Which}

by_why : (fits strict : Bool) (jobs : ℕ) (why : PlanFault) → jobs_by fits strict jobs ≡ Err why → (why ≡ plans.Jobs) ⊎ (why ≡ plans.Strict)
by_why true true jobs why h = inr (cc h)
by_why true false jobs why h = absurd (cc h)
by_why false strict jobs why h = inl (cc h)

if_why : (number : Option ℕ) (strict : Bool) (why : PlanFault) → jobs_if number strict ≡ Err why → (why ≡ plans.Jobs) ⊎ (why ≡ plans.Strict)
if_why None strict why h = inl (cc h)
if_why (Some jobs) strict why h = by_why (nat_le 1 jobs && nat_le jobs most_jobs) strict jobs why h

jobs_why : (jobs : Option Text) (strict : Bool) (timeout : Option Text) (why : PlanFault) → jobs_asked jobs strict timeout ≡ Err why → (why ≡ plans.Jobs) ⊎ (why ≡ plans.Strict)
jobs_why None strict timeout why h = absurd (cc h)
jobs_why (Some text) strict timeout why h = if_why (number_written text) strict why h

pub jobs_refused : (words : EvalView) → NamesTime words → (why : PlanFault) → jobs_asked words.jobs (stops_early words) words.timeout ≡ Err why → AsksNoPlan words why
jobs_refused words named why h = by (jobs_why words.jobs (stops_early words) words.timeout why h)
  where
    by : ((why ≡ plans.Jobs) ⊎ (why ≡ plans.Strict)) → AsksNoPlan words why
    by (inl is) = subst (AsksNoPlan words) (sym is) (named, subst (λ (x : PlanFault). jobs_asked words.jobs (stops_early words) words.timeout ≡ Err x) is h)
    by (inr is) = subst (AsksNoPlan words) (sym is) (named, subst (λ (x : PlanFault). jobs_asked words.jobs (stops_early words) words.timeout ≡ Err x) is h)

named_why : (words : List Text) (why : PlanFault) → named_asked words ≡ Err why → why ≡ plans.Id
named_why [] why h = absurd (cc h)
named_why (word ∷ words) why h = numbers_why (numbers_in (word ∷ words)) h
  where
    numbers_why : (ids : Option (List ℕ)) → which_named ids ≡ Err why → why ≡ plans.Id
    numbers_why None h = cc h
    numbers_why (Some ids) h = absurd (cc h)

from_why : (from : Text) (words : List Text) (why : PlanFault) → from_asked from words ≡ Err why → (why ≡ plans.Id) ⊎ (why ≡ plans.Both)
from_why from [] why h = number_why (number_written from) h
  where
    number_why : (id : Option ℕ) → which_from id ≡ Err why → (why ≡ plans.Id) ⊎ (why ≡ plans.Both)
    number_why None h = inl (cc h)
    number_why (Some id) h = absurd (cc h)
from_why from (word ∷ words) why h = inr (cc h)

which_why : (from : Option Text) (words : List Text) (why : PlanFault) → which_asked from words ≡ Err why → (why ≡ plans.Id) ⊎ (why ≡ plans.Both)
which_why None words why h = inl (named_why words why h)
which_why (Some from) words why h = from_why from words why h

neither : (why : PlanFault) → (why ≡ plans.Id → ⊥) → (why ≡ plans.Both → ⊥) → ((why ≡ plans.Id) ⊎ (why ≡ plans.Both)) → ⊥
neither why a b (inl is) = a is
neither why a b (inr is) = b is

pub which_refused : (words : EvalView) → NamesSpared words → (why : PlanFault) → IsWhy (which_asked words.from words.ids) why → AsksNoPlan words why
which_refused words named plans.Seconds h = absurd (neither plans.Seconds (λ e. cc e) (λ e. cc e) (which_why words.from words.ids plans.Seconds h))
which_refused words named plans.Id h = (named, h)
which_refused words named plans.Both h = (named, h)
which_refused words named plans.Jobs h = absurd (neither plans.Jobs (λ e. cc e) (λ e. cc e) (which_why words.from words.ids plans.Jobs h))
which_refused words named plans.Strict h = absurd (neither plans.Strict (λ e. cc e) (λ e. cc e) (which_why words.from words.ids plans.Strict h))
which_refused words named plans.Changed h = absurd (neither plans.Changed (λ e. cc e) (λ e. cc e) (which_why words.from words.ids plans.Changed h))
which_refused words named plans.OutOfMemory h = tt
