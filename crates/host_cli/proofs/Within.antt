-- What words ask for by a number from 1 to a limit.
use Rattle.std.proofs.Common.{◌≡◌, ℕ, Option, Some, None, Err, refl, true, false}
use Rattle.std.specs.Prelude.{◌&&◌, Bool, nat_le}
use Rattle.live.specs.LiveLines.{most_seconds}
use Rattle.host_cli.specs.Plans.{check_jobs_by, check_jobs_if, jobs_by, jobs_if, limit_if, most_jobs, seconds_by}
use Rattle.host_cli.specs.declared.plans.JobsFault.TheVariants as jobs_fault
use Rattle.host_cli.specs.declared.plans.PlanFault.TheVariants as plans
use Rattle.host_cli.specs.inside.Within.{within, within_by}

no_seconds : (fits : Bool) (n : ℕ) → within_by fits n ≡ None → seconds_by fits n ≡ None
no_seconds true n h = absurd (cc h)
no_seconds false n h = refl

some_seconds : (fits : Bool) (n seconds : ℕ) → within_by fits n ≡ Some seconds → seconds_by fits n ≡ Some (Some seconds)
some_seconds true n seconds h = cc h
some_seconds false n seconds h = absurd (cc h)

pub no_limit : (number : Option ℕ) → within most_seconds number ≡ None → limit_if number ≡ None
no_limit None h = refl
no_limit (Some n) h = no_seconds (nat_le 1 n && nat_le n most_seconds) n h

pub some_limit : (number : Option ℕ) (seconds : ℕ) → within most_seconds number ≡ Some seconds → limit_if number ≡ Some (Some seconds)
some_limit None seconds h = absurd (cc h)
some_limit (Some n) seconds h = some_seconds (nat_le 1 n && nat_le n most_seconds) n seconds h

pub ruleset limits = (no_limit, some_limit)

no_by : (fits strict : Bool) (n : ℕ) → within_by fits n ≡ None → jobs_by fits strict n ≡ Err plans.Jobs
no_by true strict n h = absurd (cc h)
no_by false strict n h = refl

some_by : (fits strict : Bool) (n many : ℕ) → within_by fits n ≡ Some many → jobs_by fits strict n ≡ jobs_by true strict many
some_by true strict n many h = cc h
some_by false strict n many h = absurd (cc h)

pub no_jobs : (number : Option ℕ) (strict : Bool) → within most_jobs number ≡ None → jobs_if number strict ≡ Err plans.Jobs
no_jobs None strict h = refl
no_jobs (Some n) strict h = no_by (nat_le 1 n && nat_le n most_jobs) strict n h

pub some_jobs : (number : Option ℕ) (strict : Bool) (many : ℕ) → within most_jobs number ≡ Some many → jobs_if number strict ≡ jobs_by true strict many
some_jobs None strict many h = absurd (cc h)
some_jobs (Some n) strict many h = some_by (nat_le 1 n && nat_le n most_jobs) strict n many h

pub ruleset jobs = (no_jobs, some_jobs)

no_check_by : (fits accept : Bool) (n : ℕ) → within_by fits n ≡ None → check_jobs_by fits accept n ≡ Err jobs_fault.Number
no_check_by true accept n h = absurd (cc h)
no_check_by false accept n h = refl

some_check_by : (fits accept : Bool) (n many : ℕ) → within_by fits n ≡ Some many → check_jobs_by fits accept n ≡ check_jobs_by true accept many
some_check_by true accept n many h = cc h
some_check_by false accept n many h = absurd (cc h)

pub no_check_jobs : (number : Option ℕ) (accept : Bool) → within most_jobs number ≡ None → check_jobs_if number accept ≡ Err jobs_fault.Number
no_check_jobs None accept h = refl
no_check_jobs (Some n) accept h = no_check_by (nat_le 1 n && nat_le n most_jobs) accept n h

pub some_check_jobs : (number : Option ℕ) (accept : Bool) (many : ℕ) → within most_jobs number ≡ Some many → check_jobs_if number accept ≡ check_jobs_by true accept many
some_check_jobs None accept many h = absurd (cc h)
some_check_jobs (Some n) accept many h = some_check_by (nat_le 1 n && nat_le n most_jobs) accept n many h

pub ruleset check_jobs = (no_check_jobs, some_check_jobs)
