-- What is reported and written of events while records are owed.
use Rattle.std.proofs.Common.{◌≡◌, ◌⊎◌, inl, ⊎_elim, Bool, true, false, refl, sym, ap, ◌∙◌, subst, IsTrue, List, [], ◌∷◌, ◌||◌, ℕ, option_map, Result, Err}
use Rattle.std.specs.List.{list_any}
use Rattle.disk_model.specs.Disk.{DiskView, Leaves, LeavesOnly, Rises, SameDisk}
use Rattle.disk_model.specs.inside.Moments.{started}
use Rattle.worksheet.specs.Contents.{Contents, SheetView}
use Rattle.recovery.specs.Sheets.{StoreView, GathersOn, IsSheetImage, IsSheetOf}
use Rattle.host_events.specs.declared.event.Event.{Event}
use Rattle.host_events.specs.declared.outcome.Outcome.{Outcome}
use Rattle.host_events.specs.declared.outcome.HostFault.{HostFault}
use Rattle.host_events.specs.declared.outcome.HostFault.TheVariants as hosts
use Rattle.session_engine.specs.declared.table.Running.{Running}
use Rattle.session_engine.specs.World.{World, life_of, sheet_in}
use Rattle.session_engine.specs.Host.{HostView, IsHost, number_in}
use Rattle.session_engine.specs.Crash.{HasPlayed, StoppedAt}
use Rattle.session_engine.specs.Gathers.{FlushesTo, IsFlushed, NoCheckpoints, is_checkpoint}
use Rattle.session_engine.specs.Groups.{FailedGroup, NoGroup, StoppedGroup, TookGroup}

neither : (a b : Bool) → (a || b) ≡ false → (a ≡ false) × (b ≡ false)
neither true b is = absurd (let no : true ≡ false = is in cc)
neither false b is = (refl, is)

pub none_of : (events : List Event) → list_any is_checkpoint events ≡ false → NoCheckpoints events
none_of [] is = tt
none_of (e ∷ events) is = let parts = neither (is_checkpoint e) (list_any is_checkpoint events) is in (parts.0, none_of events parts.1)

pub gathers_self : (s : StoreView) → GathersOn s s
gathers_self s = record { gathers = refl; real = λ owed. refl; start = λ owed. refl; closed = λ owed. refl }

pub gathers_on : (a b c : StoreView) → GathersOn a b → GathersOn b c → GathersOn a c
gathers_on a b c p q = record {
  gathers = q.gathers ∙ p.gathers;
  real = λ owed. q.real (p.gathers ∙ owed) ∙ p.real owed;
  start = λ owed. q.start (p.gathers ∙ owed) ∙ p.start owed;
  closed = λ owed. q.closed (p.gathers ∙ owed) ∙ p.closed owed;
}

-- what is flushed after events that left the disk as it stands alone
pub flushes_after : (old mid new : StoreView) (sheet : Contents) → mid.real ≡ old.real → SameDisk old.disk mid.disk → mid.sheet.contents ≡ sheet → FlushesTo mid.sheet.contents mid new → FlushesTo sheet old new
flushes_after old mid new sheet real same is flushes = λ model before images.
    subst (λ (d : DiskView). LeavesOnly (IsSheetOf before sheet) d.history new.real.history) real
    (subst (λ (s : Contents). LeavesOnly (IsSheetOf before s) mid.real.history new.real.history) is
    (flushes (subst IsTrue (sym same.keeps_model) model) before (subst (λ (d : DiskView). Leaves (IsSheetImage before) d.history.now) (sym real) images)))

-- of a flush that failed on an open store the disk has failed
pub broke_by : {T : Type 0} (result : Result T HostFault) (fault : HostFault) (closed : Bool) (Broke : Type 0) → result ≡ Err fault → (fault ≡ hosts.Closed) ⊎ (fault ≡ hosts.Disk) → closed ≡ false
    → ((result ≡ Err hosts.Closed) → closed ≡ true) → ((result ≡ Err hosts.Disk) → Broke) → Broke
broke_by result fault closed Broke is either opened closes broke = ⊎_elim
    (λ c. let bad : true ≡ false = sym (closes (is ∙ ap (λ (f : HostFault). Err f) c)) ∙ opened in cc)
    (λ d. broke (is ∙ ap (λ (f : HostFault). Err f) d)) either

-- A host before events, after them, and after what they owe was flushed.
module _ (w : World) (events : List Event) (old mid new : HostView) (real : mid.store.real ≡ old.store.real) (same : SameDisk old.store.disk mid.store.disk)
    (flushes : FlushesTo mid.store.sheet.contents mid.store new.store) where
  pub took_group : (reported : List Outcome) (p : HasPlayed w events [] reported mid) → IsHost new p.leads → IsFlushed new → TookGroup w events reported old new
  took_group reported p stands flushed = record {
    played = record { done = p.done; split = p.split; leads = p.leads; runs = p.runs; stands = stands };
    flushed = flushed;
    moments = flushes_after old.store mid.store new.store (sheet_in p.leads) real same p.stands.stands.contents flushes;
  }

  pub stopped_group : (reported : List Outcome) (fault : HostFault) (first : HostView) (s : StoppedAt w events first mid reported fault) → ((fault ≡ hosts.Disk) → ⊥)
      → new.store.sheet ≡ mid.store.sheet → new.lives ≡ mid.lives → new.closed ≡ mid.closed → IsFlushed new → StoppedGroup w events old new reported fault
  stopped_group reported fault first s kept sheet lives closed flushed = record {
    at = s.at;
    dropped = s.dropped;
    before = s.before;
    after = mid;
    played = s.played;
    failed = s.failed;
    kept = kept;
    contents = ap (λ (v : SheetView). v.contents) sheet ∙ s.failed.contents;
    numbers = λ name. ap (λ (l : List Running). number_in l name) lives ∙ s.failed.numbers name;
    closed = closed ∙ s.closed;
    flushed = flushed;
    moments = flushes_after old.store mid.store new.store (sheet_in s.played.leads) real same s.failed.contents flushes;
  }

  abbrev pub failed_group : (rest : List Event) (withheld : List Outcome) (before : HostView) (p : HasPlayed w events rest withheld before) → mid.store.sheet.contents ≡ sheet_in p.leads
      → ((name : List ℕ) → number_in mid.lives name ≡ option_map (λ l. l.number) (life_of p.leads name)) → new.store.sheet ≡ mid.store.sheet → new.lives ≡ mid.lives
      → new.closed ≡ true → Rises mid.store.real.faults new.store.real.faults → FailedGroup w events old new
  failed_group rest withheld before p is numbers sheet lives closed broke = record {
    rest = rest;
    withheld = withheld;
    before = before;
    played = p;
    contents = ap (λ (v : SheetView). v.contents) sheet ∙ is;
    numbers = λ name. ap (λ (l : List Running). number_in l name) lives ∙ numbers name;
    closed = closed;
    broke = subst (λ (d : DiskView). Rises d.faults new.store.real.faults) real broke;
    moments = flushes_after old.store mid.store new.store (sheet_in p.leads) real same is flushes;
  }

-- Where no event was taken.

-- nothing was written
pub flushes_nothing : (s : StoreView) (sheet : Contents) → FlushesTo sheet s s
flushes_nothing s sheet = λ model before images. started (IsSheetOf before sheet) s.real.history (λ i image. inl (images i image))

pub no_group : (w : World) (events : List Event) (old : HostView) → IsHost old w → NoGroup w events events old old
no_group w events old h = record { same = refl; stands = h; untouched = λ none. refl; moments = flushes_nothing old.store (sheet_in w) }
