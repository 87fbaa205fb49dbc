-- What a call on one of two files does to the disk.
use Rattle.std.proofs.Common.{◌≡◌, ℕ, zero, suc, ◌+◌, ◌≤◌, List, [], ◌∷◌, length, refl, sym, ◌∙◌, ap, subst, arith, Result, Ok, Err}
use Rattle.std.specs.Prelude.{MatchResult}
use Rattle.disk_model.specs.Disk.{AreaState, DiskState, History, Syncs, Torn, Writes}
use Rattle.disk_model.specs.Calls.{advanced}
use Rattle.disk_model.specs.declared.disk.Area.{Area}
use Rattle.disk_model.specs.declared.disk.Area.TheVariants.{First, Second}
use Rattle.sheet_files.specs.DiskFile.{FileImage, FileView, FileWrites, IsDurable, IsStill, Passes, both_before, history_of, states_below}

torn_not : (at n : ℕ) (c : List ℕ) → Torn at n c c
torn_not at n c = record { before = refl; after = refl; no_shorter = omega arith; no_longer = omega arith }

-- what happens at a moment leaves the states below it
states_same : (first first' second second' : FileView) (moment : ℕ)
    → ((t : ℕ) → t ≤ moment → first'.before t ≡ first.before t)
    → ((t : ℕ) → t ≤ moment → second'.before t ≡ second.before t)
    → (n : ℕ) → n ≤ moment + 1 → states_below first' second' n ≡ states_below first second n
states_same first first' second second' moment one other zero le = refl
states_same first first' second second' moment one other (suc n) le =
    let below : n ≤ moment = omega (arith, le) in
    ap (λ (a : AreaState). record { first = a; second = second'.before n } ∷ states_below first' second' n) (one n below)
    ∙ ap (λ (a : AreaState). record { first = first.before n; second = a } ∷ states_below first' second' n) (other n below)
    ∙ ap (λ (l : List DiskState). both_before first second n ∷ l)
    (states_same first first' second second' moment one other n (omega (arith, le)))

-- one call is one moment more
pub one_more : (first first' second second' : FileView) (moment : ℕ)
    → ((t : ℕ) → t ≤ moment → first'.before t ≡ first.before t)
    → ((t : ℕ) → t ≤ moment → second'.before t ≡ second.before t)
    → history_of (moment + 1) first' second'
    ≡ advanced (history_of moment first second) (both_before first' second' (moment + 1))
one_more first first' second second' moment one other =
    ap (λ (l : List DiskState). record { now = both_before first' second' (moment + 1); past = l })
    (states_same first first' second second' moment one other (moment + 1) (omega arith)
    ∙ ap (λ (n : ℕ). states_below first second n) next)
  where
    next : moment + 1 ≡ suc moment
    next = omega arith

module _ {T E : Type 0} where
  pub no_write : (area : Area) (at : ℕ) (bytes : List ℕ) (error : E) (h : History)
      → Writes {T = T} {E = E} area at bytes (Err error) h h
  no_write First at bytes error h = record {
    written = tt;
    touched = (torn_not at (length bytes) h.now.first.content, refl);
    moments = record {
      start = λ c image. (c, image, (torn_not at (length bytes) c.first, refl));
      more = [];
      states = refl;
      each = tt;
    };
  }
  no_write Second at bytes error h = record {
    written = tt;
    touched = (refl, torn_not at (length bytes) h.now.second.content);
    moments = record {
      start = λ c image. (c, image, (refl, torn_not at (length bytes) c.second));
      more = [];
      states = refl;
      each = tt;
    };
  }

  pub no_sync : (area : Area) (error : E) (h : History) → Syncs {T = T} {E = E} area (Err error) h h
  no_sync area error h = record {
    content = refl;
    moments = record { start = λ c image. image; more = []; states = refl; each = tt };
    durable = tt;
  }

  done : (result : Result T E) (P Q : Type 0) → (P → Q)
      → MatchResult result (λ _. P) (λ _. Unit {0}) → MatchResult result (λ _. Q) (λ _. Unit {0})
  done (Ok value) P Q f h = f h
  done (Err error) P Q f h = tt

  module _ (result : Result T E) (moment : ℕ) where
    pub wrote_first : (first first' second : FileView) (at : ℕ) (bytes : List ℕ)
        → IsStill moment second → Passes moment first first'
        → FileWrites at bytes result (first.before moment) (first'.before (moment + 1))
        → Writes First at bytes result (history_of moment first second)
        (history_of (moment + 1) first' second)
    wrote_first first first' second at bytes still passes writes =
        let rest : second.before (moment + 1) ≡ second.before moment = still (moment + 1) (omega arith) in
        let rest_content = ap (λ (a : AreaState). a.content) rest in
        subst (λ h. Writes First at bytes result (history_of moment first second) h)
        (sym (one_more first first' second second moment passes.past (λ t le. refl)))
        (record {
          written = done result _ _ (λ h. (h, rest_content)) writes.written;
          touched = (writes.touched, rest_content);
          moments = record {
            start = λ c image. (c, image, (torn_not at (length bytes) c.first, refl));
            more = both_before first' second (moment + 1) ∷ [];
            states = refl;
            each = (
              (λ c image. let d = writes.images c.first image.0 in (
                record { first = d.0; second = c.second },
                (d.1, subst (λ (a : AreaState). FileImage a c.second) rest image.1),
                (d.2, refl),
              )),
              tt,
            );
          };
        })

    pub wrote_second : (first second second' : FileView) (at : ℕ) (bytes : List ℕ)
        → IsStill moment first → Passes moment second second'
        → FileWrites at bytes result (second.before moment) (second'.before (moment + 1))
        → Writes Second at bytes result (history_of moment first second)
        (history_of (moment + 1) first second')
    wrote_second first second second' at bytes still passes writes =
        let rest : first.before (moment + 1) ≡ first.before moment = still (moment + 1) (omega arith) in
        let rest_content = ap (λ (a : AreaState). a.content) rest in
        subst (λ h. Writes Second at bytes result (history_of moment first second) h)
        (sym (one_more first first second second' moment (λ t le. refl) passes.past))
        (record {
          written = done result _ _ (λ h. (rest_content, h)) writes.written;
          touched = (rest_content, writes.touched);
          moments = record {
            start = λ c image. (c, image, (refl, torn_not at (length bytes) c.second));
            more = both_before first second' (moment + 1) ∷ [];
            states = refl;
            each = (
              (λ c image. let d = writes.images c.second image.1 in (
                record { first = c.first; second = d.0 },
                (subst (λ (a : AreaState). FileImage a c.first) rest image.0, d.1),
                (refl, d.2),
              )),
              tt,
            );
          };
        })

    pub synced_first : (first first' second : FileView) → IsStill moment second
        → Passes moment first first'
        → (first'.before (moment + 1)).content ≡ (first.before moment).content
        → ((c : List ℕ) → FileImage (first'.before (moment + 1)) c → FileImage (first.before moment) c)
        → MatchResult result (λ _. IsDurable (first'.before (moment + 1))) (λ _. Unit {0})
        → Syncs First result (history_of moment first second) (history_of (moment + 1) first' second)
    synced_first first first' second still passes content images durable =
        let rest : second.before (moment + 1) ≡ second.before moment = still (moment + 1) (omega arith) in
        let rest_content = ap (λ (a : AreaState). a.content) rest in
        subst (λ h. Syncs First result (history_of moment first second) h)
        (sym (one_more first first' second second moment passes.past (λ t le. refl)))
        (record {
          content = ap (λ (l : List ℕ). record { first = l; second = (second.before (moment + 1)).content }) content
              ∙ ap (λ (l : List ℕ). record { first = (first.before moment).content; second = l }) rest_content;
          moments = record {
            start = λ c image. image;
            more = both_before first' second (moment + 1) ∷ [];
            states = refl;
            each = (
              (λ c image. (
                images c.first image.0,
                subst (λ (a : AreaState). FileImage a c.second) rest image.1,
              )),
              tt,
            );
          };
          durable = done result _ _ (λ h c image. h c.first image.0 ∙ content) durable;
        })

    pub synced_second : (first second second' : FileView) → IsStill moment first
        → Passes moment second second'
        → (second'.before (moment + 1)).content ≡ (second.before moment).content
        → ((c : List ℕ) → FileImage (second'.before (moment + 1)) c → FileImage (second.before moment) c)
        → MatchResult result (λ _. IsDurable (second'.before (moment + 1))) (λ _. Unit {0})
        → Syncs Second result (history_of moment first second) (history_of (moment + 1) first second')
    synced_second first second second' still passes content images durable =
        let rest : first.before (moment + 1) ≡ first.before moment = still (moment + 1) (omega arith) in
        let rest_content = ap (λ (a : AreaState). a.content) rest in
        subst (λ h. Syncs Second result (history_of moment first second) h)
        (sym (one_more first first second second' moment (λ t le. refl) passes.past))
        (record {
          content = ap (λ (l : List ℕ). record { first = l; second = (second'.before (moment + 1)).content }) rest_content
              ∙ ap (λ (l : List ℕ). record { first = (first.before moment).content; second = l }) content;
          moments = record {
            start = λ c image. image;
            more = both_before first second' (moment + 1) ∷ [];
            states = refl;
            each = (
              (λ c image. (
                subst (λ (a : AreaState). FileImage a c.first) rest image.0,
                images c.second image.1,
              )),
              tt,
            );
          };
          durable = done result _ _ (λ h c image. h c.second image.1 ∙ content) durable;
        })
