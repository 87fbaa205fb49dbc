-- What is true of a disk while payloads are owed to it.
use Rattle.std.proofs.Common.{◌≡◌, ℕ, ◌+◌, ◌<◌, ◌≤◌, Bool, true, false, List, [], ◌∷◌, ◌++◌, length, refl, sym, ◌∙◌, ap, subst, arith, append-nil, append_assoc, length-append, Result, Ok}
use Rattle.std.specs.Prelude.{nat_le}
use Rattle.std.proofs.lemmas.Bool.Decides.{nat_tests}
use Rattle.disk_model.specs.Disk.{AreaImage, AreaState, Image, DiskView, History, IsImage, LeavesOnly, Syncs, Writes, area_of, bytes_on, content_of, other_area}
use Rattle.disk_model.specs.Calls.{after_write}
use Rattle.disk_model.specs.declared.disk.Area.{Area}
use Rattle.disk_model.specs.declared.disk.Area.TheVariants.{First, Second}
use Rattle.disk_model.specs.inside.Moments.{length-overwritten}
use Rattle.disk_model.specs.inside.Replay.{torn_by_write}
use Rattle.disk_model.proofs.Record.{synced, wrote}
use Rattle.journal.specs.Area.{ArePayloads, IsPayload, body_of, closed_gate, first_gate, open_gate, record_of, records}
use Rattle.journal.specs.Kept.{BeforeOrAfter, Keeps, active_area, active_of, other_of}
use Rattle.journal.specs.Limits.{longest_payload}
use Rattle.journal.specs.Owed.{appended_on, owed_disk, owed_on, synced_on, written_on}
use Rattle.journal.specs.inside.Active.{IsActive}
use Rattle.journal.proofs.Actives.{active_at_sync, active_at_write, at_other, changed, has_room, others_at_write, same_at_sync}
use Rattle.journal.proofs.Bytes.{one_group, records-push}
use Rattle.journal.proofs.Steps.{added, after4, known}
use Rattle.journal.proofs.Unique.{laid_out_once}

-- what a read gives is one of the images
abbrev pub Sound : History → Type 0
Sound h = IsImage h.now (content_of h)

abbrev IsSound : AreaState → Type 0
IsSound a = AreaImage a.synced a.writes a.content

area_sound : (a : AreaState) (at : ℕ) (bytes : List ℕ) → IsSound a → IsSound (after_write at bytes a)
area_sound a at bytes sound = go (nat_le at (length a.content)) refl
  where
    go : (b : Bool) → nat_le at (length a.content) ≡ b → IsSound (after_write at bytes a)
    go true is = rw is (a.content, sound, torn_by_write a.content at bytes (grind (arith, nat_tests, is)))
    go false is = rw is sound

write_sound : (area : Area) (at : ℕ) (bytes : List ℕ) (h : History) → Sound h → Sound (written_on area at bytes h)
write_sound First at bytes h sound = (area_sound h.now.first at bytes sound.0, sound.1)
write_sound Second at bytes h sound = (sound.0, area_sound h.now.second at bytes sound.1)

sync_sound : (area : Area) (h : History) → Sound h → Sound (synced_on area h)
sync_sound First h sound = (refl, sound.1)
sync_sound Second h sound = (sound.0, refl)

abbrev done : Result Unit Unit
done = Ok tt

within : (h : History) (end : ℕ) (payloads : List (List ℕ)) → Keeps h end payloads → end < length (active_of (content_of h))
within h end payloads keeps =
    let s = keeps.stands.stands in
    omega (arith, keeps.end_is, ap length s.header_is.is, ap length s.lays.is, length-append (records payloads) (s.lays.gate ∷ s.lays.more))

module _ (area : Area) (h0 : History) (sound : Sound h0) (end : ℕ) (payloads : List (List ℕ)) (keeps : Keeps h0 end payloads) (named : active_area (content_of h0) ≡ area) (p : List ℕ) (is_payload : IsPayload longest_payload p) where
  abbrev bytes : List ℕ
  bytes = body_of p ++ closed_gate ∷ []

  abbrev h1 : History
  h1 = written_on area (end + 1) bytes h0

  abbrev h2 : History
  h2 = synced_on area h1

  abbrev h3 : History
  h3 = written_on area end (open_gate ∷ []) h2

  abbrev h4 : History
  h4 = synced_on area h3

  inside : end < length (area_of area (content_of h0))
  inside = subst (λ (a : Area). end < length (area_of a (content_of h0))) named (within h0 end payloads keeps)

  w1 : Writes area (end + 1) bytes done h0 h1
  w1 = wrote tt area (end + 1) bytes h0 h1 (omega (arith, inside)) refl

  s1 : Syncs area done h1 h2
  s1 = synced tt area h1 h2 (write_sound area (end + 1) bytes h0 sound) refl

  sound2 : Sound h2
  sound2 = sync_sound area h1 (write_sound area (end + 1) bytes h0 sound)

  inside2 : end ≤ length (area_of area (content_of h2))
  inside2 = omega (arith, inside, ap (λ (i : Image). length (area_of area i)) s1.content, ap length (changed area _ _ _ w1.written), length-overwritten (area_of area (content_of h0)) (end + 1) bytes (omega (arith, inside)))

  w2 : Writes area end (open_gate ∷ []) done h2 h3
  w2 = wrote tt area end (open_gate ∷ []) h2 h3 inside2 refl

  s2 : Syncs area done h3 h4
  s2 = synced tt area h3 h4 (write_sound area end (open_gate ∷ []) h2 sound2) refl

  following : first_gate ≤ end
  following = omega (arith, keeps.end_is)

  are : open_gate ∷ bytes ≡ records (p ∷ []) ++ closed_gate ∷ []
  are = one_group p bytes refl

  appended_keeps : Keeps h4 (end + 5 + length p) (payloads ++ p ∷ [])
  appended_keeps = subst (λ (n : ℕ). Keeps h4 n (payloads ++ p ∷ [])) (omega (arith, length-append (body_of p) (closed_gate ∷ [])))
      (added h0 end payloads keeps (p ∷ []) (is_payload, tt) bytes are area named tt h1 h2 w1 s1 h3 h4 w2 s2)

  appended_moments : LeavesOnly (BeforeOrAfter h0.now payloads p) h0 h4
  appended_moments = known h0 end payloads keeps (p ∷ []) (is_payload, tt) bytes are area named h4
      (after4 h0 end payloads keeps (p ∷ []) (is_payload, tt) bytes are area named tt h1 h2 w1 s1 done done h3 h4 w2 s2)

  appended_sound : Sound h4
  appended_sound = sync_sound area h3 (write_sound area end (open_gate ∷ []) h2 sound2)

  is_active : IsActive area (content_of h4)
  is_active =
      let a0 : IsActive area (content_of h0) = record { named = named; headed = has_room (content_of h0).first keeps.stands.headed } in
      let a1 = active_at_write area (end + 1) bytes done h0 h1 (omega (arith, following)) a0 w1 in
      let a2 = active_at_sync area done h1 h2 a1 s1 in
      let a3 = active_at_write area end (open_gate ∷ []) done h2 h3 following a2 w2 in
      active_at_sync area done h3 h4 a3 s2

  appended_other : other_of (content_of h4) ≡ other_of (content_of h0)
  appended_other =
      at_other area (content_of h4) is_active.named
      ∙ same_at_sync area (other_area area) done h3 h4 s2
      ∙ others_at_write area end (open_gate ∷ []) done h2 h3 w2
      ∙ same_at_sync area (other_area area) done h1 h2 s1
      ∙ others_at_write area (end + 1) bytes done h0 h1 w1
      ∙ sym (at_other area (content_of h0) named)

-- what is true of a disk to which payloads are owed
record Owing (area : Area) (h : History) (end : ℕ) (payloads : List (List ℕ)) : Type 0 where
  keeps : Keeps h end payloads
  sound : Sound h
  named : active_area (content_of h) ≡ area

owing : (area : Area) (h : History) (end : ℕ) (before ps : List (List ℕ)) → Owing area h end before → ArePayloads longest_payload ps → Owing area (owed_on area end ps h) (end + length (records ps)) (before ++ ps)
owing area h end before [] o each = record {
  keeps = subst (λ (n : ℕ). Keeps h n (before ++ [])) (omega arith) (subst (λ (qs : List (List ℕ)). Keeps h end qs) (sym (append-nil before)) o.keeps);
  sound = o.sound;
  named = o.named;
}
owing area h end before (p ∷ ps) o each =
    let one : Owing area (appended_on area end p h) (end + 5 + length p) (before ++ p ∷ []) = record {
      keeps = appended_keeps area h o.sound end before o.keeps o.named p each.0;
      sound = appended_sound area h o.sound end before o.keeps o.named p each.0;
      named = (is_active area h o.sound end before o.keeps o.named p each.0).named;
    } in
    let all = owing area (appended_on area end p h) (end + 5 + length p) (before ++ p ∷ []) ps one each.1 in
    let new = owed_on area end (p ∷ ps) h in
    record {
      keeps = subst (λ (n : ℕ). Keeps new n (before ++ p ∷ ps)) (omega (arith, length-append (record_of p) (records ps)))
          (subst (λ (qs : List (List ℕ)). Keeps new (end + 5 + length p + length (records ps)) qs) (append_assoc before (p ∷ []) ps) all.keeps);
      sound = all.sound;
      named = all.named;
    }

owed-push : (area : Area) (h : History) (end : ℕ) (ps : List (List ℕ)) (p : List ℕ) → owed_on area end (ps ++ p ∷ []) h ≡ appended_on area (end + length (records ps)) p (owed_on area end ps h)
owed-push area h end [] p = ap (λ (n : ℕ). appended_on area n p h) (let same : end ≡ end + length (records []) = omega arith in same)
owed-push area h end (q ∷ ps) p =
    owed-push area (appended_on area end q h) (end + 5 + length q) ps p
    ∙ ap (λ (n : ℕ). appended_on area n p (owed_on area end (q ∷ ps) h)) (let same : end + 5 + length q + length (records ps) ≡ end + length (records (q ∷ ps)) = omega (arith, length-append (record_of q) (records ps)) in same)

module _ (v : DiskView) (end : ℕ) (before ps : List (List ℕ)) (sound : Sound v.history) (keeps : Keeps v.history end before) (each : ArePayloads longest_payload ps) where
  abbrev here : Area
  here = active_area (bytes_on v)

  abbrev old : DiskView
  old = owed_disk v end ps

  abbrev at : ℕ
  at = end + length (records ps)

  now : Owing here old.history at (before ++ ps)
  now = owing here v.history end before ps (record { keeps = keeps; sound = sound; named = refl }) each

  -- it keeps what the disk keeps, and what is owed to it
  pub owed_keeps : Keeps old.history at (before ++ ps)
  owed_keeps = now.keeps

  pub owed_are : (n : ℕ) (payloads : List (List ℕ)) → Keeps old.history n payloads → payloads ≡ before ++ ps
  owed_are n payloads other = laid_out_once longest_payload (omega arith) (active_of (bytes_on old)) payloads (before ++ ps) other.stands.stands now.keeps.stands.stands

  module _ (p : List ℕ) (is_payload : IsPayload longest_payload p) where
    abbrev new : DiskView
    new = owed_disk v end (ps ++ p ∷ [])

    is_new : new.history ≡ appended_on here at p old.history
    is_new = owed-push here v.history end ps p

    longer : at + 5 + length p ≡ end + length (records (ps ++ p ∷ []))
    longer = omega (arith, ap length (records-push ps p), length-append (records ps) (record_of p))

    -- a payload more is owed
    pub owes_more : (n : ℕ) (payloads : List (List ℕ)) → n ≡ at → Keeps old.history n payloads → Keeps new.history (end + length (records (ps ++ p ∷ []))) (payloads ++ p ∷ [])
    owes_more n payloads is k =
        let k1 = subst (λ (m : ℕ). Keeps old.history m payloads) is k in
        subst (λ (m : ℕ). Keeps new.history m (payloads ++ p ∷ [])) longer
        (subst (λ (h : History). Keeps h (at + 5 + length p) (payloads ++ p ∷ [])) (sym is_new) (appended_keeps here old.history now.sound at payloads k1 now.named p is_payload))

    pub owes_moments : (n : ℕ) (payloads : List (List ℕ)) → n ≡ at → Keeps old.history n payloads → LeavesOnly (BeforeOrAfter old.history.now payloads p) old.history new.history
    owes_moments n payloads is k =
        let k1 = subst (λ (m : ℕ). Keeps old.history m payloads) is k in
        subst (λ (h : History). LeavesOnly (BeforeOrAfter old.history.now payloads p) old.history h) (sym is_new) (appended_moments here old.history now.sound at payloads k1 now.named p is_payload)

    pub owes_other : other_of (bytes_on new) ≡ other_of (bytes_on old)
    owes_other = ap (λ (h : History). other_of (content_of h)) is_new ∙ appended_other here old.history now.sound at (before ++ ps) now.keeps now.named p is_payload
