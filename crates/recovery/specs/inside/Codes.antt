-- A store's view as a tuple, as the check wants it for a value that contracts see.
use Rattle.std.specs.Prelude.{ℕ, Bool, List, refl}
use Rattle.std.specs.Coded.{Coded, code_by, coded×, coded_ℕ, coded_bool, coded_list}
use Rattle.disk_model.specs.Disk.{Written, AreaState, DiskState, History, DiskView}
use Rattle.worksheet.specs.Contents.{SheetView}
use Rattle.worksheet.specs.inside.Codes.{coded_bytes, coded_held}
use Rattle.recovery.specs.Sheets.{StoreView}

abbrev pub coded_written : Coded Written
coded_written = code_by (ℕ × List ℕ) (coded× coded_ℕ coded_bytes) (λ w. (w.at, w.bytes))
    (λ p. record { at = p.0; bytes = p.1 }) (λ _. refl)

abbrev pub coded_area : Coded AreaState
coded_area = code_by (List ℕ × (List ℕ × List Written))
    (coded× coded_bytes (coded× coded_bytes (coded_list coded_written)))
    (λ a. (a.content, (a.synced, a.writes)))
    (λ p. record { content = p.0; synced = p.1.0; writes = p.1.1 }) (λ _. refl)

abbrev pub coded_state : Coded DiskState
coded_state = code_by (AreaState × AreaState) (coded× coded_area coded_area)
    (λ s. (s.first, s.second)) (λ p. record { first = p.0; second = p.1 }) (λ _. refl)

abbrev pub coded_history : Coded History
coded_history = code_by (DiskState × List DiskState) (coded× coded_state (coded_list coded_state))
    (λ h. (h.now, h.past)) (λ p. record { now = p.0; past = p.1 }) (λ _. refl)

abbrev pub coded_disk : Coded DiskView
coded_disk = code_by (ℕ × (ℕ × (Bool × History)))
    (coded× coded_ℕ (coded× coded_ℕ (coded× coded_bool coded_history)))
    (λ d. (d.room, (d.faults, (d.keeps_model, d.history))))
    (λ p. record { room = p.0; faults = p.1.0; keeps_model = p.1.1.0; history = p.1.1.1 })
    (λ _. refl)

abbrev pub coded_store : Coded StoreView
coded_store = code_by (DiskView × (ℕ × (SheetView × (Bool × (DiskView × (List (List ℕ) × (Bool × (ℕ × ℕ))))))))
    (coded× coded_disk (coded× coded_ℕ (coded× coded_held (coded× coded_bool (coded× coded_disk (coded× (coded_list coded_bytes) (coded× coded_bool (coded× coded_ℕ coded_ℕ))))))))
    (λ s. (s.disk, (s.end, (s.sheet, (s.closed, (s.real, (s.owed, (s.gathers, (s.start, s.place)))))))))
    (λ p. record { disk = p.0; end = p.1.0; sheet = p.1.1.0; closed = p.1.1.1.0; real = p.1.1.1.1.0; owed = p.1.1.1.1.1.0; gathers = p.1.1.1.1.1.1.0; start = p.1.1.1.1.1.1.1.0; place = p.1.1.1.1.1.1.1.1 }) (λ _. refl)
