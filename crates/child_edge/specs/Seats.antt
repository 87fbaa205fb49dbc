-- The lives in which an item waits, and the lives that go on, in the order in which their sessions were made.
use Rattle.std.specs.Prelude.{ℕ, List, [], ◌∷◌, ◌++◌, Option, Some, None, option_map, length, nat_lt, if◌then◌else◌}
use Rattle.worksheet.specs.declared.field.Session.{Session}
use Rattle.session_engine.specs.declared.host.LifeView.{LifeView}
use Rattle.session_engine.specs.World.{World, Going, life_of, waiting_in, sheet_in}
use Rattle.child_calls.specs.declared.seat.Seat.{Seat}

-- a life as a host tells it
abbrev pub life_view : Going → LifeView
life_view l = record { number = l.number; waiting = length (waiting_in l) }

abbrev pub seat : List ℕ → ℕ → Seat
seat name life = record { name = name; life = life }

-- the life of this session, where an item waits in it
abbrev pub seat_of : List ℕ → Option LifeView → List Seat
seat_of name None = []
seat_of name (Some l) = if nat_lt 0 l.waiting then seat name l.number ∷ [] else []

abbrev pub seats_of : World → List Session → List Seat
seats_of w [] = []
seats_of w (s ∷ ss) = seat_of s.name (option_map life_view (life_of w s.name)) ++ seats_of w ss

-- the lives in which an item waits
unfoldable pub waits : World → List Seat
waits w = seats_of w (sheet_in w).sessions

-- the life of this number, where one goes on
abbrev pub numbered : List ℕ → Option ℕ → List Seat
numbered name None = []
numbered name (Some life) = seat name life ∷ []

abbrev pub lives_of : (List ℕ → Option ℕ) → List Session → List Seat
lives_of number [] = []
lives_of number (s ∷ ss) = numbered s.name (number s.name) ++ lives_of number ss

-- the lives that go on
unfoldable pub running : World → List Seat
running w = lives_of (λ name. option_map (λ l. l.number) (life_of w name)) (sheet_in w).sessions
