-- Who waits, and who is stopped, session by session.
use Rattle.std.proofs.Common.{◌≡◌, ◌≢◌, ℕ, List, [], ◌∷◌, ◌++◌, Option, Some, None, refl, sym, ◌∙◌, subst, ap, append_assoc, append-nil}
use Rattle.std.specs.Prelude.{option_map}
use Rattle.worksheet.specs.declared.field.Session.{Session}
use Rattle.session_engine.specs.World.{World, Going, life_of, sheet_in}
use Rattle.session_engine.specs.declared.host.LifeView.{LifeView}
use Rattle.child_calls.specs.declared.seat.Seat.{Seat}
use Rattle.child_edge.specs.Seats.{life_view, seat_of, seats_of, waits, numbered, lives_of, running}
use Rattle.child_edge.specs.Faithful.{Relation}
use Rattle.child_edge.specs.Stops.{Stops}

pub seats-start : (w : World) (items : List Seat) (ss : List Session) → items ≡ [] → ss ≡ (sheet_in w).sessions → items ++ seats_of w ss ≡ waits w
unfolding waits
seats-start w items ss e f = rw (e, f) refl

-- the numbers of a world's lives
abbrev pub number_of : World → List ℕ → Option ℕ
number_of w name = option_map (λ l. l.number) (life_of w name)

pub Stops-append : {C : Type 0} (R : Relation C) (xs ys : List Seat) (c d e : C) → Stops R xs c d → Stops R ys d e → Stops R (xs ++ ys) c e
Stops-append R [] ys c d e first second = subst (λ x. Stops R ys x e) first second
Stops-append R (x ∷ xs) ys c d e first second = (first.0, first.1, first.2, Stops-append R xs ys first.0 d e first.3 second)

-- a session more
pub lives-on : (number : List ℕ → Option ℕ) (xs : List Seat) (s : Session) (left rest ss : List Session) (v : Option ℕ) → left ≡ s ∷ rest → v ≡ number s.name
    → xs ++ lives_of number left ≡ lives_of number ss → (xs ++ numbered s.name v) ++ lives_of number rest ≡ lives_of number ss
lives-on number xs s left rest ss v e n h =
    append_assoc xs (numbered s.name v) (lives_of number rest) ∙ ap (λ (x : Option ℕ). xs ++ (numbered s.name x ++ lives_of number rest)) n ∙ ap (λ (l : List Session). xs ++ lives_of number l) (sym e) ∙ h

lives-same : (f g : List ℕ → Option ℕ) → ((name : List ℕ) → f name ≡ g name) → (ss : List Session) → lives_of f ss ≡ lives_of g ss
lives-same f g h [] = refl
lives-same f g h (s ∷ ss) = ap (λ (x : Option ℕ). numbered s.name x ++ lives_of f ss) (h s.name) ∙ ap (λ (l : List Seat). numbered s.name (g s.name) ++ l) (lives-same f g h ss)

-- all sessions
pub all-lives : (number : List ℕ → Option ℕ) (w : World) (xs : List Seat) (left ss : List Session) → left ≡ [] → xs ++ lives_of number left ≡ lives_of number ss → ss ≡ (sheet_in w).sessions
    → ((name : List ℕ) → number name ≡ number_of w name) → xs ≡ running w
unfolding running
all-lives number w xs left ss e h s n =
    sym (append-nil xs) ∙ ap (λ (l : List Session). xs ++ lives_of number l) (sym e) ∙ h ∙ ap (lives_of number) s ∙ lives-same number (number_of w) n (sheet_in w).sessions

-- the number that a host tells
pub reported-number : (w : World) (name : List ℕ) (view : Option LifeView) → view ≡ option_map life_view (life_of w name) → option_map (λ v. v.number) view ≡ number_of w name
reported-number w name view e = ap (λ (o : Option LifeView). option_map (λ v. v.number) o) e ∙ go (life_of w name)
  where
    go : (o : Option Going) → option_map (λ v. v.number) (option_map life_view o) ≡ option_map (λ l. l.number) o
    go None = refl
    go (Some l) = refl

-- an item waits in the first of these sessions
pub not-idle : (w : World) (s : Session) (left rest : List Session) (v : Option LifeView) → left ≡ s ∷ rest → v ≡ option_map life_view (life_of w s.name)
    → seat_of s.name v ≢ [] → seats_of w left ≡ waits w → waits w ≢ []
not-idle w s left rest v e n some all none =
    some (front-nil (seat_of s.name v) (seats_of w rest) (ap (λ (x : Option LifeView). seat_of s.name x ++ seats_of w rest) n ∙ ap (seats_of w) (sym e) ∙ all ∙ none))
  where
    front-nil : (xs ys : List Seat) → xs ++ ys ≡ [] → xs ≡ []
    front-nil [] ys h = refl
    front-nil (x ∷ xs) ys h = cc

-- none does
pub idle-on : (w : World) (s : Session) (left rest : List Session) (v : Option LifeView) → left ≡ s ∷ rest → v ≡ option_map life_view (life_of w s.name)
    → seat_of s.name v ≡ [] → seats_of w left ≡ waits w → seats_of w rest ≡ waits w
idle-on w s left rest v e n none all =
    ap (λ (xs : List Seat). xs ++ seats_of w rest) (sym none) ∙ ap (λ (x : Option LifeView). seat_of s.name x ++ seats_of w rest) n ∙ ap (seats_of w) (sym e) ∙ all
