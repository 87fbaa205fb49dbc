-- A past with one more event.
use Rattle.std.proofs.Common.{◌≡◌, ℕ, ◌+◌, ◌<◌, ◌≤◌, List, [], ◌∷◌, ◌++◌, length, refl, ap, ◌∙◌, arith, append_assoc, length-append}
use Rattle.std.proofs.lemmas.List.{append-nil}
use Rattle.std.proofs.lemmas.Bool.Decides.{nat_tests}
use Rattle.plugin_core.specs.declared.item.Item.{Item}
use Rattle.plugin_core.specs.Past.{Event, accepted, received, stream_of, items_of, places_from, ends_from}
use Rattle.plugin_core.specs.Answers.{end_after}

pub stream_of-received : (ts : List Event) (p : List ℕ) → stream_of (ts ++ received p ∷ []) ≡ stream_of ts ++ p
stream_of-received [] p = append-nil p
stream_of-received (accepted i ∷ ts) p = stream_of-received ts p
stream_of-received (received q ∷ ts) p = rw (stream_of-received ts p, append_assoc) refl

pub stream_of-accepted : (ts : List Event) (i : Item) → stream_of (ts ++ accepted i ∷ []) ≡ stream_of ts
stream_of-accepted [] i = refl
stream_of-accepted (accepted j ∷ ts) i = stream_of-accepted ts i
stream_of-accepted (received q ∷ ts) i = ap (λ s. q ++ s) (stream_of-accepted ts i)

pub items_of-received : (ts : List Event) (p : List ℕ) → items_of (ts ++ received p ∷ []) ≡ items_of ts
items_of-received [] p = refl
items_of-received (accepted j ∷ ts) p = ap (λ is. j ∷ is) (items_of-received ts p)
items_of-received (received q ∷ ts) p = items_of-received ts p

pub items_of-accepted : (ts : List Event) (i : Item) → items_of (ts ++ accepted i ∷ []) ≡ items_of ts ++ i ∷ []
items_of-accepted [] i = refl
items_of-accepted (accepted j ∷ ts) i = ap (λ is. j ∷ is) (items_of-accepted ts i)
items_of-accepted (received q ∷ ts) i = items_of-accepted ts i

pub places_from-received : (at : ℕ) (ts : List Event) (p : List ℕ) → places_from at (ts ++ received p ∷ []) ≡ places_from at ts
places_from-received at [] p = refl
places_from-received at (accepted j ∷ ts) p = ap (λ is. at ∷ is) (places_from-received at ts p)
places_from-received at (received q ∷ ts) p = places_from-received (at + length q) ts p

pub places_from-accepted : (at : ℕ) (ts : List Event) (i : Item) → places_from at (ts ++ accepted i ∷ []) ≡ places_from at ts ++ (at + length (stream_of ts)) ∷ []
places_from-accepted at [] i = ap (λ n. n ∷ []) (omega arith)
places_from-accepted at (accepted j ∷ ts) i = ap (λ is. at ∷ is) (places_from-accepted at ts i)
places_from-accepted at (received q ∷ ts) i = places_from-accepted (at + length q) ts i ∙ ap (λ n. places_from (at + length q) ts ++ n ∷ []) (omega (arith, length-append q (stream_of ts)))

pub ends_from-accepted : (at : ℕ) (ts : List Event) (i : Item) → ends_from at (ts ++ accepted i ∷ []) ≡ ends_from at ts
ends_from-accepted at [] i = refl
ends_from-accepted at (accepted j ∷ ts) i = ends_from-accepted at ts i
ends_from-accepted at (received q ∷ ts) i = ap (λ is. (at + length q) ∷ is) (ends_from-accepted (at + length q) ts i)

pub ends_from-received : (at : ℕ) (ts : List Event) (p : List ℕ) → ends_from at (ts ++ received p ∷ []) ≡ ends_from at ts ++ (at + length (stream_of ts) + length p) ∷ []
ends_from-received at [] p = ap (λ n. n ∷ []) (omega arith)
ends_from-received at (accepted j ∷ ts) p = ends_from-received at ts p
ends_from-received at (received q ∷ ts) p = ap (λ is. (at + length q) ∷ is) (ends_from-received (at + length q) ts p ∙ ap (λ n. ends_from (at + length q) ts ++ n ∷ []) (omega (arith, length-append q (stream_of ts))))

-- what was closed stays closed at the same end
pub end_after-known : (at : ℕ) (ts : List Event) (stop e : ℕ) → at < stop → stop ≤ at + length (stream_of ts) → end_after (ends_from at ts ++ e ∷ []) stop ≡ end_after (ends_from at ts) stop
end_after-known at [] stop e lo hi = absurd (omega arith)
end_after-known at (accepted j ∷ ts) stop e lo hi = end_after-known at ts stop e lo hi
end_after-known at (received q ∷ ts) stop e lo hi = grind (arith, nat_tests, length-append q (stream_of ts), end_after-known (at + length q) ts stop e)

pub end_after-le : (at : ℕ) (ts : List Event) (stop : ℕ) → at < stop → stop ≤ at + length (stream_of ts) → end_after (ends_from at ts) stop ≤ at + length (stream_of ts)
end_after-le at [] stop lo hi = absurd (omega arith)
end_after-le at (accepted j ∷ ts) stop lo hi = end_after-le at ts stop lo hi
end_after-le at (received q ∷ ts) stop lo hi = grind (arith, nat_tests, length-append q (stream_of ts), end_after-le (at + length q) ts stop)

pub end_after-new : (at : ℕ) (ts : List Event) (stop e : ℕ) → at + length (stream_of ts) < stop → stop ≤ e → end_after (ends_from at ts ++ e ∷ []) stop ≡ e
end_after-new at [] stop e lo hi = grind (arith, nat_tests)
end_after-new at (accepted j ∷ ts) stop e lo hi = end_after-new at ts stop e lo hi
end_after-new at (received q ∷ ts) stop e lo hi = grind (arith, nat_tests, length-append q (stream_of ts), end_after-new (at + length q) ts stop e)
