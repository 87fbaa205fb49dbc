-- Trees as rows of tokens, as the check wants it for a value that contracts see.
use Rattle.std.specs.Prelude.{◌≡◌, ℕ, Bool, true, false, List, [], ◌∷◌, refl}
use Rattle.std.proofs.Common.{ap}
use Rattle.std.specs.Coded.{Coded, code_by, coded×, coded_ℕ, coded_bool, coded_list}
use Rattle.block_tree.specs.Tree.{Items, Tree, end, text, block}

abbrev pub Token : Type 0
Token = Bool × (Bool × List ℕ)

abbrev pub flat : Items → List Token → List Token
flat end k = k
flat (text t f) k = (false, (false, t)) ∷ flat f k
flat (block c n i f) k = (true, (c, n)) ∷ flat i ((false, (true, [])) ∷ flat f k)

abbrev pub with_text : List ℕ → List Items → List Items
with_text t [] = []
with_text t (f ∷ st) = text t f ∷ st

abbrev pub with_block : Bool → List ℕ → List Items → List Items
with_block c n [] = []
with_block c n (i ∷ []) = []
with_block c n (i ∷ f ∷ st) = block c n i f ∷ st

abbrev pub not_block : Bool → List ℕ → List Items → List Items
not_block false t st = with_text t st
not_block true t st = end ∷ st

abbrev pub token_step : Bool → Bool → List ℕ → List Items → List Items
token_step true c n st = with_block c n st
token_step false c n st = not_block c n st

abbrev pub stacked : List Token → List Items
stacked [] = end ∷ []
stacked (t ∷ ts) = token_step t.0 t.1.0 t.1.1 (stacked ts)

abbrev pub first : List Items → Items
first [] = end
first (f ∷ st) = f

pub stacked-flat : (f : Items) (k : List Token) (st : List Items) → stacked k ≡ end ∷ st → stacked (flat f k) ≡ f ∷ st
stacked-flat end k st h = h
stacked-flat (text t f) k st h = ap (token_step false false t) (stacked-flat f k st h)
stacked-flat (block c n i f) k st h =
    ap (token_step true c n) (stacked-flat i ((false, (true, [])) ∷ flat f k) (f ∷ st) (ap (token_step false true []) (stacked-flat f k st h)))

abbrev pub coded_items : Coded Items
coded_items = code_by (List Token) (coded_list (coded× coded_bool (coded× coded_bool (coded_list coded_ℕ)))) (λ f. flat f []) (λ ts. first (stacked ts))
    (λ f. ap first (stacked-flat f [] [] refl))

abbrev pub coded_tree : Coded Tree
coded_tree = code_by (Bool × (List ℕ × Items)) (coded× coded_bool (coded× (coded_list coded_ℕ) coded_items))
    (λ t. (t.channel, (t.name, t.items))) (λ p. record { channel = p.0; name = p.1.0; items = p.1.1 }) (λ _. refl)
