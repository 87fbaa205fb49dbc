-- Where the outer blocks of a stream lie in it.
use Rattle.std.proofs.Common.{◌≡◌, ℕ, ◌+◌, ◌<◌, ◌≤◌, List, [], ◌∷◌, ◌++◌, length, sym, subst, arith, length-append}
use Rattle.block_tree.specs.Tree.{Tree}
use Rattle.meta_format.specs.Limits.{Limits}
use Rattle.meta_format.specs.Spelling.{Spells}
use Rattle.meta_format.specs.Stream.{Outer, Chain, Stream}
use Rattle.meta_format.specs.Stream.Chain.{none as chain_none, next as chain_next}
use Rattle.meta_format.specs.Reader.{CloseWithin}

-- the blocks stop after the one offset and at most at the other, and each has a byte
abbrev pub LieWithin : ℕ → ℕ → List Outer → Type 0
LieWithin from to [] = Unit {0}
LieWithin from to (b ∷ bs) = (from < b.stop) × (b.stop ≤ to) × (b.start < b.stop) × LieWithin from to bs

pub LieWithin-wider : (from to low high : ℕ) (bs : List Outer) → low ≤ from → to ≤ high → LieWithin from to bs → LieWithin low high bs
LieWithin-wider from to low high [] h k l = tt
LieWithin-wider from to low high (b ∷ bs) h k l = (omega arith, omega arith, l.2, LieWithin-wider from to low high bs h k l.3)

pub LieWithin-append : (from n m : ℕ) (bs fs : List Outer) → from ≤ n → n ≤ m → LieWithin from n bs → LieWithin n m fs → LieWithin from m (bs ++ fs)
LieWithin-append from n m [] fs h k l f = LieWithin-wider n m from m fs h (omega arith) f
LieWithin-append from n m (b ∷ bs) fs h k l f = (l.0, omega arith, l.2, LieWithin-append from n m bs fs h k l.3 f)

pub LieWithin-following : (from to : ℕ) (bs fs : List Outer) → LieWithin from to (bs ++ fs) → LieWithin from to fs
LieWithin-following from to [] fs l = l
LieWithin-following from to (b ∷ bs) fs l = LieWithin-following from to bs fs l.3

LieWithin-then : (from to : ℕ) (bs : List Outer) (b : Outer) → LieWithin from to bs → from < b.stop → b.stop ≤ to → b.start < b.stop → LieWithin from to (bs ++ b ∷ [])
LieWithin-then from to [] b l h k some = (h, k, some, tt)
LieWithin-then from to (c ∷ bs) b l h k some = (l.0, l.1, l.2, LieWithin-then from to bs b l.3 h k some)

-- blocks that close in a piece
pub LieWithin-closed : (n m to : ℕ) (fs : List Outer) → LieWithin 0 to fs → CloseWithin n m fs → LieWithin n m fs
LieWithin-closed n m to [] l c = tt
LieWithin-closed n m to (f ∷ fs) l c = (c.0, c.1, l.2, LieWithin-closed n m to fs l.3 c.3)

spelling_some : (most : Limits) (b : Tree) (s : List ℕ) → Spells most b s → 0 < length s
spelling_some most b s h = subst (λ (s : List ℕ). 0 < length s) (sym h.is) (omega arith)

pub chain_lies : (most : Limits) (blocks : List Outer) (s : List ℕ) → Chain most blocks s → LieWithin 0 (length s) blocks
chain_lies most _ _ chain_none = tt
chain_lies most _ _ (chain_next {blocks} {before} noise spelling b chain silent outer) =
    let some : 0 < length spelling = spelling_some most b spelling outer.spelled in
    let all : length (before ++ noise ++ spelling) ≡ length before + length noise + length spelling = omega (arith, length-append (before ++ noise) spelling, length-append before noise) in
    let front : length (before ++ noise) ≡ length before + length noise = length-append before noise in
    LieWithin-then 0 (length (before ++ noise ++ spelling)) blocks (record { start = length (before ++ noise); stop = length (before ++ noise ++ spelling); block = b })
    (LieWithin-wider 0 (length before) 0 (length (before ++ noise ++ spelling)) blocks (omega arith) (omega arith) (chain_lies most blocks before chain))
    (omega arith) (omega arith) (omega arith)

pub stream_lies : (most : Limits) (s : List ℕ) (blocks : List Outer) (tail : List ℕ) → Stream most s blocks tail → LieWithin 0 (length s) blocks
stream_lies most s blocks tail h =
    LieWithin-wider 0 (length h.before) 0 (length s) blocks (omega arith) (subst (λ (t : List ℕ). length h.before ≤ length t) (sym h.is) (omega (arith, length-append (h.before ++ h.noise) tail, length-append h.before h.noise))) (chain_lies most blocks h.before h.chain)
