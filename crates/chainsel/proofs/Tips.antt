-- Where a chain or a path ends, and what follows it.
use Rattle.std.proofs.Common.{◌≡◌, ℕ, zero, suc, ◌+◌, List, [], ◌∷◌, ◌++◌, length, take, Some, refl, sym, ap, ◌∙◌}
use Rattle.std.specs.Prelude.{slice_get}
use Rattle.std.proofs.lemmas.Option.{same_Some, none-some}
use Rattle.model.specs.Block.{Block}
use Rattle.model.specs.Chain.{Tip, tip_at, tip_after, IsLinked, Follows}
use Rattle.model.proofs.Chains.{tip_after-append, tip_number}
use Rattle.chainsel.specs.Paths.{last_block}

-- the first blocks of a chain end at the last of them
pub tip_of_place : (tip : Tip) (bs : List Block) (place : ℕ) (b : Block) → slice_get bs place ≡ Some b → tip_after tip (take (suc place) bs) ≡ tip_at b
tip_of_place tip [] place b is = absurd (none-some b is)
tip_of_place tip (x ∷ xs) zero b is = ap tip_at (same_Some x b is)
tip_of_place tip (x ∷ xs) (suc place) b is = tip_of_place (tip_at x) xs place b is

pub tip_of_pushed : (tip : Tip) (bs : List Block) (b : Block) → tip_after tip (bs ++ b ∷ []) ≡ tip_at b
tip_of_pushed tip bs b = tip_after-append tip bs (b ∷ [])

pub linked_push : (tip : Tip) (bs : List Block) (b : Block) → IsLinked tip bs → Follows (tip_after tip bs) b → IsLinked tip (bs ++ b ∷ [])
linked_push tip [] b linked follows = (follows, tt)
linked_push tip (x ∷ xs) b linked follows = (linked.0, linked_push (tip_at x) xs b linked.1 follows)

-- a path ends at its last block
pub tip_of_path : (b : Block) (bs : List Block) → tip_after (tip_at b) bs ≡ tip_at (last_block b bs)
tip_of_path b [] = refl
tip_of_path b (c ∷ cs) = tip_of_path c cs

pub last_of_pushed : (b : Block) (bs : List Block) (c : Block) → last_block b (bs ++ c ∷ []) ≡ c
last_of_pushed b [] c = refl
last_of_pushed b (x ∷ xs) c = last_of_pushed x xs c

-- each block of a path adds one to the number
pub number_of_last : (b : Block) (bs : List Block) → IsLinked (tip_at b) bs → (last_block b bs).header.number ≡ b.header.number + length bs
number_of_last b bs linked = sym (ap (λ (t : Tip). t.number) (tip_of_path b bs)) ∙ tip_number (tip_at b) bs linked

-- the first blocks of a chain are a chain
pub linked_take : (tip : Tip) (n : ℕ) (bs : List Block) → IsLinked tip bs → IsLinked tip (take n bs)
linked_take tip zero bs linked = tt
linked_take tip (suc n) [] linked = tt
linked_take tip (suc n) (x ∷ xs) linked = (linked.0, linked_take (tip_at x) n xs linked.1)
