-- The two laws of reading quantities.
use Rattle.std.proofs.Common.{◌≡◌, ◌≢◌, ℕ, ◌<◌, Bool, true, false, not, eqb, ltb, ◌&&◌, List, ◌++◌, None, ℤ, pos, negsuc, refl, arith, inl, inr}
use Rattle.std.specs.Prelude.{◌⊎◌}
use Rattle.std.proofs.lemmas.Bool.{ltb-true, lt-ltb}
use Rattle.model.specs.Limits.{number_limit}
use Rattle.model.specs.Cbor.{Unsigned, text_of}
use Rattle.model.specs.Value.{item_of_number, IsMintedQuantity}
use Rattle.cbor.specs.Shapes.{such_at, as_at}
use Rattle.cbor.proofs.ForCallers.{Fits, ReadsItem, unsigned_reads, negative_reads, such_reads, as_reads, same_reads, either_reads, other_head}
use Rattle.value.specs.Quantities.{held_at, made_at, taken_away_at, minted_at}

not_zero : (n : ℕ) → not (eqb n 0) ≡ true → n ≢ 0
not_zero n h = λ z. grind (arith, h, z)

counts : (n : ℕ) → n ≢ 0 → not (eqb n 0) ≡ true
counts n h = grind (arith, h)

-- of an output
pub held_reads : ReadsItem Unsigned (λ q. q ≢ 0) 1 held_at
unfolding held_at
held_reads = such_reads (λ n. not (eqb n 0)) (λ q. q ≢ 0) (λ n p t. not_zero n t) (λ n some. (tt, counts n some)) (unsigned_reads 0)

-- ---- of what is minted

-- a quantity that is made
abbrev IsMade : ℤ → Type 0
IsMade (pos n) = (n ≢ 0) × (n < number_limit)
IsMade (negsuc n) = ⊥

-- one that is taken away
abbrev IsTakenAway : ℤ → Type 0
IsTakenAway (pos n) = ⊥
IsTakenAway (negsuc n) = n < number_limit

both : (a b : Bool) → a && b ≡ true → (a ≡ true) × (b ≡ true)
both true b h = (refl, h)
both false b h = absurd cc

passes : (n : ℕ) → not (eqb n 0) && ltb n number_limit ≡ true → (n ≢ 0) × (n < number_limit)
passes n h = let two = both (not (eqb n 0)) (ltb n number_limit) h in (not_zero n two.0, ltb-true _ _ two.1)

fails : (n : ℕ) → (n ≢ 0) × (n < number_limit) → not (eqb n 0) && ltb n number_limit ≡ true
fails n p = rw (counts n p.0) (lt-ltb n number_limit p.1)

is_made : (z : ℤ) → IsMade z → (n : ℕ) × ((n ≢ 0) × (n < number_limit)) × (pos n ≡ z)
is_made (pos n) p = (n, p, refl)
is_made (negsuc n) p = absurd p

made_reads : ReadsItem item_of_number IsMade 1 made_at
unfolding made_at
made_reads =
    as_reads pos item_of_number IsMade (λ n p. (refl, p)) is_made
    (such_reads (λ n. not (eqb n 0) && ltb n number_limit) (λ n. (n ≢ 0) × (n < number_limit)) (λ n p t. passes n t) (λ n p. (tt, fails n p)) (unsigned_reads 0))

is_taken_away : (z : ℤ) → IsTakenAway z → (n : ℕ) × (n < number_limit) × (negsuc n ≡ z)
is_taken_away (pos n) p = absurd p
is_taken_away (negsuc n) p = (n, p, refl)

taken_away_reads : ReadsItem item_of_number IsTakenAway 1 taken_away_at
unfolding taken_away_at
taken_away_reads =
    as_reads negsuc item_of_number IsTakenAway (λ n p. (refl, p)) is_taken_away
    (such_reads (λ n. ltb n number_limit) (λ n. n < number_limit) (λ n p t. ltb-true _ _ t) (λ n lt. (tt, lt-ltb n number_limit lt)) (negative_reads 0))

-- what is taken away is not read as made
not_made : (z : ℤ) (rest : List ℕ) → Fits (item_of_number z) → IsTakenAway z → made_at (text_of (item_of_number z) ++ rest) ≡ None
unfolding made_at such_at as_at
not_made (pos n) rest fits p = absurd p
not_made (negsuc n) rest fits p = rw (other_head 1 0 n rest fits.in_range (λ same. absurd (omega (arith, same)))) refl

one_of : (z : ℤ) → IsMade z ⊎ IsTakenAway z → IsMintedQuantity z
one_of (pos n) p = elim p [ inl made ↦ made | inr away ↦ absurd away ]
one_of (negsuc n) p = elim p [ inl made ↦ absurd made | inr away ↦ away ]

which : (z : ℤ) → IsMintedQuantity z → IsMade z ⊎ IsTakenAway z
which (pos n) p = inl p
which (negsuc n) p = inr p

pub minted_reads : ReadsItem item_of_number IsMintedQuantity 1 minted_at
unfolding minted_at
minted_reads = same_reads IsMintedQuantity one_of which (either_reads not_made made_reads taken_away_reads)
