-- What is built of transactions, and when there is none.
use Rattle.std.proofs.Common.{◌≡◌, ℕ, zero, suc, ◌+◌, ◌^◌, ◌<◌, true, false, Bool, cond, ◌&&◌, nat_lt, List, [], ◌∷◌, Option, Some, option_map, slice_get, Result, Ok, Err, refl, sym, ◌∙◌, ap, subst, arith}
use Rattle.std.proofs.lemmas.Bool.Decides.{nat_tests}
use Rattle.std.specs.Prelude.{IsOk}
use Rattle.std.specs.List.{AllByRecursion, list_all}
use Rattle.std.proofs.lemmas.Option.{same_Some}
use Rattle.ident.specs.Kinds.{BlockHash}
use Rattle.model.specs.Cbor.{nesting}
use Rattle.model.specs.Transaction.{Transaction, item_of_transaction}
use Rattle.model.specs.Block.{IsHeader, SpellsBlock, block_text, block_hash_of}
use Rattle.model.specs.Chain.{Point}
use Rattle.tx.proofs.ForCallers.{NestsWithin}
use Rattle.block.specs.View.{bytes_of}
use Rattle.block.specs.Written.{full_block, FitsBlock, IsTooDeep, IsWritable}
use Rattle.block.proofs.ForCallers.{transactions_nest, full_header}
use Rattle.script.specs.declared.fault.LineFault.{LineFault}
use Rattle.script.specs.declared.fault.LineFault.TheVariants.{NotBuilt}
use Rattle.script.specs.Names.{Bound}
use Rattle.script.specs.Meaning.{Base, block_on, built, fits_block}

-- ---- transactions that fit

fit_within : (ts : List Transaction) → AllByRecursion (NestsWithin 62) ts → list_all fits_block ts ≡ true
fit_within [] all = refl
fit_within (t ∷ ts) all =
    let first : fits_block t ≡ true = let nests = all.0.nests in grind (arith, nat_tests) in
    rw (first, fit_within ts all.1) refl

fit_all : (ts : List Transaction) → AllByRecursion FitsBlock ts → list_all fits_block ts ≡ true
fit_all [] all = refl
fit_all (t ∷ ts) all =
    let first : fits_block t ≡ true = let nests = all.0.nests in grind (arith, nat_tests) in
    rw (first, fit_all ts all.1) refl

and_false : (b : Bool) → b && false ≡ false
and_false true = refl
and_false false = refl

one_deep : (ts : List Transaction) (index : ℕ) (t : Transaction) → slice_get ts index ≡ Some t → 62 < nesting (item_of_transaction t) → list_all fits_block ts ≡ false
one_deep [] index t is deep = absurd cc
one_deep (x ∷ xs) zero t is deep =
    let same : x ≡ t = same_Some x t is in
    let first : fits_block x ≡ false = rw same (let d = deep in grind (arith, nat_tests)) in
    rw first refl
one_deep (x ∷ xs) (suc index) t is deep = rw (one_deep xs index t is deep) (and_false (fits_block x))

-- ---- what is built

-- numbers below the limit, of transactions that fit
all_below : (n m : ℕ) (b : Bool) → n < 2 ^ 63 → m < 2 ^ 63 → b ≡ true → nat_lt n (2 ^ 63) && (nat_lt m (2 ^ 63) && b) ≡ true
all_below n m b p q is = rw is (grind (arith, nat_tests))

same_place : (number : ℕ) (hash : List ℕ) (place : Point) → place.number ≡ number → place.hash ≡ hash → (let p : Point = record { number = number; hash = hash } in p) ≡ place
same_place number hash place n h = λ i. record { number = sym n i; hash = sym h i }

-- the block of these transactions is built so
pub built_is : (base : Base) (slot number : ℕ) (txs : List Transaction) (text : List ℕ) (place : Point) → number ≡ base.number + 1 → SpellsBlock (full_block number slot base.hash txs) text
    → place.number ≡ number → place.hash ≡ block_hash_of (full_block number slot base.hash txs) → built base slot txs ≡ Ok (record { bytes = text; place = Some place })
unfolding block_text
built_is base slot number txs text place counted spelled n h =
    let whole : SpellsBlock (block_on base slot txs) text = subst (λ (k : ℕ). SpellsBlock (full_block k slot base.hash txs) text) counted spelled in
    let hash : place.hash ≡ block_hash_of (block_on base slot txs) = h ∙ ap (λ (k : ℕ). block_hash_of (full_block k slot base.hash txs)) counted in
    let fit : list_all fits_block txs ≡ true = fit_within txs (transactions_nest txs whole.shape.transactions (omega (arith, whole.text.has_text.nests))) in
    let test = all_below (base.number + 1) slot (list_all fits_block txs) whole.shape.header.number whole.shape.header.slot fit in
    let there = same_place (base.number + 1) (block_hash_of (block_on base slot txs)) place (n ∙ counted) hash in
    rw test (λ i. Ok (record { bytes = sym whole.text.spelled i; place = Some (there i) }))

-- ---- when none is built

refused_if : (b : Bool) (bound : Bound) → b ≡ false → ◌≡◌ {A = Result Bound LineFault} (cond b (Ok bound) (Err NotBuilt)) (Err NotBuilt)
refused_if b bound is = rw is refl

range_if : (n m : ℕ) (b c d : Bool) → nat_lt n (2 ^ 63) ≡ b → nat_lt m (2 ^ 63) ≡ c → (n < 2 ^ 63 → m < 2 ^ 63 → ⊥) → b && (c && d) ≡ false
range_if n m true true d p q out = absurd (out (grind (arith, nat_tests)) (grind (arith, nat_tests)))
range_if n m true false d p q out = refl
range_if n m false c d p q out = refl

-- where a number is out of range
pub out_of_range : (base : Base) (slot number : ℕ) (previous : Option BlockHash) (txs : List Transaction) → number ≡ base.number + 1 → (IsHeader (full_block number slot (option_map bytes_of previous) txs).header → ⊥)
    → built base slot txs ≡ Err NotBuilt
out_of_range base slot number previous txs counted none =
    refused_if _ _ (range_if (base.number + 1) slot _ _ (list_all fits_block txs) refl refl (λ n m. none (full_header number slot previous txs (omega (arith, n, counted)) m)))

-- where a transaction nests too deep
pub too_deep : (base : Base) (slot number index : ℕ) (previous : Option (List ℕ)) (txs : List Transaction) → IsTooDeep index (full_block number slot previous txs) → built base slot txs ≡ Err NotBuilt
too_deep base slot number index previous txs deep =
    let unfit : list_all fits_block txs ≡ false = one_deep txs index deep.first.transaction deep.first.place deep.first.deep in
    refused_if _ _ (rw unfit (rw (and_false (nat_lt slot (2 ^ 63))) (and_false (nat_lt (base.number + 1) (2 ^ 63)))))

-- where memory runs out there is a block
pub is_built : (base : Base) (slot number : ℕ) (previous : Option (List ℕ)) (txs : List Transaction) → number ≡ base.number + 1 → IsWritable (full_block number slot previous txs) → IsOk (built base slot txs)
is_built base slot number previous txs counted writable =
    let n : base.number + 1 < 2 ^ 63 = subst (λ (k : ℕ). k < 2 ^ 63) counted writable.header.number in
    let test = all_below (base.number + 1) slot (list_all fits_block txs) n writable.header.slot (fit_all txs writable.transactions) in
    rw test refl
