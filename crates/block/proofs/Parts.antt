-- The two laws of each part of a block, from those of the shapes that it is made of.
use Rattle.std.proofs.Common.{◌≡◌, ◌≤◌, List, [], ◌∷◌, length, map, refl, arith}
use Rattle.std.specs.List.{AllByRecursion}
use Rattle.model.specs.Cbor.{items_of, items_nesting}
use Rattle.model.specs.Transaction.{Transaction, item_of_transaction, IsTransaction}
use Rattle.std.specs.Prelude.{IfSome}
use Rattle.model.specs.Limits.{hash_size, number_limit}
use Rattle.model.specs.Block.{Block, item_of_previous, item_of_header, item_of_transactions, item_of_block, IsHeader}
use Rattle.cbor.proofs.ForCallers.{ReadsItem, as_reads, fixed_reads, bounded_reads, optional_reads, deeper_reads, last_reads, both_reads, array_reads, list_array_reads}
use Rattle.tx.proofs.ForCallers.{NestsWithin, nested_transaction_reads}
use Rattle.block.specs.Reading.{previous_at, header_with, header_at, transactions_at, block_with, parts_at}

-- null, or the hash of the block before
pub previous_reads : ReadsItem item_of_previous (λ previous. IfSome previous (λ hash. length hash ≡ hash_size)) 1 previous_at
unfolding previous_at
previous_reads = optional_reads item_of_previous refl (λ hash. refl) (λ hash len same. absurd (omega (arith, same))) (fixed_reads 0 hash_size (omega arith))

-- a header
pub header_reads : ReadsItem item_of_header IsHeader 2 header_at
unfolding header_at
header_reads =
    as_reads header_with item_of_header IsHeader
    (λ x p. (refl, record { number = p.0; slot = p.1.0; previous = p.1.1.0; body_hash = p.1.1.1 }))
    (λ h p. ((h.number, (h.slot, (h.previous, h.body_hash))), (p.number, (p.slot, (p.previous, p.body_hash))), refl))
    (array_reads 4 (omega arith) (λ x. refl) (both_reads (bounded_reads 0 number_limit) (both_reads (bounded_reads 0 number_limit) (both_reads previous_reads (last_reads (fixed_reads 0 hash_size (omega arith)))))))

-- the transactions
pub transactions_reads : ReadsItem item_of_transactions (AllByRecursion (NestsWithin 62)) 63 transactions_at
unfolding transactions_at
transactions_reads = list_array_reads (nested_transaction_reads 62 (omega arith) (omega arith))

-- what is asked of a block that is read
abbrev pub IsReadBlock : Block → Type 0
IsReadBlock block = IsHeader block.header × AllByRecursion (NestsWithin 62) block.transactions

-- a block
pub parts_reads : ReadsItem item_of_block IsReadBlock 64 parts_at
unfolding parts_at
parts_reads =
    as_reads block_with item_of_block IsReadBlock (λ x p. (refl, p)) (λ b p. ((b.header, b.transactions), p, refl))
    (array_reads 2 (omega arith) (λ x. refl) (both_reads (deeper_reads 63 (omega arith) header_reads) (last_reads transactions_reads)))

-- ---- what a block asks of its transactions

-- a transaction that is read is one
pub transactions_are : (ts : List Transaction) → AllByRecursion (NestsWithin 62) ts → AllByRecursion IsTransaction ts
transactions_are [] all = tt
transactions_are (t ∷ ts) all = let first = all.0 in (first.is_transaction, transactions_are ts all.1)

-- transactions that nest no deeper than this are read
pub transactions_nest : (ts : List Transaction) → AllByRecursion IsTransaction ts → items_nesting (items_of (map item_of_transaction ts)) ≤ 62 → AllByRecursion (NestsWithin 62) ts
transactions_nest [] all le = tt
transactions_nest (t ∷ ts) all le = (record { is_transaction = all.0; nests = omega (arith, le) }, transactions_nest ts all.1 (omega (arith, le)))
