-- What is written is the text of a block, and its size.
use Rattle.std.proofs.Common.{◌≡◌, ℕ, ◌≤◌, ◌^◌, ◌<◌, List, [], ◌++◌, length, Option, Some, None, option_map, sym, ap, subst, arith}
use Rattle.std.specs.Prelude.{IfSome}
use Rattle.std.proofs.lemmas.List.{length-append}
use Rattle.ident.specs.Kinds.{BlockHash}
use Rattle.model.specs.Cbor.{Bytes, head, text_of, IsInRange}
use Rattle.model.specs.Block.{item_of_previous, item_of_header, item_of_block, IsHeader, SpellsBlock}
use Rattle.cbor.proofs.ForCallers.{AllByRecursion-bytes}
use Rattle.block.specs.declared.header.Header as code
use Rattle.model.specs.Block.{empty_block}
use Rattle.model.proofs.ForgedBlocks.{number_length}
use Rattle.block.specs.View.{bytes_of, header_of}
use Rattle.block.proofs.Blocks.{empty_spells}

-- the hashes of a header have 32 bytes
pub previous_sized : (previous : Option BlockHash) → IfSome (option_map bytes_of previous) (λ hash. length hash ≡ 32)
previous_sized None = tt
previous_sized (Some hash) = hash.sized

-- a header of the code whose numbers are in range
pub is_header : (h : code.Header) → h.number < 2 ^ 63 → h.slot < 2 ^ 63 → IsHeader (header_of h)
is_header h number slot = record { number = number; slot = slot; previous = previous_sized h.previous; body_hash = h.body_hash.sized }

-- hashes are bytes
previous_in_range : (previous : Option BlockHash) → IsInRange (item_of_previous (option_map bytes_of previous))
previous_in_range None = tt
previous_in_range (Some hash) = (omega (arith, hash.sized), AllByRecursion-bytes hash.bytes hash.fits)

-- a header of the code whose numbers are in range has its arguments in range
pub header_in_range : (h : code.Header) → h.number < 2 ^ 63 → h.slot < 2 ^ 63 → IsInRange (item_of_header (header_of h))
header_in_range h number slot = (omega arith, (omega arith, (omega arith, (previous_in_range h.previous, ((omega (arith, h.body_hash.sized), AllByRecursion-bytes h.body_hash.bytes h.body_hash.fits), tt)))))

-- what is written of a header in range is the text of its block
pub is_written : (h : code.Header) (bytes : List ℕ) → h.number < 2 ^ 63 → h.slot < 2 ^ 63 → bytes ≡ text_of (item_of_block (empty_block (header_of h))) → SpellsBlock (empty_block (header_of h)) bytes
is_written h bytes number slot spelled =
    empty_spells (header_of h) bytes (is_header h number slot) (header_in_range h number slot) spelled

-- a hash has 34 bytes
hash_size : (hash : List ℕ) → length hash ≡ 32 → length (text_of (Bytes hash)) ≤ 34
unfolding head
hash_size hash len = subst (λ (k : ℕ). length (head 2 k ++ hash) ≤ 34) (sym len) (omega arith)

-- null or a hash has at most 34 bytes
previous_size : (previous : Option BlockHash) → length (text_of (item_of_previous (option_map bytes_of previous))) ≤ 34
unfolding head
previous_size None = omega arith
previous_size (Some hash) = hash_size hash.bytes hash.sized

-- the sizes of the parts together
in_all : (block header number slot previous hash body : List ℕ) → length block ≤ 1 → length header ≤ 1 → length number ≤ 9 → length slot ≤ 9 → length previous ≤ 34 → length hash ≤ 34 → length body ≤ 1
    → length (block ++ ((header ++ (number ++ (slot ++ (previous ++ (hash ++ []))))) ++ ((body ++ []) ++ []))) ≤ 89
in_all block header number slot previous hash body lb lh ln ls lp lx ly = simp length-append (omega arith)

-- the text of a block with an empty body has at most 89 bytes
pub text_size : (h : code.Header) (bytes : List ℕ) → bytes ≡ text_of (item_of_block (empty_block (header_of h))) → length bytes ≤ 89
unfolding head
text_size h bytes spelled =
    let at_most = in_all (head 4 2) (head 4 4) (head 0 h.number) (head 0 h.slot) (text_of (item_of_previous (option_map bytes_of h.previous))) (text_of (Bytes h.body_hash.bytes)) (head 4 0) (omega arith) (omega arith) (number_length h.number) (number_length h.slot) (previous_size h.previous) (hash_size h.body_hash.bytes h.body_hash.sized) (omega arith) in
    omega (arith, at_most, ap length spelled)
