-- What reading and the block that was read promise, from what was read.
use Rattle.std.proofs.Common.{◌≡◌, ℕ, suc, ◌≤◌, nat_eq, List, [], ◌∷◌, ◌++◌, length, map, Some, None, refl, sym, ap, subst, ◌∙◌, arith}
use Rattle.std.specs.Prelude.{◌≢◌, ◌↔◌, IsTrue}
use Rattle.std.proofs.lemmas.Bool.{eqb-true, eq-eqb}
use Rattle.std.proofs.lemmas.List.{length-append}
use Rattle.sha2.specs.Sha256.{sha256}
use Rattle.model.specs.Cbor.{head, text_of, items_of, items_count}
use Rattle.model.specs.Transaction.{Transaction, item_of_transaction}
use Rattle.model.specs.Limits.{block_size_limit}
use Rattle.model.specs.Block.{Block, item_of_header, item_of_transactions, block_text, block_hash_of, body_hash_of, body_size_of}
use Rattle.model.proofs.BlockTexts.{one_block, block_text_is}
use Rattle.cbor.specs.Bare.{BeginsWithHead}
use Rattle.cbor.proofs.ForCallers.{IsBytes, head-length}
use Rattle.block.specs.View.{header_of}
use Rattle.block.specs.Reading.{block_at}
use Rattle.block.specs.Read.{IsRead, IsMalformed, IsMismatched, IsUnread, IsReadable}
use Rattle.block.specs.declared.facts.Facts.{Facts}
use Rattle.block.specs.Facts.{block_of, block_in, transactions_in, AreFactsOf, AreFactsIn}
use Rattle.block.proofs.Blocks.{block_takes, block_again, no_block}

-- ---- reading

-- no block was read
pub is_malformed : (bytes : List ℕ) → length bytes ≤ block_size_limit → block_at bytes ≡ None → IsMalformed bytes
is_malformed bytes size e = record { size = size; no_block = no_block bytes e }

-- a block was read, and the digest of its body is what its header names
pub is_read : (bytes : List ℕ) (b : Block) (digest body : List ℕ) → IsBytes bytes → length bytes ≤ block_size_limit → block_at bytes ≡ Some b
    → digest ≡ sha256 body → body ≡ text_of (item_of_transactions b.transactions) → digest ≡ b.header.body_hash → IsRead b bytes
unfolding body_hash_of
is_read bytes b digest body fits size read is spelled same =
    record { read = block_takes bytes b fits read; size = size; body = sym same ∙ is ∙ ap sha256 spelled }

-- a block was read, and its header names another digest
pub is_mismatched : (bytes : List ℕ) (b : Block) (digest body : List ℕ) → IsBytes bytes → length bytes ≤ block_size_limit → block_at bytes ≡ Some b
    → digest ≡ sha256 body → body ≡ text_of (item_of_transactions b.transactions) → digest ≢ b.header.body_hash → IsMismatched bytes
unfolding body_hash_of
is_mismatched bytes b digest body fits size read is spelled other =
    record { size = size; block = b; read = block_takes bytes b fits read; body = λ same. other (is ∙ ap sha256 spelled ∙ sym same) }

-- where memory ran out while transactions were read, no block without any is spelled
pub is_unread : (bytes : List ℕ) → length bytes ≤ block_size_limit → BeginsWithHead 4 2 bytes → ((b : Block) → block_at bytes ≡ Some b → b.transactions ≡ [] → ⊥) → IsUnread bytes
is_unread bytes size begins some = record { size = size; begins = begins; full = λ b spells none. some b (block_again b bytes spells) none }

-- the text of a block begins with the head of an array of two
pub block_begins : (b : Block) (bytes : List ℕ) → IsRead b bytes → BeginsWithHead 4 2 bytes
block_begins b bytes read =
    let spells = read.read in
    let text = spells.text in
    record { rest = text_of (item_of_header b.header) ++ (text_of (item_of_transactions b.transactions) ++ []); parts = text.spelled }

-- where it ran out after that, the bytes are read
pub is_readable : (bytes : List ℕ) (b : Block) → IsRead b bytes → IsReadable bytes
is_readable bytes b read = record { size = read.size; begins = block_begins b bytes read; empty = λ c spells none. subst (λ (x : Block). IsRead x bytes) (one_block b c bytes read.read spells) read }

-- what is known of a block that was read
pub are_facts : (facts : Facts) (ts : List Transaction) (bytes header_text body_text : List ℕ) → IsRead (block_of facts ts) bytes → facts.hash.bytes ≡ sha256 header_text → facts.body_size ≡ length body_text
    → header_text ≡ text_of (item_of_header (header_of facts.header)) → body_text ≡ text_of (item_of_transactions ts) → AreFactsOf facts ts bytes
unfolding block_hash_of body_size_of
are_facts facts ts bytes header_text body_text read hash size header_spelled body_spelled = record { read = read; hash = hash ∙ ap sha256 header_spelled; body_size = size ∙ ap length body_spelled }

-- the transactions of a block that was read are those that its bytes spell
pub transactions_are_in : (b : Block) (bytes : List ℕ) → IsRead b bytes → transactions_in bytes ≡ b.transactions
transactions_are_in b bytes read = rw (block_again b bytes read.read) refl

-- so the facts are those of the bytes alone
pub facts_in : (facts : Facts) (ts : List Transaction) (bytes : List ℕ) → AreFactsOf facts ts bytes → AreFactsIn facts bytes
facts_in facts ts bytes f = subst (λ (us : List Transaction). AreFactsOf facts us bytes) (sym (transactions_are_in (block_of facts ts) bytes f.read)) f

-- and the block is the same
pub block_is_in : (facts : Facts) (ts : List Transaction) (bytes : List ℕ) → AreFactsOf facts ts bytes → block_in facts bytes ≡ block_of facts ts
block_is_in facts ts bytes f = ap (block_of facts) (transactions_are_in (block_of facts ts) bytes f.read)

-- so what was read is the block that its text spells
pub read_text : (b : Block) (bytes : List ℕ) → IsRead b bytes → IsRead b (block_text b)
read_text b bytes read = subst (IsRead b) (sym (block_text_is b bytes read.read)) read

-- ---- the size of an empty body

-- two texts, of which each has a byte, have two
two_bytes : (a b c d : List ℕ) → 1 ≤ length a → 1 ≤ length b → length (a ++ ((b ++ c) ++ d)) ≡ 1 → ⊥
two_bytes a b c d p q e = omega (arith, length-append a ((b ++ c) ++ d), length-append (b ++ c) d, length-append b c)

-- only the body that holds no transaction has one byte
one_byte : (ts : List Transaction) → length (text_of (item_of_transactions ts)) ≡ 1 → ts ≡ []
one_byte [] e = refl
one_byte (t ∷ ts) e = absurd (two_bytes _ _ _ _ (head-length 4 (suc (items_count (items_of (map item_of_transaction ts))))).0 (head-length 4 3).0 e)

-- whether a body has one byte says whether it holds no transaction
pub empty_by_size : (size : ℕ) (b : Block) → size ≡ body_size_of b → IsTrue (nat_eq size 1) ↔ (b.transactions ≡ [])
unfolding body_size_of head
empty_by_size size b e =
    ((λ one. one_byte b.transactions (sym e ∙ eqb-true _ _ one)), (λ empty. eq-eqb _ _ (e ∙ ap (λ (ts : List Transaction). length (text_of (item_of_transactions ts))) empty)))
