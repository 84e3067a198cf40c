-- Transactions that are handed in make a block that has a text, or one of them nests too deep for any.
use Rattle.std.proofs.Common.{◌≡◌, ℕ, zero, suc, ◌+◌, ◌≤◌, ◌<◌, ◌^◌, List, [], ◌∷◌, length, map, get_or, take, Option, Some, None, option_map, slice_get, ◌++◌, refl, sym, ap, subst, ◌∙◌, arith}
use Rattle.std.proofs.lemmas.Option.{slice_get_read}
use Rattle.std.proofs.lemmas.List.{append-nil, take_all, length-append}
use Rattle.sha2.specs.Sha256.{sha256}
use Rattle.sha2.proofs.Facts256.{length-sha256}
use Rattle.ident.specs.Kinds.{BlockHash}
use Rattle.std.specs.List.{AllByRecursion}
use Rattle.model.specs.Cbor.{head, text_of, items_of, items_text, items_count, nesting, items_nesting, HasText, IsInRange, ItemsAreInRange, ItemsHaveRisingKeys}
use Rattle.model.specs.Transaction.{Transaction, item_of_transaction, IsTransaction}
use Rattle.model.specs.Block.{Header, Block, item_of_header, item_of_transactions, item_of_block, IsHeader, SpellsBlock, body_hash_of, block_hash_of}
use Rattle.model.proofs.TextLengths.{length_of_text}
use Rattle.cbor.proofs.ForCallers.{head-length, items_counted}
use Rattle.tx.proofs.ForCallers.{NestsWithin}
use Rattle.block.specs.declared.header.Header as code
use Rattle.block.specs.View.{bytes_of, header_of}
use Rattle.block.specs.Written.{full_block, FitsBlock, IsFirstTooDeep}
use Rattle.block.proofs.Texts.{previous_sized, is_header, header_in_range}
use Rattle.block.proofs.Blocks.{rising_previous, flat_previous}
use Rattle.block.proofs.Parts.{transactions_nest}

-- what the transactions of a body that all fit make together
record IsBody (ts : List Transaction) : Type 0 where
  pub in_range : ItemsAreInRange (items_of (map item_of_transaction ts))
  pub rising : ItemsHaveRisingKeys (items_of (map item_of_transaction ts))
  pub nests : items_nesting (items_of (map item_of_transaction ts)) ≤ 62
  pub are : AllByRecursion IsTransaction ts

body_of : (ts : List Transaction) → AllByRecursion FitsBlock ts → IsBody ts
body_of [] all = record { in_range = tt; rising = tt; nests = omega arith; are = tt }
body_of (t ∷ ts) all =
    let first = all.0 in
    let text = first.spelled.text.has_text in
    let rest = body_of ts all.1 in
    record { in_range = (text.in_range, rest.in_range); rising = (text.rising, rest.rising); nests = omega (arith, first.nests, rest.nests); are = (first.spelled.shape, rest.are) }

-- a header in range and transactions that all fit make a block that has a text
pub full_spells : (header : Header) (ts : List Transaction) (bytes : List ℕ) → IsHeader header → IsInRange (item_of_header header) → length ts < 2 ^ 64 → AllByRecursion FitsBlock ts
    → bytes ≡ text_of (item_of_block (record { header = header; transactions = ts })) → SpellsBlock (record { header = header; transactions = ts }) bytes
full_spells header ts bytes shape in_range few all spelled =
    let body = body_of ts all in
    let counted : items_count (items_of (map item_of_transaction ts)) < 2 ^ 64 = omega (arith, few, items_counted item_of_transaction ts) in
    let flat = flat_previous header.previous in
    let text : HasText (item_of_block (record { header = header; transactions = ts })) = record { in_range = (omega arith, (in_range, ((counted, body.in_range), tt))); rising = ((tt, (tt, (rising_previous header.previous, (tt, tt)))), (body.rising, tt)); nests = omega (arith, flat, body.nests) } in
    record { shape = record { header = shape; transactions = body.are }; text = record { has_text = text; spelled = spelled } }

-- the header of such a block
pub full_header : (number slot : ℕ) (previous : Option BlockHash) (ts : List Transaction) → number < 2 ^ 63 → slot < 2 ^ 63 → IsHeader (full_block number slot (option_map bytes_of previous) ts).header
unfolding body_hash_of
full_header number slot previous ts n m = record { number = n; slot = m; previous = previous_sized previous; body_hash = length-sha256 (text_of (item_of_transactions ts)) }

-- what is written of a header that names the hash of the body, and of that body
pub full_is_written : (h : code.Header) (ts : List Transaction) (body bytes : List ℕ) → h.number < 2 ^ 63 → h.slot < 2 ^ 63 → length ts < 2 ^ 64 → AllByRecursion FitsBlock ts
    → body ≡ text_of (item_of_transactions ts) → h.body_hash.bytes ≡ sha256 body → bytes ≡ head 4 2 ++ (text_of (item_of_header (header_of h)) ++ body)
    → SpellsBlock (full_block h.number h.slot (option_map bytes_of h.previous) ts) bytes
unfolding body_hash_of
full_is_written h ts body bytes n m few all spelled hash is =
    let text = is ∙ ap (λ (b : List ℕ). head 4 2 ++ (text_of (item_of_header (header_of h)) ++ b)) (spelled ∙ sym (append-nil (text_of (item_of_transactions ts)))) in
    let hashed : h.body_hash.bytes ≡ sha256 (text_of (item_of_transactions ts)) = hash ∙ ap sha256 spelled in
    subst (λ (b : List ℕ). SpellsBlock (record { header = record { number = h.number; slot = h.slot; previous = option_map bytes_of h.previous; body_hash = b }; transactions = ts }) bytes) hashed
    (full_spells (header_of h) ts bytes (is_header h n m) (header_in_range h n m) few all text)

-- a transaction has a byte
transaction_some : (t : Transaction) → 0 < length (text_of (item_of_transaction t))
transaction_some t = omega (arith, length_of_text (item_of_transaction t), (head-length 4 3).0)

-- a body has no more transactions than bytes
as_many_bytes : (ts : List Transaction) → length ts ≤ length (items_text (items_of (map item_of_transaction ts)))
as_many_bytes [] = omega arith
as_many_bytes (t ∷ ts) =
    let rest = as_many_bytes ts in
    omega (arith, rest, length-append (text_of (item_of_transaction t)) (items_text (items_of (map item_of_transaction ts))), transaction_some t)

-- so they can be counted
pub few_in_body : (ts : List Transaction) (body : List ℕ) → length body < 2 ^ 64 → body ≡ text_of (item_of_transactions ts) → length ts < 2 ^ 64
few_in_body ts body few is =
    omega (arith, ap length is, as_many_bytes ts, length-append (head 4 (items_count (items_of (map item_of_transaction ts)))) (items_text (items_of (map item_of_transaction ts))))

-- the hash of the text of a header that names the hash of the body
pub full_is_hashed : (h : code.Header) (ts : List Transaction) (body hash : List ℕ) → body ≡ text_of (item_of_transactions ts) → h.body_hash.bytes ≡ sha256 body → hash ≡ sha256 (text_of (item_of_header (header_of h)))
    → hash ≡ block_hash_of (full_block h.number h.slot (option_map bytes_of h.previous) ts)
unfolding body_hash_of block_hash_of
full_is_hashed h ts body hash spelled hashed is =
    let named : h.body_hash.bytes ≡ sha256 (text_of (item_of_transactions ts)) = hashed ∙ ap sha256 spelled in
    is ∙ ap (λ (b : List ℕ). sha256 (text_of (item_of_header (record { number = h.number; slot = h.slot; previous = option_map bytes_of h.previous; body_hash = b })))) named

-- ---- the one that is too deep

nests_at : (ts : List Transaction) (i : ℕ) (t : Transaction) → AllByRecursion (NestsWithin 62) ts → slice_get ts i ≡ Some t → nesting (item_of_transaction t) ≤ 62
nests_at [] i t all e = absurd cc
nests_at (x ∷ xs) zero t all e = let first = all.0 in subst (λ (y : Option Transaction). within y) e first.nests
  where
    within : Option Transaction → Type 0
    within None = Unit {0}
    within (Some y) = nesting (item_of_transaction y) ≤ 62
nests_at (x ∷ xs) (suc i) t all e = nests_at xs i t all.1 e

-- a block with a transaction that is too deep has no text
pub too_deep : (index : ℕ) (block : Block) (bytes : List ℕ) → IsFirstTooDeep index block.transactions → SpellsBlock block bytes → ⊥
too_deep index block bytes first spelled =
    let all = transactions_nest block.transactions spelled.shape.transactions (omega (arith, spelled.text.has_text.nests)) in
    let fits = nests_at block.transactions index first.transaction all first.place in
    omega (arith, fits, first.deep)

-- ---- the walk

-- those before this place fit, and the number is counted along
pub record IsPartFit (index place : ℕ) (ts : List Transaction) : Type 0 where
  pub counted : index ≡ place
  pub before : AllByRecursion FitsBlock (take place ts)

pub none_yet : (ts : List Transaction) → IsPartFit 0 0 ts
none_yet ts = record { counted = refl; before = tt }

one_more : {A : Type 0} (P : A → Type 0) (xs : List A) (i : ℕ) (x : A) → i < length xs → x ≡ get_or xs i x → AllByRecursion P (take i xs) → P x → AllByRecursion P (take (suc i) xs)
one_more P [] i x lt is all one = absurd (omega (arith, lt))
one_more P (y ∷ ys) zero x lt is all one = (subst P is one, tt)
one_more P (y ∷ ys) (suc i) x lt is all one = (all.0, one_more P ys i x (omega (arith, lt)) is all.1 one)

pub next_fits : (ts : List Transaction) (index i : ℕ) (t : Transaction) → i < length ts → t ≡ get_or ts i t → IsPartFit index i ts → FitsBlock t → IsPartFit (index + 1) (i + 1) ts
next_fits ts index i t lt is part fits =
    let same : suc i ≡ i + 1 = omega arith in
    record { counted = ap (λ (n : ℕ). n + 1) part.counted; before = subst (λ (n : ℕ). AllByRecursion FitsBlock (take n ts)) same (one_more FitsBlock ts i t lt is part.before fits) }

pub first_deep : (ts : List Transaction) (index i : ℕ) (t : Transaction) → i < length ts → t ≡ get_or ts i t → IsPartFit index i ts → 62 < nesting (item_of_transaction t) → IsFirstTooDeep index ts
first_deep ts index i t lt is part deep =
    subst (λ (n : ℕ). IsFirstTooDeep n ts) (sym part.counted) (record { transaction = t; place = slice_get_read ts (length ts) i t refl lt is; deep = deep; before = part.before })

pub all_fit : (ts : List Transaction) (index i : ℕ) → i ≤ length ts → length ts ≤ i → IsPartFit index i ts → AllByRecursion FitsBlock ts
all_fit ts index i le ge part = subst (AllByRecursion FitsBlock) (take_all i ts ge) part.before
