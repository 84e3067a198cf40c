-- Each block has one text, and no block's text begins another's.
use Rattle.std.proofs.Common.{◌≡◌, ℕ, List, [], ◌∷◌, ◌++◌, map, Option, Some, None, refl, ap, sym}
use Rattle.std.specs.List.{AllByRecursion}
use Rattle.model.specs.Cbor.{Item, Unsigned, Bytes, items_of, array_of}
use Rattle.model.specs.Transaction.{Transaction, item_of_transaction, IsTransaction}
use Rattle.model.specs.Block.{Header, Block, item_of_previous, item_of_header, item_of_transactions, item_of_block, IsBlock, SpellsBlock, block_text}
use Rattle.model.proofs.ItemTexts.{one_item}
use Rattle.model.proofs.Members.{unsigned_is, bytes_is, array_is, two_are, same_members}
use Rattle.model.proofs.ScriptTexts.{spellings_apart}
use Rattle.model.proofs.TransactionTexts.{same_transaction}

-- what is said of the block before
same_previous : (a b : Option (List ℕ)) → item_of_previous a ≡ item_of_previous b → a ≡ b
same_previous None None e = refl
same_previous (Some a) (Some b) e = ap Some (bytes_is a b e)
same_previous a b e = absurd cc

-- four items that are four others
record SameFour (a b c d e f g h : Item) : Type 0 where
  first : a ≡ e
  second : b ≡ f
  third : c ≡ g
  fourth : d ≡ h

four_are : (a b c d e f g h : Item) → array_of (a ∷ b ∷ c ∷ d ∷ []) ≡ array_of (e ∷ f ∷ g ∷ h ∷ []) → SameFour a b c d e f g h
four_are a b c d e f g h p = record { first = cc; second = cc; third = cc; fourth = cc }

-- headers with one item are one header
pub same_header : (a b : Header) → item_of_header a ≡ item_of_header b → a ≡ b
same_header a b e =
    let s = four_are (Unsigned a.number) (Unsigned a.slot) (item_of_previous a.previous) (Bytes a.body_hash) (Unsigned b.number) (Unsigned b.slot) (item_of_previous b.previous) (Bytes b.body_hash) e in
    λ i. record { number = unsigned_is a.number b.number s.first i; slot = unsigned_is a.slot b.slot s.second i; previous = same_previous a.previous b.previous s.third i; body_hash = bytes_is a.body_hash b.body_hash s.fourth i }

-- lists of transactions with one item are one list
pub same_transactions : (xs ys : List Transaction) → AllByRecursion IsTransaction xs → AllByRecursion IsTransaction ys → item_of_transactions xs ≡ item_of_transactions ys → xs ≡ ys
same_transactions xs ys p q e =
    same_members IsTransaction item_of_transaction same_transaction xs ys p q (array_is (items_of (map item_of_transaction xs)) (items_of (map item_of_transaction ys)) e)

-- blocks with one item are one block
pub same_block : (a b : Block) → IsBlock a → IsBlock b → item_of_block a ≡ item_of_block b → a ≡ b
same_block a b p q e =
    let both = two_are (item_of_header a.header) (item_of_transactions a.transactions) (item_of_header b.header) (item_of_transactions b.transactions) e in
    λ i. record { header = same_header a.header b.header both.0 i; transactions = same_transactions a.transactions b.transactions p.transactions q.transactions both.1 i }

-- bytes are the text of one block
pub one_block : (a b : Block) (bytes : List ℕ) → SpellsBlock a bytes → SpellsBlock b bytes → a ≡ b
one_block a b bytes p q = same_block a b p.shape q.shape (one_item (item_of_block a) (item_of_block b) bytes p.text q.text)

-- no block's text begins another's
pub blocks_apart : (a b : Block) (s t x y : List ℕ) → SpellsBlock a s → SpellsBlock b t → s ++ x ≡ t ++ y → (a ≡ b) × (x ≡ y)
blocks_apart a b s t x y p q e =
    let both = spellings_apart (item_of_block a) (item_of_block b) s t x y p.text q.text e in
    (same_block a b p.shape q.shape both.0, both.1)

-- a block that the bytes spell has them as its text
pub block_text_is : (b : Block) (bytes : List ℕ) → SpellsBlock b bytes → block_text b ≡ bytes
unfolding block_text
block_text_is b bytes spelled = sym spelled.text.spelled
