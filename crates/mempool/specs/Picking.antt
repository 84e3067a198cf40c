-- What a forged block takes of the transactions that wait.
use Rattle.std.specs.Prelude.{◌≡◌, ℕ, ◌^◌, ◌<◌, ◌≤◌, List, [], ◌∷◌, ◌++◌, length, map, is_some, if◌then◌else◌}
use Rattle.std.specs.List.{AllByRecursion}
use Rattle.model.specs.Limits.{transaction_nesting_limit}
use Rattle.model.specs.Cbor.{text_of, items_of, items_text, nesting, items_nesting}
use Rattle.model.specs.Transaction.{Transaction, SpellsTransaction, item_of_transaction}
use Rattle.model.specs.Signature.{Verifies}
use Rattle.model.specs.Rules.{Params, reason_against}
use Rattle.model.specs.Mempool.{fits_in_a_block}
use Rattle.mempool.specs.Contents.{Waiting}
use Rattle.mempool.specs.Calls.{with_tx}

-- the transaction has a text
abbrev pub IsSpelled : Transaction → Type 0
IsSpelled t = SpellsTransaction t (text_of (item_of_transaction t))

-- the texts of transactions, one after the other
abbrev pub texts_of : List Transaction → List ℕ
texts_of txs = items_text (items_of (map item_of_transaction txs))

-- Beside transactions stands how many bytes their texts have together. Each has a text, and none nests deeper than a
-- transaction of a block may.
pub record AreMeasured (txs : List Transaction) (size : ℕ) : Type 0 where
  pub together : size ≡ length (texts_of txs)
  pub nests : items_nesting (items_of (map item_of_transaction txs)) ≤ transaction_nesting_limit
  pub spelled : AllByRecursion IsSpelled txs

-- one more has a text, with which they can be measured still, and nests no deeper
pub record IsRoomFor (txs : List Transaction) (t : Transaction) : Type 0 where
  pub spelled : IsSpelled t
  pub few : length (texts_of (txs ++ t ∷ [])) < 2 ^ 64
  pub nests : nesting (item_of_transaction t) ≤ transaction_nesting_limit

-- one more transaction is taken where there is no reason against it, and the body has room for it
abbrev pub offered : Verifies → Params → ℕ → Waiting → Transaction → Waiting
offered verifies params slot w t =
    if is_some (reason_against verifies params w.unspent slot t) then w
    else (if fits_in_a_block params (w.txs ++ t ∷ []) then with_tx w t else w)
