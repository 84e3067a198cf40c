-- The identifier of a transaction is that of its parts without the witnesses.
use Rattle.std.proofs.Common.{◌≡◌, ℕ, List, sym, subst, ◌∙◌}
use Rattle.std.specs.List.Sorted.{IsPermutation}
use Rattle.model.specs.Transaction.{Transaction, Input, SpellsTransaction, transaction_id_of, interval_of_transaction, input_cmp}
use Rattle.tx.proofs.ForCallers.{one_order}
use Rattle.tx.specs.Order.{inputs_total}
use Rattle.tx.specs.Parts.{Parts, IsTxOf}

-- ---- identifiers

same_id : (a b : Transaction) → a.inputs ≡ b.inputs → a.outputs ≡ b.outputs → a.fee ≡ b.fee → interval_of_transaction a ≡ interval_of_transaction b → a.mint ≡ b.mint → transaction_id_of a ≡ transaction_id_of b
unfolding transaction_id_of
same_id a b inputs outputs fee interval mint = λ i. transaction_id_of (record { inputs = inputs i; outputs = outputs i; fee = fee i; end = (interval i).end; start = (interval i).start; mint = mint i; signatures = a.signatures; scripts = a.scripts })

-- parts that differ in signatures and scripts alone
pub record AreSameBodies (p q : Parts) : Type 0 where
  pub inputs : p.inputs ≡ q.inputs
  pub outputs : p.outputs ≡ q.outputs
  pub fee : p.fee ≡ q.fee
  pub interval : p.interval ≡ q.interval
  pub mint : p.mint ≡ q.mint

-- transactions of such parts have one identifier
pub one_id : (a b : Transaction) (text other : List ℕ) (p q : Parts) → SpellsTransaction a text → SpellsTransaction b other → IsTxOf a p → IsTxOf b q → AreSameBodies p q → transaction_id_of a ≡ transaction_id_of b
one_id a b text other p q spells also of too same =
    same_id a b
    (one_order input_cmp inputs_total q.inputs a.inputs b.inputs spells.shape.inputs_rise also.shape.inputs_rise (subst (λ (is : List Input). IsPermutation is a.inputs) same.inputs of.inputs) too.inputs)
    (of.outputs ∙ same.outputs ∙ sym too.outputs) (of.fee ∙ same.fee ∙ sym too.fee) (of.interval ∙ same.interval ∙ sym too.interval) (of.mint ∙ same.mint ∙ sym too.mint)
