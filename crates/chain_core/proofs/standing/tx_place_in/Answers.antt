use Rattle.std.proofs.Common.{ℕ, List, subst}
use Rattle.model.specs.Transaction.{Transaction}
use Rattle.model.specs.Block.{Block}
use Rattle.model.specs.Asked.{NoTxHas, IsFirstAt, IsLastWith, NoLateBlockHas}
use Rattle.chain_core.proofs.standing.tx_place_in.Goals as goal

pub returns-in-Some : goal.returns-in-Some
returns-in-Some g c = λ network s k_is whole has waiting. subst (λ (ts : List Transaction). IsFirstAt ts c.args.id.bytes c.in-Some.position) waiting c.in-Some.ensures

pub returns-in-Some-last_with : goal.returns-in-Some-last_with
returns-in-Some-last_with g c = λ network s k_is whole has waiting. (
  subst (λ (ts : List Transaction). NoTxHas ts c.args.id.bytes) waiting c.in_default.ensures,
  subst (λ (n : ℕ). IsLastWith n s.chain c.args.id.bytes c.in-Some-last_with.number c.in-Some-last_with.index) k_is
      (subst (λ (bs : List Block). IsLastWith c.args.k bs c.args.id.bytes c.in-Some-last_with.number c.in-Some-last_with.index) has.chain
      (subst (λ (bs : List Block). IsLastWith c.args.k bs c.args.id.bytes c.in-Some-last_with.number c.in-Some-last_with.index) (c.in_memory.ensures.all whole.gone) c.in-Some-last_with.ensures)),
)

pub returns-in-None : goal.returns-in-None
returns-in-None g c = λ network s k_is whole has waiting. (
  subst (λ (ts : List Transaction). NoTxHas ts c.args.id.bytes) waiting c.in_default.ensures,
  subst (λ (n : ℕ). NoLateBlockHas n s.chain c.args.id.bytes) k_is
      (subst (λ (bs : List Block). NoLateBlockHas c.args.k bs c.args.id.bytes) has.chain
      (subst (λ (bs : List Block). NoLateBlockHas c.args.k bs c.args.id.bytes) (c.in_memory.ensures.all whole.gone) c.in-None.ensures)),
)
