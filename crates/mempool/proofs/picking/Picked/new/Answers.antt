use Rattle.std.proofs.Common.{ap, map, subst, sym}
use Rattle.mempool.specs.Taking.{taken_tx}
use Rattle.mempool.specs.Picking.{AreMeasured}
use Rattle.mempool.proofs.Offers.{none_measured}
use Rattle.mempool.proofs.picking.Picked.new.Goals as goal

pub invariant_of-result : goal.invariant_of-result
invariant_of-result g c = subst (λ xs. AreMeasured (map taken_tx xs) 0) (sym c.new.ensures.items) none_measured

pub returns : goal.returns
returns g c = ap (λ xs. record { txs = map taken_tx xs; unspent = c.args.unspent }) c.new.ensures.items
