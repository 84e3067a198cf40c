use Rattle.std.proofs.Common.{◌+◌, arith}
use Rattle.witness_pool.proofs.Numbers.{numbered_on}
use Rattle.witness_pool.proofs.pool.numbered.Goals as goal

pub loop-tx-preserved : goal.loop-tx-preserved
loop-tx-preserved c =
    numbered_on c.loop-tx.jobs.items c.push.new.self.items c.loop-tx.yielded (record { number = c.len-number.result + 1; tx = c.in-Some.tx }) c.in_ok-push.ensures.items (omega (arith, c.len-number.ensures, c.loop-tx.jobs.ok)) c.loop-tx.invariant
