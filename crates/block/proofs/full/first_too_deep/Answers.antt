use Rattle.std.proofs.Common.{arith}
use Rattle.block.specs.Written.{FitsBlock}
use Rattle.block.proofs.FullBlocks.{none_yet, next_fits, first_deep, all_fit}
use Rattle.block.proofs.full.first_too_deep.Goals as goal

pub loop-tx-init : goal.loop-tx-init
loop-tx-init c = none_yet c.args.transactions.now

pub returns-then-nesting-gt-MAX_TX_NESTING-clause-some : goal.returns-then-nesting-gt-MAX_TX_NESTING-clause-some
returns-then-nesting-gt-MAX_TX_NESTING-clause-some c =
    first_deep c.args.transactions.now c.loop-tx.index c.loop-tx.tx-index c.tx-item.result c.loop-tx-test.true c.tx-item.is c.loop-tx.invariant (omega (arith, c.nesting.ensures.deep, c.if-nesting-gt-MAX_TX_NESTING.true))

pub overflow_add-index : goal.overflow_add-index
overflow_add-index c = omega (arith, c.loop-tx.invariant.counted, c.loop-tx-test.true)

pub loop-tx-preserved : goal.loop-tx-preserved
loop-tx-preserved c =
    let fits : FitsBlock c.tx-item.result = record { spelled = c.nesting.ensures.spelled; nests = omega (arith, c.nesting.ensures.deep, c.if-nesting-gt-MAX_TX_NESTING.false) } in
    next_fits c.args.transactions.now c.loop-tx.index c.loop-tx.tx-index c.tx-item.result c.loop-tx-test.true c.tx-item.is c.loop-tx.invariant fits

pub returns-clause-none : goal.returns-clause-none
returns-clause-none c = λ e. all_fit c.args.transactions.now c.loop-tx.index c.loop-tx.tx-index (omega arith) c.loop-tx-test.false c.loop-tx.invariant
