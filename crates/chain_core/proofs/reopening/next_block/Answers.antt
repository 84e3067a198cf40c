use Rattle.chain_core.proofs.reopening.next_block.Goals as goal

pub returns-in-Err-clause-fault : goal.returns-in-Err-clause-fault
returns-in-Err-clause-fault g c = c.unread.ensures g.S.SigScheme.verifies c.args.state c.args.bytes.now c.in-Err.ensures.fault

pub returns-in-Err-apply_block_diff-clause-fault : goal.returns-in-Err-apply_block_diff-clause-fault
returns-in-Err-apply_block_diff-clause-fault g c = c.unfit.ensures g.S.SigScheme.verifies c.args.state c.in-Ok.block c.args.bytes.now c.in-Ok.ensures.ok c.in-Err-apply_block_diff.ensures.refused
