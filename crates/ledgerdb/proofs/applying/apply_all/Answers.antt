use Rattle.std.proofs.Common.{◌≡◌, List, subst, sym, ap, ◌∙◌}
use Rattle.ledger.specs.BlockDiffs.{BlockDiff}
use Rattle.model.specs.Applying.{LedgerState, last_state}
use Rattle.model.proofs.AppliedBlocks.{no_fault}
use Rattle.model.proofs.Results.{if_err}
use Rattle.ledger.specs.Judgement.{IsApplyFault}
use Rattle.ledger.specs.declared.block_fault.ApplyFault.{ApplyFault}
use Rattle.ledger.specs.declared.block_fault.ApplyFault.TheVariants as apply
use Rattle.ledgerdb.specs.Faults.{IsForkFault}
use Rattle.ledgerdb.specs.declared.fork_fault.ForkFault.TheVariants.{OutOfMemory}
use Rattle.ledgerdb.specs.Inside.{undone_blocks, states_along}
use Rattle.ledgerdb.proofs.Along.{one_along, last_along}
use Rattle.ledgerdb.proofs.Forks.{one_more, stops_here}
use Rattle.ledgerdb.proofs.applying.apply_all.Goals as goal

-- the state so far is the last of those so far
newest : (root now : LedgerState) (ds : List BlockDiff) → undone_blocks ds now ≡ root → last_state root (states_along ds now) ≡ now
newest root now ds back = ap (λ (r : LedgerState). last_state r (states_along ds now)) (sym back) ∙ last_along ds now

pub returns-in_err-push_back-in-Ok-clause-refused : goal.returns-in_err-push_back-in-Ok-clause-refused
returns-in_err-push_back-in-Ok-clause-refused g c =
    let verifies = g.S.SigScheme.verifies in
    let ds = c.loop-index.diffs in
    let now = c.loop-index.state in
    let was = c.loop-index.invariant in
    let b = c.index-blocks-index.result in
    if_err c.from_residual.result OutOfMemory (IsForkFault verifies c.args.root c.args.blocks.now) c.from_residual.ensures.1
    (λ some. (
      c.loop-index.index,
      stops_here verifies c.args.root now c.args.blocks.now c.loop-index.index (states_along ds now) b apply.OutOfMemory was.applied (newest c.args.root now ds was.back) c.loop-index-test.true c.index-blocks-index.is
          (λ fault lt has. no_fault verifies now b c.in-Ok.after fault c.in-Ok.ensures.applied has),
    ))

pub returns-in-Err-Refused-clause-refused : goal.returns-in-Err-Refused-clause-refused
returns-in-Err-Refused-clause-refused g c =
    let verifies = g.S.SigScheme.verifies in
    let ds = c.loop-index.diffs in
    let now = c.loop-index.state in
    let was = c.loop-index.invariant in
    let b = c.index-blocks-index.result in
    rw c.in-Err-Refused.field-0-is
    (stops_here verifies c.args.root now c.args.blocks.now c.loop-index.index (states_along ds now) b (apply.Refused c.in-Err-Refused.fault) was.applied (newest c.args.root now ds was.back) c.loop-index-test.true c.index-blocks-index.is
    (subst (λ (e : ApplyFault). IsApplyFault verifies now b e) c.in-Err-Refused.field-0-is c.in-Err-Refused.ensures.refused))

pub returns-in-Err-OutOfMemory-clause-refused : goal.returns-in-Err-OutOfMemory-clause-refused
returns-in-Err-OutOfMemory-clause-refused g c = λ some.
    let verifies = g.S.SigScheme.verifies in
    let ds = c.loop-index.diffs in
    let now = c.loop-index.state in
    let was = c.loop-index.invariant in
    let b = c.index-blocks-index.result in (
      c.loop-index.index,
      stops_here verifies c.args.root now c.args.blocks.now c.loop-index.index (states_along ds now) b apply.OutOfMemory was.applied (newest c.args.root now ds was.back) c.loop-index-test.true c.index-blocks-index.is
          (subst (λ (e : ApplyFault). IsApplyFault verifies now b e) c.in-Err-OutOfMemory.field-0-is c.in-Err-OutOfMemory.ensures.refused),
    )

pub loop-index-preserved : goal.loop-index-preserved
loop-index-preserved g c =
    let verifies = g.S.SigScheme.verifies in
    let ds = c.loop-index.diffs in
    let now = c.loop-index.state in
    let was = c.loop-index.invariant in
    let new = c.in-Ok.after in
    let call = c.in-Ok.ensures in
    let more = one_along ds c.push_back.new.self c.in-Ok.diff c.args.root now new c.in_ok-push_back-in-Ok.ensures.items call.back was.back in
    let tip : now ≡ last_state c.args.root (states_along ds now) = sym (ap (λ (r : LedgerState). last_state r (states_along ds now)) (sym was.back) ∙ last_along ds now) in
    record {
      applied = one_more verifies c.args.root c.args.blocks.now c.loop-index.index (states_along ds now) (states_along c.push_back.new.self new) now new c.index-blocks-index.result
          was.applied c.loop-index-test.true c.index-blocks-index.is tip call.applied more.1;
      back = more.0;
    }
