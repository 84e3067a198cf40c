-- What is left to apply decides for all, and what was applied can be undone.
use Rattle.std.proofs.Common.{◌≡◌}
use Rattle.ledger.specs.Judgement.{HasSameEnds}
use Rattle.ledger.specs.BlockDiffs.{all_undone}
use Rattle.ledger.proofs.Bodies.{IsPartApplied}
use Rattle.ledger.proofs.ledger_state.LedgerState.with_transactions.Given as goal

abbrev pub invariant-loop-index : goal.invariant-loop-index
invariant-loop-index g l = record {
  part : IsPartApplied g.S.SigScheme.verifies l.fn.self.params l.slot l.fn.self.ledger l.after.ledger l.transactions l.index;
  ends : HasSameEnds l.fn.self l.after;
  back : all_undone l.diffs.items l.after.ledger.utxo ≡ l.fn.self.ledger.utxo;
}
