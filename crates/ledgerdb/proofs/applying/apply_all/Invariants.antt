use Rattle.std.proofs.Common.{◌≡◌, take}
use Rattle.model.specs.Applying.{AreStates}
use Rattle.ledgerdb.specs.Inside.{undone_blocks, states_along}
use Rattle.ledgerdb.proofs.applying.apply_all.Given as goal

-- the blocks so far are applied, and can be undone
abbrev pub invariant-loop-index : goal.invariant-loop-index
invariant-loop-index g l = record {
  applied : AreStates g.S.SigScheme.verifies l.fn.root (take l.index l.blocks) (states_along l.diffs l.state);
  back : undone_blocks l.diffs l.state ≡ l.fn.root;
}
