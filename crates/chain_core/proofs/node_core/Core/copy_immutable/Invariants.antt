-- The texts so far are those from the first number on.
use Rattle.std.proofs.Common.{◌≡◌, take, drop}
use Rattle.std.specs.List.{AllByRecursion}
use Rattle.model.specs.Log.{IsLogBlock}
use Rattle.chain_core.specs.Immutable.{immutable_texts}
use Rattle.chain_core.specs.Reopening.{texts_in}
use Rattle.chain_core.proofs.node_core.Core.copy_immutable.Given as goal

abbrev pub invariant-loop-number : goal.invariant-loop-number
invariant-loop-number g l = record {
  texts : texts_in l.texts.items ≡ drop l.from (take l.number (immutable_texts g.S.SigScheme.verifies l.self));
  sizes : AllByRecursion IsLogBlock (texts_in l.texts.items);
}
