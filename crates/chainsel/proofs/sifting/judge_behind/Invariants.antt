use Rattle.std.proofs.Common.{List}
use Rattle.model.specs.Genesis.{Genesis}
use Rattle.model.specs.Block.{Block}
use Rattle.model.specs.Ledger.{network_on}
use Rattle.chainsel.specs.Choices.{AreDead}
use Rattle.chainsel.specs.Judged.{IsStateAt, IsSifted, GainsFound}
use Rattle.chainsel.proofs.sifting.judge_behind.Given as goal

-- what waits is judged, and what was found dead is so
abbrev pub invariant-loop : goal.invariant-loop
invariant-loop g l = record {
  gains : GainsFound l.store l.fn.found.hashes.items l.found.hashes.items;
  sifted : (genesis : Genesis) (opened chain : List Block) (new : Block) → IsStateAt (network_on genesis g.S.SigScheme.verifies opened) chain l.store new l.block l.fn.state
      → AreDead (network_on genesis g.S.SigScheme.verifies opened) chain l.store new l.fn.found.hashes.items
      → IsSifted (network_on genesis g.S.SigScheme.verifies opened) chain l.store new l.found.hashes.items l.waiting.items;
}
