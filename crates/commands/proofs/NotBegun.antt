-- A run that has not begun.
use Rattle.std.proofs.Common.{List, ℕ, Option, Some, None}
use Rattle.std.specs.Prelude.{IfSome}
use Rattle.model.specs.Ledger.{Network}
use Rattle.model.specs.Chain.{IsOpening}
use Rattle.scenario.specs.declared.options.Options.{Options}
use Rattle.scenario.specs.declared.fault.ScenarioFault.TheVariants.{OutOfMemory}
use Rattle.scenario.proofs.ForCallers as scenario
use Rattle.commands.specs.Ending.{EndsBySome}

-- nothing is read and nothing is written
pub not_begun : (options : Options) (network : Network) → IsOpening network → (text known : Option (List ℕ)) → IfSome text (λ t. EndsBySome options network t known known OutOfMemory)
not_begun options network opens None known = tt
not_begun options network opens (Some t) known = (Some t, scenario.not_begun options network opens t known)
