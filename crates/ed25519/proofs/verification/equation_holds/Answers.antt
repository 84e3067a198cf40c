use Rattle.ed25519.specs.Verifying.{equation_holds}
use Rattle.ed25519.proofs.verification.equation_holds.Goals as goal

pub returns : goal.returns
unfolding equation_holds
returns c = cc
