use Rattle.std.proofs.Common.{◌++◌}
use Rattle.std.proofs.lemmas.Slice.Eq.{bytes_eq-Decides}
use Rattle.sha2.specs.Sha256.{sha256}
use Rattle.model.specs.Signature.{test_verifies}
use Rattle.model.proofs.rules.test_signatures.Goals as goal

pub returns : goal.returns
unfolding test_verifies
returns c = λ key message signature. bytes_eq-Decides signature (sha256 (key ++ message) ++ sha256 (key ++ message))
