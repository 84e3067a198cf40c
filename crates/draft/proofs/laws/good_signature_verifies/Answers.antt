use Rattle.byte_keys.proofs.ForCallers.{bytes_self}
use Rattle.model.specs.Signature.{test_verifies}
use Rattle.draft.specs.Signers.{good_signature}
use Rattle.draft.proofs.laws.good_signature_verifies.Goals as goal

pub returns : goal.returns
unfolding test_verifies
returns c = λ key message. bytes_self (good_signature key message)
