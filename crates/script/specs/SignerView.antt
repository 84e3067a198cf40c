-- What a signer of the code stands for.
use Rattle.draft.specs.Draft.{Signer}
use Rattle.draft.specs.Signers.{secret_signer}
use Rattle.draft.specs.SignerView.{test_signer_of}
use Rattle.script.specs.declared.key_signer.KeySigner.{KeySigner}
use Rattle.script.specs.declared.key_signer.KeySigner.TheVariants.{Test, Secret}

abbrev pub key_signer_of : KeySigner → Signer
key_signer_of (Test signer) = test_signer_of signer
key_signer_of (Secret seed) = secret_signer seed
