-- Which signers of the definitions keys of the test scheme stand for, and signatures that were made elsewhere.
use Rattle.draft.specs.declared.signer.TestSigner.{TestSigner}
use Rattle.draft.specs.declared.signer.Signing.TheVariants.{Good, Bad}
use Rattle.draft.specs.declared.signer.Signing.{Signing}
use Rattle.draft.specs.Draft.{Signer, made_elsewhere}
use Rattle.draft.specs.Signers.{good_signer, bad_signer}
use Rattle.std.specs.Prelude.{ℕ, List}
use Rattle.tx.specs.View.{witness_of}
use Rattle.tx.specs.declared.key_witness.KeyWitness.{KeyWitness}

-- how the key signs
abbrev pub signer_by : (key : List ℕ) → Signing → Signer
signer_by key Good = good_signer key
signer_by key Bad = bad_signer key

abbrev pub test_signer_of : TestSigner → Signer
test_signer_of s = signer_by s.key s.signing

-- a signature that was made elsewhere
abbrev pub signer_of_witness : KeyWitness → Signer
signer_of_witness w = made_elsewhere (witness_of w).key (witness_of w).signature
