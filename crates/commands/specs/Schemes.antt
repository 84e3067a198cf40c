-- The schemes that a genesis file may name, and by which of the functions each judges signatures.
use Rattle.model.specs.Signature.{Verifies, test_verifies}
use Rattle.ed25519.specs.Verifying.{verifies}
use Rattle.genesis.specs.declared.scheme.Scheme.{Scheme}
use Rattle.genesis.specs.declared.scheme.Scheme.TheVariants.{Test, Ed25519}

-- the scheme for tests, and Ed25519 (RFC 8032)
abbrev pub verifies_by : Scheme → Verifies
verifies_by Test = test_verifies
verifies_by Ed25519 = verifies
