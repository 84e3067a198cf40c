-- Signature schemes (Shelley, cryptographic primitives). Which signatures are good is a function that is handed in to
-- every definition that asks it, so what is said of chains and transactions holds for every scheme.
use Rattle.std.specs.Prelude.{ℕ, Bool, List, ◌++◌, bytes_eq}
use Rattle.sha2.specs.Sha256.{sha256}

-- what a scheme means: whether a signature of a message is good for a key, each given by its bytes
abbrev pub Verifies : Type 0
Verifies = (key message signature : List ℕ) → Bool

-- The scheme for tests (this project's own): a good signature is the SHA-256 digest (FIPS 180-4) of the key followed by
-- the message, twice. Anyone can sign with it, so it protects nothing.
unfoldable pub test_verifies : Verifies
test_verifies key message signature =
    let digest : List ℕ = sha256 (key ++ message) in
    bytes_eq signature (digest ++ digest)
