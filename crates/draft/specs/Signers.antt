-- Signers of both schemes: what each of them makes of a message.
use Rattle.std.specs.Prelude.{ℕ, List, ◌++◌, replicate}
use Rattle.sha2.specs.Sha256.{sha256}
use Rattle.ed25519.specs.Keys.{public_key}
use Rattle.ed25519.specs.Signing.{signature}
use Rattle.model.specs.Limits.{signature_size}
use Rattle.draft.specs.Draft.{Signer}

-- ---- keys of the test scheme

-- a key's one good signature of a message: the digest of the key followed by the message, twice
abbrev pub good_signature : (key message : List ℕ) → List ℕ
good_signature key message = sha256 (key ++ message) ++ sha256 (key ++ message)

-- a key that signs so
abbrev pub good_signer : (key : List ℕ) → Signer
good_signer key = record { key = key; signs = good_signature key }

-- a key for which 64 zero bytes stand in place of a signature, whatever the message is
abbrev pub bad_signer : (key : List ℕ) → Signer
bad_signer key = record { key = key; signs = λ message. replicate signature_size 0 }

-- ---- Ed25519

-- the secret key of these 32 bytes: its public key, and its signature (RFC 8032, 5.1.5 and 5.1.6)
abbrev pub secret_signer : (seed : List ℕ) → Signer
secret_signer seed = record { key = public_key seed; signs = signature seed }
