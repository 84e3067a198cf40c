-- Keys that have names, and who signs with them under each scheme.
use Rattle.std.specs.Prelude.{◌≡◌, ◌⊎◌, ℕ, Bool, true, false, List, Option, Some, None, length, ◌==◌}
use Rattle.std.specs.Prelude.{if◌then◌else◌}
use Rattle.std.specs.Coded.{Coded, coded⊎, code_by}
use mathlib.Core.Path.{refl}
use mathlib.Core.Logic.{inl, inr}
use Rattle.ed25519.specs.Keys.{public_key}
use Rattle.model.specs.Codes.{coded_bytes}
use Rattle.model.specs.Limits.{hash_size}
use Rattle.genesis.specs.declared.scheme.Scheme.{Scheme}
use Rattle.genesis.specs.declared.scheme.Scheme.TheVariants as schemes
use Rattle.draft.specs.Draft.{Signer}
use Rattle.draft.specs.Signers.{good_signer, bad_signer, secret_signer}

-- a public key by its bytes, or a secret one by those that it is made of (RFC 8032, 5.1.5)
pub data Key : Type 0 where
  PublicKey : (bytes : List ℕ) → Key
  SecretKey : (seed : List ℕ) → Key

-- the bytes of the public key
abbrev pub key_bytes : Key → List ℕ
key_bytes (PublicKey bytes) = bytes
key_bytes (SecretKey seed) = public_key seed

-- what is made of 32 bytes; other bytes are no key
abbrev pub where_sized : (List ℕ → Key) → (bytes : List ℕ) → Option Key
where_sized make bytes = if length bytes == hash_size then Some (make bytes) else None

-- the public key of these bytes
abbrev pub key_in : (bytes : List ℕ) → Option Key
key_in bytes = where_sized PublicKey bytes

-- the secret key of these bytes, which there is under Ed25519 alone
abbrev pub secret_key_in : Scheme → (bytes : List ℕ) → Option Key
secret_key_in schemes.Test bytes = None
secret_key_in schemes.Ed25519 bytes = where_sized SecretKey bytes

-- who signs well with a key: under the test scheme anyone, under Ed25519 who has a secret one
abbrev pub well_with : Scheme → Key → Option Signer
well_with schemes.Test key = Some (good_signer (key_bytes key))
well_with schemes.Ed25519 (SecretKey seed) = Some (secret_signer seed)
well_with schemes.Ed25519 (PublicKey bytes) = None

-- who signs with a key, well or not
abbrev pub signer_with : Scheme → Key → (good : Bool) → Option Signer
signer_with scheme key true = well_with scheme key
signer_with scheme key false = Some (bad_signer (key_bytes key))

-- ---- may be skipped: a type of the code can stand for keys only since they have a code, one to one

abbrev pub either_of_key : Key → List ℕ ⊎ List ℕ
either_of_key (PublicKey bytes) = inl bytes
either_of_key (SecretKey seed) = inr seed

abbrev pub key_of_either : List ℕ ⊎ List ℕ → Key
key_of_either (inl bytes) = PublicKey bytes
key_of_either (inr seed) = SecretKey seed

pub key_back : (key : Key) → key_of_either (either_of_key key) ≡ key
key_back (PublicKey bytes) = refl
key_back (SecretKey seed) = refl

abbrev pub coded_key : Coded Key
coded_key = code_by (List ℕ ⊎ List ℕ) (coded⊎ coded_bytes coded_bytes) either_of_key key_of_either key_back
