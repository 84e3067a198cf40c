-- Signatures made (RFC 8032, 5.1.6).
use Rattle.std.specs.Prelude.{ℕ, ◌+◌, ◌*◌, ◌%◌, List, ◌++◌, drop}
use Rattle.sha2.specs.Sha512.{sha512}
use Rattle.ed25519.specs.Points.{multiple, base_point, order}
use Rattle.ed25519.specs.Encoding.{little_endian, to_bytes, encoded}
use Rattle.ed25519.specs.Keys.{secret_scalar, public_key}

-- prefix: the second half of the seed's digest (step 1)
unfoldable pub secret_prefix : List ℕ → List ℕ
secret_prefix seed = drop 32 (sha512 seed)

-- r: the digest of the prefix and the message, as a number, modulo L (steps 2 and 3)
unfoldable pub nonce : List ℕ → List ℕ → ℕ
nonce seed message = little_endian (sha512 (secret_prefix seed ++ message)) % order

-- R: the bytes of [r]B (step 3)
unfoldable pub commitment : List ℕ → List ℕ → List ℕ
commitment seed message = encoded (multiple 64 (nonce seed message) base_point)

-- k: the digest of R, A and the message, as a number, modulo L (steps 4 and 5)
unfoldable pub challenge : List ℕ → List ℕ → List ℕ → ℕ
challenge r a message = little_endian (sha512 ((r ++ a) ++ message)) % order

-- R, and then the 32 bytes of S = r + k s modulo L (steps 5 and 6)
unfoldable pub signature : List ℕ → List ℕ → List ℕ
signature seed message =
    let k = challenge (commitment seed message) (public_key seed) message in
    commitment seed message ++ to_bytes 32 ((nonce seed message + k * secret_scalar seed) % order)
