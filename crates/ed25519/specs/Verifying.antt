-- Which signatures are good (RFC 8032, 5.1.7).
use Rattle.std.specs.Prelude.{ℕ, Bool, false, ◌&&◌, not, nat_lt, Option, Some, None, List, take, drop}
use Rattle.ed25519.specs.Points.{order, added, multiple, base_point, same_point, has_small_order}
use Rattle.ed25519.specs.Encoding.{little_endian}
use Rattle.ed25519.specs.Decoding.{decoded}
use Rattle.ed25519.specs.Signing.{challenge}
use Rattle.ed25519.specs.declared.point.Point.{Point}

-- S is below L (step 1). That neither A nor R is of small order is more than the standard asks, as libsodium has it:
-- under such a key one signature would be good for many messages.
unfoldable pub is_admissible : Point → Point → ℕ → Bool
is_admissible a r s = nat_lt s order && not (has_small_order a) && not (has_small_order r)

-- [S]B = R + [k]A, which step 3 lets stand for the same with each side taken 8 times
unfoldable pub equation_holds : Point → Point → ℕ → ℕ → Bool
equation_holds a r s k = same_point (multiple 64 s base_point) (added r (multiple 64 k a))

-- whether A and R, if both decode, and S and k are those of a good signature (steps 1 and 3)
abbrev pub judged : Option Point → Option Point → ℕ → ℕ → Bool
judged None r s k = false
judged (Some a) None s k = false
judged (Some a) (Some r) s k = is_admissible a r s && equation_holds a r s k

-- Whether a signature of a message is good for a key. The key is the 32 bytes of A, and the signature the 32 of R and
-- then the 32 of S; of other lengths nothing is meant. k is their challenge (step 2), taken modulo L, which the
-- standard leaves open: it shows only where A has a part of small order.
unfoldable pub verifies : List ℕ → List ℕ → List ℕ → Bool
verifies key message signature =
    judged (decoded key) (decoded (take 32 signature)) (little_endian (drop 32 signature))
    (challenge (take 32 signature) key message)
