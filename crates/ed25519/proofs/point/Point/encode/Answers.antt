use Rattle.std.proofs.Common.{◌<◌, arith, sym}
use Rattle.ed25519.specs.Arithmetic.{prime}
use Rattle.ed25519.specs.Encoding.{encoded}
use Rattle.ed25519.proofs.Powers.{below_prime}
use Rattle.ed25519.proofs.Products.{prime_size}
use Rattle.ed25519.proofs.point.Point.encode.Goals as goal

pub with_top_bit-requires : goal.with_top_bit-requires
with_top_bit-requires c =
    let b : c.times-y.result < prime = below_prime _ _ (sym c.times-y.ensures) in
    (omega (arith, prime_size), omega arith)

pub returns : goal.returns
unfolding encoded
returns c = cc
