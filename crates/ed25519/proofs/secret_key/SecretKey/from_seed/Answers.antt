use Rattle.ed25519.specs.Keys.{public_key, secret_scalar}
use Rattle.ed25519.specs.Signing.{secret_prefix}
use Rattle.ed25519.proofs.secret_key.SecretKey.from_seed.Goals as goal

pub invariant_of-result : goal.invariant_of-result
unfolding secret_scalar secret_prefix public_key
invariant_of-result c = (cc, cc, cc)
