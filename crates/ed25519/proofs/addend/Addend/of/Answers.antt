use Rattle.ed25519.specs.Addends.{addend_of}
use Rattle.ed25519.proofs.Multiples.{twice}
use Rattle.ed25519.proofs.addend.Addend.of.Goals as goal

pub returns : goal.returns
unfolding addend_of
returns c = cc (twice c.args.point.now.z)
