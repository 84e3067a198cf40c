use Rattle.std.proofs.Common.{ℕ, List, ap}
use Rattle.chain.specs.Searches.{bit_of}
use Rattle.chain.proofs.index.bit_at.Goals as goal

pub returns : goal.returns
unfolding bit_of
returns c = ap (λ (bytes : List ℕ). bit_of bytes c.args.depth) c.as_bytes.ensures
