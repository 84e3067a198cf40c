use Rattle.std.proofs.Common.{arith}
use Rattle.shared.specs.Starts.{start_of}
use Rattle.shared.proofs.Moves.{compares}
use Rattle.shared.proofs.sealing.compare.Goals as goal

pub load-requires : goal.load-requires
load-requires g c =
    let r = c.requires in
    (r.seat, (let w = r.word in omega arith), compares g.S.SigScheme.verifies (start_of c.args.heights.now.shared.key) _ _ c.args.seat.now.me r.serves r.right)
