use Rattle.std.proofs.Common.{arith}
use Rattle.shared.specs.Starts.{start_of}
use Rattle.shared.proofs.Moves.{looks}
use Rattle.shared.proofs.sealing.look.Goals as goal

pub load-requires : goal.load-requires
load-requires g c =
    let r = c.requires in
    (r.seat, (let w = r.word in omega arith), looks g.S.SigScheme.verifies (start_of c.args.heights.now.shared.key) _ _ c.args.seat.now.me r.serves)
