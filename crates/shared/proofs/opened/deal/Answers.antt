use Rattle.std.proofs.Common.{arith}
use Rattle.shared.specs.Starts.{start_of}
use Rattle.shared.proofs.Moves.{deals}
use Rattle.shared.proofs.opened.deal.Goals as goal

pub split_seat-requires : goal.split_seat-requires
split_seat-requires g c =
    let r = c.requires in
    (r.seat, (let w = r.word in omega arith), deals g.S.SigScheme.verifies (start_of c.args.heights.now.shared.key) _ c.args.seat.now.me.0 c.args.number r.deals)
