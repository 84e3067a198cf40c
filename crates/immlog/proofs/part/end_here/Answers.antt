use Rattle.std.proofs.Common.{arith}
use Rattle.immlog.proofs.Looking.{end_of_all}
use Rattle.immlog.proofs.part.end_here.Goals as goal

pub returns-clause-end : goal.returns-clause-end
returns-clause-end g c =
    end_of_all c.args.gate (g.R.Read.remaining c.args.reader.now) (g.R.Read.remaining c.fill.new.reader) c.fill.new.room c.in_ok-count.count c.end_of.result (omega (arith, c.requires.room, c.fill.ensures.len)) c.in_ok-count.ensures.filled c.end_of.ensures
