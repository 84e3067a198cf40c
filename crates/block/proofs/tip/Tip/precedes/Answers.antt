use Rattle.std.proofs.Common.{sym}
use Rattle.block.proofs.tip.Tip.precedes.Goals as goal

pub returns : goal.returns
returns c = c.precedes_header.ensures c.args.block.now (sym c.header.ensures)
