use Rattle.std.proofs.Common.{◌∙◌}
use Rattle.chain_core.proofs.finding.live_count.Goals as goal

pub returns : goal.returns
returns g c = λ network s has. c.len.ensures.count ∙ has.live.count
