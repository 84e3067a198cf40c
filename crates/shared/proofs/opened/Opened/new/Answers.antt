use Rattle.shared.proofs.Starts.{untouched_new}
use Rattle.shared.proofs.opened.Opened.new.Goals as goal

pub on-requires : goal.on-requires
on-requires g c = untouched_new g.S.SigScheme.verifies c.args.genesis c.in_ok-core.core c.in_ok-core.ensures
