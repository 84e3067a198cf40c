use Rattle.std.proofs.Common.{rules}
use Rattle.serving.specs.Following.{HadOne}
use Rattle.serving.proofs.node.Node.close.Goals as goal

pub returns-in-Some : goal.returns-in-Some
returns-in-Some g c = HadOne c.in-Some.id.number _ (search (rules, c.in-Some.is)) c.close-closed.ensures
