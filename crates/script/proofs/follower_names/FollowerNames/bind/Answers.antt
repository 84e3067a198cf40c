use Rattle.std.proofs.Common.{Some}
use Rattle.script.proofs.FollowerBindings.{named_after}
use Rattle.script.proofs.follower_names.FollowerNames.bind.Goals as goal

pub returns-in-Some-clause-bound : goal.returns-in-Some-clause-bound
returns-in-Some-clause-bound c = λ room names named free. named_after c.args.self.now _ names c.args.name.now c.args.id named free room (c.get_mut.follows.holds (Some c.args.id)).0
