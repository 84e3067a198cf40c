use Rattle.inbox.proofs.Lists.{all_at_last}
use Rattle.inbox.proofs.adder_end.AdderEnd.take_last.Goals as goal

pub returns-clause-last : goal.returns-clause-last
returns-clause-last g c =
    let hear = c.hear.ensures in
    let take = c.take-taken.ensures in
    let compare = c.compare_all.ensures in
    all_at_last c.take-taken.result c.args.self.now c.hear.new.self c.take-taken.new.self c.compare_all.new.adder c.args.peers.now c.hear.new.peers
    hear.adder hear.peers take.none take.empty compare.adder compare.begins
