use Rattle.scenario.proofs.laws.indexes_go_on.Goals as goal

pub returns : goal.returns
returns c = λ network history state id at opens legal beside. c.told_are_taken.ensures network history state id beside.follower at.index opens legal beside.is_open beside.followed beside.from_genesis beside.k
