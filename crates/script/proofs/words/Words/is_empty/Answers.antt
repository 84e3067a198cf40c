use Rattle.script.proofs.WordLists.{none_left}
use Rattle.script.proofs.words.Words.is_empty.Goals as goal

pub returns : goal.returns
returns c = none_left c.args.self.now.rest c.is_none.result c.is_none.ensures
