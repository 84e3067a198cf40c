use Rattle.watching.proofs.Meaning.{watched_are_meant}
use Rattle.watching.proofs.laws.watched_are_meant.Goals as goal

pub returns : goal.returns
returns c = watched_are_meant
