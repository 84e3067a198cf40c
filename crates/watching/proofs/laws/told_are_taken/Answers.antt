use Rattle.watching.proofs.Lasting.{told_are_taken}
use Rattle.watching.proofs.laws.told_are_taken.Goals as goal

pub returns : goal.returns
returns c = told_are_taken
