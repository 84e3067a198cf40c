use Rattle.followers.proofs.Lengths.{lengths_stand_for}
use Rattle.followers.proofs.laws.lengths_stand_for_followers.Goals as goal

pub returns : goal.returns
returns c = lengths_stand_for
