use Rattle.model.proofs.LogTexts.{same_blocks, not_both, one_place}
use Rattle.model.proofs.logs.one_way_to_open.Goals as goal

pub returns-clause-blocks : goal.returns-clause-blocks
returns-clause-blocks c = same_blocks

pub returns-clause-sound : goal.returns-clause-sound
returns-clause-sound c = not_both

pub returns-clause-place : goal.returns-clause-place
returns-clause-place c = one_place
