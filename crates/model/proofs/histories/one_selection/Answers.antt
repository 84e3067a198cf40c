use Rattle.model.proofs.Selections as selections
use Rattle.model.proofs.histories.one_selection.Goals as goal

pub returns : goal.returns
returns c = selections.one_selection
