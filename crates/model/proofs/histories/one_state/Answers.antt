use Rattle.model.specs.History.{opening}
use Rattle.model.proofs.LegalHistories.{opening_sound, run_one}
use Rattle.model.proofs.histories.one_state.Goals as goal

pub returns : goal.returns
returns c = λ network history s t opens first second. run_one network (opening network) history s t (opening_sound network opens) first second
