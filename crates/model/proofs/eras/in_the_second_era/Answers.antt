use Rattle.model.proofs.EraLaws.{asked_in, asked_of_all}
use Rattle.model.proofs.eras.in_the_second_era.Goals as goal

pub returns : goal.returns
returns c = λ params second slot t given begun. (asked_in params second slot given begun t, asked_of_all params second slot given begun t)
