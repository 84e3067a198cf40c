use Rattle.model.proofs.LegalHistories.{legal_sound}
use Rattle.model.proofs.ToldChains.{caught_up}
use Rattle.model.proofs.histories.followers_catch_up.Goals as goal

pub returns : goal.returns
returns c = λ network history s id f more t opens legal is told run enough. caught_up network s id f more t (legal_sound network history s opens legal) is told run enough
