use Rattle.model.proofs.ForgedBlocks.{forged_valid}
use Rattle.model.proofs.LegalHistories.{legal_sound}
use Rattle.model.proofs.ForgedArrivals.{sound_is_ready, arrives_next}
use Rattle.model.proofs.forging.forged_blocks.Goals as goal

pub returns-clause-valid : goal.returns-clause-valid
returns-clause-valid c = forged_valid

pub returns-clause-arrives : goal.returns-clause-arrives
returns-clause-arrives c = λ network history s slot b bytes genesis opens legal forged spelled.
    arrives_next network s s.mempool slot b bytes genesis (sound_is_ready network s (legal_sound network history s opens legal)) forged spelled
