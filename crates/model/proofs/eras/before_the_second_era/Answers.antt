use Rattle.model.proofs.EraLaws.{reason_before, ledger_before}
use Rattle.model.proofs.eras.before_the_second_era.Goals as goal

pub returns-clause-reason : goal.returns-clause-reason
returns-clause-reason c = λ verifies params second utxo slot t given before. reason_before verifies params slot second given before utxo t

pub returns-clause-ledger : goal.returns-clause-ledger
returns-clause-ledger c = λ network second chain given all. ledger_before network second given chain all
