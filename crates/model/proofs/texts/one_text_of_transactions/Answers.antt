use Rattle.model.proofs.TransactionTexts.{one_transaction, transactions_apart}
use Rattle.model.proofs.texts.one_text_of_transactions.Goals as goal

pub returns-clause-one : goal.returns-clause-one
returns-clause-one c = one_transaction

pub returns-clause-apart : goal.returns-clause-apart
returns-clause-apart c = transactions_apart
