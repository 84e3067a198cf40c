use Rattle.block.proofs.OneAnswer.{same_read, same_fault, not_both, has_answer}
use Rattle.block.proofs.laws.one_answer.Goals as goal

pub returns : goal.returns
returns c = record { one_block = same_read; one_fault = same_fault; apart = not_both; some = has_answer }
