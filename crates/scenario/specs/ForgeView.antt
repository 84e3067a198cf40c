-- What the code answers to the line `forge`.
use Rattle.std.specs.Prelude.{ℕ, List, ◌++◌, decimal, codes, Result, Ok, Err}
use Rattle.chain_core.specs.declared.forging.ForgeFault.{ForgeFault}
use Rattle.chain_core.specs.declared.forging.ForgeFault.TheVariants as fault

-- how many bytes the block has, or why there is none
abbrev pub code_answer_text : Result ℕ ForgeFault → List ℕ
code_answer_text (Ok size) = decimal size ++ codes " bytes"
code_answer_text (Err fault.SlotNotAfterTip) = codes "refused 1 SlotNotAfterTip"
code_answer_text (Err fault.OutOfRange) = codes "refused 2 OutOfRange"
code_answer_text (Err fault.OutOfMemory) = codes "out of memory"
