-- The words in which refusals are told.
use Rattle.std.specs.Prelude.{ℕ, List, codes}
use Rattle.model.specs.Rules as rules
use Rattle.model.specs.Applying as blocks
use Rattle.model.specs.Rules.{reason_number}
use Rattle.utxo_rules.specs.Texts.{reason_name}
use Rattle.conversing.specs.declared.outcome.Reason.{Reason}

-- a number, a name and a sentence
pub record Words : Type 0 where
  pub number : ℕ
  pub name : List ℕ
  pub sentence : List ℕ

abbrev pub words : ℕ → List ℕ → List ℕ → Words
words number name sentence = record { number = number; name = name; sentence = sentence }

-- the words of a reason that is told
abbrev pub words_of : Reason → Words
words_of reason = words reason.number reason.name.now reason.sentence.now

-- the sentence of a reason against a transaction
abbrev pub reason_sentence : rules.Reason → List ℕ
reason_sentence rules.OutsideInterval = codes "the slot is outside the transaction's interval"
reason_sentence rules.NoInputs = codes "no inputs"
reason_sentence rules.TooBig = codes "too many bytes"
reason_sentence rules.FeeTooSmall = codes "the fee is too small"
reason_sentence rules.MissingInput = codes "an input is not unspent"
reason_sentence rules.OutputTooSmall = codes "an output holds too little"
reason_sentence rules.WrongNetwork = codes "an output is of another network"
reason_sentence rules.NotBalanced = codes "not as much is consumed as is produced"
reason_sentence rules.OutputExists = codes "an output stands where a new one would"
reason_sentence rules.BadSignature = codes "a signature is not good"
reason_sentence rules.MissingKeyWitness = codes "a key that has to sign did not"
reason_sentence rules.MissingScript = codes "a script that is needed is not supplied"
reason_sentence rules.ExtraScript = codes "a script is supplied that is not needed"
reason_sentence rules.ScriptFails = codes "a script does not hold"

-- a reason against a transaction
abbrev pub reason_words : rules.Reason → Words
reason_words reason = words (reason_number reason) (reason_name reason) (reason_sentence reason)

-- what is said against a block, but for its transactions, where it is the reason against the first that has one
abbrev pub fault_words : blocks.BlockFault → Words
fault_words blocks.WrongNumber = words 1 (codes "WrongNumber") (codes "the number is not the next one")
fault_words blocks.WrongPrev = words 2 (codes "WrongPrev") (codes "another block stands before it")
fault_words blocks.SlotNotRising = words 3 (codes "SlotNotRising") (codes "the slot is not after the tip's")
fault_words blocks.BodyTooBig = words 4 (codes "BodyTooBig") (codes "the body is too big")
fault_words (blocks.TxFault index reason) = reason_words reason
