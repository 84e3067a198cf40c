-- The words in which reasons are shown.
use Rattle.std.specs.Prelude.{ℕ, List, codes}
use Rattle.model.specs.Rules.{Reason, OutsideInterval, NoInputs, TooBig, FeeTooSmall, MissingInput}
use Rattle.model.specs.Rules.{OutputTooSmall, WrongNetwork, NotBalanced, OutputExists, BadSignature}
use Rattle.model.specs.Rules.{MissingKeyWitness, MissingScript, ExtraScript, ScriptFails}

abbrev pub reason_name : Reason → List ℕ
reason_name OutsideInterval = codes "OutsideInterval"
reason_name NoInputs = codes "NoInputs"
reason_name TooBig = codes "TooBig"
reason_name FeeTooSmall = codes "FeeTooSmall"
reason_name MissingInput = codes "MissingInput"
reason_name OutputTooSmall = codes "OutputTooSmall"
reason_name WrongNetwork = codes "WrongNetwork"
reason_name NotBalanced = codes "NotBalanced"
reason_name OutputExists = codes "OutputExists"
reason_name BadSignature = codes "BadSignature"
reason_name MissingKeyWitness = codes "MissingKeyWitness"
reason_name MissingScript = codes "MissingScript"
reason_name ExtraScript = codes "ExtraScript"
reason_name ScriptFails = codes "ScriptFails"
