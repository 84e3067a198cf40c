-- What parameters and reasons of the code stand for.
use Rattle.std.specs.Prelude.{option_map}
use Rattle.model.specs.Rules.{SecondEra, Params, Era}
use Rattle.model.specs.Rules.{Reason, OutsideInterval, NoInputs, TooBig, FeeTooSmall, MissingInput}
use Rattle.model.specs.Rules.{OutputTooSmall, WrongNetwork, NotBalanced, OutputExists, BadSignature}
use Rattle.model.specs.Rules.{MissingKeyWitness, MissingScript, ExtraScript, ScriptFails}
use Rattle.utxo_rules.specs.declared.era.SecondEra.{SecondEra as CodeSecondEra}
use Rattle.utxo_rules.specs.declared.era.Era.{Era as CodeEra}
use Rattle.utxo_rules.specs.declared.params.Params.{Params as CodeParams}
use Rattle.utxo_rules.specs.declared.reason.Reason.{Reason as CodeReason}
use Rattle.utxo_rules.specs.declared.reason.Reason.TheVariants as code

abbrev pub second_era_of : CodeSecondEra → SecondEra
second_era_of e = record { first_slot = e.first_slot; per_asset = e.per_asset }

abbrev pub era_of : CodeEra → Era
era_of e = record { min_utxo = e.min_utxo; per_asset = e.per_asset }

abbrev pub params_of : CodeParams → Params
params_of p = record {
  network = p.network;
  min_fee_a = p.min_fee_a;
  min_fee_b = p.min_fee_b;
  min_utxo = p.min_utxo;
  max_tx_size = p.max_tx_size;
  max_body_size = p.max_body_size;
  second_era = option_map second_era_of p.second_era;
}

abbrev pub reason_of : CodeReason → Reason
reason_of code.OutsideInterval = OutsideInterval
reason_of code.NoInputs = NoInputs
reason_of code.TooBig = TooBig
reason_of code.FeeTooSmall = FeeTooSmall
reason_of code.MissingInput = MissingInput
reason_of code.OutputTooSmall = OutputTooSmall
reason_of code.WrongNetwork = WrongNetwork
reason_of code.NotBalanced = NotBalanced
reason_of code.OutputExists = OutputExists
reason_of code.BadSignature = BadSignature
reason_of code.MissingKeyWitness = MissingKeyWitness
reason_of code.MissingScript = MissingScript
reason_of code.ExtraScript = ExtraScript
reason_of code.ScriptFails = ScriptFails
