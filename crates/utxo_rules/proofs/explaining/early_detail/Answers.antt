use Rattle.std.proofs.Common.{refl, ap}
use Rattle.std.specs.Option.{option_map}
use Rattle.model.specs.Rules.{OutsideInterval, TooBig, FeeTooSmall, MissingInput, OutputTooSmall, WrongNetwork}
use Rattle.utxo_rules.specs.View.{params_of, reason_of}
use Rattle.utxo_rules.specs.DetailView.{detail_of}
use Rattle.utxo_rules.proofs.Explained.{found_as}
use Rattle.utxo_rules.proofs.explaining.early_detail.Goals as goal

pub returns-in-OutsideInterval : goal.returns-in-OutsideInterval
returns-in-OutsideInterval c = λ verifies.
    let params = params_of c.args.params.now in
    let utxo = c.args.utxo.now in
    let slot = c.args.slot in
    let t = c.args.tx.now in
    found_as verifies params utxo slot t t OutsideInterval c.args.reason (option_map detail_of c.outside_interval.result) refl (ap reason_of c.in-OutsideInterval.is) (c.outside_interval.ensures verifies params utxo)

pub returns-in-TooBig : goal.returns-in-TooBig
returns-in-TooBig c = λ verifies.
    let params = params_of c.args.params.now in
    let utxo = c.args.utxo.now in
    let slot = c.args.slot in
    let t = c.args.tx.now in
    found_as verifies params utxo slot t t TooBig c.args.reason (option_map detail_of c.too_big.result) refl (ap reason_of c.in-TooBig.is) (c.too_big.ensures verifies utxo slot)

pub returns-in-FeeTooSmall : goal.returns-in-FeeTooSmall
returns-in-FeeTooSmall c = λ verifies.
    let params = params_of c.args.params.now in
    let utxo = c.args.utxo.now in
    let slot = c.args.slot in
    let t = c.args.tx.now in
    found_as verifies params utxo slot t t FeeTooSmall c.args.reason (option_map detail_of c.small_fee.result) refl (ap reason_of c.in-FeeTooSmall.is) (c.small_fee.ensures verifies utxo slot)

pub returns-in-MissingInput : goal.returns-in-MissingInput
returns-in-MissingInput c = λ verifies.
    let params = params_of c.args.params.now in
    let utxo = c.args.utxo.now in
    let slot = c.args.slot in
    let t = c.args.tx.now in
    found_as verifies params utxo slot t t MissingInput c.args.reason (option_map detail_of c.missing_input.result) refl (ap reason_of c.in-MissingInput.is) (c.missing_input.ensures verifies params slot)

pub returns-in-OutputTooSmall : goal.returns-in-OutputTooSmall
returns-in-OutputTooSmall c = λ verifies.
    let params = params_of c.args.params.now in
    let utxo = c.args.utxo.now in
    let slot = c.args.slot in
    let t = c.args.tx.now in
    found_as verifies params utxo slot t t OutputTooSmall c.args.reason (option_map detail_of c.small_output.result) refl (ap reason_of c.in-OutputTooSmall.is) (c.small_output.ensures verifies utxo)

pub returns-in-WrongNetwork : goal.returns-in-WrongNetwork
returns-in-WrongNetwork c = λ verifies.
    let params = params_of c.args.params.now in
    let utxo = c.args.utxo.now in
    let slot = c.args.slot in
    let t = c.args.tx.now in
    found_as verifies params utxo slot t t WrongNetwork c.args.reason (option_map detail_of c.foreign_output.result) refl (ap reason_of c.in-WrongNetwork.is) (c.foreign_output.ensures verifies utxo slot)
