use Rattle.std.proofs.Common.{ap}
use Rattle.model.specs.Utxo.{Utxo}
use Rattle.model.specs.Rules.{reason_against}
use Rattle.model.proofs.Unspent.{same_pairs}
use Rattle.model.proofs.rules.same_reason.Goals as goal

pub returns : goal.returns
returns c = λ verifies params a b slot t same. ap (λ (utxo : Utxo). reason_against verifies params utxo slot t) (same_pairs a b same)
