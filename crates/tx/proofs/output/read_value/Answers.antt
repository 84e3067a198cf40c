use Rattle.std.proofs.Common.{refl, arith}
use Rattle.model.specs.Value.{SpellsValue}
use Rattle.cbor.proofs.ForCallers.{text_fits, promised_read}
use Rattle.value.proofs.ForCallers.{value_reads}
use Rattle.tx.proofs.output.read_value.Goals as goal

pub returns : goal.returns
returns c =
    promised_read value_reads (omega arith) SpellsValue (λ v p t. record { is_value = p; spelled = record { has_text = t; spelled = refl } }) (λ v text s. (s.is_value, text_fits s.spelled.has_text, s.spelled.spelled))
    (λ x. (x.0, x.1.now)) c.read.result c.args.bytes.now (λ i. omega (arith, c.type_inv.bytes i)) c.read.ensures.found c.read.ensures.malformed
