use Rattle.std.proofs.Common.{refl, arith}
use Rattle.model.specs.Value.{SpellsMint}
use Rattle.cbor.proofs.ForCallers.{text_fits, promised_read}
use Rattle.value.proofs.ForCallers.{mint_reads}
use Rattle.tx.proofs.body.read_minted.Goals as goal

pub returns : goal.returns
returns c =
    promised_read mint_reads (omega arith) SpellsMint (λ m p t. record { is_mint = p.0; not_empty = p.1; spelled = record { has_text = t; spelled = refl } }) (λ m text s. ((s.is_mint, s.not_empty), text_fits s.spelled.has_text, s.spelled.spelled))
    (λ x. (x.0, x.1.now)) c.read.result c.args.bytes.now (λ i. omega (arith, c.type_inv.bytes i)) c.read.ensures.found c.read.ensures.malformed
