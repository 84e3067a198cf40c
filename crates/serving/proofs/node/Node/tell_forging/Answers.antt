use Rattle.std.proofs.Common.{List, ℕ, refl, subst, sym}
use Rattle.model.specs.Forging.{SlotNotAfterTip, OutOfRange}
use Rattle.shared.specs.Starts.{network_from}
use Rattle.shared.specs.Forging.{IsForgedOf}
use Rattle.conversing.specs.declared.told.ToldBlock.{ToldBlock}
use Rattle.conversing.specs.declared.outcome.Outcome.TheVariants.{Forged, NotForged}
use Rattle.serving.specs.Submitting.{Made, NotMade}
use Rattle.serving.proofs.Telling.{asked_so, looked, replied}
use Rattle.serving.proofs.node.Node.tell_forging.Goals as goal

pub returns-in-Ok : goal.returns-in-Ok
returns-in-Ok g c =
    let network = network_from g.B.Room.start g.S.SigScheme.verifies in
    let point = c.in-Ok.forged.point in
    let told : ToldBlock = record { number = point.number; slot = c.args.slot; hash = point.hash.bytes; bytes = c.deref.result } in
    let asked = c.in-Ok.ensures.forged in
    replied (Forged told)
    (Made told point refl (record { number = refl; hash = refl; slot_is = refl })
    (asked_so asked (λ s h. subst (λ (bytes : List ℕ). IsForgedOf network s c.args.slot bytes point) (sym c.deref.ensures.value) h)))
    (looked asked) c.tell.ensures

pub returns-in-Err-SlotNotAfterTip : goal.returns-in-Err-SlotNotAfterTip
returns-in-Err-SlotNotAfterTip g c =
    let asked = rw c.in-Err-SlotNotAfterTip.field-0-is at c.in-Err-SlotNotAfterTip.ensures.fault in
    replied (NotForged c.not_after_tip.result) (NotMade SlotNotAfterTip c.not_after_tip.result refl c.not_after_tip.ensures asked) (looked asked) c.tell-in-Err-SlotNotAfterTip.ensures

pub returns-in-Err-OutOfRange : goal.returns-in-Err-OutOfRange
returns-in-Err-OutOfRange g c =
    let asked = rw c.in-Err-OutOfRange.field-0-is at c.in-Err-OutOfRange.ensures.fault in
    replied (NotForged c.out_of_range.result) (NotMade OutOfRange c.out_of_range.result refl c.out_of_range.ensures asked) (looked asked) c.tell-in-Err-OutOfRange.ensures
