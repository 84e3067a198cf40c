use Rattle.std.proofs.Common.{◌≡◌, ◌∙◌, ap, refl}
use Rattle.std.proofs.lemmas.Result.{IfOk-weaker}
use Rattle.conversing.specs.declared.call.BlockName.{BlockName}
use Rattle.conversing.specs.declared.call.BlockName.TheVariants.{Number, Hash}
use Rattle.conversing.specs.declared.call.Call.TheVariants.{QueryBlock}
use Rattle.serving.proofs.clerk.Clerk.carry_out.Goals as goal

pub returns-in-QueryTip-clause-ok : goal.returns-in-QueryTip-clause-ok
returns-in-QueryTip-clause-ok g c = rw c.in-QueryTip.is (refl, c.tell_tip.ensures)

pub returns-in-QueryHeight-clause-ok : goal.returns-in-QueryHeight-clause-ok
returns-in-QueryHeight-clause-ok g c = rw c.in-QueryHeight.is (refl, c.tell_height.ensures)

pub returns-in-QueryUtxo-Places-clause-ok : goal.returns-in-QueryUtxo-Places-clause-ok
returns-in-QueryUtxo-Places-clause-ok g c = rw (c.in-QueryUtxo-Places.is, c.in-QueryUtxo-Places.field-0-is) (IfOk-weaker c.tell_outputs_at.result _ _ (λ line said. (refl, said)) (rw c.deref.ensures.value at c.tell_outputs_at.ensures.ok))

pub returns-in-QueryUtxo-Addresses-clause-ok : goal.returns-in-QueryUtxo-Addresses-clause-ok
returns-in-QueryUtxo-Addresses-clause-ok g c = rw (c.in-QueryUtxo-Addresses.is, c.in-QueryUtxo-Addresses.field-0-is) (IfOk-weaker c.tell_outputs_of.result _ _ (λ line said. (refl, said)) (rw c.deref-in-QueryUtxo-Addresses.ensures.value at c.tell_outputs_of.ensures.ok))

pub returns-in-Number-clause-ok : goal.returns-in-Number-clause-ok
returns-in-Number-clause-ok g c =
    let is : c.args.call ≡ QueryBlock (Number c.in-Number.number) = c.in-QueryBlock.is ∙ ap (λ (name : BlockName). QueryBlock name) c.in-Number.is in
    rw is (IfOk-weaker c.tell_block_at.result _ _ (λ line said. (refl, said)) c.tell_block_at.ensures.ok)

pub returns-in-Hash-clause-ok : goal.returns-in-Hash-clause-ok
returns-in-Hash-clause-ok g c =
    let is : c.args.call ≡ QueryBlock (Hash c.in-Hash.hash) = c.in-QueryBlock.is ∙ ap (λ (name : BlockName). QueryBlock name) c.in-Hash.is in
    rw is (IfOk-weaker c.tell_block_of.result _ _ (λ line said. (refl, said)) c.tell_block_of.ensures.ok)

pub returns-in-QueryTransaction-clause-ok : goal.returns-in-QueryTransaction-clause-ok
returns-in-QueryTransaction-clause-ok g c = rw c.in-QueryTransaction.is (refl, c.tell_standing.ensures)

pub returns-in-QueryMempool-clause-ok : goal.returns-in-QueryMempool-clause-ok
returns-in-QueryMempool-clause-ok g c = rw c.in-QueryMempool.is (IfOk-weaker c.tell_mempool.result _ _ (λ line said. (refl, said)) c.tell_mempool.ensures.ok)

pub returns-in-Why-clause-ok : goal.returns-in-Why-clause-ok
returns-in-Why-clause-ok g c = rw c.in-Why.is (IfOk-weaker c.tell_why.result _ _ (λ line said. (refl, said)) c.tell_why.ensures.ok)

pub returns-in-SubmitTransaction-clause-ok : goal.returns-in-SubmitTransaction-clause-ok
returns-in-SubmitTransaction-clause-ok g c = rw c.in-SubmitTransaction.is (IfOk-weaker c.tell_submission.result _ _ (λ line said. (refl, said)) (rw c.deref-in-SubmitTransaction.ensures.value at c.tell_submission.ensures.ok))

pub returns-in-Evaluate-clause-ok : goal.returns-in-Evaluate-clause-ok
returns-in-Evaluate-clause-ok g c = rw c.in-Evaluate.is (IfOk-weaker c.tell_evaluation.result _ _ (λ line said. (refl, said)) (rw c.deref-in-Evaluate.ensures.value at c.tell_evaluation.ensures.ok))

pub returns-in-Forge-clause-ok : goal.returns-in-Forge-clause-ok
returns-in-Forge-clause-ok g c = rw c.in-Forge.is (refl, c.tell_forging.ensures)

pub returns-in-FindIntersection-clause-ok : goal.returns-in-FindIntersection-clause-ok
returns-in-FindIntersection-clause-ok g c = rw c.in-FindIntersection.is (IfOk-weaker c.tell_intersection.result _ _ (λ line said. (refl, said)) (rw c.deref-in-FindIntersection.ensures.value at c.tell_intersection.ensures.ok))

pub returns-in-NextBlock-clause-ok : goal.returns-in-NextBlock-clause-ok
returns-in-NextBlock-clause-ok g c = rw c.in-NextBlock.is (IfOk-weaker c.tell_next.result _ _ (λ line said. (refl, said)) c.tell_next.ensures.ok)

pub returns-in-Flush-clause-ok : goal.returns-in-Flush-clause-ok
returns-in-Flush-clause-ok g c = rw c.in-Flush.is (rw c.tell_flush.ensures.same refl, c.tell_flush.ensures.told)

pub returns-in-Stop-clause-ok : goal.returns-in-Stop-clause-ok
returns-in-Stop-clause-ok g c = rw c.in-Stop.is (rw c.tell_stop.ensures.same refl, c.tell_stop.ensures.stops, c.tell_stop.ensures.told)
