use Rattle.std.proofs.Common.{List, map, refl, sym, ap, ◌∙◌}
use Rattle.std.specs.Arc.{arc_value}
use Rattle.model.specs.Transaction.{transaction_id_of}
use Rattle.conversing.specs.declared.found.Found.TheVariants.{Mempool}
use Rattle.conversing.specs.declared.outcome.Outcome.TheVariants.{Answered}
use Rattle.serving.proofs.Gathering.{map_twice}
use Rattle.serving.proofs.Telling.{answered, asked_so}
use Rattle.serving.proofs.node.Node.tell_mempool.Goals as goal

pub returns-in-Ok-clause-ok : goal.returns-in-Ok-clause-ok
returns-in-Ok-clause-ok g c =
    let asked = c.in_ok-handles.ensures.mempool in
    let ids = c.deref-in-Ok.result in
    answered (Answered (Mempool ids)) asked (record {
      ids = ids;
      told = refl;
      so = asked_so asked (λ s h.
          c.deref-in-Ok.ensures.value ∙ (c.in-Ok.ensures ∙ (ap (λ (xs : List _). map (λ x. transaction_id_of (arc_value x)) xs) c.deref.ensures.value
          ∙ (sym (map_twice arc_value transaction_id_of c.in_ok-handles.handles.items) ∙ ap (map transaction_id_of) h))));
    }) c.tell.ensures
