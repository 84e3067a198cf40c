use Rattle.std.proofs.Common.{List, map, Contains, refl, sym, subst}
use Rattle.std.specs.Global.{Vec}
use Rattle.model.specs.Ledger.{network_on}
use Rattle.model.proofs.MappedLists.{contains_map}
use Rattle.chainsel.specs.Judged.{IsSifted, GainsFound}
use Rattle.chainsel.specs.declared.found.Found.{Found}
use Rattle.chainsel.proofs.Founds.{gains_both}
use Rattle.chainsel.proofs.sifting.judge_next.Goals as goal
use Rattle.chainsel.proofs.sifting.judge_next.Goals.{then-is_fit+then-follows+in_ok-judge, else-is_fit}

pub judge-requires-clause-fit : goal.judge-requires-clause-fit
judge-requires-clause-fit g c =
    let items = c.deref-stored-items.result.now in
    let stored = c.stored-item.result in
    let among : Contains (map (λ x. x.now) c.in_ok-successors.successors.items) stored.now =
    subst (λ (ss : List _). Contains (map (λ x. x.now) ss) stored.now) c.deref-stored-items.ensures.value
    (contains_map (λ x. x.now) items stored (c.loop-stored.stored-index, c.loop-stored-test.true, sym c.stored-item.is)) in
    record {
      stored = stored.now;
      member = ((c.in_ok-successors.ensures.found.members stored.now).0 among).0;
      block = sym c.live.ensures;
      fit = c.if-is_fit.ensures.0 refl;
    }

pub loop-stored-preserved : goal.loop-stored-preserved
loop-stored-preserved g c =
    let store = c.args.store.now in
    let start = c.args.found.now.hashes.items in
    let before = c.loop-stored.invariant in
    elim c.if-is_fit.branch [
      | then-is_fit+then-follows+in_ok-judge w ↦
          let judged = w.in_ok-judge.ensures in
          record {
            gains = subst (λ (f : Found). GainsFound store start f.hashes.items) (sym w.found-is)
                (gains_both store start c.loop-stored.found.hashes.items w.judge.new.found.hashes.items before.gains judged.found);
            sifted = λ genesis opened chain new at was.
                let network = network_on genesis g.S.SigScheme.verifies opened in
                subst (λ (f : Found). IsSifted network chain store new f.hashes.items c.if-is_fit.waiting.items) (sym w.found-is)
                (subst (λ (v : Vec _). IsSifted network chain store new w.judge.new.found.hashes.items v.items) (sym w.waiting-is)
                (judged.sifted genesis opened chain new at (before.sifted genesis opened chain new at was)));
          }
      | else-is_fit w ↦ record {
        gains = subst (λ (f : Found). GainsFound store start f.hashes.items) (sym w.found-is) before.gains;
        sifted = λ genesis opened chain new at was.
            let network = network_on genesis g.S.SigScheme.verifies opened in
            subst (λ (f : Found). IsSifted network chain store new f.hashes.items c.if-is_fit.waiting.items) (sym w.found-is)
            (subst (λ (v : Vec _). IsSifted network chain store new c.loop-stored.found.hashes.items v.items) (sym w.waiting-is)
            (before.sifted genesis opened chain new at was));
      }
    ]
