use Rattle.model.specs.Ledger.{network_on}
use Rattle.chainsel.proofs.Founds.{gains_both}
use Rattle.chainsel.proofs.Sifted.{sifted_popped}
use Rattle.chainsel.proofs.sifting.judge_behind.Goals as goal

pub returns-in_default-clause-dead : goal.returns-in_default-clause-dead
returns-in_default-clause-dead g c = λ genesis opened chain new at dead. (c.loop.invariant.sifted genesis opened chain new at dead).dead

pub loop-preserved : goal.loop-preserved
loop-preserved g c =
    let store = c.args.store.now in
    let start = c.args.found.now.hashes.items in
    record {
      gains = gains_both store start c.loop.found.hashes.items c.judge_next.new.found.hashes.items c.loop.invariant.gains c.in_ok-judge_next.ensures.found;
      sifted = λ genesis opened chain new at dead.
          let parts = sifted_popped (network_on genesis g.S.SigScheme.verifies opened) chain store new c.loop.found.hashes.items c.loop.waiting.items c.pop.new.self.items c.in-Some.before c.in-Some.ensures.items
          (c.loop.invariant.sifted genesis opened chain new at dead) in
          c.in_ok-judge_next.ensures.sifted genesis opened chain new parts.1 parts.0;
    }

pub returns-clause-dead : goal.returns-clause-dead
returns-clause-dead g c = λ genesis opened chain new at dead. (c.loop.invariant.sifted genesis opened chain new at dead).dead
