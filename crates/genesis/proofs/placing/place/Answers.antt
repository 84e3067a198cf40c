use Rattle.std.proofs.Common.{◌≡◌, Err, refl, ap, arith, ok_or}
use Rattle.std.proofs.lemmas.Grind.{common_steps}
use Rattle.genesis.specs.declared.genesis_fault.GenesisFault.TheVariants.{BadAddress}
use Rattle.genesis.specs.Judgement.{placed_of}
use Rattle.genesis.specs.View.{entry_view, placed_view}
use Rattle.genesis.proofs.Gathering.{some_found, none_seen, fault_told, none_found, one_found, stops, ends}
use Rattle.genesis.proofs.placing.place.Goals as goal

pub loop-entry-init : goal.loop-entry-init
loop-entry-init c = none_found entry_view placed_view (placed_of c.args.network) _ _ c.in_ok-placed.ensures.items

pub returns-in_err-output : goal.returns-in_err-output
returns-in_err-output c =
    let is : c.from_residual-in_err-output.result ≡ Err BadAddress = grind (arith, common_steps) in
    fault_told _ BadAddress _ _ is
    (stops entry_view placed_view (placed_of c.args.network) c.loop-entry.placed.items c.args.entries.now c.loop-entry.entry-index _ _ c.loop-entry-test.true refl (none_seen placed_view _ _ c.of_entry.ensures c.in_err-output.ensures.ok_part) c.loop-entry.invariant)

pub loop-entry-preserved : goal.loop-entry-preserved
loop-entry-preserved c =
    one_found entry_view placed_view (placed_of c.args.network) c.loop-entry.placed.items c.push.new.self.items c.args.entries.now c.loop-entry.entry-index _ _ c.in_ok-output.output c.loop-entry-test.true refl
    (some_found placed_view _ _ BadAddress _ c.of_entry.ensures c.in_ok-output.ensures.value) c.in_ok-push.ensures.items c.loop-entry.invariant

pub returns : goal.returns
returns c = ap (λ found. ok_or found BadAddress) (ends entry_view placed_view (placed_of c.args.network) c.loop-entry.placed.items c.args.entries.now c.loop-entry.entry-index c.loop-entry-test.false c.loop-entry.invariant)
