use Rattle.std.proofs.Common.{◌≡◌, ok_or, Err, sym, ap, ◌∙◌, map, arith, Option, List}
use Rattle.std.proofs.lemmas.Grind.{common_steps}
use Rattle.toml.specs.View.{view}
use Rattle.genesis.specs.declared.genesis_fault.GenesisFault.TheVariants.{BadShape}
use Rattle.genesis.specs.Steps.{each}
use Rattle.genesis.specs.Document.{Entry, entry_of}
use Rattle.genesis.specs.View.{entry_view}
use Rattle.genesis.proofs.Gathering.{some_found, none_seen, fault_told, none_found, one_found, stops, ends}
use Rattle.genesis.proofs.KnownKeys.{values_of-view}
use Rattle.genesis.proofs.document.entries_of.Goals as goal

pub loop-value-init : goal.loop-value-init
loop-value-init c = none_found view entry_view entry_of _ _ c.in_ok-entries.ensures.items

pub returns-in_err-entry : goal.returns-in_err-entry
returns-in_err-entry c =
    let is : c.from_residual-in_err-entry.result ≡ Err BadShape = grind (arith, common_steps) in
    let all = c.deref-value-items.result.now in
    let values = ap (each entry_of) (values_of-view c.args.array.now.items ∙ ap (map view) (sym c.deref-value-items.ensures.value)) in
    fault_told _ BadShape _ _ is
    (values ∙ stops view entry_view entry_of c.loop-value.entries.items all c.loop-value.value-index _ _ c.loop-value-test.true c.value-item.is (none_seen entry_view _ _ c.of_value.ensures c.in_err-entry.ensures.ok_part) c.loop-value.invariant)

pub loop-value-preserved : goal.loop-value-preserved
loop-value-preserved c =
    let all = c.deref-value-items.result.now in
    one_found view entry_view entry_of c.loop-value.entries.items c.push.new.self.items all c.loop-value.value-index _ _ c.in_ok-entry.entry c.loop-value-test.true c.value-item.is
    (some_found entry_view _ _ BadShape _ c.of_value.ensures c.in_ok-entry.ensures.value) c.in_ok-push.ensures.items c.loop-value.invariant

pub returns : goal.returns
returns c =
    let all = c.deref-value-items.result.now in
    let values = ap (each entry_of) (values_of-view c.args.array.now.items ∙ ap (map view) (sym c.deref-value-items.ensures.value)) in
    ap (λ (found : Option (List Entry)). ok_or found BadShape) (values ∙ ends view entry_view entry_of c.loop-value.entries.items all c.loop-value.value-index c.loop-value-test.false c.loop-value.invariant)
