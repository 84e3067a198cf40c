use Rattle.std.proofs.Common.{sym, ap, ◌∙◌, map}
use Rattle.toml.specs.View.{view}
use Rattle.hints.specs.GenesisSpots.{first_found, entry_spot}
use Rattle.hints.specs.SpotView.{spot_view}
use Rattle.hints.proofs.FirstFound.{found_here, not_here, nowhere, some_seen, none_seen}
use Rattle.hints.proofs.UnknownKeys.{values_of-view}
use Rattle.hints.proofs.genesis_spot.first_entry.Goals as goal

pub returns-in-Some : goal.returns-in-Some
returns-in-Some c =
    let all = c.deref-value-items.result.now in
    let values = ap (first_found entry_spot 0) (values_of-view c.args.array.now.items ∙ ap (map view) (sym c.deref-value-items.ensures.value)) in
    sym (found_here view entry_spot all c.loop-output.output _ _ _ c.loop-output-test.true c.value-item.is (some_seen spot_view _ _ _ c.entry_spot.ensures c.in-Some.is) c.loop-output.invariant) ∙ sym values

pub loop-output-preserved : goal.loop-output-preserved
loop-output-preserved c =
    not_here view entry_spot c.deref-value-items.result.now c.loop-output.output _ _ c.loop-output-test.true c.value-item.is (none_seen spot_view _ _ c.entry_spot.ensures c.in_default.is) c.loop-output.invariant

pub returns : goal.returns
returns c =
    let all = c.deref-value-items.result.now in
    let values = ap (first_found entry_spot 0) (values_of-view c.args.array.now.items ∙ ap (map view) (sym c.deref-value-items.ensures.value)) in
    sym (nowhere view entry_spot all c.loop-output.output c.loop-output-test.false c.loop-output.invariant) ∙ sym values
