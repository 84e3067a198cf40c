use Rattle.std.proofs.Common.{◌≡◌, ◌≤◌, length, map, option_map, sym, ap, ◌∙◌, arith}
use Rattle.std.proofs.lemmas.Grind.{common_steps}
use Rattle.std.proofs.lemmas.List.{length-map}
use Rattle.genesis.specs.Steps.{each}
use Rattle.genesis.specs.Judgement.{placed_of, grants_of}
use Rattle.genesis.specs.View.{numbers_view, settings_view, entry_view, placed_view, grant_view}
use Rattle.genesis.proofs.Steps.{no_fault}
use Rattle.genesis.proofs.Ranges.{settings_found}
use Rattle.genesis.proofs.Faults.{judged_so, whole_genesis}
use Rattle.genesis.proofs.genesis.Genesis.of_written.Goals as goal

pub place-requires : goal.place-requires
place-requires c =
    let some = sym c.of_numbers.ensures ∙ ap (option_map settings_view) c.in_ok-settings.ensures.ok_part in
    let found = settings_found (numbers_view c.args.written.now.numbers) (settings_view c.in_ok-settings.settings) some in
    omega (arith, found.network.within.not_above)

pub invariant_of-result : goal.invariant_of-result
invariant_of-result c =
    let numbers = numbers_view c.args.written.now.numbers in
    let settings = settings_view c.in_ok-settings.settings in
    let entries = map entry_view c.deref.result.now in
    let placed = map placed_view c.in_ok-placed.placed.items in
    let grants = map grant_view c.in_ok-grants.grants.items in
    let some = sym c.of_numbers.ensures ∙ ap (option_map settings_view) c.in_ok-settings.ensures.ok_part in
    let found = settings_found numbers settings some in
    let places = no_fault (each (placed_of settings.params.network) entries) _ placed c.in_ok-placed.ensures in
    let granted = ap (λ ps. grants_of (map placed_view ps)) (sym c.deref-2.ensures.value) ∙ no_fault (grants_of (map placed_view c.deref-2.result.now)) _ grants c.in_ok-grants.ensures.grants in
    let count : length grants ≡ length c.in_ok-grants.grants.items = length-map c.in_ok-grants.grants.items grant_view in
    let low : 1 ≤ length c.in_ok-grants.grants.items = grind (arith, common_steps) in
    let high : length c.in_ok-grants.grants.items ≤ 10000 = grind (arith, common_steps) in
    record {
      genesis = whole_genesis numbers entries settings grants found (judged_so numbers entries settings placed grants found places granted) (record { not_below = omega arith; not_above = omega arith });
      supply = c.in_ok-grants.ensures.supply;
    }
