use Rattle.std.proofs.Common.{◌≡◌, Some, None, arith}
use Rattle.std.proofs.lemmas.Grind.{common_steps}
use Rattle.toml.specs.View.{table_view}
use Rattle.genesis.specs.Document.{written_in}
use Rattle.genesis.specs.View.{written_view}
use Rattle.hints.specs.GenesisSpots.{shape_spot}
use Rattle.hints.specs.SpotView.{spot_view}
use Rattle.hints.proofs.SpotFaults.{told_as, by_shape, by_written, by_neither}
use Rattle.hints.proofs.genesis_spot.document_spot.Goals as goal

pub returns-in-Some : goal.returns-in-Some
returns-in-Some c =
    let document = table_view c.args.table.now in
    let is : Some (spot_view c.in-Some.spot) ≡ shape_spot document = grind (arith, common_steps) in
    let spot = by_shape document _ is in
    record { spot = spot; fault = told_as document _ spot }

pub returns-in-Ok : goal.returns-in-Ok
returns-in-Ok c =
    let document = table_view c.args.table.now in
    let none : shape_spot document ≡ None = grind (arith, common_steps) in
    let written : written_in document ≡ Some (written_view c.in-Ok.written) = grind (arith, common_steps) in
    let spot = by_written document _ _ none written c.written_spot.ensures in
    record { spot = spot; fault = told_as document _ spot }

pub returns-in-Err : goal.returns-in-Err
returns-in-Err c =
    let document = table_view c.args.table.now in
    let none : shape_spot document ≡ None = grind (arith, common_steps) in
    let x = c.in-Err in
    let nothing : written_in document ≡ None = grind (arith, common_steps) in
    let spot = by_neither document none nothing in
    record { spot = spot; fault = told_as document _ spot }
