use Rattle.std.proofs.Common.{◌≡◌, Some, refl, arith}
use Rattle.std.proofs.lemmas.Grind.{common_steps}
use Rattle.toml.specs.View.{table_view}
use Rattle.hints.specs.SpotView.{spot_view}
use Rattle.hints.specs.GenesisSpots.{document_spot}
use Rattle.hints.proofs.HintFaults.{untold_genesis, spot_tells, stop_tells}
use Rattle.hints.proofs.genesis_hint.GenesisHint.of_bytes.Goals as goal

pub returns-in-Err : goal.returns-in-Err
returns-in-Err c =
    stop_tells c.args.bytes.now c.in-Err.error c.in_ok-of_error-in-Err.field-0 (λ utf8. c.in-Err.ensures.refused (c.in_ok-of_error-in-Err.ensures.memory refl) utf8) c.in_ok-of_error-in-Err.ensures.stop

pub returns-in-Some : goal.returns-in-Some
returns-in-Some c =
    let document = table_view c.in-Ok.table in
    let is : document_spot document ≡ Some (spot_view c.in-Some.spot) = grind (arith, common_steps) in
    spot_tells c.args.bytes.now document (spot_view c.in-Some.spot) c.in_ok-of_spot-in-Some.field-0 c.in-Ok.ensures.ok.1 is (rw c.in-Some.is at c.in_ok-spot.ensures.fault) c.in_ok-of_spot-in-Some.ensures

pub returns : goal.returns
returns c = untold_genesis c.args.bytes.now (table_view c.in-Ok.table) c.in-Ok.ensures.ok.1 (rw c.in-None.is at c.in_ok-spot.ensures.fault)
