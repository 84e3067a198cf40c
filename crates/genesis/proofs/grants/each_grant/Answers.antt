use Rattle.std.proofs.Common.{◌≡◌, Err, ap, arith, ok_or}
use Rattle.std.proofs.lemmas.Grind.{common_steps}
use Rattle.genesis.specs.declared.genesis_fault.GenesisFault.TheVariants.{BadCoin}
use Rattle.genesis.specs.Judgement.{grant_of}
use Rattle.genesis.specs.View.{placed_view, grant_view}
use Rattle.genesis.proofs.Gathering.{some_found, none_seen, fault_told, none_found, one_found, stops, ends}
use Rattle.genesis.proofs.grants.each_grant.Goals as goal

pub loop-output-init : goal.loop-output-init
loop-output-init c = none_found placed_view grant_view grant_of c.in_ok-grants.grants.items c.args.placed.now c.in_ok-grants.ensures.items

pub returns-in_err-grant : goal.returns-in_err-grant
returns-in_err-grant c =
    let is : c.from_residual-in_err-grant.result ≡ Err BadCoin = grind (arith, common_steps) in
    fault_told _ BadCoin _ _ is
    (stops placed_view grant_view grant_of c.loop-output.grants.items c.args.placed.now c.loop-output.output-index _ _ c.loop-output-test.true c.output-item.is (none_seen grant_view _ _ c.of_placed.ensures c.in_err-grant.ensures.ok_part) c.loop-output.invariant)

pub loop-output-preserved : goal.loop-output-preserved
loop-output-preserved c =
    one_found placed_view grant_view grant_of c.loop-output.grants.items c.push.new.self.items c.args.placed.now c.loop-output.output-index _ _ c.in_ok-grant.grant c.loop-output-test.true c.output-item.is
    (some_found grant_view _ _ BadCoin _ c.of_placed.ensures c.in_ok-grant.ensures.value) c.in_ok-push.ensures.items c.loop-output.invariant

pub returns : goal.returns
returns c = ap (λ found. ok_or found BadCoin) (ends placed_view grant_view grant_of c.loop-output.grants.items c.args.placed.now c.loop-output.output-index c.loop-output-test.false c.loop-output.invariant)
