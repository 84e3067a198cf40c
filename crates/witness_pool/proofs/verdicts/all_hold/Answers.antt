use Rattle.std.proofs.Common.{◌≡◌, true, false, map, refl, rules}
use Rattle.std.specs.List.{list_all}
use Rattle.model.specs.Script.{holds}
use Rattle.timelock.specs.View.{key_bytes, interval_of}
use Rattle.witness_pool.proofs.Loops.{goes_on, stops, ends}
use Rattle.witness_pool.proofs.verdicts.all_hold.Goals as goal

pub loop-script-init : goal.loop-script-init
loop-script-init c = refl

pub returns-then-not-holds : goal.returns-then-not-holds
returns-then-not-holds c =
    let holding = holds (map key_bytes c.args.keys.now) (interval_of c.args.interval) in
    let bad : holding c.script-item.result ≡ false = search (rules, c.holds.ensures, c.if-not-holds.true) in
    stops (list_all holding) holding (λ x xs. refl) c.args.scripts.now c.loop-script.script-index c.script-item.result c.loop-script-test.true c.script-item.is bad c.loop-script.invariant

pub loop-script-preserved : goal.loop-script-preserved
loop-script-preserved c =
    let holding = holds (map key_bytes c.args.keys.now) (interval_of c.args.interval) in
    let here : holding c.script-item.result ≡ true = search (rules, c.holds.ensures, c.if-not-holds.false) in
    goes_on (list_all holding) holding (λ x xs. refl) c.args.scripts.now c.loop-script.script-index c.script-item.result c.loop-script-test.true c.script-item.is here c.loop-script.invariant

pub returns : goal.returns
returns c =
    let holding = holds (map key_bytes c.args.keys.now) (interval_of c.args.interval) in
    ends (list_all holding) holding (λ x xs. refl) c.args.scripts.now c.loop-script.script-index refl c.loop-script-test.false c.loop-script.invariant
