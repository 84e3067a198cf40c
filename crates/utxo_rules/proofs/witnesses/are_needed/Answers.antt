use Rattle.std.proofs.Common.{◌≡◌, true, false, map, refl, rules, ◌∙◌}
use Rattle.model.specs.Script.{script_hash_of}
use Rattle.model.specs.Rules.{is_among}
use Rattle.utxo_rules.proofs.Asks.{next_passes, next_fails, all_pass}
use Rattle.utxo_rules.proofs.Searches.{same_among}
use Rattle.utxo_rules.proofs.witnesses.are_needed.Goals as goal

pub loop-script-init : goal.loop-script-init
loop-script-init c = refl

pub returns-then-not-contains : goal.returns-then-not-contains
returns-then-not-contains c =
    let hashes = c.of-sought.result.sorted.items in
    let bad : is_among hashes (script_hash_of c.script-item.result) ≡ false = search (rules, c.contains.ensures, c.as_bytes.ensures, c.hash.ensures, c.if-not-contains.true) in
    next_fails script_hash_of (is_among hashes) c.args.scripts.now c.loop-script.script-index c.script-item.result c.loop-script-test.true c.script-item.is bad c.loop-script.invariant
    ∙ same_among (map script_hash_of c.args.scripts.now) hashes c.args.needed.items c.of-sought.ensures

pub loop-script-preserved : goal.loop-script-preserved
loop-script-preserved c =
    let hashes = c.of-sought.result.sorted.items in
    let here : is_among hashes (script_hash_of c.script-item.result) ≡ true = search (rules, c.contains.ensures, c.as_bytes.ensures, c.hash.ensures, c.if-not-contains.false) in
    next_passes script_hash_of (is_among hashes) c.args.scripts.now c.loop-script.script-index c.script-item.result c.loop-script-test.true c.script-item.is here c.loop-script.invariant

pub returns : goal.returns
returns c =
    let hashes = c.of-sought.result.sorted.items in
    all_pass script_hash_of (is_among hashes) c.args.scripts.now c.loop-script.script-index c.loop-script-test.false c.loop-script.invariant
    ∙ same_among (map script_hash_of c.args.scripts.now) hashes c.args.needed.items c.of-sought.ensures
