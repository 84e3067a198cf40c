use Rattle.std.proofs.Common.{◌≡◌, ℕ, true, false, List, map, Some, None, sym, subst, rules}
use Rattle.model.specs.Explaining.{IsFailingAt}
use Rattle.model.specs.Script.{script_hash_of}
use Rattle.model.specs.Rules.{is_among}
use Rattle.utxo_rules.proofs.Finding.{pass_more, fails_here, all_pass_here, finds_same}
use Rattle.utxo_rules.proofs.first_witnesses.first_unneeded.Goals as goal

pub returns-then-not-contains : goal.returns-then-not-contains
returns-then-not-contains c =
    let hashes = c.of-sought.result.sorted.items in
    let scripts = map script_hash_of c.args.scripts.now in
    let i = c.loop-script.script-index in
    let bad : is_among hashes (script_hash_of c.script-item.result) ≡ false = search (rules, c.contains.ensures, c.as_bytes.ensures, c.hash-hash.ensures, c.if-not-contains.true) in
    let first = fails_here script_hash_of (is_among hashes) c.args.scripts.now i c.script-item.result c.loop-script-test.true c.script-item.is bad c.loop-script.invariant in
    let of_hash = subst (λ (h : List ℕ). IsFailingAt (is_among hashes) scripts i h) (sym c.hash-hash.ensures) first in
    finds_same (is_among hashes) (is_among c.args.needed.items) c.of-sought.ensures scripts (Some c.hash-hash.result.bytes) (i, of_hash)

pub loop-script-preserved : goal.loop-script-preserved
loop-script-preserved c =
    let hashes = c.of-sought.result.sorted.items in
    let here : is_among hashes (script_hash_of c.script-item.result) ≡ true = search (rules, c.contains.ensures, c.as_bytes.ensures, c.hash-hash.ensures, c.if-not-contains.false) in
    pass_more script_hash_of (is_among hashes) c.args.scripts.now c.loop-script.script-index c.script-item.result c.loop-script-test.true c.script-item.is here c.loop-script.invariant

pub returns : goal.returns
returns c =
    let hashes = c.of-sought.result.sorted.items in
    let scripts = map script_hash_of c.args.scripts.now in
    finds_same (is_among hashes) (is_among c.args.needed.items) c.of-sought.ensures scripts None
    (all_pass_here script_hash_of (is_among hashes) c.args.scripts.now c.loop-script.script-index c.loop-script-test.false c.loop-script.invariant)
