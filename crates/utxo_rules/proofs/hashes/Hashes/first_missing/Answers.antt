use Rattle.std.proofs.Common.{◌≡◌, ℕ, true, false, List, [], get_or, sym, ap, subst, ◌∙◌, rules}
use Rattle.std.specs.List.{list_all}
use Rattle.std.proofs.lemmas.List.{map-id}
use Rattle.model.specs.Rules.{is_among}
use Rattle.model.specs.Explaining.{IsFailingAt}
use Rattle.utxo_rules.proofs.Finding.{pass_more, fails_here, all_pass_here, get_or_same}
use Rattle.utxo_rules.proofs.hashes.Hashes.first_missing.Goals as goal

pub returns-then-not-contains : goal.returns-then-not-contains
returns-then-not-contains c =
    let test = is_among c.args.self.now.sorted.items in
    let hashes = c.args.hashes.now in
    let i = c.loop-hash.hash-index in
    let hash = get_or hashes i [] in
    let bad : test hash ≡ false = search (rules, c.contains.ensures, c.if-not-contains.true) in
    let first = fails_here (λ (h : List ℕ). h) test hashes i hash c.loop-hash-test.true (get_or_same hashes i [] c.loop-hash-test.true) bad c.loop-hash.invariant in
    (i, subst (λ (hs : List (List ℕ)). IsFailingAt test hs i hash) (map-id hashes) first)

pub loop-hash-preserved : goal.loop-hash-preserved
loop-hash-preserved c =
    let test = is_among c.args.self.now.sorted.items in
    let hashes = c.args.hashes.now in
    let i = c.loop-hash.hash-index in
    let hash = get_or hashes i [] in
    let here : test hash ≡ true = search (rules, c.contains.ensures, c.if-not-contains.false) in
    pass_more (λ (h : List ℕ). h) test hashes i hash c.loop-hash-test.true (get_or_same hashes i [] c.loop-hash-test.true) here c.loop-hash.invariant

pub returns : goal.returns
returns c =
    let test = is_among c.args.self.now.sorted.items in
    ap (list_all test) (sym (map-id c.args.hashes.now)) ∙ all_pass_here (λ (h : List ℕ). h) test c.args.hashes.now c.loop-hash.hash-index c.loop-hash-test.false c.loop-hash.invariant
