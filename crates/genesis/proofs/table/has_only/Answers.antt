use Rattle.std.proofs.Common.{◌≡◌, true, false, [], ◌∷◌, string_bytes, refl, sym, ◌∙◌, arith}
use Rattle.std.proofs.lemmas.Grind.{common_steps}
use Rattle.genesis.specs.Document.{is_known}
use Rattle.genesis.specs.View.{texts_of}
use Rattle.genesis.proofs.KnownKeys.{are_known, has_only-keys, is_known-texts, seen_text}
use Rattle.genesis.proofs.table.has_only.Goals as goal

pub returns-then-not-contains : goal.returns-then-not-contains
returns-then-not-contains c =
    let known = texts_of c.args.known.now in
    let key = c.in-Some.key.now in
    let looked : is_known known (string_bytes key) ≡ false = sym (is_known-texts c.args.known.now (string_bytes key)) ∙ sym (seen_text c.args.known.now _ _ c.contains.result c.as_str.ensures.value c.contains.ensures.value) ∙ c.if-not-contains.true in
    let iter : c.loop-key.key-iterator ≡ key ∷ c.next.new.self = grind (arith, common_steps) in
    let first : are_known known c.loop-key.key-iterator ≡ false = rw (iter, looked) refl in
    sym first ∙ c.loop-key.invariant.2 ∙ sym (has_only-keys known c.args.table.now.entries)

pub loop-key-preserved : goal.loop-key-preserved
loop-key-preserved c =
    let known = texts_of c.args.known.now in
    let key = c.in-Some.key.now in
    let looked : is_known known (string_bytes key) ≡ true = sym (is_known-texts c.args.known.now (string_bytes key)) ∙ sym (seen_text c.args.known.now _ _ c.contains.result c.as_str.ensures.value c.contains.ensures.value) ∙ c.if-not-contains.false in
    let iter : c.loop-key.key-iterator ≡ key ∷ c.next.new.self = grind (arith, common_steps) in
    let first : are_known known c.loop-key.key-iterator ≡ are_known known c.next.new.self = rw (iter, looked) refl in
    (tt, tt, sym first ∙ c.loop-key.invariant.2)

pub returns : goal.returns
returns c =
    let known = texts_of c.args.known.now in
    let none : c.loop-key.key-iterator ≡ [] = grind (arith, common_steps) in
    let all : are_known known c.loop-key.key-iterator ≡ true = rw none refl in
    sym all ∙ c.loop-key.invariant.2 ∙ sym (has_only-keys known c.args.table.now.entries)
