use Rattle.std.proofs.Common.{◌≡◌, true, false, Some, None, [], ◌∷◌, string_bytes, refl, sym, ap, ◌∙◌, arith}
use Rattle.std.proofs.lemmas.Grind.{common_steps}
use Rattle.genesis.specs.Document.{is_known}
use Rattle.genesis.specs.View.{texts_of}
use Rattle.hints.proofs.UnknownKeys.{first_unknown, unknown_in-keys, is_known-texts, seen_text}
use Rattle.hints.proofs.genesis_spot.unknown_key.Goals as goal

pub returns-then-not-contains : goal.returns-then-not-contains
returns-then-not-contains c =
    let known = texts_of c.args.known.now in
    let key = c.in-Some.key.now in
    let looked : is_known known (string_bytes key) ≡ false = sym (is_known-texts c.args.known.now (string_bytes key)) ∙ sym (seen_text c.args.known.now _ _ c.contains.result c.as_str.ensures.value c.contains.ensures.value) ∙ c.if-not-contains.true in
    let iter : c.loop-key.key-iterator ≡ key ∷ c.next.new.self = grind (arith, common_steps) in
    let first : first_unknown known c.loop-key.key-iterator ≡ Some (string_bytes key) = rw (iter, looked) refl in
    let told = sym first ∙ c.loop-key.invariant.2 ∙ sym (unknown_in-keys known c.args.table.now.entries) in
    ap Some c.as_str-then-not-contains.ensures.value ∙ told

pub loop-key-preserved : goal.loop-key-preserved
loop-key-preserved c =
    let known = texts_of c.args.known.now in
    let key = c.in-Some.key.now in
    let looked : is_known known (string_bytes key) ≡ true = sym (is_known-texts c.args.known.now (string_bytes key)) ∙ sym (seen_text c.args.known.now _ _ c.contains.result c.as_str.ensures.value c.contains.ensures.value) ∙ c.if-not-contains.false in
    let iter : c.loop-key.key-iterator ≡ key ∷ c.next.new.self = grind (arith, common_steps) in
    let first : first_unknown known c.loop-key.key-iterator ≡ first_unknown known c.next.new.self = rw (iter, looked) refl in
    (tt, tt, sym first ∙ c.loop-key.invariant.2)

pub returns : goal.returns
returns c =
    let known = texts_of c.args.known.now in
    let none : c.loop-key.key-iterator ≡ [] = grind (arith, common_steps) in
    let all : first_unknown known c.loop-key.key-iterator ≡ None = rw none refl in
    sym all ∙ c.loop-key.invariant.2 ∙ sym (unknown_in-keys known c.args.table.now.entries)
