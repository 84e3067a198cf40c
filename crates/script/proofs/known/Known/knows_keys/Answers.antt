use Rattle.std.proofs.Common.{◌≡◌, ◌∙◌, ◌<◌, ℕ, List, None, true, false, not, refl, is_some, length, sym, ap, subst}
use Rattle.tx.specs.View.{address_of}
use Rattle.script.specs.Line.{OwnedByKey}
use Rattle.script.specs.Meaning.{address_on}
use Rattle.script.specs.WordsView.{words_left}
use Rattle.script.proofs.Asking.{free_so, bound_so}
use Rattle.script.proofs.Gathering.{fewer_words, key_named, key_unnamed, next_key_known, next_key_unknown, no_keys_left, some_more}
use Rattle.script.proofs.known.Known.knows_keys.Goals as goal

pub returns-then-is_none : goal.returns-then-is_none
returns-then-is_none c = λ names known.
    let word = c.in-Some.name.text.now in
    let none : is_some c.address_on.result ≡ false = c.is_none.ensures ∙ ap not c.if-is_none.true in
    let unknown : address_on names (OwnedByKey word) ≡ None = free_so address_of c.address_on.result _ (c.address_on.ensures names known) none in
    let end = next_key_unknown names (words_left c.loop-name.left.words) word (sym c.in-Some.ensures.name) (key_unnamed names word unknown) in
    sym (c.loop-name.invariant names known ∙ rw end refl)

pub loop-name-smaller : goal.loop-name-smaller
loop-name-smaller c =
    let left = words_left c.loop-name.left.words in
    subst (λ (l : List (List ℕ)). length l < length left) (sym c.next_name.ensures.rest) (fewer_words left c.in-Some.name.text.now (sym c.in-Some.ensures.name))

pub loop-name-preserved : goal.loop-name-preserved
loop-name-preserved c = λ names known.
    let word = c.in-Some.name.text.now in
    let some : is_some c.address_on.result ≡ true = c.is_none.ensures ∙ ap not c.if-is_none.false in
    let address = bound_so address_of c.address_on.result _ (c.address_on.ensures names known) some in
    let more = next_key_known names (words_left c.loop-name.left.words) word (record { name = word; bound = address.0 }) (sym c.in-Some.ensures.name) (key_named names word address.0 address.1) in
    c.loop-name.invariant names known ∙ some_more _ _ _ more ∙ rw c.next_name.ensures.rest refl

pub returns : goal.returns
returns c = λ names known.
    let none = sym c.in_default.ensures.name in
    sym (c.loop-name.invariant names known ∙ rw (no_keys_left names (words_left c.loop-name.left.words) none) refl)
