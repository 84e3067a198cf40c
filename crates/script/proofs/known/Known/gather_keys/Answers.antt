use Rattle.std.proofs.Common.{◌≡◌, ◌<◌, ℕ, List, Some, None, length, sym, subst, refl, is_some, false}
use Rattle.model.specs.Transaction.{Address}
use Rattle.tx.specs.View.{address_of}
use Rattle.script.specs.Line.{OwnedByKey}
use Rattle.script.specs.Meaning.{address_on}
use Rattle.script.specs.Names.{Named}
use Rattle.script.specs.RequestView.{key_address_of}
use Rattle.script.specs.WordsView.{words_left}
use Rattle.script.proofs.Gathering.{fewer_words, key_named, key_unnamed, next_key_known, next_key_unknown, no_keys_left, gathered_more, all_gathered, none_wanted}
use Rattle.script.proofs.Asking.{free_so, no_some}
use Rattle.script.proofs.known.Known.gather_keys.Goals as goal

pub returns-in_default-address_on : goal.returns-in_default-address_on
returns-in_default-address_on c = λ names known.
    let word = c.in-Some.name.text.now in
    let none : is_some c.address_on.result ≡ false = no_some c.address_on.result c.in_default-address_on.not-Some in
    let unknown : address_on names (OwnedByKey word) ≡ None = free_so address_of c.address_on.result _ (c.address_on.ensures names known) none in
    let end = next_key_unknown names (words_left c.loop-name.left.words) word (sym c.in-Some.ensures.name) (key_unnamed names word unknown) in
    (refl, none_wanted _ _ _ (c.loop-name.invariant names known) end)

pub loop-name-smaller : goal.loop-name-smaller
loop-name-smaller c =
    let left = words_left c.loop-name.left.words in
    subst (λ (l : List (List ℕ)). length l < length left) (sym c.next_name.ensures.rest) (fewer_words left c.in-Some.name.text.now (sym c.in-Some.ensures.name))

pub loop-name-preserved : goal.loop-name-preserved
loop-name-preserved c = λ names known.
    let word = c.in-Some.name.text.now in
    let found : address_on names (OwnedByKey word) ≡ Some (address_of c.in-Some-address_on.address) = sym (c.in-Some-address_on.ensures names known) in
    let key : Named Address = record { name = word; bound = address_of c.in-Some-address_on.address } in
    let more = next_key_known names (words_left c.loop-name.left.words) word key (sym c.in-Some.ensures.name) (key_named names word key.bound found) in
    rw c.next_name.ensures.rest
    (gathered_more key_address_of c.loop-name.gathered.items c.push.new.self.items _ key _ _ _ c.in_ok-push.ensures.items (λ i. record { name = c.in_ok-name.ensures.items i; bound = key.bound }) (c.loop-name.invariant names known) more)

pub returns : goal.returns
returns c = λ names known.
    let none = sym c.in_default.ensures.name in
    all_gathered _ _ _ (c.loop-name.invariant names known) (no_keys_left names (words_left c.loop-name.left.words) none)
