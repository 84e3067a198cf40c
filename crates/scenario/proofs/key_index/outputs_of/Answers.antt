use Rattle.std.proofs.Common.{◌≡◌, ◌++◌, ◌∷◌, [], ◌∙◌, ℕ, List, map, take, ap, subst, sym}
use Rattle.std.specs.Prelude.{IfOk}
use Rattle.std.specs.FinSet as set
use Rattle.std.proofs.lemmas.List.{map-append, take_all}
use Rattle.model.specs.Transaction.{address_bytes}
use Rattle.tx.specs.View.{address_of}
use Rattle.watching.specs.Owned.{owner_cmp}
use Rattle.watching.specs.Which.{Addresses}
use Rattle.script.specs.declared.request.KeyAddress.{KeyAddress}
use Rattle.script.specs.RequestView.{key_address_of}
use Rattle.scenario.proofs.IndexLines.{seen_twice, view_more}
use Rattle.scenario.proofs.key_index.outputs_of.Goals as goal

pub loop-key-preserved : goal.loop-key-preserved
loop-key-preserved c =
    let key = c.key-item.result in
    ap (map (λ a. address_bytes (address_of a))) c.in_ok-push.ensures.items
    ∙ map-append (λ a. address_bytes (address_of a)) c.loop-key.addresses.items (key.address ∷ [])
    ∙ ap (λ (l : List (List ℕ)). l ++ address_bytes (address_of key.address) ∷ []) c.loop-key.invariant
    ∙ sym (view_more (λ k. address_bytes (address_of k.address)) c.args.keys.now c.loop-key.key-index key c.loop-key-test.true c.key-item.is)

pub returns : goal.returns
returns c =
    let whole : take c.loop-key.key-index c.args.keys.now ≡ c.args.keys.now = take_all c.loop-key.key-index c.args.keys.now c.loop-key-test.false in
    let all : map (λ a. address_bytes (address_of a)) c.deref.result.now ≡ map (λ k. address_bytes k.bound) (map key_address_of c.args.keys.now) =
    ap (map (λ a. address_bytes (address_of a))) c.deref.ensures.value ∙ c.loop-key.invariant ∙ ap (map (λ (k : KeyAddress). address_bytes (address_of k.address))) whole
    ∙ seen_twice (λ k. address_bytes k.bound) key_address_of c.args.keys.now in
    subst (λ (l : List (List ℕ)). IfOk c.addresses.result (λ which. which ≡ Addresses (set.from_list {R = owner_cmp} l))) all c.addresses.ensures
