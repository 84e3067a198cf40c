use Rattle.std.proofs.Common.{◌≡◌, sym, subst, arith}
use Rattle.model.specs.Cbor.{nesting}
use Rattle.model.specs.Value.{item_of_assets, item_of_number}
use Rattle.value.specs.View.{policy_of}
use Rattle.value.specs.Held.{mint_of}
use Rattle.value.proofs.Nesting.{mint_nests, some_seen}
use Rattle.value.proofs.mint.Mint.nesting.Goals as goal

pub returns-clause-deep : goal.returns-clause-deep
returns-clause-deep c =
    let held = c.self.inside in
    let some = some_seen policy_of held.policies.items _ (omega (arith, held.policies.ok.0)) (c.if-is_empty.ensures {u = tt}) in
    subst (λ mint. 3 ≡ nesting (item_of_assets item_of_number mint)) c.self.view_is (sym (mint_nests (mint_of held) some c.self.invariant.is_mint))
