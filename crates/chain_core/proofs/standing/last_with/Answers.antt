use Rattle.std.proofs.Common.{◌≡◌, ℕ, suc, ◌+◌, ◌-◌, ◌<◌, List, length, drop, Some, refl, subst, arith}
use Rattle.std.specs.Prelude.{slice_get}
use Rattle.std.specs.List.{AllByRecursion}
use Rattle.std.proofs.lemmas.Option.{slice_get_read}
use Rattle.model.specs.Transaction.{Transaction}
use Rattle.model.specs.Block.{Block}
use Rattle.model.specs.Asked.{NoTxHas, IsFirstAt}
use Rattle.chain_core.proofs.TxPlaces.{last_found, none_late, all_from_here, all_past_end}
use Rattle.chain_core.proofs.standing.last_with.Goals as goal

pub loop-place-init : goal.loop-place-init
loop-place-init g c = record {
  within = omega arith;
  none = all_past_end (λ (b : Block). NoTxHas b.transactions c.args.id.bytes) c.args.chain.now _ (omega arith);
}

pub returns-in-Some : goal.returns-in-Some
returns-in-Some g c =
    let chain = c.args.chain.now in
    let place = c.loop-place.place - 1 in
    let b = c.index-chain-place.result in
    let more = c.loop-place-test.true in
    let from = c.saturating_sub-from.ensures in
    let high = c.loop-place.invariant.within in
    let within : place < length chain = omega arith in
    let here : slice_get chain place ≡ Some b = slice_get_read chain (length chain) place b refl within c.index-chain-place.is in
    let next : c.loop-place.place ≡ place + 1 = omega arith in
    last_found c.args.depth chain c.args.id.bytes place b _ c.in-Some.index here within (omega arith) refl
    (subst (λ (ts : List Transaction). IsFirstAt ts c.args.id.bytes c.in-Some.index) c.transactions.ensures.transactions c.in-Some.ensures)
    (subst (λ (n : ℕ). AllByRecursion (λ x. NoTxHas x.transactions c.args.id.bytes) (drop n chain)) next c.loop-place.invariant.none)

pub loop-place-preserved : goal.loop-place-preserved
loop-place-preserved g c =
    let chain = c.args.chain.now in
    let place = c.loop-place.place - 1 in
    let b = c.index-chain-place.result in
    let more = c.loop-place-test.true in
    let high = c.loop-place.invariant.within in
    let within : place < length chain = omega arith in
    let here : slice_get chain place ≡ Some b = slice_get_read chain (length chain) place b refl within c.index-chain-place.is in
    let next : c.loop-place.place ≡ suc place = omega arith in
    record {
      within = omega arith;
      none = all_from_here (λ (x : Block). NoTxHas x.transactions c.args.id.bytes) chain place b here
          (subst (λ (ts : List Transaction). NoTxHas ts c.args.id.bytes) c.transactions.ensures.transactions c.in_default.ensures)
          (subst (λ (n : ℕ). AllByRecursion (λ x. NoTxHas x.transactions c.args.id.bytes) (drop n chain)) next c.loop-place.invariant.none);
    }

pub returns : goal.returns
returns g c =
    let end = c.loop-place-test.false in
    let from = c.saturating_sub-from.ensures in
    none_late c.args.depth c.args.chain.now c.args.id.bytes c.loop-place.place (omega arith) c.loop-place.invariant.none
