use Rattle.std.proofs.Common.{◌^◌, ◌<◌, map, length, sym, subst, arith, rules}
use Rattle.std.specs.List.{AllByRecursion}
use Rattle.std.specs.List.Sorted.{IsPermutation, IsSortedBy}
use Rattle.std.specs.Ordering.{is_lt}
use Rattle.std.proofs.lemmas.List.{length-map}
use Rattle.std.proofs.lemmas.List.Sorted.{ranks_by, answers_always, IsPermutation-map, IsPermutation-sym}
use Rattle.std.proofs.lemmas.Result.{err_from_is_err_and}
use Rattle.value.specs.View.{asset_of, policy_of}
use Rattle.value.specs.Parts.{HasLongName, HasZero, HasRepeats}
use Rattle.value.specs.Order.{asset_cmp}
use Rattle.value.specs.Checked.{IsNamed, IsCounted}
use Rattle.value.specs.Grouped.{AllNeighboursDiffer}
use Rattle.value.proofs.Rising.{asset_cmp_total, Rise}
use Rattle.value.proofs.Sorting.{rise_sorted}
use Rattle.value.proofs.Repeats.{repeats_moved}
use Rattle.value.proofs.Refusing.{no_repeats}
use Rattle.value.proofs.Saying.{are_said}
use Rattle.value.proofs.Sound.{no_long_name, no_zero, all_ready}
use Rattle.value.proofs.grouping.policies_with.Goals as goal

pub returns-then-has_long_name-clause-fault : goal.returns-then-has_long_name-clause-fault
returns-then-has_long_name-clause-fault g c = subst (λ assets. HasLongName (map asset_of assets)) c.deref.ensures.value c.if-has_long_name.ensures.long

pub returns-then-has_zero-clause-fault : goal.returns-then-has_zero-clause-fault
returns-then-has_zero-clause-fault g c = (
  no_long_name (map asset_of c.args.assets.items) (subst (λ assets. AllByRecursion IsNamed (map asset_of assets)) c.deref.ensures.value c.if-has_long_name.ensures.named),
  subst (λ assets. HasZero g.Q.Quantity.whole (map asset_of assets)) c.deref-2.ensures.value c.if-has_zero.ensures.zero,
)

pub returns-then-has_equal_neighbours-clause-fault : goal.returns-then-has_equal_neighbours-clause-fault
returns-then-has_equal_neighbours-clause-fault g c =
    let q = g.Q.Quantity in
    let told = map asset_of c.args.assets.items in
    let sorted = map asset_of c.sort_unstable_by.new.self.items in
    let back : IsPermutation sorted told = IsPermutation-map asset_of c.sort_unstable_by.new.self.items c.args.assets.items (IsPermutation-sym c.args.assets.items c.sort_unstable_by.new.self.items c.sort_unstable_by.ensures.permutation) in (
      no_long_name told (subst (λ assets. AllByRecursion IsNamed (map asset_of assets)) c.deref.ensures.value c.if-has_long_name.ensures.named),
      no_zero q.whole q.is_quantity q.item_of told (subst (λ assets. AllByRecursion (IsCounted q.whole q.is_quantity q.item_of) (map asset_of assets)) c.deref-2.ensures.value c.if-has_zero.ensures.counted),
      repeats_moved sorted told back (subst (λ assets. HasRepeats (map asset_of assets)) c.deref-3.ensures.value c.if-has_equal_neighbours.ensures.repeats),
    )

pub returns-in_err-group-clause-fault : goal.returns-in_err-group-clause-fault
returns-in_err-group-clause-fault g c =
    let q = g.Q.Quantity in
    let told = map asset_of c.args.assets.items in
    let sorted = map asset_of c.sort_unstable_by.new.self.items in
    let same : IsPermutation told sorted = IsPermutation-map asset_of c.args.assets.items c.sort_unstable_by.new.self.items c.sort_unstable_by.ensures.permutation in
    let apart : AllNeighboursDiffer sorted = subst (λ assets. AllNeighboursDiffer (map asset_of assets)) c.deref-3.ensures.value c.if-has_equal_neighbours.ensures.differ in
    let order : IsSortedBy (λ a b. is_lt (asset_cmp (asset_of a) (asset_of b))) c.sort_unstable_by.new.self.items =
    c.sort_unstable_by.ensures.sorted (λ a b. is_lt (asset_cmp (asset_of a) (asset_of b))) (ranks_by asset_cmp_total asset_of) (answers_always _ _ _ (λ f a r h k. search rules)) in
    let rise : Rise sorted = rise_sorted asset_of c.sort_unstable_by.new.self.items order apart in
    let p = err_from_is_err_and c.from_residual.result c.from_residual.ensures.1 in
    rw (p.1, p.2) (
      no_long_name told (subst (λ assets. AllByRecursion IsNamed (map asset_of assets)) c.deref.ensures.value c.if-has_long_name.ensures.named),
      no_zero q.whole q.is_quantity q.item_of told (subst (λ assets. AllByRecursion (IsCounted q.whole q.is_quantity q.item_of) (map asset_of assets)) c.deref-2.ensures.value c.if-has_zero.ensures.counted),
      λ repeats. no_repeats sorted rise (repeats_moved told sorted same repeats),
    )

pub returns-clause-same : goal.returns-clause-same
returns-clause-same g c =
    subst (λ flat. IsPermutation (map asset_of c.args.assets.items) flat) (sym c.in_ok-group.ensures.flat) (IsPermutation-map asset_of c.args.assets.items c.sort_unstable_by.new.self.items c.sort_unstable_by.ensures.permutation)

pub returns-clause-said : goal.returns-clause-said
returns-clause-said g c =
    let q = g.Q.Quantity in
    let told = map asset_of c.args.assets.items in
    let sorted = map asset_of c.sort_unstable_by.new.self.items in
    let same : IsPermutation told sorted = IsPermutation-map asset_of c.args.assets.items c.sort_unstable_by.new.self.items c.sort_unstable_by.ensures.permutation in
    let apart : AllNeighboursDiffer sorted = subst (λ assets. AllNeighboursDiffer (map asset_of assets)) c.deref-3.ensures.value c.if-has_equal_neighbours.ensures.differ in
    let order : IsSortedBy (λ a b. is_lt (asset_cmp (asset_of a) (asset_of b))) c.sort_unstable_by.new.self.items =
    c.sort_unstable_by.ensures.sorted (λ a b. is_lt (asset_cmp (asset_of a) (asset_of b))) (ranks_by asset_cmp_total asset_of) (answers_always _ _ _ (λ f a r h k. search rules)) in
    let rise : Rise sorted = rise_sorted asset_of c.sort_unstable_by.new.self.items order apart in
    let named = subst (λ assets. AllByRecursion IsNamed (map asset_of assets)) c.deref.ensures.value c.if-has_long_name.ensures.named in
    let counted = subst (λ assets. AllByRecursion (IsCounted q.whole q.is_quantity q.item_of) (map asset_of assets)) c.deref-2.ensures.value c.if-has_zero.ensures.counted in
    let ready = all_ready q.whole q.is_quantity q.item_of told c.sort_unstable_by.new.self.items same named counted in
    let flat = c.in_ok-group.ensures.flat in
    let few : length sorted < 2 ^ 64 = omega (arith, length-map c.sort_unstable_by.new.self.items asset_of, c.sort_unstable_by.new.self.ok.0) in
    are_said q.whole q.is_quantity q.item_of (map policy_of c.in_ok-group.field-0.items) c.in_ok-group.ensures.grouped (subst (AllByRecursion _) (sym flat) ready) (subst Rise (sym flat) rise) (subst (λ assets. length assets < 2 ^ 64) (sym flat) few)
