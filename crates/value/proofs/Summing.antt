-- The totals after one value more.
use Rattle.std.proofs.Common.{◌≡◌, ℕ, ℤ, pos, ◌+ℤ◌, ◌^◌, ◌*◌, ◌+◌, ◌<◌, ◌≤◌, List, refl, sym, ap, subst, arith, negsuc, of_z}
use mir.Syntax.{w128}
use Rattle.std.specs.List.{AllByRecursion}
use Rattle.std.proofs.lemmas.Int.{ints}
use Rattle.model.specs.Value.{Asset, Ada, Named, Policy, policy_amount}
use Rattle.value.specs.declared.amounts.AllAmounts.{AllAmounts}
use Rattle.value.specs.declared.side.Side.{Side}
use Rattle.value.specs.Quantities.{IsWithin, quantity_limit}
use Rattle.value.specs.Differing.{PoliciesDiffer}
use Rattle.value.specs.Sides.{sided}
use Rattle.value.specs.Sums.{amount_in, total_in, AreBounded}
use Rattle.value.specs.Totals.{change_of}
use Rattle.value.proofs.Adding.{policies_within, sided_within, within_more}

-- amounts that are the same make the same totals
pub total_same : (coin : ℤ) (old new : AllAmounts) → ((policy name : List ℕ) → amount_in new policy name ≡ amount_in old policy name) → (asset : Asset) → total_in coin new asset ≡ total_in coin old asset
total_same coin old new same Ada = refl
total_same coin old new same (Named policy name) = same policy name

-- what fewer than 2 ^ 62 values sum up to is in reach of 128 bits
pub in_reach : (values : ℕ) (z : ℤ) → values < 2 ^ 62 → IsWithin (values * 2 ^ 64) z → IsWithin (2 ^ 126) z
in_reach values z few within = record { low = omega (arith, ints); high = omega (arith, ints) }

-- a sum of ada whose 128 bits are 0 is 0
pub coin_from_bits : (values : ℕ) (coin : ℤ) → values ≤ 2 ^ 62 → IsWithin (values * 2 ^ 64) coin → of_z w128 coin ≡ 0 → coin ≡ pos 0
coin_from_bits values (pos n) few within bits = ap pos bits
coin_from_bits values (negsuc n) few within bits = let low = within.low in absurd (omega (arith, ints))

pub coin_within : (coin : ℕ) → coin < 2 ^ 64 → IsWithin quantity_limit (pos coin)
coin_within coin h = record { low = omega (arith, ints); high = omega (arith, ints) }

-- what a value changes, of one asset
change_within : {Q : Type 0} (whole : Q → ℤ) (coin : ℕ) (ps : List (Policy Q)) → coin < 2 ^ 64 → PoliciesDiffer ps → AllByRecursion (λ p. AreBounded whole p.tokens) ps → (asset : Asset) → IsWithin quantity_limit (change_of whole coin ps asset)
change_within whole coin ps fits differ bounded Ada = coin_within coin fits
change_within whole coin ps fits differ bounded (Named policy name) = policies_within whole policy name ps differ bounded

-- the totals with one value more
pub total_changed : {Q : Type 0} (whole : Q → ℤ) (s : Side) (coin : ℕ) (ps : List (Policy Q)) (before after : ℤ) (old new : AllAmounts) → after ≡ before +ℤ sided s (pos coin)
    → ((policy name : List ℕ) → amount_in new policy name ≡ amount_in old policy name +ℤ sided s (policy_amount whole policy name ps))
    → (asset : Asset) → total_in after new asset ≡ total_in before old asset +ℤ sided s (change_of whole coin ps asset)
total_changed whole s coin ps before after old new more sums Ada = more
total_changed whole s coin ps before after old new more sums (Named policy name) = sums policy name

one_more : (values : ℕ) (z : ℤ) → IsWithin (values * 2 ^ 64 + quantity_limit) z → IsWithin ((values + 1) * 2 ^ 64) z
one_more values z h = record { low = omega (arith, ints); high = omega (arith, ints) }

-- and they stay within their bounds
pub total_within : {Q : Type 0} (whole : Q → ℤ) (s : Side) (coin : ℕ) (ps : List (Policy Q)) (values : ℕ) (old new : ℤ) (asset : Asset) → coin < 2 ^ 64 → PoliciesDiffer ps → AllByRecursion (λ p. AreBounded whole p.tokens) ps
    → IsWithin (values * 2 ^ 64) old → new ≡ old +ℤ sided s (change_of whole coin ps asset) → IsWithin ((values + 1) * 2 ^ 64) new
total_within whole s coin ps values old new asset fits differ bounded within more =
    let by = sided_within s quantity_limit (change_of whole coin ps asset) (change_within whole coin ps fits differ bounded asset) in
    one_more values new (subst (IsWithin (values * 2 ^ 64 + quantity_limit)) (sym more) (within_more (values * 2 ^ 64) quantity_limit old (sided s (change_of whole coin ps asset)) within by))
