-- What a map has under a name after a write.
use Rattle.std.proofs.Common.{◌≡◌, ℕ, ℤ, pos, ◌+ℤ◌, ◌^◌, ◌<◌, negsuc, Bool, true, false, cond, List, Option, Some, refl, sym, ◌∙◌, ap, subst, arith, is_some, to_z, of_z}
use Rattle.std.specs.Prelude.{bytes_eq, IsSome}
use Rattle.std.specs.Map.{lookup, set_value}
use Rattle.std.proofs.lemmas.Int.{ints}
use Rattle.value.specs.Quantities.{IsWithin, quantity_limit}
use Rattle.byte_keys.proofs.ForCallers.{has_bytes, lookup_set, bytes_from, some_either}
use mir.Syntax.{w128}
use lib.Signed.{mag}

-- a quantity in 128 bits
pub quantity_fits : (z : ℤ) → IsWithin quantity_limit z → to_z w128 (of_z w128 z) ≡ z
quantity_fits z within = omega (arith, ints)

-- a number of which the 128 bits are 0
pub zero_from_bits : (z : ℤ) → mag z < 2 ^ 127 → of_z w128 z ≡ 0 → z ≡ pos 0
zero_from_bits (pos n) fits bits = ap pos bits
zero_from_bits (negsuc n) fits bits = absurd (omega (arith, ints))

-- a sum of 128 bits that is in reach
pub written : (old by : ℤ) → IsWithin (2 ^ 126) old → IsWithin quantity_limit by → to_z w128 (of_z w128 (to_z w128 (of_z w128 old) +ℤ to_z w128 (of_z w128 by))) ≡ old +ℤ by
written old by room within = omega (arith, ints)

put_bit : {X : Type 0} (view : Option X → ℤ) (b : Bool) (w old : X) (by : ℤ) (there : Option X) → (b ≡ true → there ≡ Some old) → view (Some w) ≡ view (Some old) +ℤ by
    → view (cond b (Some w) there) ≡ view there +ℤ cond b by (pos 0)
put_bit {X} view true w old by there is sum = sum ∙ ap (λ (o : Option X). view o +ℤ by) (sym (is refl))
put_bit {X} view false w old by there is sum = omega (arith, ints)

module _ {K X : Type 0} (f : K → List ℕ) where
  -- what there is at some bytes after a write at bytes that were there
  pub put_amount : (view : Option X → ℤ) (q bytes : List ℕ) (es : List (K × X)) (w old : X) (by : ℤ) → lookup (has_bytes f bytes) es ≡ Some old → view (Some w) ≡ view (Some old) +ℤ by
      → view (lookup (has_bytes f q) (set_value (has_bytes f bytes) es w)) ≡ view (lookup (has_bytes f q) es) +ℤ cond (bytes_eq q bytes) by (pos 0)
  put_amount view q bytes es w old by found sum =
      let here : bytes_eq q bytes ≡ true → lookup (has_bytes f q) es ≡ Some old =
      λ h. subst (λ (b : List ℕ). lookup (has_bytes f b) es ≡ Some old) (sym (bytes_from q bytes h)) found in
      ap view (lookup_set f q bytes es w (ap is_some found)) ∙ put_bit view (bytes_eq q bytes) w old by (lookup (has_bytes f q) es) here sum

  pub put_keeps : (q bytes : List ℕ) (es : List (K × X)) (w : X) → IsSome (lookup (has_bytes f bytes) es) → IsSome (lookup (has_bytes f q) es)
      → IsSome (lookup (has_bytes f q) (set_value (has_bytes f bytes) es w))
  put_keeps q bytes es w found had = rw (lookup_set f q bytes es w found) (some_either (bytes_eq q bytes) w (lookup (has_bytes f q) es) had)
