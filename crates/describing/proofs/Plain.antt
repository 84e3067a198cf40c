-- Values without a float that nest so deep at most. Of each document it is known, so its text is known, and it is read
-- back.
use Rattle.std.proofs.Common.{◌≡◌, ℕ, suc, ◌≤◌, ◌<◌, ◌^◌, Bool, true, false, cond, ℤ, pos, negsuc, List, [], ◌∷◌, ◌++◌, map, Option, Some, None, refl, arith, decimal}
use Rattle.std.specs.Prelude.{nat_lt, flat_map}
use Rattle.std.specs.List.{AllByRecursion}
use Rattle.std.specs.Fmt.{signed_decimal}
use Rattle.serde_json.specs.Data.{Data, boolean, number, string, array, object, unsigned, negative, Members, no_members, member, depth, items_depth, members_depth}
use Rattle.serde_json.specs.View.{items_of}
use Rattle.serde_json.specs.Written.{has_float, items_have_float, members_have_float}
use Rattle.describing.specs.Parts.{json_of_number, json_of_whole, json_of_given, json_list}

pub record IsPlain (levels : ℕ) (d : Data) : Type 0 where
  pub whole : has_float d ≡ false
  pub nests : depth d ≤ levels

-- what nests less deep
pub deeper : (less more : ℕ) (d : Data) → less ≤ more → IsPlain less d → IsPlain more d
deeper less more d le p = record { whole = p.whole; nests = omega (arith, p.nests) }

-- ---- numbers

either : (b : Bool) (x y : Data) → IsPlain 0 x → IsPlain 0 y → IsPlain 0 (cond b x y)
either true x y p q = p
either false x y p q = q

pub number_plain : (n : ℕ) → IsPlain 0 (json_of_number n)
number_plain n = either (nat_lt n (2 ^ 53)) (number (unsigned n)) (string (decimal n)) (record { whole = refl; nests = omega arith }) (record { whole = refl; nests = omega arith })

pub whole_plain : (z : ℤ) → IsPlain 0 (json_of_whole z)
whole_plain (pos n) = number_plain n
whole_plain (negsuc n) = either (nat_lt (suc n) (2 ^ 53)) (number (negative (negsuc n))) (string (signed_decimal (negsuc n))) (record { whole = refl; nests = omega arith }) (record { whole = refl; nests = omega arith })

pub given_plain : (o : Option ℕ) → IsPlain 0 (json_of_given o)
given_plain None = record { whole = refl; nests = omega arith }
given_plain (Some n) = number_plain n

pub text_plain : (bytes : List ℕ) → IsPlain 0 (string bytes)
text_plain bytes = record { whole = refl; nests = omega arith }

pub verdict_plain : (b : Bool) → IsPlain 0 (boolean b)
verdict_plain b = record { whole = refl; nests = omega arith }

-- ---- lists and objects

items_whole : (n : ℕ) (ds : List Data) → AllByRecursion (IsPlain n) ds → items_have_float (items_of ds) ≡ false
items_whole n [] all = refl
items_whole n (d ∷ ds) all = let p = all.0.whole in rw (p, items_whole n ds all.1) refl

items_nest : (n : ℕ) (ds : List Data) → AllByRecursion (IsPlain n) ds → items_depth (items_of ds) ≤ n
items_nest n [] all = omega arith
items_nest n (d ∷ ds) all = let p = all.0.nests in omega (arith, p, items_nest n ds all.1)

-- an array whose items are known to be such
pub array_of_known : (n : ℕ) (ds : List Data) → items_have_float (items_of ds) ≡ false → items_depth (items_of ds) ≤ n → IsPlain (suc n) (array (items_of ds))
array_of_known n ds none le = record { whole = none; nests = omega (arith, le) }

pub array_plain : (n : ℕ) (ds : List Data) → AllByRecursion (IsPlain n) ds → IsPlain (suc n) (array (items_of ds))
array_plain n ds all = array_of_known n ds (items_whole n ds all) (items_nest n ds all)

-- the same of members
pub record ArePlain (levels : ℕ) (ms : Members) : Type 0 where
  pub whole : members_have_float ms ≡ false
  pub nests : members_depth ms ≤ levels

pub none_plain : (n : ℕ) → ArePlain n no_members
none_plain n = record { whole = refl; nests = omega arith }

pub also_plain : (n : ℕ) (name : List ℕ) (d : Data) (ms : Members) → IsPlain n d → ArePlain n ms → ArePlain n (member name d ms)
also_plain n name d ms p q = record { whole = rw (p.whole, q.whole) refl; nests = omega (arith, p.nests, q.nests) }

-- what has no array and no object
pub flat_plain : (n : ℕ) (name : List ℕ) (d : Data) (ms : Members) → IsPlain 0 d → ArePlain n ms → ArePlain n (member name d ms)
flat_plain n name d ms p q = also_plain n name d ms (deeper 0 n d (omega arith) p) q

pub object_plain : (n : ℕ) (ms : Members) → ArePlain n ms → IsPlain (suc n) (object ms)
object_plain n ms p = record { whole = p.whole; nests = omega (arith, p.nests) }

module _ {A : Type 0} (json_of : A → Data) (n : ℕ) where
  pub mapped_plain : (xs : List A) → AllByRecursion (λ x. IsPlain n (json_of x)) xs → AllByRecursion (IsPlain n) (map json_of xs)
  mapped_plain [] all = tt
  mapped_plain (x ∷ xs) all = (all.0, mapped_plain xs all.1)

  pub for_each : ((x : A) → IsPlain n (json_of x)) → (xs : List A) → AllByRecursion (λ x. IsPlain n (json_of x)) xs
  for_each each [] = tt
  for_each each (x ∷ xs) = (each x, for_each each xs)

  pub list_plain : ((x : A) → IsPlain n (json_of x)) → (xs : List A) → IsPlain (suc n) (json_list json_of xs)
  list_plain each xs = array_plain n (map json_of xs) (mapped_plain xs (for_each each xs))

-- lists one behind the other
pub both_plain : (n : ℕ) (ds es : List Data) → AllByRecursion (IsPlain n) ds → AllByRecursion (IsPlain n) es → AllByRecursion (IsPlain n) (ds ++ es)
both_plain n [] es p q = q
both_plain n (d ∷ ds) es p q = (p.0, both_plain n ds es p.1 q)

pub lists_plain : {A : Type 0} (jsons_of : A → List Data) (n : ℕ) → ((x : A) → AllByRecursion (IsPlain n) (jsons_of x)) → (xs : List A) → AllByRecursion (IsPlain n) (flat_map jsons_of xs)
lists_plain jsons_of n each [] = tt
lists_plain jsons_of n each (x ∷ xs) = both_plain n (jsons_of x) (flat_map jsons_of xs) (each x) (lists_plain jsons_of n each xs)
