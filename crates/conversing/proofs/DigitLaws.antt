-- Numbers that grow past 2 ^ 64 stay past it.
use Rattle.std.proofs.Common.{◌≡◌, ℕ, suc, ◌+◌, ◌-◌, ◌*◌, ◌^◌, ◌<◌, ◌≤◌, Bool, true, false, cond, List, [], ◌∷◌, length, drop, get_or, Option, Some, None, refl, arith, drop-cons}
use Rattle.std.proofs.lemmas.Bool.Decides.{nat_tests}
use Rattle.std.proofs.lemmas.List.{drop_all}
use Rattle.conversing.specs.Numbers.{number_from, is_digit}

-- whether or not, there is none
none_either_way : (b : Bool) → cond {A = Option ℕ} b None None ≡ None
none_either_way true = refl
none_either_way false = refl

-- once a number is too large, no further digit makes it a number below 2 ^ 64
pub too_large : (n : ℕ) (ds : List ℕ) → 2 ^ 64 ≤ n → number_from n ds ≡ None
too_large n [] h = grind (arith, nat_tests)
too_large n (d ∷ ds) h = let more : 2 ^ 64 ≤ n * 10 + (d - 48) = omega arith in
    let rest : number_from (n * 10 + (d - 48)) ds ≡ None = too_large (n * 10 + (d - 48)) ds more in
    rw rest (none_either_way (is_digit d))

-- the same behind some of the digits
pub stops_behind : (n k : ℕ) (ds : List ℕ) → k < length ds → is_digit (get_or ds k 0) ≡ true → 2 ^ 64 ≤ n * 10 + (get_or ds k 0 - 48) → number_from n (drop k ds) ≡ None
stops_behind n k ds inside digit large =
    let rest : number_from (n * 10 + (get_or ds k 0 - 48)) (drop (suc k) ds) ≡ None = too_large (n * 10 + (get_or ds k 0 - 48)) (drop (suc k) ds) large in
    rw (drop-cons ds k 0) (rw (digit, rest) refl)

-- behind all of the digits
pub all_read : (n k : ℕ) (ds : List ℕ) → length ds ≤ k → n < 2 ^ 64 → number_from n (drop k ds) ≡ Some n
all_read n k ds past small = rw (drop_all k ds past) (grind (arith, nat_tests))
