-- How many callers a shared core gives out.
use Rattle.std.proofs.Common.{◌≡◌, ℕ, zero, suc, [], ◌∷◌, length, refl, arith}
use Rattle.std.proofs.lemmas.List.{length-append}
use Rattle.shared.specs.Opening.{newcomer, newcomers}

pub newcomers_length : (n : ℕ) → length (newcomers n) ≡ n
newcomers_length zero = refl
newcomers_length (suc n) = let m = newcomers_length n in omega (arith, length-append (newcomers n) (newcomer n ∷ []))
