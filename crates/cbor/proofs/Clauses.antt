-- What the readers promise, from the reading that each computes.
use Rattle.std.proofs.Common.{◌≡◌, ℕ, ◌^◌, ◌<◌, ◌≤◌, List, ◌++◌, length, Option, Some, None, option_map, sym, arith, Bor}
use Rattle.std.specs.Prelude.{IfSome, IfNone}
use Rattle.std.proofs.lemmas.List.{length-append}
use Rattle.model.specs.Cbor.{head}
use Rattle.cbor.specs.Reading.{head_at, bytes_at, fixed_at, null_at}
use Rattle.cbor.proofs.Steps.{IsBytes}
use Rattle.cbor.proofs.Reading.{head_takes, head_again, bytes_again, fixed_again, null_again}

-- where no head is read none stands
pub no_head : (m : ℕ) (bytes : List ℕ) → head_at m bytes ≡ None → (n : ℕ) (rest : List ℕ) → n < 2 ^ 64 → bytes ≡ head m n ++ rest → ⊥
no_head m bytes e n rest lt spelled = let again = head_again m n rest lt in cc

-- the head that was read is spelled so
pub head_found : (m : ℕ) (bytes : List ℕ) (r : Option (ℕ × Bor (List ℕ))) → IsBytes bytes → option_map (λ x. (x.0, x.1.now)) r ≡ head_at m bytes → IfSome r (λ x. bytes ≡ head m x.0 ++ x.1.now)
head_found m bytes None fits e = tt
head_found m bytes (Some x) fits e = (head_takes m bytes x.0 x.1.now fits (sym e)).0.parts

-- a head is refused only where none stands
pub head_refused : (m : ℕ) (bytes : List ℕ) (r : Option (ℕ × Bor (List ℕ))) → option_map (λ x. (x.0, x.1.now)) r ≡ head_at m bytes → IfNone r ((n : ℕ) (rest : List ℕ) → n < 2 ^ 64 → bytes ≡ head m n ++ rest → ⊥)
head_refused m bytes None e = no_head m bytes (sym e)
head_refused m bytes (Some x) e = tt

-- where no byte string is read none stands
pub no_string : (bytes : List ℕ) → length bytes < 2 ^ 64 → bytes_at bytes ≡ None → (text rest : List ℕ) → bytes ≡ head 2 (length text) ++ text ++ rest → ⊥
no_string bytes lt e text rest spelled =
    let shorter : length text ≤ length bytes = rw spelled (omega (arith, length-append (head 2 (length text) ++ text) rest, length-append (head 2 (length text)) text)) in
    let again = bytes_again text rest (omega arith) in
    cc

-- where no byte string of exactly `count` bytes is read none stands
pub no_fixed : (count : ℕ) (bytes : List ℕ) → count < 2 ^ 64 → fixed_at count bytes ≡ None → (text rest : List ℕ) → length text ≡ count → bytes ≡ head 2 count ++ text ++ rest → ⊥
no_fixed count bytes lt e text rest len spelled = let again = fixed_again count text rest lt len in cc

-- where no null is read none stands
pub no_null : (bytes : List ℕ) → null_at bytes ≡ None → (rest : List ℕ) → bytes ≡ head 7 22 ++ rest → ⊥
no_null bytes e rest spelled = let again = null_again rest in cc
