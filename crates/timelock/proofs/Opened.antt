-- What a script is read to once its head and its kind are read.
use Rattle.std.proofs.Common.{◌≡◌, ◌≢◌, ℕ, zero, suc, ◌-◌, List, Some, refl, arith}
use Rattle.std.proofs.lemmas.Bool.{eq-eqb}
use Rattle.cbor.specs.Reading.{head_at}
use Rattle.timelock.specs.Reading.{members_of_kind, of_kind_at, script_with, script_at}

-- the array has as many members as its kind asks for
pub script_opened : (depth : ℕ) (bytes : List ℕ) (count : ℕ) (first : List ℕ) (kind : ℕ) (rest : List ℕ) → depth ≢ 0 → head_at 4 bytes ≡ Some (count, first) → head_at 0 first ≡ Some (kind, rest) → count ≡ members_of_kind kind
    → script_at depth bytes ≡ of_kind_at (script_at (depth - 1)) kind rest
unfolding script_at script_with
script_opened zero bytes count first kind rest some h k n = absurd (some refl)
script_opened (suc depth) bytes count first kind rest some h k n =
    let less : suc depth - 1 ≡ depth = omega arith in
    rw (h, k, eq-eqb count (members_of_kind kind) n, less) refl
