-- How deep a tree is at least.
use Rattle.std.proofs.Common.{ℕ, suc, ◌+◌, ◌^◌, ◌≤◌, ◌<◌, max, arith}
use Rattle.std.proofs.Math.Nat.{pow-le-pow_right}

-- the numbers of two sides, the node between them, and how deep the deeper one is
pub deeper : (l r m n : ℕ) → l < 2 ^ m → r < 2 ^ n → l + suc r < 2 ^ suc (max m n)
deeper l r m n p q =
    let left : 2 ^ m ≤ 2 ^ max m n = pow-le-pow_right {n = 2} (omega arith) {i = m} {j = max m n} (omega arith) in
    let right : 2 ^ n ≤ 2 ^ max m n = pow-le-pow_right {n = 2} (omega arith) {i = n} {j = max m n} (omega arith) in
    omega (arith, p, q, left, right)
