-- How deep the members of a timelock are.
use Rattle.std.proofs.Common.{◌≡◌, ℕ, zero, suc, ◌≤◌, ◌<◌, List, [], ◌∷◌, length, get_or, sym, subst, arith}
use Rattle.timelock.specs.declared.timelock.Timelock.{Timelock}
use Rattle.timelock.specs.View.{timelock_of, timelocks_of}
use Rattle.timelock.specs.Depth.{depth_of_script, depth_of_scripts}

depth_at : (ts : List Timelock) (k : ℕ) (d : Timelock) → k < length ts → depth_of_script (timelock_of (get_or ts k d)) ≤ depth_of_scripts (timelocks_of ts)
depth_at [] k d lt = absurd (omega arith)
depth_at (t ∷ ts) zero d lt = omega arith
depth_at (t ∷ ts) (suc k) d lt = omega (arith, depth_at ts k d (omega arith))

-- a member is no deeper than the members
pub member_depth : (ts : List Timelock) (k : ℕ) (t : Timelock) → k < length ts → t ≡ get_or ts k t → depth_of_script (timelock_of t) ≤ depth_of_scripts (timelocks_of ts)
member_depth ts k t lt e = subst (λ (x : Timelock). depth_of_script (timelock_of x) ≤ depth_of_scripts (timelocks_of ts)) (sym e) (depth_at ts k t lt)
