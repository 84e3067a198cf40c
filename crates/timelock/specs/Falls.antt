-- How deep a tree is as the program holds it is bounded by how deep its scripts stand in one another, so that what goes
-- down it ends.
use Rattle.std.specs.Prelude.{◌≤◌, max, List, [], ◌∷◌}
use Rattle.std.proofs.Common.{arith}
use denote.Param.Weighed.{most}
use Rattle.timelock.specs.declared.timelock.Timelock.{Timelock}
use Rattle.timelock.specs.declared.timelock.Timelock.TheVariants.{RequireSignature, RequireAllOf, RequireAnyOf}
use Rattle.timelock.specs.declared.timelock.Timelock.TheVariants.{RequireMOf, RequireTimeStart, RequireTimeExpire}
use Rattle.timelock.specs.declared.timelock.Timelocks.TheDeep.{deep-Timelock}
use Rattle.timelock.specs.View.{timelock_of, timelocks_of}
use Rattle.timelock.specs.Depth.{depth_of_script, depth_of_scripts}

timelock_falls : (t : Timelock) → deep-Timelock t ≤ depth_of_script (timelock_of t)
timelock_falls (RequireSignature hash) = omega arith
timelock_falls (RequireAllOf members) = omega arith
timelock_falls (RequireAnyOf members) = omega arith
timelock_falls (RequireMOf n members) = omega arith
timelock_falls (RequireTimeStart slot) = omega arith
timelock_falls (RequireTimeExpire slot) = omega arith

-- no script is deeper than the scripts stand in one another
pub members_fall : (ts : List Timelock) → max (most deep-Timelock ts) 0 ≤ depth_of_scripts (timelocks_of ts)
members_fall [] = omega arith
members_fall (t ∷ ts) = omega (arith, timelock_falls t, members_fall ts)
