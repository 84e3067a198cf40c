-- How deep scripts stand in one another.
use Rattle.std.specs.Prelude.{ℕ, suc, max}
use Rattle.model.specs.Script.{Script, Scripts, RequireSignature, RequireAllOf, RequireAnyOf, RequireMOf}
use Rattle.model.specs.Script.{RequireTimeStart, RequireTimeExpire, NoScripts, NextScript}

abbrev mutual
  -- how many scripts stand in one another: 1 for a script itself, and one more than its deepest member
  pub depth_of_script : Script → ℕ
  depth_of_script (RequireSignature hash) = 1
  depth_of_script (RequireAllOf ss) = suc (depth_of_scripts ss)
  depth_of_script (RequireAnyOf ss) = suc (depth_of_scripts ss)
  depth_of_script (RequireMOf n ss) = suc (depth_of_scripts ss)
  depth_of_script (RequireTimeStart slot) = 1
  depth_of_script (RequireTimeExpire slot) = 1

  -- the same of scripts beside one another
  pub depth_of_scripts : Scripts → ℕ
  depth_of_scripts NoScripts = 0
  depth_of_scripts (NextScript s ss) = max (depth_of_script s) (depth_of_scripts ss)
