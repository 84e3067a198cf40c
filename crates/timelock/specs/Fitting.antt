-- Which timelocks of the program are scripts that have a text.
use Rattle.std.specs.Prelude.{ℕ, ◌≤◌}
use Rattle.model.specs.Cbor.{IsInRange, ItemsAreInRange}
use Rattle.model.specs.Script.{Script, Scripts, item_of_script, items_of_scripts, IsScript, AreScripts}
use Rattle.timelock.specs.Depth.{depth_of_script, depth_of_scripts}

-- a script's shape and numbers, and at most `depth` scripts that stand in one another
pub record FitsIn (depth : ℕ) (script : Script) : Type 0 where
  pub shape : IsScript script
  pub in_range : IsInRange (item_of_script script)
  pub shallow : depth_of_script script ≤ depth

-- the same of scripts beside one another
pub record AllFitIn (depth : ℕ) (scripts : Scripts) : Type 0 where
  pub shapes : AreScripts scripts
  pub in_range : ItemsAreInRange (items_of_scripts scripts)
  pub shallow : depth_of_scripts scripts ≤ depth
