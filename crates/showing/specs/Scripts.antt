-- The lines of a native script: a tree, of which what stands inside another script is indented.
use Rattle.std.specs.Prelude.{ℕ, List, [], ◌++◌, codes}
use Rattle.model.specs.Script.{Script, Scripts, RequireSignature, RequireAllOf, RequireAnyOf, RequireMOf}
use Rattle.model.specs.Script.{RequireTimeStart, RequireTimeExpire, NoScripts, NextScript, script_hash_of}
use Rattle.showing.specs.Lines.{inner_margin, words_line, number_line, bytes_line}

abbrev mutual
  -- what a script asks for: the key of a hash, all, any or at least a given number of others, or an interval that
  -- starts at a slot or later, or ends at it or before
  pub lines_of_condition : (margin : List ℕ) → Script → List ℕ
  lines_of_condition margin (RequireSignature hash) = bytes_line margin (codes "key") hash
  lines_of_condition margin (RequireAllOf ss) =
      words_line margin (codes "all") ++ lines_of_conditions (inner_margin margin) ss
  lines_of_condition margin (RequireAnyOf ss) =
      words_line margin (codes "any") ++ lines_of_conditions (inner_margin margin) ss
  lines_of_condition margin (RequireMOf n ss) =
      number_line margin (codes "at_least") n ++ lines_of_conditions (inner_margin margin) ss
  lines_of_condition margin (RequireTimeStart slot) = number_line margin (codes "starts") slot
  lines_of_condition margin (RequireTimeExpire slot) = number_line margin (codes "ends") slot

  -- the same of scripts beside one another
  pub lines_of_conditions : (margin : List ℕ) → Scripts → List ℕ
  lines_of_conditions margin NoScripts = []
  lines_of_conditions margin (NextScript s ss) = lines_of_condition margin s ++ lines_of_conditions margin ss

-- THE LINES OF A SCRIPT: its hash, and indented under it what it asks for
abbrev pub lines_of_script : (margin : List ℕ) → Script → List ℕ
lines_of_script margin script =
    bytes_line margin (codes "script") (script_hash_of script) ++ lines_of_condition (inner_margin margin) script
