-- A native script as JSON.
use Rattle.std.specs.Prelude.{List, [], ◌∷◌, codes}
use Rattle.serde_json.specs.Data.{Data, array}
use Rattle.serde_json.specs.View.{items_of}
use Rattle.model.specs.Script.{Script, Scripts, RequireSignature, RequireAllOf, RequireAnyOf, RequireMOf}
use Rattle.model.specs.Script.{RequireTimeStart, RequireTimeExpire, NoScripts, NextScript, script_hash_of}
use Rattle.describing.specs.Parts.{json_of_number, json_of_bytes, object_of}

abbrev mutual
  -- what a script asks for: the key of a hash, all, any or at least a given number of others, or an interval that
  -- starts at a slot or later, or ends at it or before
  pub json_of_condition : Script → Data
  json_of_condition (RequireSignature hash) = object_of ((codes "key", json_of_bytes hash) ∷ [])
  json_of_condition (RequireAllOf ss) = object_of ((codes "all", array (items_of (jsons_of_conditions ss))) ∷ [])
  json_of_condition (RequireAnyOf ss) = object_of ((codes "any", array (items_of (jsons_of_conditions ss))) ∷ [])
  json_of_condition (RequireMOf n ss) = object_of (
      (codes "at_least", json_of_number n)
      ∷ (codes "of", array (items_of (jsons_of_conditions ss))) ∷ [])
  json_of_condition (RequireTimeStart slot) = object_of ((codes "starts", json_of_number slot) ∷ [])
  json_of_condition (RequireTimeExpire slot) = object_of ((codes "ends", json_of_number slot) ∷ [])

  -- the same of scripts beside one another
  pub jsons_of_conditions : Scripts → List Data
  jsons_of_conditions NoScripts = []
  jsons_of_conditions (NextScript s ss) = json_of_condition s ∷ jsons_of_conditions ss

-- A SCRIPT AS JSON: its hash, and what it asks for
abbrev pub json_of_script : Script → Data
json_of_script script = object_of (
    (codes "condition", json_of_condition script)
    ∷ (codes "hash", json_of_bytes (script_hash_of script)) ∷ [])
