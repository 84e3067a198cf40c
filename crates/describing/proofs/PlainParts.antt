-- What is described is plain.
use Rattle.std.proofs.Common.{◌≡◌, ℕ, suc, ◌≤◌, false, ℤ, pos, List, refl, arith}
use Rattle.std.specs.List.{AllByRecursion}
use Rattle.serde_json.specs.Data.{items_depth}
use Rattle.serde_json.specs.View.{items_of}
use Rattle.serde_json.specs.Written.{items_have_float}
use Rattle.model.specs.Cbor.{nesting, items_nesting}
use Rattle.model.specs.Value.{Token, Policy, Value}
use Rattle.model.specs.Script.{Script, Scripts, RequireSignature, RequireAllOf, RequireAnyOf, RequireMOf, RequireTimeStart, RequireTimeExpire, NoScripts, NextScript, item_of_script, items_of_scripts, script_hash_of}
use Rattle.describing.specs.Parts.{json_of_bytes}
use Rattle.describing.specs.Values.{json_of_asset, jsons_of_policy, json_of_assets, json_of_value}
use Rattle.describing.specs.Scripts.{json_of_condition, jsons_of_conditions, json_of_script}
use Rattle.describing.proofs.Plain.{IsPlain, deeper, number_plain, whole_plain, text_plain, array_of_known, array_plain, none_plain, also_plain, flat_plain, object_plain, mapped_plain, for_each, lists_plain}
use Rattle.hex.specs.Hex.{encode_lower}

pub bytes_plain : (bytes : List ℕ) → IsPlain 0 (json_of_bytes bytes)
bytes_plain bytes = text_plain (encode_lower bytes)

-- ---- values

module _ {Q : Type 0} (whole : Q → ℤ) where
  asset_plain : (policy : List ℕ) (token : Token Q) → IsPlain 1 (json_of_asset whole policy token)
  asset_plain policy token = object_plain 0 _ (flat_plain 0 _ _ _ (bytes_plain token.name) (flat_plain 0 _ _ _ (bytes_plain policy) (flat_plain 0 _ _ _ (whole_plain (whole token.quantity)) (none_plain 0))))

  policy_plain : (policy : Policy Q) → AllByRecursion (IsPlain 1) (jsons_of_policy whole policy)
  policy_plain policy =
      let one = json_of_asset whole policy.id in
      mapped_plain one 1 policy.tokens (for_each one 1 (asset_plain policy.id) policy.tokens)

  pub assets_plain : (policies : List (Policy Q)) → IsPlain 2 (json_of_assets whole policies)
  assets_plain policies = array_plain 1 _ (lists_plain (jsons_of_policy whole) 1 policy_plain policies)

pub value_plain : (value : Value) → IsPlain 3 (json_of_value value)
value_plain value = object_plain 2 _ (also_plain 2 _ _ _ (assets_plain pos value.assets) (flat_plain 2 _ _ _ (number_plain value.coin) (none_plain 2)))

-- ---- scripts

mutual
  conditions_whole : (ss : Scripts) → items_have_float (items_of (jsons_of_conditions ss)) ≡ false
  conditions_whole NoScripts = refl
  conditions_whole (NextScript s ss) = let p = condition_plain s in rw (p.whole, conditions_whole ss) refl

  conditions_nest : (ss : Scripts) → items_depth (items_of (jsons_of_conditions ss)) ≤ items_nesting (items_of_scripts ss)
  conditions_nest NoScripts = omega arith
  conditions_nest (NextScript s ss) = let p = condition_plain s in omega (arith, p.nests, conditions_nest ss)

  -- no deeper than its text
  pub condition_plain : (s : Script) → IsPlain (nesting (item_of_script s)) (json_of_condition s)
  condition_plain (RequireSignature hash) = deeper 1 _ _ (omega arith) (object_plain 0 _ (flat_plain 0 _ _ _ (bytes_plain hash) (none_plain 0)))
  condition_plain (RequireAllOf ss) = let n = suc (items_nesting (items_of_scripts ss)) in deeper (suc n) _ _ (omega arith) (object_plain n _ (also_plain n _ _ _ (array_of_known _ (jsons_of_conditions ss) (conditions_whole ss) (conditions_nest ss)) (none_plain n)))
  condition_plain (RequireAnyOf ss) = let n = suc (items_nesting (items_of_scripts ss)) in deeper (suc n) _ _ (omega arith) (object_plain n _ (also_plain n _ _ _ (array_of_known _ (jsons_of_conditions ss) (conditions_whole ss) (conditions_nest ss)) (none_plain n)))
  condition_plain (RequireMOf least ss) = let n = suc (items_nesting (items_of_scripts ss)) in deeper (suc n) _ _ (omega arith) (object_plain n _ (flat_plain n _ _ _ (number_plain least) (also_plain n _ _ _ (array_of_known _ (jsons_of_conditions ss) (conditions_whole ss) (conditions_nest ss)) (none_plain n))))
  condition_plain (RequireTimeStart slot) = deeper 1 _ _ (omega arith) (object_plain 0 _ (flat_plain 0 _ _ _ (number_plain slot) (none_plain 0)))
  condition_plain (RequireTimeExpire slot) = deeper 1 _ _ (omega arith) (object_plain 0 _ (flat_plain 0 _ _ _ (number_plain slot) (none_plain 0)))

pub script_plain : (levels : ℕ) (s : Script) → nesting (item_of_script s) ≤ levels → IsPlain (suc levels) (json_of_script s)
script_plain levels s le = object_plain levels _ (also_plain levels _ _ _ (deeper _ levels _ le (condition_plain s)) (flat_plain levels _ _ _ (bytes_plain (script_hash_of s)) (none_plain levels)))
