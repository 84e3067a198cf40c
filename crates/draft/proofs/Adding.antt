-- What the calls that add a part leave.
use Rattle.std.proofs.Common.{◌≡◌, ℕ, ◌<◌, length, subst, zero, suc, ℤ, pos, negsuc, of_z, w64, arith, ◌≤◌, true, false, Some, ◌||◌, List, [], ◌∷◌, ◌++◌, map, refl, sym, ap, ◌∙◌}
use Rattle.std.specs.Prelude.{◌&&◌, bytes_eq}
use Rattle.std.specs.List.{AllZip}
use Rattle.std.proofs.lemmas.List.{map-append, length-map}
use Rattle.std.proofs.lemmas.Slice.Zip.{AllZip-long}
use Rattle.model.specs.Transaction.{Address, Output}
use Rattle.tx.specs.declared.output.Output.{Output as CodeOutput}
use Rattle.draft.specs.declared.draft_fault.DraftFault.{DraftFault}
use Rattle.draft.specs.Refusal.{IsFaultRefusal}
use Rattle.std.specs.BTreeSet.{contains}
use Rattle.std.specs.Ordering.{is_eq}
use Rattle.ident.specs.Kinds.{ScriptHash}
use Rattle.std.specs.Global.{Vec}
use Rattle.model.specs.Cbor.{nesting}
use Rattle.model.specs.Script.{Script, item_of_script, script_hash_of}
use Rattle.value.specs.Parts.{AssetQuantity, IsValueOf, is_of}
use Rattle.value.specs.View.{asset_of}
use Rattle.value.specs.declared.asset_quantity.AssetQuantity.{AssetQuantity as CodeAssetQuantity}
use Rattle.tx.specs.Repeats.{same_input}
use Rattle.tx.specs.View.{input_of, output_of, address_of}
use Rattle.tx.specs.declared.input.Input.{Input as CodeInput}
use Rattle.draft.specs.declared.draft.Draft.{Draft as CodeDraft}
use Rattle.draft.specs.declared.draft_fault.DraftFault.TheVariants.{NotBuilt, OutOfMemory}
use Rattle.draft.specs.declared.keyed.Keyed.{Keyed}
use Rattle.draft.specs.Draft.{Draft, Signer, has_input, has_key, has_hash, has_asset, is_deep, is_long, is_zero, with_input, with_signer, with_script, with_minted, with_output, are_full, is_at_fault, IsOutputOf}
use Rattle.draft.specs.View.{IsDraftOf, IsWith, IsWithout, code_input_cmp, key_cmp, hash_cmp, named_cmp}
use Rattle.std.proofs.lemmas.Bool.Decides.{nat_tests}
use Rattle.draft.proofs.Soundness.{input_sound, output_sound, mint_sound, signer_sound, script_sound}
use Rattle.draft.proofs.Holding.{ruled_out, let_in, some_in, both_false, right_true, left_true, below_false, at_most_false, at_most_true, zip_more, held_more, held_same, input_tie, bytes_tie, named_tie}

-- ---- inputs

pub input_more : {K : Type 0} (signer_of : K → Signer) (old : CodeDraft K) (k : Keyed CodeInput CodeInput) (i : CodeInput) (d : Draft) → IsDraftOf signer_of old d → contains code_input_cmp old.inputs.keys i ≡ false
    → k.items.items ≡ old.inputs.items.items ++ i ∷ [] → ((q : CodeInput) → contains code_input_cmp k.keys q ≡ is_eq (code_input_cmp i q) || contains code_input_cmp old.inputs.keys q)
    → IsWith signer_of (with_input (input_of i) d) (record old { inputs = k })
input_more signer_of old k i d s free items keys = record {
  draft = record d { inputs = d.inputs ++ input_of i ∷ [] };
  is_wanted = let_in (has_input (input_of i) d.inputs) (record d { inputs = d.inputs ++ input_of i ∷ [] }) (sym (s.inputs.keys i) ∙ free);
  stands = record {
    inputs = held_more code_input_cmp input_of (λ q x. same_input x (input_of q)) old.inputs k d.inputs i i s.inputs items keys (λ q. input_tie i.transaction.bytes q.transaction.bytes i.index q.index);
    outputs = s.outputs;
    fee = s.fee;
    start = s.start;
    end = s.end;
    mint = s.mint;
    signers = s.signers;
    scripts = s.scripts;
    sound = input_sound d s.sound (input_of i) (sym (s.inputs.keys i) ∙ free);
  };
}

pub input_same : {K : Type 0} (signer_of : K → Signer) (old : CodeDraft K) (k : Keyed CodeInput CodeInput) (i : CodeInput) (d : Draft) → IsDraftOf signer_of old d → contains code_input_cmp old.inputs.keys i ≡ false
    → k.items.items ≡ old.inputs.items.items → ((q : CodeInput) → contains code_input_cmp k.keys q ≡ contains code_input_cmp old.inputs.keys q)
    → IsWithout signer_of d (with_input (input_of i) d) OutOfMemory (record old { inputs = k })
input_same signer_of old k i d s free items keys = record {
  refusal = some_in (has_input (input_of i) d.inputs) (record d { inputs = d.inputs ++ input_of i ∷ [] }) (sym (s.inputs.keys i) ∙ free);
  stands = record {
    inputs = held_same code_input_cmp input_of (λ q x. same_input x (input_of q)) old.inputs k d.inputs s.inputs items keys;
    outputs = s.outputs;
    fee = s.fee;
    start = s.start;
    end = s.end;
    mint = s.mint;
    signers = s.signers;
    scripts = s.scripts;
    sound = s.sound;
  };
}

-- ---- signers

-- the key is not there
key_free : {K : Type 0} (signer_of : K → Signer) (old : CodeDraft K) (key : List ℕ) (signer : Signer) (d : Draft) → IsDraftOf signer_of old d → key ≡ signer.key → contains key_cmp old.signers.keys key ≡ false
    → has_key signer.key d.signers ≡ false
key_free signer_of old key signer d s is free = ap (λ (q : List ℕ). has_key q d.signers) (sym is) ∙ sym (s.signers.keys key) ∙ free

pub signer_more : {K : Type 0} (signer_of : K → Signer) (old : CodeDraft K) (k : Keyed (List ℕ) K) (key : List ℕ) (signer : K) (d : Draft) → IsDraftOf signer_of old d → key ≡ (signer_of signer).key → contains key_cmp old.signers.keys key ≡ false
    → k.items.items ≡ old.signers.items.items ++ signer ∷ [] → ((q : List ℕ) → contains key_cmp k.keys q ≡ is_eq (key_cmp key q) || contains key_cmp old.signers.keys q)
    → IsWith signer_of (with_signer (signer_of signer) d) (record old { signers = k })
signer_more signer_of old k key signer d s is free items keys = record {
  draft = record d { signers = d.signers ++ signer_of signer ∷ [] };
  is_wanted = let_in (has_key (signer_of signer).key d.signers) (record d { signers = d.signers ++ signer_of signer ∷ [] }) (key_free signer_of old key (signer_of signer) d s is free);
  stands = record {
    inputs = s.inputs;
    outputs = s.outputs;
    fee = s.fee;
    start = s.start;
    end = s.end;
    mint = s.mint;
    signers = held_more key_cmp signer_of (λ q x. bytes_eq x.key q) old.signers k d.signers key signer s.signers items keys (λ q. bytes_tie key q ∙ ap (λ (h : List ℕ). bytes_eq h q) is);
    scripts = s.scripts;
    sound = signer_sound d s.sound (signer_of signer) (key_free signer_of old key (signer_of signer) d s is free);
  };
}

pub signer_same : {K : Type 0} (signer_of : K → Signer) (old : CodeDraft K) (k : Keyed (List ℕ) K) (key : List ℕ) (signer : Signer) (d : Draft) → IsDraftOf signer_of old d → key ≡ signer.key → contains key_cmp old.signers.keys key ≡ false
    → k.items.items ≡ old.signers.items.items → ((q : List ℕ) → contains key_cmp k.keys q ≡ contains key_cmp old.signers.keys q)
    → IsWithout signer_of d (with_signer signer d) OutOfMemory (record old { signers = k })
signer_same signer_of old k key signer d s is free items keys = record {
  refusal = some_in (has_key signer.key d.signers) (record d { signers = d.signers ++ signer ∷ [] }) (key_free signer_of old key signer d s is free);
  stands = record {
    inputs = s.inputs;
    outputs = s.outputs;
    fee = s.fee;
    start = s.start;
    end = s.end;
    mint = s.mint;
    signers = held_same key_cmp signer_of (λ q x. bytes_eq x.key q) old.signers k d.signers s.signers items keys;
    scripts = s.scripts;
    sound = s.sound;
  };
}

-- the key is there
pub signer_taken : {K : Type 0} (signer_of : K → Signer) (old : CodeDraft K) (key : List ℕ) (signer : Signer) (d : Draft) → IsDraftOf signer_of old d → key ≡ signer.key → contains key_cmp old.signers.keys key ≡ true
    → IsWithout signer_of d (with_signer signer d) NotBuilt old
signer_taken signer_of old key signer d s is taken = record {
  refusal = ruled_out (has_key signer.key d.signers) (record d { signers = d.signers ++ signer ∷ [] }) (ap (λ (q : List ℕ). has_key q d.signers) (sym is) ∙ sym (s.signers.keys key) ∙ taken);
  stands = s;
}

-- ---- scripts

-- the script is not ruled out
script_fits : {K : Type 0} (signer_of : K → Signer) (old : CodeDraft K) (hash : ScriptHash) (script : Script) (d : Draft) → IsDraftOf signer_of old d → hash.bytes ≡ script_hash_of script → nesting (item_of_script script) ≤ 61 → contains hash_cmp old.scripts.keys hash ≡ false
    → is_deep script || has_hash (script_hash_of script) d.scripts ≡ false
script_fits signer_of old hash script d s is flat free =
    both_false (is_deep script) (has_hash (script_hash_of script) d.scripts) (below_false 61 (nesting (item_of_script script)) flat)
    (ap (λ (h : List ℕ). has_hash h d.scripts) (sym is) ∙ sym (s.scripts.keys hash) ∙ free)

pub script_more : {K : Type 0} (signer_of : K → Signer) (old : CodeDraft K) (k : Keyed ScriptHash Script) (hash : ScriptHash) (script : Script) (d : Draft) → IsDraftOf signer_of old d → hash.bytes ≡ script_hash_of script → nesting (item_of_script script) ≤ 61 → contains hash_cmp old.scripts.keys hash ≡ false
    → k.items.items ≡ old.scripts.items.items ++ script ∷ [] → ((q : ScriptHash) → contains hash_cmp k.keys q ≡ is_eq (hash_cmp hash q) || contains hash_cmp old.scripts.keys q)
    → IsWith signer_of (with_script script d) (record old { scripts = k })
script_more signer_of old k hash script d s is flat free items keys = record {
  draft = record d { scripts = d.scripts ++ script ∷ [] };
  is_wanted = let_in (is_deep script || has_hash (script_hash_of script) d.scripts) (record d { scripts = d.scripts ++ script ∷ [] }) (script_fits signer_of old hash script d s is flat free);
  stands = record {
    inputs = s.inputs;
    outputs = s.outputs;
    fee = s.fee;
    start = s.start;
    end = s.end;
    mint = s.mint;
    signers = s.signers;
    scripts = held_more hash_cmp (λ x. x) (λ q x. bytes_eq (script_hash_of x) q.bytes) old.scripts k d.scripts hash script s.scripts items keys (λ q. bytes_tie hash.bytes q.bytes ∙ ap (λ (h : List ℕ). bytes_eq h q.bytes) is);
    sound = script_sound d s.sound script (below_false 61 (nesting (item_of_script script)) flat) (ap (λ (h : List ℕ). has_hash h d.scripts) (sym is) ∙ sym (s.scripts.keys hash) ∙ free);
  };
}

pub script_same : {K : Type 0} (signer_of : K → Signer) (old : CodeDraft K) (k : Keyed ScriptHash Script) (hash : ScriptHash) (script : Script) (d : Draft) → IsDraftOf signer_of old d → hash.bytes ≡ script_hash_of script → nesting (item_of_script script) ≤ 61 → contains hash_cmp old.scripts.keys hash ≡ false
    → k.items.items ≡ old.scripts.items.items → ((q : ScriptHash) → contains hash_cmp k.keys q ≡ contains hash_cmp old.scripts.keys q)
    → IsWithout signer_of d (with_script script d) OutOfMemory (record old { scripts = k })
script_same signer_of old k hash script d s is flat free items keys = record {
  refusal = some_in (is_deep script || has_hash (script_hash_of script) d.scripts) (record d { scripts = d.scripts ++ script ∷ [] }) (script_fits signer_of old hash script d s is flat free);
  stands = record {
    inputs = s.inputs;
    outputs = s.outputs;
    fee = s.fee;
    start = s.start;
    end = s.end;
    mint = s.mint;
    signers = s.signers;
    scripts = held_same hash_cmp (λ x. x) (λ q x. bytes_eq (script_hash_of x) q.bytes) old.scripts k d.scripts s.scripts items keys;
    sound = s.sound;
  };
}

-- ---- what is minted

-- the asset is not ruled out
pub mint_fits : {K : Type 0} (signer_of : K → Signer) (old : CodeDraft K) (key : ScriptHash × Vec ℕ) (quantity : ℤ) (d : Draft) → IsDraftOf signer_of old d → is_long key.1.items ≡ false → is_zero quantity ≡ false → contains named_cmp old.mint.keys key ≡ false
    → is_long key.1.items || (is_zero quantity || has_asset key.0.bytes key.1.items d.mint) ≡ false
mint_fits signer_of old key quantity d s short some free =
    both_false (is_long key.1.items) (is_zero quantity || has_asset key.0.bytes key.1.items d.mint) short
    (both_false (is_zero quantity) (has_asset key.0.bytes key.1.items d.mint) some (sym (s.mint.keys key) ∙ free))

abbrev minted_of : ScriptHash × Vec ℕ → ℤ → AssetQuantity ℤ
minted_of key quantity = record { policy = key.0.bytes; name = key.1.items; quantity = quantity }

pub mint_more : {K : Type 0} (signer_of : K → Signer) (old : CodeDraft K) (k : Keyed (ScriptHash × Vec ℕ) (CodeAssetQuantity ℤ)) (key : ScriptHash × Vec ℕ) (item : CodeAssetQuantity ℤ) (d : Draft) → IsDraftOf signer_of old d → item.policy.bytes ≡ key.0.bytes → item.name.items ≡ key.1.items
    → is_long key.1.items ≡ false → is_zero item.quantity ≡ false → contains named_cmp old.mint.keys key ≡ false
    → k.items.items ≡ old.mint.items.items ++ item ∷ [] → ((q : ScriptHash × Vec ℕ) → contains named_cmp k.keys q ≡ is_eq (named_cmp key q) || contains named_cmp old.mint.keys q)
    → IsWith signer_of (with_minted (minted_of key item.quantity) d) (record old { mint = k })
mint_more signer_of old k key item d s policy name short some free items keys = record {
  draft = record d { mint = d.mint ++ asset_of item ∷ [] };
  is_wanted = let_in (is_long key.1.items || (is_zero item.quantity || has_asset key.0.bytes key.1.items d.mint)) (record d { mint = d.mint ++ minted_of key item.quantity ∷ [] }) (mint_fits signer_of old key item.quantity d s short some free)
      ∙ λ i. Some (record d { mint = d.mint ++ record { policy = sym policy i; name = sym name i; quantity = item.quantity } ∷ [] });
  stands = record {
    inputs = s.inputs;
    outputs = s.outputs;
    fee = s.fee;
    start = s.start;
    end = s.end;
    mint = held_more named_cmp asset_of (λ q. is_of q.0.bytes q.1.items) old.mint k d.mint key item s.mint items keys
        (λ q. named_tie key.0.bytes q.0.bytes key.1.items q.1.items ∙ λ i. bytes_eq q.0.bytes (sym policy i) && bytes_eq q.1.items (sym name i));
    signers = s.signers;
    scripts = s.scripts;
    sound = mint_sound d s.sound (asset_of item) (ap is_long name ∙ short) some (ap (λ (p : List ℕ). has_asset p item.name.items d.mint) policy ∙ ap (λ (n : List ℕ). has_asset key.0.bytes n d.mint) name ∙ sym (s.mint.keys key) ∙ free);
  };
}

pub mint_same : {K : Type 0} (signer_of : K → Signer) (old : CodeDraft K) (k : Keyed (ScriptHash × Vec ℕ) (CodeAssetQuantity ℤ)) (key : ScriptHash × Vec ℕ) (quantity : ℤ) (d : Draft) → IsDraftOf signer_of old d
    → is_long key.1.items ≡ false → is_zero quantity ≡ false → contains named_cmp old.mint.keys key ≡ false
    → k.items.items ≡ old.mint.items.items → ((q : ScriptHash × Vec ℕ) → contains named_cmp k.keys q ≡ contains named_cmp old.mint.keys q)
    → IsWithout signer_of d (with_minted (minted_of key quantity) d) OutOfMemory (record old { mint = k })
mint_same signer_of old k key quantity d s short some free items keys = record {
  refusal = some_in (is_long key.1.items || (is_zero quantity || has_asset key.0.bytes key.1.items d.mint)) (record d { mint = d.mint ++ minted_of key quantity ∷ [] }) (mint_fits signer_of old key quantity d s short some free);
  stands = record {
    inputs = s.inputs;
    outputs = s.outputs;
    fee = s.fee;
    start = s.start;
    end = s.end;
    mint = held_same named_cmp asset_of (λ q. is_of q.0.bytes q.1.items) old.mint k d.mint s.mint items keys;
    signers = s.signers;
    scripts = s.scripts;
    sound = s.sound;
  };
}

-- a quantity that is not 0
pub not_zero : (z : ℤ) → (of_z w64 z ≡ 0 → ⊥) → is_zero z ≡ false
not_zero (pos zero) some = absurd (some refl)
not_zero (pos (suc n)) some = grind (arith, nat_tests)
not_zero (negsuc n) some = refl

-- an asset that is there is ruled out
pub mint_taken : {K : Type 0} (signer_of : K → Signer) (old : CodeDraft K) (key : ScriptHash × Vec ℕ) (quantity : ℤ) (d : Draft) → IsDraftOf signer_of old d → contains named_cmp old.mint.keys key ≡ true
    → IsWithout signer_of d (with_minted (minted_of key quantity) d) NotBuilt old
mint_taken signer_of old key quantity d s taken = record {
  refusal = ruled_out (is_long key.1.items || (is_zero quantity || has_asset key.0.bytes key.1.items d.mint)) (record d { mint = d.mint ++ minted_of key quantity ∷ [] })
      (right_true (is_long key.1.items) (is_zero quantity || has_asset key.0.bytes key.1.items d.mint) (right_true (is_zero quantity) (has_asset key.0.bytes key.1.items d.mint) (sym (s.mint.keys key) ∙ taken)));
  stands = s;
}

-- ---- outputs

few_there : {K : Type 0} (signer_of : K → Signer) (old : CodeDraft K) (d : Draft) → IsDraftOf signer_of old d → length old.outputs.items < 65536 → length d.outputs < 65536
few_there signer_of old d s few =
    let same : length d.outputs ≡ length old.outputs.items = sym (AllZip-long IsOutputOf d.outputs (map output_of old.outputs.items) s.outputs) ∙ length-map old.outputs.items output_of in
    omega (arith, same, few)

room : {K : Type 0} (signer_of : K → Signer) (old : CodeDraft K) (d : Draft) → IsDraftOf signer_of old d → length old.outputs.items < 65536 → are_full d.outputs ≡ false
room signer_of old d s few = at_most_false 65536 (length d.outputs) (few_there signer_of old d s few)

pub output_full : {K : Type 0} (signer_of : K → Signer) (old : CodeDraft K) (address : Address) (coin : ℕ) (assets : List (AssetQuantity ℕ)) (d : Draft) → IsDraftOf signer_of old d → 65536 ≤ length old.outputs.items → IsWithout signer_of d (with_output address coin assets d) NotBuilt old
output_full signer_of old address coin assets d s many =
    let same : length d.outputs ≡ length old.outputs.items = sym (AllZip-long IsOutputOf d.outputs (map output_of old.outputs.items) s.outputs) ∙ length-map old.outputs.items output_of in
    record {
      refusal = ruled_out (are_full d.outputs || is_at_fault assets) (record d { outputs = d.outputs ++ record { address = address; coin = coin; assets = assets } ∷ [] })
          (left_true (are_full d.outputs) (is_at_fault assets) (at_most_true 65536 (length d.outputs) (omega (arith, same, many))));
      stands = s;
    }

pub output_refused : {K : Type 0} (signer_of : K → Signer) (old : CodeDraft K) (address : Address) (coin : ℕ) (assets : List (AssetQuantity ℕ)) (fault : DraftFault) (d : Draft) → IsDraftOf signer_of old d → length old.outputs.items < 65536 → IsFaultRefusal (is_at_fault assets) fault
    → IsWithout signer_of d (with_output address coin assets d) fault old
output_refused signer_of old address coin assets NotBuilt d s few why = record {
  refusal = ruled_out (are_full d.outputs || is_at_fault assets) (record d { outputs = d.outputs ++ record { address = address; coin = coin; assets = assets } ∷ [] }) (right_true (are_full d.outputs) (is_at_fault assets) why);
  stands = s;
}
output_refused signer_of old address coin assets OutOfMemory d s few why = record {
  refusal = some_in (are_full d.outputs || is_at_fault assets) (record d { outputs = d.outputs ++ record { address = address; coin = coin; assets = assets } ∷ [] }) (both_false (are_full d.outputs) (is_at_fault assets) (room signer_of old d s few) why);
  stands = s;
}

pub output_same : {K : Type 0} (signer_of : K → Signer) (old : CodeDraft K) (outputs : Vec CodeOutput) (address : Address) (coin : ℕ) (assets : List (AssetQuantity ℕ)) (d : Draft) → IsDraftOf signer_of old d → length old.outputs.items < 65536 → is_at_fault assets ≡ false
    → outputs.items ≡ old.outputs.items → IsWithout signer_of d (with_output address coin assets d) OutOfMemory (record old { outputs = outputs })
output_same signer_of old outputs address coin assets d s few sound items = record {
  refusal = some_in (are_full d.outputs || is_at_fault assets) (record d { outputs = d.outputs ++ record { address = address; coin = coin; assets = assets } ∷ [] }) (both_false (are_full d.outputs) (is_at_fault assets) (room signer_of old d s few) sound);
  stands = record {
    inputs = s.inputs;
    outputs = subst (λ (os : List CodeOutput). AllZip IsOutputOf d.outputs (map output_of os)) (sym items) s.outputs;
    fee = s.fee;
    start = s.start;
    end = s.end;
    mint = s.mint;
    signers = s.signers;
    scripts = s.scripts;
    sound = s.sound;
  };
}

pub output_more : {K : Type 0} (signer_of : K → Signer) (old : CodeDraft K) (outputs : Vec CodeOutput) (output : CodeOutput) (coin : ℕ) (assets : List (AssetQuantity ℕ)) (d : Draft) → IsDraftOf signer_of old d → length old.outputs.items < 65536 → is_at_fault assets ≡ false
    → IsValueOf output.value coin assets → outputs.items ≡ old.outputs.items ++ output ∷ [] → IsWith signer_of (with_output (address_of output.address) coin assets d) (record old { outputs = outputs })
output_more signer_of old outputs output coin assets d s few sound value items = record {
  draft = record d { outputs = d.outputs ++ record { address = address_of output.address; coin = coin; assets = assets } ∷ [] };
  is_wanted = let_in (are_full d.outputs || is_at_fault assets) (record d { outputs = d.outputs ++ record { address = address_of output.address; coin = coin; assets = assets } ∷ [] }) (both_false (are_full d.outputs) (is_at_fault assets) (room signer_of old d s few) sound);
  stands = record {
    inputs = s.inputs;
    outputs = subst (λ (os : List Output). AllZip IsOutputOf (d.outputs ++ record { address = address_of output.address; coin = coin; assets = assets } ∷ []) os) (sym (map-append output_of old.outputs.items (output ∷ [])) ∙ sym (ap (map output_of) items))
        (zip_more IsOutputOf d.outputs (map output_of old.outputs.items) (record { address = address_of output.address; coin = coin; assets = assets }) (output_of output) s.outputs (record { address = refl; value = value }));
    fee = s.fee;
    start = s.start;
    end = s.end;
    mint = s.mint;
    signers = s.signers;
    scripts = s.scripts;
    sound = output_sound d s.sound (record { address = address_of output.address; coin = coin; assets = assets }) (few_there signer_of old d s few);
  };
}
