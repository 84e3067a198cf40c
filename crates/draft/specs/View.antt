-- Which drafts of the definitions a draft of the code stands for, and what a call that adds a part does.
use Rattle.std.specs.Prelude.{◌≡◌, ℕ, Bool, List, map, Option, Some, Result, Ok, Err}
use Rattle.std.specs.List.{AllZip}
use Rattle.std.specs.Ordering.{nat_cmp, ordering_then}
use Rattle.std.specs.declared.cmp.Ordering.{Ordering}
use Rattle.std.specs.Cmp.Lexicographic.{slice_cmp}
use Rattle.std.specs.BTreeSet.{contains}
use Rattle.std.specs.Global.{Vec}
use Rattle.ident.specs.Kinds.{ScriptHash}
use Rattle.model.specs.Transaction.{input_cmp}
use Rattle.value.specs.View.{asset_of}
use Rattle.tx.specs.View.{input_of, output_of}
use Rattle.tx.specs.declared.input.Input.{Input as CodeInput}
use Rattle.draft.specs.declared.draft.Draft.{Draft as CodeDraft}
use Rattle.draft.specs.declared.draft_fault.DraftFault.{DraftFault}
use Rattle.draft.specs.declared.keyed.Keyed.{Keyed}
use Rattle.draft.specs.Draft.{Draft, Signer, IsOutputOf, IsSound, has_input, has_asset, has_key, has_hash}
use Rattle.draft.specs.Refusal.{IsRefusal}

-- ---- the orders of the keys

abbrev pub code_input_cmp : CodeInput → CodeInput → Ordering
code_input_cmp a b = input_cmp (input_of a) (input_of b)

abbrev pub key_cmp : List ℕ → List ℕ → Ordering
key_cmp a b = slice_cmp nat_cmp a b

abbrev pub hash_cmp : ScriptHash → ScriptHash → Ordering
hash_cmp a b = slice_cmp nat_cmp a.bytes b.bytes

abbrev pub named_cmp : ScriptHash × Vec ℕ → ScriptHash × Vec ℕ → Ordering
named_cmp a b = ordering_then (slice_cmp nat_cmp a.0.bytes b.0.bytes) (slice_cmp nat_cmp a.1.items b.1.items)

-- ---- drafts

-- the code has just these parts, in their order, and knows of each key whether one of them has it
pub record Holds {K T X : Type 0} (cmp : K → K → Ordering) (view : T → X) (has : K → List X → Bool)
    (code : Keyed K T) (parts : List X) : Type 0 where
  pub items : parts ≡ map view code.items.items
  pub keys : (key : K) → contains cmp code.keys key ≡ has key parts

-- the draft of the code, whose signers stand for these, has the parts of the draft, which have no fault
pub record IsDraftOf {K : Type 0} (signer_of : K → Signer) (code : CodeDraft K) (d : Draft) : Type 0 where
  pub inputs : Holds code_input_cmp input_of (λ q. has_input (input_of q)) code.inputs d.inputs
  pub outputs : AllZip IsOutputOf d.outputs (map output_of code.outputs.items)
  pub fee : d.fee ≡ code.fee
  pub start : d.start ≡ code.start
  pub end : d.end ≡ code.end
  pub mint : Holds named_cmp asset_of (λ q. has_asset q.0.bytes q.1.items) code.mint d.mint
  pub signers : Holds key_cmp signer_of has_key code.signers d.signers
  pub scripts : Holds hash_cmp (λ s. s) (λ q. has_hash q.bytes) code.scripts d.scripts
  pub sound : IsSound d

-- the code stands for the draft with the part
pub record IsWith {K : Type 0} (signer_of : K → Signer) (wanted : Option Draft) (new : CodeDraft K) : Type 0 where
  pub draft : Draft
  pub is_wanted : wanted ≡ Some draft
  pub stands : IsDraftOf signer_of new draft

-- the code stands for the draft as before, and the part is refused
pub record IsWithout {K : Type 0} (signer_of : K → Signer) (d : Draft) (wanted : Option Draft) (fault : DraftFault)
    (new : CodeDraft K) : Type 0 where
  pub refusal : IsRefusal fault wanted
  pub stands : IsDraftOf signer_of new d

-- what came of adding a part, for each draft that the code stood for
abbrev pub Adds : {K T : Type 0} → (K → Signer) → (Draft → Option Draft) → (old new : CodeDraft K)
    → Result T DraftFault → Type 0
Adds signer_of add old new (Ok done) = (d : Draft) → IsDraftOf signer_of old d → IsWith signer_of (add d) new
Adds signer_of add old new (Err fault) =
    (d : Draft) → IsDraftOf signer_of old d → IsWithout signer_of d (add d) fault new
