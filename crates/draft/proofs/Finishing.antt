-- What is made of the parts of a draft is a transaction of the draft.
use Rattle.std.proofs.Common.{◌≡◌, ℕ, ℤ, List, Option, Result, Ok, Err, IfOk, OnOk, map, sym, ap, ◌∙◌, subst}
use Rattle.std.specs.Prelude.{unwrap_or}
use Rattle.std.specs.List.{AllZip}
use Rattle.model.specs.Script.{Script}
use Rattle.model.specs.Transaction.{Transaction, Output, transaction_id_of}
use Rattle.model.specs.Value.{Mint}
use Rattle.timelock.specs.View.{interval_of}
use Rattle.value.specs.Parts.{AssetQuantity, IsMintOf}
use Rattle.tx.specs.Parts.{Parts, IsTxOf}
use Rattle.tx.specs.View.{input_of, output_of}
use Rattle.tx.proofs.ForCallers.{same_list}
use Rattle.draft.specs.declared.draft.Draft.{Draft as CodeDraft}
use Rattle.draft.specs.declared.unsigned.Unsigned.{Unsigned}
use Rattle.draft.specs.Draft.{Draft, Signer, IsTxOfDraft, IsOutputOf, witness_by, with_witnesses, parts_with}
use Rattle.draft.specs.UnsignedView.{parts_of_unsigned, AreBesideWitnesses}
use Rattle.draft.specs.View.{IsDraftOf}

pub ok_as : {T E : Type 0} (P Q : T → Type 0) (r : Result T E) → ((x : T) → P x → Q x) → IfOk r P → IfOk r Q
ok_as P Q (Ok x) each h = each x h
ok_as P Q (Err e) each h = tt

-- the same with a fact that holds of whatever came out
pub ok_told : {T E : Type 0} (M : Type 0) (P Q : T → Type 0) (r : Result T E) → ((x : T) → M → P x → Q x) → OnOk r M → IfOk r P → IfOk r Q
ok_told M P Q (Ok x) each m h = each x m h
ok_told M P Q (Err e) each m h = tt

-- the parts that were taken out of a draft
pub record AreTaken {K : Type 0} (code : CodeDraft K) (u : Unsigned) (by : List K) (supply : List Script) : Type 0 where
  pub beside : AreBesideWitnesses code u
  pub signers : by ≡ code.signers.items.items
  pub scripts : supply ≡ code.scripts.items.items

-- with other keys and scripts it is a transaction of the draft with these
pub finished_with : {K : Type 0} (signer_of : K → Signer) (code : CodeDraft K) (d : Draft) (u : Unsigned) (signers : List Signer) (scripts : List Script) → IsDraftOf signer_of code d → AreBesideWitnesses code u → (tx : Transaction)
    → IsTxOf tx (parts_of_unsigned u (map (witness_by (transaction_id_of tx)) signers) scripts) → IsTxOfDraft (with_witnesses d signers scripts) tx
finished_with signer_of code d u signers scripts s taken tx of =
    let id : List ℕ = transaction_id_of tx in
    let inputs : map input_of u.inputs.items ≡ d.inputs = ap (map input_of) taken.inputs ∙ sym s.inputs.items in
    let fee : u.fee ≡ unwrap_or d.fee 0 = taken.fee ∙ ap (λ (f : Option ℕ). unwrap_or f 0) (sym s.fee) in
    let interval : interval_of u.interval ≡ record { start = d.start; end = d.end } = taken.interval ∙ λ i. record { start = sym s.start i; end = sym s.end i } in
    let outputs : map output_of u.outputs.items ≡ tx.outputs = sym of.outputs in
    let mint : u.mint ≡ tx.mint = sym of.mint in
    let parts : parts_of_unsigned u (map (witness_by id) signers) scripts ≡ parts_with (with_witnesses d signers scripts) tx.outputs tx.mint id =
    λ i. record { inputs = inputs i; outputs = outputs i; fee = fee i; interval = interval i; mint = mint i; signatures = map (witness_by id) signers; scripts = scripts } in
    record {
      outputs = subst (λ (os : List Output). AllZip IsOutputOf d.outputs os) (sym taken.outputs ∙ outputs) s.outputs;
      mint = subst (λ (m : Mint). IsMintOf m d.mint) mint (subst (λ (as' : List (AssetQuantity ℤ)). IsMintOf u.mint as') (sym s.mint.items) taken.mint);
      parts = subst (λ (p : Parts). IsTxOf tx p) parts of;
    }

pub finished : {K : Type 0} (signer_of : K → Signer) (code : CodeDraft K) (d : Draft) (u : Unsigned) (signers : List K) (scripts : List Script) → IsDraftOf signer_of code d → AreTaken code u signers scripts → (tx : Transaction)
    → IsTxOf tx (parts_of_unsigned u (map (witness_by (transaction_id_of tx)) (map signer_of signers)) scripts) → IsTxOfDraft d tx
finished signer_of code d u signers scripts s taken tx of =
    let signed : map signer_of signers ≡ d.signers = ap (map signer_of) taken.signers ∙ sym s.signers.items in
    let supplied : scripts ≡ d.scripts = taken.scripts ∙ sym (same_list code.scripts.items.items) ∙ sym s.scripts.items in
    subst (λ (e : Draft). IsTxOfDraft e tx) (λ i. record d { signers = signed i; scripts = supplied i })
    (finished_with signer_of code d u (map signer_of signers) scripts s taken.beside tx of)
