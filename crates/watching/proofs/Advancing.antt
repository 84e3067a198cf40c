-- How loops put a block on.
use Rattle.std.proofs.Common.{◌≡◌, ℕ, suc, ◌+◌, ◌<◌, ◌≤◌, List, [], ◌∷◌, ◌++◌, length, drop, get_or, map, Option, Some, None, Bool, true, false, cond, ◌||◌, refl, sym, ap, ◌∙◌, arith}
use Rattle.std.specs.Prelude.{option_map, option_to_list, if◌then◌else◌, is_some}
use Rattle.std.specs.List.{list_any}
use Rattle.std.specs.FinMap as finite
use Rattle.std.proofs.lemmas.List.{drop_all}
use Rattle.cbor.proofs.ForCallers.{drop_here}
use Rattle.utxo_rules.proofs.ForCallers.{pairs_left, pair_here, no_pairs}
use Rattle.model.specs.Transaction.{Input, Output, Transaction, transaction_id_of}
use Rattle.model.specs.Utxo.{Utxo, output_at, outputs_at, spent_outputs, without, pairs_from, place, utxo_after}
use Rattle.model.specs.Block.{Header}
use Rattle.model.proofs.Unspent.{without_next, without_none}
use Rattle.tx.specs.View.{input_of, output_of}
use Rattle.tx.specs.declared.input.Input.{Input as CodeInput}
use Rattle.tx.specs.declared.output.Output.{Output as CodeOutput}
use Rattle.watching.specs.Which.{Which, is_watched, watched_outputs, watched_among, AreWatched, is_all}
use Rattle.watching.specs.Histories.{Inclusion, inclusion_in, Histories, Inclusions, owner_of, owners_of, owners_in, is_told, with_entry, with_entries}
use Rattle.watching.specs.Chains.{Tables, tables_after, tables_after_all}
use Rattle.watching.specs.Advances.{with_outputs, with_histories, with_inclusions, placed, with_watched, IsChanged}
use Rattle.watching.specs.declared.advance.Advance.{Advance}
use Rattle.watching.proofs.Entering.{entries_append}
use Rattle.watching.proofs.Narrowing.{watched_again, left_watched, spent_kept, some_spent}

-- ---- a loop that takes one element after the other

-- what is still to be taken, taken now, gives what all of them give
abbrev pub IsPartTaken : {C : Type 0} → (List C → Tables → Tables) → (old now : Tables) → List C → ℕ → Type 0
IsPartTaken F old now xs i = F (drop i xs) now ≡ F xs old

module _ {C : Type 0} (F : List C → Tables → Tables) (old now : Tables) (xs : List C) (i : ℕ) where
  pub one_taken : (new : Tables) (x : C) → i < length xs → x ≡ get_or xs i x → F (x ∷ drop (i + 1) xs) now ≡ F (drop (i + 1) xs) new → IsPartTaken F old now xs i → IsPartTaken F old new xs (i + 1)
  one_taken new x lt is same part = sym same ∙ ap (λ (ys : List C). F ys now) (sym (drop_here xs i x lt is)) ∙ part

  pub all_taken : F [] now ≡ now → length xs ≤ i → IsPartTaken F old now xs i → now ≡ F xs old
  all_taken nothing le part = sym nothing ∙ ap (λ (ys : List C). F ys now) (sym (drop_all i xs le)) ∙ part

-- inputs are spent
abbrev pub all_spent : List CodeInput → Tables → Tables
all_spent inputs k = with_outputs (without (map input_of inputs) k.outputs) k

pub none_spent : (k : Tables) → all_spent [] k ≡ k
none_spent k = ap (λ (u : Utxo). with_outputs u k) (without_none k.outputs)

pub one_spent : (now new : Tables) (x : CodeInput) (rest : List CodeInput) → new ≡ with_outputs (finite.remove now.outputs (input_of x)) now → all_spent (x ∷ rest) now ≡ all_spent rest new
one_spent now new x rest is =
    ap (λ (u : Utxo). with_outputs u now) (sym (without_next (input_of x) (map input_of rest) now.outputs)) ∙ ap (all_spent rest) (sym is)

-- a transaction is entered for the owners of what its inputs spend
module _ (m : Inclusion) (id : List ℕ) where
  abbrev pub spent_entered : List CodeInput → Tables → Tables
  spent_entered inputs k = with_histories (with_entries m id (owners_of (outputs_at k.outputs (map input_of inputs))) k.histories) k

  entered_first : (r : Option Output) (owner : List ℕ) (os : List Output) (hs : Histories) → option_map owner_of r ≡ Some owner
      → with_entries m id (owners_of (option_to_list r ++ os)) hs ≡ with_entries m id (owners_of os) (with_entry m id owner hs)
  entered_first None owner os hs is = absurd (let no : None ≡ Some owner = is in cc)
  entered_first (Some o) owner os hs is = ap (λ (w : Option (List ℕ)). with_entries m id (owners_of os) (with_entry m id (or_own w) hs)) is
    where
      or_own : Option (List ℕ) → List ℕ
      or_own None = owner
      or_own (Some w) = w

  none_first : (r : Option Output) (os : List Output) (hs : Histories) → option_map owner_of r ≡ None → with_entries m id (owners_of (option_to_list r ++ os)) hs ≡ with_entries m id (owners_of os) hs
  none_first None os hs is = refl
  none_first (Some o) os hs is = absurd (let no : Some (owner_of o) ≡ None = is in cc)

  pub one_spent_entered : (now new : Tables) (x : CodeInput) (rest : List CodeInput) (owner : List ℕ) → option_map owner_of (output_at now.outputs (input_of x)) ≡ Some owner
      → new ≡ with_histories (with_entry m id owner now.histories) now → spent_entered (x ∷ rest) now ≡ spent_entered rest new
  one_spent_entered now new x rest owner found is =
      ap (λ (hs : Histories). with_histories hs now) (entered_first (output_at now.outputs (input_of x)) owner (outputs_at now.outputs (map input_of rest)) now.histories found)
      ∙ ap (spent_entered rest) (sym is)

  pub none_spent_entered : (now : Tables) (x : CodeInput) (rest : List CodeInput) → option_map owner_of (output_at now.outputs (input_of x)) ≡ None → spent_entered (x ∷ rest) now ≡ spent_entered rest now
  none_spent_entered now x rest none =
      ap (λ (hs : Histories). with_histories hs now) (none_first (output_at now.outputs (input_of x)) (outputs_at now.outputs (map input_of rest)) now.histories none)

  -- and for those of its own watched outputs
  module _ (which : Which) where
    abbrev pub made_entered : List CodeOutput → Tables → Tables
    made_entered outputs k = with_histories (with_entries m id (owners_of (watched_outputs which (map output_of outputs))) k.histories) k

    watched_first : (b : Bool) (o : Output) (os : List Output) → is_watched which o ≡ b → watched_outputs which (o ∷ os) ≡ (if b then o ∷ watched_outputs which os else watched_outputs which os)
    watched_first b o os is = ap (λ (t : Bool). cond t (o ∷ watched_outputs which os) (watched_outputs which os)) is

    pub one_made_entered : (now new : Tables) (x : CodeOutput) (rest : List CodeOutput) → is_watched which (output_of x) ≡ true → new ≡ with_histories (with_entry m id (owner_of (output_of x)) now.histories) now → made_entered (x ∷ rest) now ≡ made_entered rest new
    one_made_entered now new x rest watched is =
        ap (λ (os : List Output). with_histories (with_entries m id (owners_of os) now.histories) now) (watched_first true (output_of x) (map output_of rest) watched)
        ∙ ap (made_entered rest) (sym is)

    pub none_made_entered : (now : Tables) (x : CodeOutput) (rest : List CodeOutput) → is_watched which (output_of x) ≡ false → made_entered (x ∷ rest) now ≡ made_entered rest now
    none_made_entered now x rest watched =
        ap (λ (os : List Output). with_histories (with_entries m id (owners_of os) now.histories) now) (watched_first false (output_of x) (map output_of rest) watched)

-- ---- outputs are put in

module _ (which : Which) (id : List ℕ) where
  -- with what is still to be put in it is what is asked for
  abbrev pub IsPartPlaced : (old now : Utxo) → List CodeOutput → ℕ → Type 0
  IsPartPlaced old now xs i = with_watched which (pairs_left output_of id xs i) now ≡ with_watched which (pairs_left output_of id xs 0) old

  pub one_placed : (old now new : Utxo) (xs : List CodeOutput) (i : ℕ) (x : CodeOutput) → i < length xs → x ≡ get_or xs i x → new ≡ placed which (place id i) (output_of x) now → IsPartPlaced old now xs i → IsPartPlaced old new xs (i + 1)
  one_placed old now new xs i x lt is put part =
      ap (with_watched which (pairs_left output_of id xs (i + 1))) put
      ∙ ap (λ (ps : List (Input × Output)). with_watched which ps now) (sym (pair_here output_of id xs i x lt is)) ∙ part

  pub all_placed : (old now : Utxo) (xs : List CodeOutput) (i : ℕ) → length xs ≤ i → IsPartPlaced old now xs i → now ≡ with_watched which (pairs_left output_of id xs 0) old
  all_placed old now xs i le part = ap (λ (ps : List (Input × Output)). with_watched which ps now) (sym (no_pairs output_of id xs i le)) ∙ part

-- what is put in, if it is watched
pub if_placed : (which : Which) (b : Bool) (i : Input) (o : Output) (u : Utxo) → is_watched which o ≡ b → (if b then finite.insert u i o else finite.remove u i) ≡ placed which i o u
if_placed which b i o u is = sym (ap (λ (t : Bool). if t then finite.insert u i o else finite.remove u i) is)

-- ---- a whole transaction

-- two changes, one after the other
pub changed_on : (old mid new : Advance) (u v w : Tables) → IsChanged old mid u → IsChanged mid new v → v ≡ w → IsChanged old new w
changed_on old mid new u v w first second same = record { now = second.now ∙ same; back = second.back ∙ first.back }

-- whether it is told, asked of what is kept
pub told_is : (which : Which) (u : Utxo) (t : Transaction) (inputs : List CodeInput) (outputs : List CodeOutput) (told : Bool) → AreWatched which u → map input_of inputs ≡ t.inputs → map output_of outputs ≡ t.outputs
    → told ≡ (is_all which || (list_any (λ i. is_some (output_at u i)) (map input_of inputs) || list_any (is_watched which) (map output_of outputs))) → told ≡ is_told which u t
told_is which u t inputs outputs told are are_in are_out is =
    is ∙ (λ i. is_all which || (list_any (λ (j : Input). is_some (output_at u j)) (are_in i) || list_any (is_watched which) (are_out i)))
    ∙ ap (λ (b : Bool). is_all which || (b || list_any (is_watched which) t.outputs)) (some_spent which t.inputs u are)

abbrev with_inclusion : (told : Bool) → (id : List ℕ) → Inclusion → Inclusions → Inclusions
with_inclusion told id m inclusions = if told then finite.insert inclusions id m else inclusions

-- what the five parts of it make of what was kept
pub parts_applied : (which : Which) (m at : Inclusion) (k entered_in entered_out dated spent after : Tables) (t : Transaction) (inputs : List CodeInput) (outputs : List CodeOutput) (id placed_id : List ℕ) (told : Bool)
    → AreWatched which k.outputs → m ≡ at → map input_of inputs ≡ t.inputs → map output_of outputs ≡ t.outputs → id ≡ transaction_id_of t → placed_id ≡ transaction_id_of t → told ≡ is_told which k.outputs t
    → entered_in ≡ spent_entered m id inputs k → entered_out ≡ made_entered m id which outputs entered_in → dated ≡ with_inclusions (with_inclusion told id m entered_out.inclusions) entered_out
    → spent ≡ all_spent inputs dated → after ≡ with_outputs (with_watched which (pairs_from placed_id 0 (map output_of outputs)) spent.outputs) spent → after ≡ tables_after which at k t
unfolding utxo_after
parts_applied which m at k entered_in entered_out dated spent after t inputs outputs id placed_id told are is_at are_in are_out is_id is_placed is_told first second third fourth fifth =
    let whole : after ≡ record {
      outputs = with_watched which (pairs_from placed_id 0 (map output_of outputs)) (without (map input_of inputs) k.outputs);
      histories = with_entries m id (owners_of (watched_outputs which (map output_of outputs))) (with_entries m id (owners_of (outputs_at k.outputs (map input_of inputs))) k.histories);
      inclusions = with_inclusion told id m k.inclusions;
    } =
    fifth ∙ ap (λ (s : Tables). with_outputs (with_watched which (pairs_from placed_id 0 (map output_of outputs)) s.outputs) s) (fourth ∙ ap (all_spent inputs) (third ∙ ap (λ (s : Tables). with_inclusions (with_inclusion told id m s.inclusions) s) (second ∙ ap (made_entered m id which outputs) first))) in
    let tid = transaction_id_of t in
    let named : after ≡ record {
      outputs = with_watched which (pairs_from tid 0 t.outputs) (without t.inputs k.outputs);
      histories = with_entries at tid (owners_of (watched_outputs which t.outputs)) (with_entries at tid (owners_of (spent_outputs k.outputs t)) k.histories);
      inclusions = with_inclusion told tid at k.inclusions;
    } =
    whole ∙ (λ i. record {
      outputs = with_watched which (pairs_from (is_placed i) 0 (are_out i)) (without (are_in i) k.outputs);
      histories = with_entries (is_at i) (is_id i) (owners_of (watched_outputs which (are_out i))) (with_entries (is_at i) (is_id i) (owners_of (outputs_at k.outputs (are_in i))) k.histories);
      inclusions = with_inclusion told (is_id i) (is_at i) k.inclusions;
    }) in
    let left = left_watched which t.inputs (pairs_from tid 0 t.outputs) k.outputs are in
    let kept : spent_outputs k.outputs t ≡ watched_outputs which (spent_outputs k.outputs t) = sym (spent_kept which t.inputs k.outputs are) in
    let both : with_entries at tid (owners_of (watched_outputs which t.outputs)) (with_entries at tid (owners_of (spent_outputs k.outputs t)) k.histories) ≡ with_entries at tid (owners_in which k.outputs t) k.histories =
    ap (λ (os : List Output). with_entries at tid (owners_of (watched_outputs which t.outputs)) (with_entries at tid (owners_of os) k.histories)) kept
    ∙ sym (entries_append at tid (owners_of (watched_outputs which (spent_outputs k.outputs t))) (owners_of (watched_outputs which t.outputs)) k.histories) in
    named ∙ (λ i. record { outputs = left i; histories = both i; inclusions = with_inclusion (is_told i) tid at k.inclusions })

-- ---- a whole block

abbrev pub IsPartOn : Which → Header → (old now : Tables) → List Transaction → ℕ → Type 0
IsPartOn which header old now ts i = tables_after_all which header i now (drop i ts) ≡ tables_after_all which header 0 old ts

pub one_on : (which : Which) (header : Header) (old now new : Tables) (ts : List Transaction) (i : ℕ) (t : Transaction) → i < length ts → t ≡ get_or ts i t → new ≡ tables_after which (inclusion_in header i) now t
    → IsPartOn which header old now ts i → IsPartOn which header old new ts (i + 1)
one_on which header old now new ts i t lt is after part =
    let next : i + 1 ≡ suc i = omega arith in
    ap (λ (n : ℕ). tables_after_all which header n new (drop n ts)) next
    ∙ ap (λ (k : Tables). tables_after_all which header (suc i) k (drop (suc i) ts)) after
    ∙ ap (λ (n : ℕ). tables_after_all which header i now (t ∷ drop n ts)) (sym next)
    ∙ ap (tables_after_all which header i now) (sym (drop_here ts i t lt is)) ∙ part

pub all_on : (which : Which) (header : Header) (old now : Tables) (ts : List Transaction) (i : ℕ) → length ts ≤ i → IsPartOn which header old now ts i → now ≡ tables_after_all which header 0 old ts
all_on which header old now ts i le part = ap (tables_after_all which header i now) (sym (drop_all i ts le)) ∙ part

-- after a transaction, and after all of a block, none is left that isn't watched
pub one_watched : (which : Which) (m : Inclusion) (now new : Tables) (t : Transaction) → new ≡ tables_after which m now t → AreWatched which new.outputs
one_watched which m now new t is = ap (λ (k : Tables). watched_among which k.outputs) is ∙ watched_again which (utxo_after now.outputs t) ∙ ap (λ (k : Tables). k.outputs) (sym is)

pub block_watched : (which : Which) (header : Header) (index : ℕ) (k : Tables) (ts : List Transaction) → AreWatched which k.outputs → AreWatched which (tables_after_all which header index k ts).outputs
block_watched which header index k [] are = are
block_watched which header index k (t ∷ ts) are =
    block_watched which header (suc index) (tables_after which (inclusion_in header index) k t) ts (watched_again which (utxo_after k.outputs t))
