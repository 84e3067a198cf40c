-- What was changed in what is kept, and how it is undone.
use Rattle.std.specs.Prelude.{ℕ, zero, suc, nat_eq, if◌then◌else◌, List, [], ◌∷◌, Option, Some, None, ◌≡◌, ◌⊎◌, refl}
use mathlib.Core.Logic.{inl, inr}
use Rattle.std.specs.Coded.{Coded, code_by, coded×, coded⊎, coded_list, coded_option}
use Rattle.std.specs.FinMap as finite
use Rattle.std.specs.declared.cmp.Ordering.{Ordering}
use Rattle.model.specs.Transaction.{Input, Output}
use Rattle.model.specs.Chain.{Tip}
use Rattle.model.specs.Codes.{coded_bytes, coded_input, coded_output, coded_tip}
use Rattle.watching.specs.Histories.{Inclusion, coded_inclusion, History, Histories, history_at}
use Rattle.watching.specs.Chains.{Tables, Version}

-- what stood there before a change
pub data Change : Type 0 where
  OutputAt : Input → Option Output → Change  -- the output that the input would have spent
  EntryAt : (owner : List ℕ) → Inclusion → Option (List ℕ) → Change  -- the transaction of that inclusion, for the owner
  InclusionOf : (id : List ℕ) → Option Inclusion → Change  -- the inclusion of the transaction

-- the map with what stood at this key: this value, or nothing
abbrev pub restored : {K X : Type 0} {R : K → K → Ordering} → finite.FinMap R X → K → Option X → finite.FinMap R X
restored m k None = finite.remove m k
restored m k (Some x) = finite.insert m k x

-- with this history of an owner; an empty one isn't kept
abbrev pub with_history : Histories → (owner : List ℕ) → History → Histories
with_history histories owner history =
    if nat_eq (finite.len history) 0 then finite.remove histories owner else finite.insert histories owner history

abbrev pub put_back : Change → Tables → Tables
put_back (OutputAt input before) tables = record {
  outputs = restored tables.outputs input before;
  histories = tables.histories;
  inclusions = tables.inclusions;
}
put_back (EntryAt owner inclusion before) tables = record {
  outputs = tables.outputs;
  histories = with_history tables.histories owner (restored (history_at tables.histories owner) inclusion before);
  inclusions = tables.inclusions;
}
put_back (InclusionOf id before) tables = record {
  outputs = tables.outputs;
  histories = tables.histories;
  inclusions = restored tables.inclusions id before;
}

-- with what stood there before all of these changes: the last one is undone first
abbrev pub all_put_back : List Change → Tables → Tables
all_put_back [] tables = tables
all_put_back (c ∷ cs) tables = put_back c (all_put_back cs tables)

-- what a block changed: where the chain ended before it, and its changes
pub record Difference : Type 0 where
  pub tip : Tip
  pub changes : List Change

-- what was kept before these blocks, the newest first
abbrev pub before_blocks : List Difference → Tables → Tables
before_blocks [] tables = tables
before_blocks (d ∷ ds) tables = before_blocks ds (all_put_back d.changes tables)

-- the version before each of these blocks, the newest first
abbrev pub versions_before : Tables → List Difference → List Version
versions_before tables [] = []
versions_before tables (d ∷ ds) =
    record { tip = d.tip; tables = all_put_back d.changes tables } ∷ versions_before (all_put_back d.changes tables) ds

-- where the chain ends before the first `back` of these blocks, the newest first
abbrev pub tip_back : (back : ℕ) → Tip → List Difference → Tip
tip_back zero tip ds = tip
tip_back (suc back) tip [] = tip
tip_back (suc back) tip (d ∷ ds) = tip_back back d.tip ds

-- ---- codes

-- a change as a sum
abbrev pub ChangeParts : Type 0
ChangeParts = (Input × Option Output) ⊎ ((List ℕ × (Inclusion × Option (List ℕ))) ⊎ (List ℕ × Option Inclusion))

abbrev parts_of : Change → ChangeParts
parts_of (OutputAt input before) = inl (input, before)
parts_of (EntryAt owner inclusion before) = inr (inl (owner, (inclusion, before)))
parts_of (InclusionOf id before) = inr (inr (id, before))

abbrev change_from : ChangeParts → Change
change_from (inl p) = OutputAt p.0 p.1
change_from (inr (inl p)) = EntryAt p.0 p.1.0 p.1.1
change_from (inr (inr p)) = InclusionOf p.0 p.1

pub change_back : (c : Change) → change_from (parts_of c) ≡ c
change_back (OutputAt input before) = refl
change_back (EntryAt owner inclusion before) = refl
change_back (InclusionOf id before) = refl

abbrev pub coded_change : Coded Change
coded_change =
    code_by ChangeParts
    (coded⊎ (coded× coded_input (coded_option coded_output))
    (coded⊎ (coded× coded_bytes (coded× coded_inclusion (coded_option coded_bytes)))
    (coded× coded_bytes (coded_option coded_inclusion))))
    parts_of change_from change_back

abbrev pub coded_difference : Coded Difference
coded_difference =
    code_by (Tip × List Change) (coded× coded_tip (coded_list coded_change)) (λ d. (d.tip, d.changes))
    (λ p. record { tip = p.0; changes = p.1 })
    (λ _. refl)
