-- The two laws of reading a body, from those of its entries.
use Rattle.std.proofs.Common.{◌≡◌, ◌≢◌, ℕ, List, [], ◌∷◌, Option, Some, None, refl, arith}
use Rattle.std.specs.Prelude.{IfSome}
use Rattle.model.specs.Cbor.{Item, Unsigned}
use Rattle.model.specs.Value.{Mint, item_of_number, item_of_assets, IsMint}
use Rattle.model.specs.Transaction.{optional_entry, unless_empty}
use Rattle.cbor.proofs.ForCallers.{Field, ReadsItem, ReadsFields, unsigned_reads, as_reads, field_reads, optional_field_reads, deeper_reads, fields_reads, as_fields_reads, record_reads}
use Rattle.tx.specs.Body.{Body, body_item, IsBody}
use Rattle.tx.specs.BodyReading.{or_nothing, minted_field_at, body_with, body_at}
use Rattle.tx.proofs.PartTexts.{AreInputs, inputs_reads, AreOutputs, outputs_reads}
use Rattle.value.proofs.ForCallers.{mint_reads}

-- ---- what is minted

abbrev item_of_mint : Mint → Item
item_of_mint mint = item_of_assets item_of_number mint

-- the entry of what is minted, where it stands there
abbrev mint_entry : Option Mint → List Field
mint_entry None = []
mint_entry (Some mint) = (Unsigned 9, item_of_mint mint) ∷ []

-- the same entry, which is left out where nothing is minted
abbrev entry_of_mint : Mint → List Field
entry_of_mint mint = unless_empty 9 item_of_mint mint

onto : (o : Option Mint) → IfSome o (λ mint. IsMint mint × (mint ≢ [])) → (entry_of_mint (or_nothing o) ≡ mint_entry o) × IsMint (or_nothing o)
onto None p = (refl, tt)
onto (Some []) p = absurd (p.1 refl)
onto (Some (m ∷ ms)) p = (refl, p.0)

back : (mint : Mint) → IsMint mint → (o : Option Mint) × IfSome o (λ mint. IsMint mint × (mint ≢ [])) × (or_nothing o ≡ mint)
back [] p = (None, tt, refl)
back (m ∷ ms) p = (Some (m ∷ ms), (p, λ e. absurd cc), refl)

minted_field_reads : ReadsFields entry_of_mint IsMint 6 9 10 minted_field_at
unfolding minted_field_at
minted_field_reads =
    as_fields_reads or_nothing entry_of_mint IsMint onto back
    (optional_field_reads 9 (omega arith) mint_entry refl (λ mint. refl) (deeper_reads 6 (omega arith) mint_reads))

-- ---- the body

-- what is asked of the parts, each by itself
abbrev ArePartsOf : Body → Type 0
ArePartsOf b = AreInputs b.inputs × (AreOutputs b.outputs × (Unit {0} × (IfSome b.end (λ n. Unit {0}) × (IfSome b.start (λ n. Unit {0}) × IsMint b.mint))))

some_number : (o : Option ℕ) → IfSome o (λ n. Unit {0})
some_number None = tt
some_number (Some n) = tt

pub body_reads : ReadsItem body_item IsBody 7 body_at
unfolding body_at
body_reads =
    as_reads body_with body_item IsBody
    (λ x p. (refl, record { inputs = p.0.0; inputs_rise = p.0.1; outputs = p.1.0.0; outputs_count = p.1.0.1; mint = p.1.1.1.1.1 }))
    (λ b p. ((b.inputs, (b.outputs, (b.fee, (b.end, (b.start, b.mint))))), ((p.inputs, p.inputs_rise), ((p.outputs, p.outputs_count), (tt, (some_number b.end, (some_number b.start, p.mint))))), refl))
    (record_reads (omega arith)
    (fields_reads (omega arith) (omega arith) (field_reads 0 (omega arith) (deeper_reads 6 (omega arith) inputs_reads))
    (fields_reads (omega arith) (omega arith) (field_reads 1 (omega arith) outputs_reads)
    (fields_reads (omega arith) (omega arith) (field_reads 2 (omega arith) (unsigned_reads 5))
    (fields_reads (omega arith) (omega arith) (optional_field_reads 3 (omega arith) (optional_entry 3) refl (λ n. refl) (unsigned_reads 5))
    (fields_reads (omega arith) (omega arith) (optional_field_reads 8 (omega arith) (optional_entry 8) refl (λ n. refl) (unsigned_reads 5))
    minted_field_reads))))))
