-- The holders of an asset as they are told, owner by owner.
use Rattle.std.specs.Prelude.{ℕ, nat_eq, List, [], ◌∷◌, filter_map, Option, Some, None, if◌then◌else◌}
use Rattle.std.specs.Int.RustNames.{unsigned_abs}
use Rattle.std.specs.FinMap as finite
use Rattle.model.specs.Value.{Asset}
use Rattle.model.specs.Transaction.{Output}
use Rattle.model.specs.Utxo.{outputs_of, sum_of}
use Rattle.watching.specs.Histories.{owner_of}
use Rattle.watching.specs.Owned.{Owned}

-- how much of an asset these outputs hold together, which is never below nothing
abbrev pub much_in : Asset → List Output → ℕ
much_in asset outputs = unsigned_abs (sum_of asset outputs)

-- the owner of these outputs, which are of one, with what they hold together of the asset, where that is something
abbrev pub holder_with : Asset → List Output → Option (List ℕ × ℕ)
holder_with asset [] = None
holder_with asset (o ∷ os) =
    if nat_eq (much_in asset (o ∷ os)) 0 then None else Some (owner_of o, much_in asset (o ∷ os))

-- the owners that hold some of the asset, in the order of those that have outputs
abbrev pub holders_among : Asset → Owned → List (List ℕ × ℕ)
holders_among asset owned = filter_map (λ e. holder_with asset (outputs_of e.1)) (finite.entries owned)
