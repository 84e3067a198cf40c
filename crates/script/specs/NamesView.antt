-- What the names of the code stand for.
use Rattle.std.specs.Prelude.{◌≡◌, ℕ, List, option_map}
use Rattle.byte_keys.specs.ByteKeys.{at_bytes}
use Rattle.ident.specs.PointView.{point_of}
use Rattle.script.specs.declared.bound_names.Bound as code
use Rattle.script.specs.declared.bound_names.BoundNames.{BoundNames}
use Rattle.script.specs.Names.{Bound, Binding, bound_to, first_name}

abbrev pub bound_of : code.Bound → Bound
bound_of b = record { bytes = b.bytes.items; place = option_map point_of b.place }

-- the names stand for these bindings: each name has what is bound to it, and each block its first name
pub record AreBound (code : BoundNames) (names : List Binding) : Type 0 where
  pub by_name : (name : List ℕ) → option_map bound_of (at_bytes (λ k. k.items) name code.by_name) ≡ bound_to name names
  pub by_hash : (hash : List ℕ)
      → option_map (λ n. n.items) (at_bytes (λ k. k.bytes) hash code.by_hash) ≡ first_name hash names
