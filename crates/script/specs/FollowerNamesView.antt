-- What the names of followers in the code stand for.
use Rattle.std.specs.Prelude.{◌≡◌, ℕ, List, Option, Some, None, IsSome}
use Rattle.script.specs.declared.follower_names.FollowerNames.{FollowerNames}
use Rattle.script.specs.Names.{Named, bound_to}
use Rattle.byte_keys.specs.ByteKeys.{at_bytes}

-- the number that a key has, if it has one: a key without one only takes room
abbrev pub number_at : Option (Option ℕ) → Option ℕ
number_at None = None
number_at (Some None) = None
number_at (Some (Some id)) = Some id

-- the names stand for these: each name has its follower
pub record AreFollowersNamed (code : FollowerNames) (names : List (Named ℕ)) : Type 0 where
  pub by_name : (name : List ℕ) → number_at (at_bytes (λ k. k.items) name code.by_name) ≡ bound_to name names

-- there is room to bind the name
abbrev pub HasRoom : FollowerNames → List ℕ → Type 0
HasRoom code name = IsSome (at_bytes (λ k. k.items) name code.by_name)
