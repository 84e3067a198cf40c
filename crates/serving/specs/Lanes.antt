-- What a lane is: one client that talks to a node.
use Rattle.std.specs.Prelude.{◌≡◌, ℕ, Option, option_map}
use Rattle.followers.specs.declared.follower_id.FollowerId.{FollowerId}
use Rattle.model.specs.Ledger.{Network}
use Rattle.model.specs.Journal.{Knowledge, IsLook}

-- what its caller knows of the journal, the number of its follower, once it has one, and the program that it lies in
pub record Lane (H : Type 0) : Type 0 where
  pub knows : Knowledge
  pub follower : Option ℕ
  pub host : H

-- nothing but what the caller knows changed
abbrev pub OnlyLearnt : {H : Type 0} → Lane H → Lane H → Type 0
OnlyLearnt before after = after ≡ record before { knows = after.knows }

-- the caller looked at the height, whatever it was
pub record HasLooked (network : Network) (before after : Knowledge) : Type 0 where
  pub height : ℕ
  pub look : IsLook network before height after

abbrev pub number_of : FollowerId → ℕ
number_of id = id.number

abbrev pub lane : {H : Type 0} → Knowledge → Option FollowerId → H → Lane H
lane knows follower host = record { knows = knows; follower = option_map number_of follower; host = host }
