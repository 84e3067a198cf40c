-- Where followers stand, in blocks, and what each call makes of it.
use Rattle.std.specs.Prelude.{ℕ, suc, ◌+◌, min, nat_lt, List, [], ◌∷◌, Option, Some, None, map, option_map, if◌then◌else◌}
use Rattle.followers.specs.declared.place.Place.{Place}
use Rattle.followers.specs.declared.place.Due.{Due}
use Rattle.followers.specs.declared.place.Due.TheVariants.{Add, RollBack}

-- for each number the place of its follower, and None where no follower of that number is open
abbrev pub Places : Type 0
Places = List (Option Place)

-- how many followers are open; so of any list of what is known of followers
abbrev pub open_count : {X : Type 0} → List (Option X) → ℕ
open_count [] = 0
open_count (None ∷ fs) = open_count fs
open_count (Some f ∷ fs) = suc (open_count fs)

-- at the end of the first `n` blocks
abbrev pub standing : ℕ → Place
standing n = record { told = n; agreed = n }

-- of what was agreed the selected chain has `common` blocks at most
abbrev pub moved_place : ℕ → Place → Place
moved_place common place = record { told = place.told; agreed = min place.agreed common }

-- beside a selected chain of this length: back where less is agreed than was told, else the next block, else nothing
abbrev pub due_of : (height : ℕ) → Place → Option Due
due_of height place =
    if nat_lt place.agreed place.told then Some (RollBack place.agreed)
    else if nat_lt place.told height then Some (Add place.told)
    else None

abbrev pub place_after : (height : ℕ) → Place → Place
place_after height place =
    if nat_lt place.agreed place.told then standing place.agreed
    else if nat_lt place.told height then standing (place.told + 1)
    else place

-- of each follower
abbrev pub moved_places : ℕ → Places → Places
moved_places common places = map (option_map (moved_place common)) places
