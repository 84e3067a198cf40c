use Rattle.std.proofs.Common.{◌≡◌, ◌++◌, length, map, take, drop}
use Rattle.std.specs.Prelude.{option_map}
use Rattle.followers.specs.Places.{moved_place}
use Rattle.followers.proofs.followers.Followers.moved.Given as goal

-- those before this number are moved, and the numbers that are free stay
abbrev pub invariant-loop-number : goal.invariant-loop-number
invariant-loop-number l = (l.self-inside.places.items ≡ map (option_map (moved_place l.common)) (take l.number l.fn.self) ++ drop l.number l.fn.self)
    × (length l.self-inside.places.items ≡ length l.fn.self) × (l.self-inside.free ≡ l.initial.self-inside.free)
