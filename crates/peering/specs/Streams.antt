-- The first bytes of a stream, where those that it has left are known.
use Rattle.std.specs.Prelude.{◌≡◌, ◌↔◌, ℕ, ◌≤◌, List, ◌++◌, length, take, drop, Option, Some, None, IfSome}
use Rattle.std.specs.Io.KnownBytes.{Consumes, IsAtEnd, Keeps}

-- the first bytes were read, as many as were wanted or all that there were, and what follows them is left
abbrev pub HoldsFirst : (count : ℕ) → (old new : Option (List ℕ)) → List ℕ → Type 0
HoldsFirst count old new held = IfSome old (λ text. (held ≡ take count text) × (new ≡ Some (drop count text)))

-- the first bytes were passed over; and whether there were so many
abbrev pub DropsFirst : (count : ℕ) → (WereAll : Type 0) → (old new : Option (List ℕ)) → Type 0
DropsFirst count WereAll old new = IfSome old (λ text. (WereAll ↔ (count ≤ length text))
    × (new ≡ Some (drop count text)))

-- ---- parts of them

-- so many bytes were read and put behind what was held; or there are no more
abbrev pub TakesPart : Option ℕ → (old new : Option (List ℕ)) → (held now : List ℕ) → Type 0
TakesPart None old new held now = (now ≡ held) × Keeps old new × IsAtEnd old
TakesPart (Some n) old new held now = (part : List ℕ) × (now ≡ held ++ part) × (length part ≡ n) × Consumes old new part

-- so many bytes were passed over; or there are no more
abbrev pub PassesOver : Option ℕ → (old new : Option (List ℕ)) → Type 0
PassesOver None old new = Keeps old new × IsAtEnd old
PassesOver (Some n) old new = (part : List ℕ) × (length part ≡ n) × Consumes old new part
