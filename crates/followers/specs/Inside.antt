-- What the fields of followers stand for, and how the numbers that are free are kept.
use Rattle.std.specs.Prelude.{◌≡◌, ◌≤◌, ℕ, zero, suc, List, [], ◌∷◌, length, Some, None, ◌==◌, if◌then◌else◌}
use Rattle.std.specs.List.{sum_by}
use Rattle.std.specs.Ordering.{nat_cmp}
use Rattle.std.specs.BinaryHeap.{heap_items, heap_capacity, IsHeap}
use Rattle.std.specs.declared.cmp.Reverse.{Reverse}
use Rattle.model.specs.Limits.{follower_limit}
use Rattle.followers.specs.Places.{Places}
use Rattle.followers.specs.declared.followers.Followers.TheInside.{Inside}

abbrev pub places_of : Inside → Places
places_of a = a.places.items

-- how often the number is there: once, where it has a place in which no follower is open
abbrev pub free_at : Places → ℕ → ℕ
free_at [] n = 0
free_at (None ∷ places) zero = 1
free_at (Some place ∷ places) zero = 0
free_at (place ∷ places) (suc n) = free_at places n

-- how many such numbers there are
abbrev pub frees : Places → ℕ
frees [] = 0
frees (None ∷ places) = suc (frees places)
frees (Some place ∷ places) = frees places

-- how often the number is kept
abbrev pub one_if : ℕ → Reverse ℕ → ℕ
one_if n r = if r.0 == n then 1 else 0

abbrev pub times : ℕ → List (Reverse ℕ) → ℕ
times n numbers = sum_by (one_if n) numbers

-- the least number first
abbrev pub IsLeastFirst : List (Reverse ℕ) → Type 0
IsLeastFirst numbers = IsHeap (λ x y. nat_cmp y.0 x.0) numbers

-- each number that is free is kept once, the least one first, and there is room for all
pub record IsInOrder (a : Inside) : Type 0 where
  pub kept : (n : ℕ) → times n (heap_items a.free) ≡ free_at a.places.items n
  pub counted : length (heap_items a.free) ≡ frees a.places.items
  pub ordered : IsLeastFirst (heap_items a.free)
  pub room : length a.places.items ≤ heap_capacity a.free
  pub few : length a.places.items ≤ follower_limit
