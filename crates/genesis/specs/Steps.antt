-- Steps that may find nothing, and steps that may find a fault, one after the other.
use Rattle.std.specs.Prelude.{◌≡◌, Bool, true, false, List, [], ◌∷◌, Option, Some, None, option_and_then}
use Rattle.std.specs.Prelude.{Result, Ok, Err}
use Rattle.genesis.specs.declared.genesis_fault.GenesisFault.{GenesisFault}
use Rattle.genesis.specs.declared.genesis_fault.GenesisFault.TheVariants as faults

infixl 10 ◌>>=◌
-- what follows a step, where it found something
abbrev pub ◌>>=◌ : {A B : Type 0} → Option A → (A → Option B) → Option B
found >>= f = option_and_then f found

-- a step of a `do` block that finds nothing where its test fails
abbrev pub guard : Bool → Option (Unit {0})
guard true = Some tt
guard false = None

-- what a step finds for each element, if it finds something for all
abbrev pub each : {A B : Type 0} → (A → Option B) → List A → Option (List B)
each f [] = Some []
each f (x ∷ xs) = do
  y ← f x
  ys ← each f xs
  Some (y ∷ ys)

-- the elements of one list stand for those of another, each for the one at its place
abbrev pub Paired : {A B : Type 0} → (A → B → Type 0) → List A → List B → Type 0
Paired R [] [] = Unit {0}
Paired R (x ∷ xs) (y ∷ ys) = R x y × Paired R xs ys
Paired R [] (y ∷ ys) = ⊥
Paired R (x ∷ xs) [] = ⊥

-- what follows what was found; where nothing was, this is the fault
abbrev pub or_fault : {A B : Type 0} → GenesisFault → Option A → (A → Result B GenesisFault) → Result B GenesisFault
or_fault fault None next = Err fault
or_fault fault (Some x) next = next x

-- a function answered so, unless memory ran out
abbrev pub Gives : {X Y : Type 0} → (X → Y) → Result X GenesisFault → Result Y GenesisFault → Type 0
Gives view (Ok x) answer = answer ≡ Ok (view x)
Gives view (Err faults.OutOfMemory) answer = Unit {0}
Gives view (Err fault) answer = answer ≡ Err fault
