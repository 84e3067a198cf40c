-- Steps that may find nothing, and steps that may find a fault, one after the other.
use Rattle.std.specs.Prelude.{◌≡◌, List, [], ◌∷◌, Option, Some, None, option_and_then}
use Rattle.std.specs.Prelude.{Result, Ok, Err}
use Rattle.conversing.specs.declared.call_fault.CallFault.{CallFault}
use Rattle.conversing.specs.declared.call_fault.CallFault.TheVariants as faults

infixl 10 ◌>>=◌
-- what follows a step, where it found something
abbrev pub ◌>>=◌ : {A B : Type 0} → Option A → (A → Option B) → Option B
found >>= f = option_and_then f found

-- what a step finds for each element, if it finds something for all
abbrev pub each : {A B : Type 0} → (A → Option B) → List A → Option (List B)
each f [] = Some []
each f (x ∷ xs) = do
  y ← f x
  ys ← each f xs
  Some (y ∷ ys)

-- what follows what was found; where nothing was, this is the fault
abbrev pub or_fault : {A B : Type 0} → CallFault → Option A → (A → Result B CallFault) → Result B CallFault
or_fault fault None next = Err fault
or_fault fault (Some x) next = next x

-- a function answered so, unless memory ran out
abbrev pub Gives : {X Y : Type 0} → (X → Y) → Result X CallFault → Result Y CallFault → Type 0
Gives view (Ok x) answer = answer ≡ Ok (view x)
Gives view (Err faults.OutOfMemory) answer = Unit {0}
Gives view (Err fault) answer = answer ≡ Err fault
