-- The core of a run in its box.
use Rattle.std.proofs.Common.{◌≡◌, false, true, Result, Ok, Err, sym, subst}
use Rattle.std.specs.Prelude.{IsOk, OnOk, IfOk}

-- where the run had no fault, what its end promises of a core is so of the one in the box
pub in_box : {B X T E F : Type 0} (value : B → X) (P : X → Type 0) (core : X) (end : Result B F) (ran : Result T E) → IfOk end (λ b. (value b ≡ core) × IsOk ran) → OnOk ran (P core) → IfOk end (λ b. P (value b))
in_box value P core (Err f) ran boxed holds = tt
in_box value P core (Ok b) (Ok t) boxed holds = subst P (sym boxed.0) holds
in_box value P core (Ok b) (Err e) boxed holds = let bad : false ≡ true = boxed.1 in cc
