-- An error that `?` hands on, and what holds of every error: for all crates.
use Rattle.std.proofs.Common.{◌≡◌, Result, Ok, Err, sym, subst}
use Rattle.std.specs.Prelude.{OnErr, IfErr, IsErrAnd}

-- what holds anyway holds at an error
pub on_err : {X E : Type 0} (result : Result X E) (P : Type 0) → P → OnErr result P
on_err (Ok x) P p = tt
on_err (Err e) P p = p

-- what `?` makes of an error has what this one has
pub if_err : {X E : Type 0} (result : Result X E) (is : E) (P : E → Type 0) → IsErrAnd result (λ e. e ≡ is) → P is → IfErr result P
if_err (Ok x) is P same p = tt
if_err (Err e) is P same p = subst P (sym same) p

-- whatever the error
pub any_fault : {X E : Type 0} (result : Result X E) (P : E → Type 0) → ((e : E) → P e) → IfErr result P
any_fault (Ok x) P all = tt
any_fault (Err e) P all = all e
