-- What is so of a flush that ended well is so of a node that did.
use Rattle.std.proofs.Common.{◌≡◌, false, true, Result, Ok, Err}
use Rattle.std.specs.Prelude.{IsOk, OnOk}

pub end_well : {A B E F : Type 0} {P Q : Type 0} (flushed : Result A E) (end : Result B F) → OnOk end (IsOk flushed) → (P → Q) → OnOk flushed P → OnOk end Q
end_well flushed (Err f) well weaker holds = tt
end_well (Ok a) (Ok b) well weaker holds = weaker holds
end_well (Err e) (Ok b) well weaker holds = let bad : false ≡ true = well in cc
