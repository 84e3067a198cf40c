-- Answers that OutOfMemory may stand for.
use Rattle.std.specs.Prelude.{◌≡◌, Result, Ok, Err, IsOk}
use Rattle.script.specs.declared.fault.LineFault.{LineFault}
use Rattle.script.specs.declared.stop.Stop.{Stop}
use Rattle.script.specs.declared.stop.Stop.TheVariants.{Fault, OutOfMemory}

-- the code answers what the definitions say, seen by a view of it, or that memory ran out where they say no fault
abbrev pub Answers : {X Y : Type 0} → (X → Y) → Result Y LineFault → Result X Stop → Type 0
Answers view said (Ok x) = said ≡ Ok (view x)
Answers view said (Err (Fault fault)) = said ≡ Err fault
Answers view said (Err OutOfMemory) = IsOk said
