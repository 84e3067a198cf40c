-- How a shared core is opened.
use Rattle.std.specs.Prelude.{ℕ, zero, suc, ◌≤◌, List, [], ◌∷◌, ◌++◌}
use Rattle.model.specs.Journal.{Knowledge}
use Rattle.shared.specs.declared.open_fault.OpenFault.{OpenFault}
use Rattle.shared.specs.declared.open_fault.OpenFault.TheVariants.{BadCallers, OutOfMemory}

abbrev pub AreCallers : ℕ → Type 0
AreCallers n = (1 ≤ n) × (n ≤ 64)

-- when each fault comes: there are too few or too many; or there aren't, and memory ran out
abbrev pub IsOpenFault : ℕ → OpenFault → Type 0
IsOpenFault callers BadCallers = AreCallers callers → ⊥
IsOpenFault callers OutOfMemory = AreCallers callers

-- a caller that made no call and has seen nothing
abbrev pub newcomer : ℕ → Knowledge
newcomer caller = record { caller = caller; seen = []; calls = []; loads = 0; last = 0 }

-- n of them, with the numbers from 0 on
abbrev pub newcomers : ℕ → List Knowledge
newcomers zero = []
newcomers (suc n) = newcomers n ++ newcomer n ∷ []
