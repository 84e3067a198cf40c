-- How a simulation ends, by how its script was read.
use Rattle.std.proofs.Common.{◌≡◌, ◌⊎◌, inl, inr, ℕ, List, [], Option, None, Some, Result, Ok, Err}
use Rattle.std.specs.Prelude.{IfErr, IfSome, OnOk}
use Rattle.inbox.specs.Arrivals.{peers}
use Rattle.script.specs.Names.{AllNames}
use Rattle.scenario.specs.declared.fault.ScenarioFault.{ScenarioFault}
use Rattle.scenario.specs.declared.fault.ScenarioFault.TheVariants.{OutOfMemory, WriteFailed}
use Rattle.scenario.specs.SendRun.{Sent, SendsAll, SendsBy}
use Rattle.simulation.specs.Simulation.{IsFaultless, IsSimFault}

-- at a fault of the script
pub by_script : (names : AllNames) (old remaining : Option (List ℕ)) (why : ScenarioFault) → IfSome old (λ text. SendsBy peers names text remaining why) → IfSome old (λ text. IsSimFault names text remaining why)
by_script names None remaining why is = tt
by_script names (Some text) remaining why is = inl is

-- at another one
pub beside_script : (names : AllNames) (old remaining : Option (List ℕ)) (why : ScenarioFault) (sent : List Sent) → IfSome old (λ text. SendsAll peers names text sent) → IfSome old (λ (text : List ℕ). remaining ≡ Some []) → (why ≡ OutOfMemory) ⊎ (why ≡ WriteFailed) → IfSome old (λ text. IsSimFault names text remaining why)
beside_script names None remaining why sent all rest is = tt
beside_script names (Some text) remaining why sent all rest is = inr (is, (sent, all), rest)

-- at none
pub without_fault : (names : AllNames) (old remaining : Option (List ℕ)) (sent : List Sent) → IfSome old (λ text. SendsAll peers names text sent) → IfSome old (λ (text : List ℕ). remaining ≡ Some []) → IfSome old (λ text. IsFaultless names text × (remaining ≡ Some []))
without_fault names None remaining sent all rest = tt
without_fault names (Some text) remaining sent all rest = ((sent, all), rest)

-- ---- the same of results

pub by_script_err : {T : Type 0} (r : Result T ScenarioFault) (names : AllNames) (old remaining : Option (List ℕ)) → IfErr r (λ why. IfSome old (λ text. SendsBy peers names text remaining why)) → IfErr r (λ why. IfSome old (λ text. IsSimFault names text remaining why))
by_script_err (Ok v) names old remaining is = tt
by_script_err (Err why) names old remaining is = by_script names old remaining why is

pub beside_script_err : {T : Type 0} (r : Result T ScenarioFault) (names : AllNames) (old remaining : Option (List ℕ)) (sent : List Sent) → IfSome old (λ text. SendsAll peers names text sent) → IfSome old (λ (text : List ℕ). remaining ≡ Some []) → IfErr r (λ why. (why ≡ OutOfMemory) ⊎ (why ≡ WriteFailed)) → IfErr r (λ why. IfSome old (λ text. IsSimFault names text remaining why))
beside_script_err (Ok v) names old remaining sent all rest is = tt
beside_script_err (Err why) names old remaining sent all rest is = beside_script names old remaining why sent all rest is

pub without_fault_ok : {T : Type 0} (r : Result T ScenarioFault) (names : AllNames) (old remaining : Option (List ℕ)) (sent : List Sent) → IfSome old (λ text. SendsAll peers names text sent) → IfSome old (λ (text : List ℕ). remaining ≡ Some []) → OnOk r (IfSome old (λ text. IsFaultless names text × (remaining ≡ Some [])))
without_fault_ok (Ok v) names old remaining sent all rest = without_fault names old remaining sent all rest
without_fault_ok (Err why) names old remaining sent all rest = tt
