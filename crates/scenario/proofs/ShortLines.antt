-- Lines in which memory runs out after their event.
use Rattle.std.proofs.Common.{◌≡◌, inr, Some, Ok, refl}
use Rattle.model.specs.Ledger.{Network}
use Rattle.model.specs.History.{State, Event, Reply, Step}
use Rattle.chain_core.specs.Held.{Held, Stands}
use Rattle.script.specs.Meaning.{Meaning}
use Rattle.scenario.specs.Run.{Scene, event_meant}
use Rattle.scenario.specs.SessionView.{IsShort}

pub it_happened : (network : Network) (s : Scene) (meaning : Meaning) (event : Event) (reply : Reply) (core : Held) → event_meant meaning ≡ Some event → (t : State) × Step network s.state event reply t × Stands core t → IsShort network s.state (λ m. m ≡ Ok meaning) core
it_happened network s meaning event reply core is (t, step, stands) =
    record { state = t; left = inr (meaning, refl, record { event = event; is_event = is; reply = reply; step = step }); stands = stands }
