-- What a core answers, said of its journal.
use Rattle.std.proofs.Common.{◌≡◌, sym, subst}
use Rattle.model.specs.Signature.{Verifies}
use Rattle.shared.specs.Starts.{Start, network_from}
use Rattle.model.specs.History.{State}
use Rattle.model.specs.Journal.{Journal, Knowledge, height_of}
use Rattle.chain_core.specs.Held.{Held, Stands, network_held}
use Rattle.shared.specs.Asking.{IsSoAfter, IsAsked}
use Rattle.shared.specs.Meeting.{IsInformed}
use Rattle.shared.specs.Standing.{IsCoreOf}

pub told_after : (verifies : Verifies) (start : Start) (journal : Journal) (held : Held) (before after : Knowledge) (says : State → Type 0) → IsCoreOf verifies start journal held
    → IsInformed (network_from start verifies) journal before after → ((s : State) → network_held held verifies ≡ network_from start verifies → Stands held s → says s) → IsAsked (network_from start verifies) before after says
told_after verifies start journal held before after says core informed so =
    let here : IsSoAfter (network_from start verifies) journal says = record {
      legal = record { state = core.state; legal = core.legal; named = core.named };
      so = so core.state (λ i. network_from (core.start_is i) verifies) core.stands;
    } in
    record {
      height = height_of (network_from start verifies) journal;
      look = informed.look;
      told = subst (λ (j : Journal). IsSoAfter (network_from start verifies) j says) (sym informed.seen) here;
    }
