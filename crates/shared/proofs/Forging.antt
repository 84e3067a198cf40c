-- What a core answers where a block is to be forged, said of its journal.
use Rattle.std.proofs.Common.{◌≡◌, ℕ, List, [], Result, Ok, Err, ap, subst, ◌∙◌}
use Rattle.std.specs.Prelude.{IfOk, IfErr}
use Rattle.model.specs.Signature.{Verifies}
use Rattle.model.specs.Transaction.{Transaction}
use Rattle.model.specs.Block.{Block, SpellsBlock}
use Rattle.model.specs.Ledger.{Network}
use Rattle.model.specs.Forging.{ArrivesNext}
use Rattle.model.specs.History.{State}
use Rattle.model.specs.Journal.{Journal, Knowledge}
use Rattle.chain_core.specs.Held.{Held, Stands, network_held}
use Rattle.chain_core.specs.ForgedBlocks.{IsForgedAs, IsForgeFault}
use Rattle.chain_core.specs.declared.forging.Forged.{Forged}
use Rattle.chain_core.specs.declared.forging.ForgeFault.{ForgeFault}
use Rattle.shared.specs.Starts.{Start, network_from}
use Rattle.shared.specs.Arrivals.{arrivals_in}
use Rattle.shared.specs.Asking.{IsAsked}
use Rattle.shared.specs.Forging.{IsForgedOf}
use Rattle.shared.specs.Meeting.{IsInformed}
use Rattle.shared.specs.Standing.{IsCoreOf}
use Rattle.shared.proofs.Asking.{told_after}

module _ (verifies : Verifies) (start : Start) (journal : Journal) (held : Held) (before after : Knowledge) (slot : ℕ) where
  -- the block, where one is forged
  pub forged_after : (answer : Result Forged ForgeFault) → IsCoreOf verifies start journal held → IsInformed (network_from start verifies) journal before after
      → IfOk answer (λ f. IsForgedAs (network_held held verifies) held.chain held.mempool slot f.bytes.items f.point)
      → IfOk answer (λ f. (s : State) → Stands held s → (b : Block) → SpellsBlock b f.bytes.items → ArrivesNext (network_held held verifies) s b f.bytes.items)
      → IfOk answer (λ f. IsAsked (network_from start verifies) before after (λ s. IsForgedOf (network_from start verifies) s slot f.bytes.items f.point))
  forged_after (Err e) core informed forged arrives = tt
  forged_after (Ok f) core informed forged arrives =
      told_after verifies start journal held before after (λ s. IsForgedOf (network_from start verifies) s slot f.bytes.items f.point) core informed
      (λ s network stands. record {
        forged = subst (λ (x : Network × (List Block × List Transaction)). IsForgedAs x.0 x.1.0 x.1.1 slot f.bytes.items f.point) (λ i. (network i, (stands.chain i, stands.mempool i))) forged;
        arrives = subst (λ (n : Network). (b : Block) → SpellsBlock b f.bytes.items → ArrivesNext n s b f.bytes.items) network (arrives s stands);
      })

  -- else the first fault that applies, or OutOfMemory, where none does
  pub fault_after : (answer : Result Forged ForgeFault) → IsCoreOf verifies start journal held → IsInformed (network_from start verifies) journal before after
      → IfErr answer (IsForgeFault (network_held held verifies) held.chain slot)
      → IfErr answer (λ fault. IsAsked (network_from start verifies) before after (λ s. IsForgeFault (network_from start verifies) s.chain slot fault))
  fault_after (Ok f) core informed is = tt
  fault_after (Err fault) core informed is =
      told_after verifies start journal held before after (λ s. IsForgeFault (network_from start verifies) s.chain slot fault) core informed
      (λ s network stands. subst (λ (x : Network × List Block). IsForgeFault x.0 x.1 slot fault) (λ i. (network i, stands.chain i)) is)

-- ---- a caller of whose calls none is an arrival

pub quiet_forged : (verifies : Verifies) (start : Start) (before after : Knowledge) (slot : ℕ) (answer : Result Forged ForgeFault) → IfOk answer (λ f. IsAsked (network_from start verifies) before after (λ s. IsForgedOf (network_from start verifies) s slot f.bytes.items f.point))
    → IfErr answer (λ fault. IsAsked (network_from start verifies) before after (λ s. IsForgeFault (network_from start verifies) s.chain slot fault)) → arrivals_in before.calls ≡ [] → arrivals_in after.calls ≡ []
quiet_forged verifies start before after slot (Ok f) asked fault quiet = ap arrivals_in asked.look.calls ∙ quiet
quiet_forged verifies start before after slot (Err e) asked fault quiet = ap arrivals_in fault.look.calls ∙ quiet
