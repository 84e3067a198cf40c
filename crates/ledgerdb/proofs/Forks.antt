-- Blocks that are applied one after the other, and the one that isn't.
use Rattle.std.proofs.Common.{◌≡◌, ℕ, ◌+◌, ◌<◌, List, [], ◌∷◌, ◌++◌, length, take, get_or, sym, ap, subst, ◌∙◌, arith}
use Rattle.std.specs.Prelude.{Some, slice_get}
use Rattle.std.proofs.lemmas.List.{take_more}
use Rattle.model.specs.Signature.{Verifies}
use Rattle.model.specs.Block.{Block}
use Rattle.model.specs.Ledger.{Network}
use Rattle.model.specs.Applying.{LedgerState, IsApplied, AreStates, last_state, IsStateOf}
use Rattle.model.proofs.StatesAlong.{states_push, state_along}
use Rattle.ledger.specs.Judgement.{IsApplyFault}
use Rattle.ledger.specs.declared.block_fault.ApplyFault.{ApplyFault}
use Rattle.ledger.specs.declared.block_fault.ApplyFault.TheVariants as apply
use Rattle.ledgerdb.specs.Faults.{StopsAt, IsForkFault, StopsOnChain, IsFaultOnChain}
use Rattle.ledgerdb.specs.declared.fork_fault.ForkFault.{ForkFault}
use Rattle.ledgerdb.specs.declared.fork_fault.ForkFault.TheVariants.{Refused, OutOfMemory}

module _ (verifies : Verifies) (root : LedgerState) (blocks : List Block) where
  -- one more block is applied
  pub one_more : (i : ℕ) (states more : List LedgerState) (tip after : LedgerState) (b : Block) → AreStates verifies root (take i blocks) states → i < length blocks → b ≡ get_or blocks i b
      → tip ≡ last_state root states → IsApplied verifies tip b after → more ≡ states ++ after ∷ [] → AreStates verifies root (take (i + 1) blocks) more
  one_more i states more tip after b are within is at applied more_is =
      let here : take i blocks ++ b ∷ [] ≡ take (i + 1) blocks = sym (take_more blocks i b within ∙ ap (λ (c : Block). take i blocks ++ c ∷ []) (sym is)) in
      let next : IsApplied verifies (last_state root states) b after = subst (λ (s : LedgerState). IsApplied verifies s b after) at applied in
      subst (λ (ts : List LedgerState). AreStates verifies root (take (i + 1) blocks) ts) (sym more_is)
      (subst (λ (bs : List Block). AreStates verifies root bs (states ++ after ∷ [])) here (states_push verifies root (take i blocks) states b after are next))

-- what is said of the state of a chain is said of the chain
stops_on_chain : (network : Network) (chain : List Block) (root : LedgerState) (blocks : List Block) (i : ℕ) (fault : ApplyFault) → IsStateOf network chain root → StopsAt network.verifies root blocks i fault
    → StopsOnChain network chain blocks i fault
stops_on_chain network chain root blocks i fault is at = record {
  state = last_state root at.before;
  is = state_along network chain root (take i blocks) at.before is at.applied;
  block = at.block;
  within = at.within;
  here = at.here;
  is_stopped = at.is_stopped;
}

pub fault_on_chain : (network : Network) (chain : List Block) (root : LedgerState) (blocks : List Block) (fault : ForkFault) → IsStateOf network chain root → IsForkFault network.verifies root blocks fault
    → IsFaultOnChain network chain blocks fault
fault_on_chain network chain root blocks (Refused i fault) is at = stops_on_chain network chain root blocks i (apply.Refused fault) is at
fault_on_chain network chain root blocks OutOfMemory is at = λ some. let stops = at some in (stops.0, stops_on_chain network chain root blocks stops.0 apply.OutOfMemory is stops.1)

-- the next block isn't applied, for this reason
pub stops_here : (verifies : Verifies) (root now : LedgerState) (blocks : List Block) (i : ℕ) (states : List LedgerState) (b : Block) (fault : ApplyFault) → AreStates verifies root (take i blocks) states → last_state root states ≡ now
    → i < length blocks → b ≡ get_or blocks i b → IsApplyFault verifies now b fault → StopsAt verifies root blocks i fault
stops_here verifies root now blocks i states b fault are at within is stopped = record {
  before = states;
  applied = are;
  block = b;
  within = within;
  here = sym is;
  is_stopped = subst (λ (s : LedgerState). IsApplyFault verifies s b fault) (sym at) stopped;
}

-- the first block isn't applied, for this reason
pub first_stops : (verifies : Verifies) (root : LedgerState) (blocks : List Block) (b : Block) (fault : ApplyFault) → Some b ≡ slice_get blocks 0 → IsApplyFault verifies root b fault → StopsAt verifies root blocks 0 fault
first_stops verifies root [] b fault is stopped = absurd cc
first_stops verifies root (x ∷ xs) b fault is stopped =
    let same : x ≡ b = cc in
    record { before = []; applied = tt; block = b; within = omega arith; here = same; is_stopped = stopped }
