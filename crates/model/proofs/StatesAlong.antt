-- The states along a chain, one after each block.
use Rattle.std.proofs.Common.{◌≡◌, ℕ, zero, suc, ◌≤◌, List, [], ◌∷◌, ◌++◌, length, take, drop, refl, sym, ap, subst, ◌∙◌, append_assoc, append-nil}
use Rattle.std.specs.Prelude.{Option, Some, None, option_and_then}
use Rattle.std.specs.List.{AllByRecursion}
use Rattle.model.specs.Signature.{Verifies}
use Rattle.model.specs.Block.{Block, body_size_of}
use Rattle.model.specs.Chain.{genesis_tip, tip_after}
use Rattle.model.specs.Ledger.{Network, Ledger, opening_ledger, ledger_after_block, ledger_from, ledger_of}
use Rattle.model.specs.Applying.{LedgerState, IsApplied, AreStates, last_state, IsStateOf}
use Rattle.model.proofs.Chains.{linked_front}
use Rattle.model.proofs.LedgerSteps.{None_not_Some}
use Rattle.model.proofs.AppliedBlocks.{one_after, state_push, state_pop, one_state_of}

module _ (verifies : Verifies) where
  -- as many states as blocks
  pub states_length : (s : LedgerState) (bs : List Block) (ts : List LedgerState) → AreStates verifies s bs ts → length ts ≡ length bs
  states_length s [] [] are = refl
  states_length s [] (t ∷ ts) are = elim are [ ]
  states_length s (b ∷ bs) [] are = elim are [ ]
  states_length s (b ∷ bs) (t ∷ ts) are = ap suc (states_length t bs ts are.1)

  -- one more block
  pub states_push : (s : LedgerState) (bs : List Block) (ts : List LedgerState) (b : Block) (t : LedgerState) → AreStates verifies s bs ts → IsApplied verifies (last_state s ts) b t
      → AreStates verifies s (bs ++ b ∷ []) (ts ++ t ∷ [])
  states_push s [] [] b t are applied = (applied, tt)
  states_push s [] (u ∷ us) b t are applied = elim are [ ]
  states_push s (x ∷ xs) [] b t are applied = elim are [ ]
  states_push s (x ∷ xs) (u ∷ us) b t are applied = (are.0, states_push u xs us b t are.1 applied)

  pub states_append : (s : LedgerState) (xs ys : List Block) (ts us : List LedgerState) → AreStates verifies s xs ts → AreStates verifies (last_state s ts) ys us → AreStates verifies s (xs ++ ys) (ts ++ us)
  states_append s [] ys [] us first second = second
  states_append s [] ys (t ∷ ts) us first second = elim first [ ]
  states_append s (x ∷ xs) ys [] us first second = elim first [ ]
  states_append s (x ∷ xs) ys (t ∷ ts) us first second = (first.0, states_append t xs ys ts us first.1 second)

  pub states_take : (n : ℕ) (s : LedgerState) (bs : List Block) (ts : List LedgerState) → AreStates verifies s bs ts → AreStates verifies s (take n bs) (take n ts)
  states_take zero s bs ts are = tt
  states_take (suc n) s [] [] are = tt
  states_take (suc n) s [] (t ∷ ts) are = elim are [ ]
  states_take (suc n) s (b ∷ bs) [] are = elim are [ ]
  states_take (suc n) s (b ∷ bs) (t ∷ ts) are = (are.0, states_take n t bs ts are.1)

  pub states_drop : (n : ℕ) (s : LedgerState) (bs : List Block) (ts : List LedgerState) → AreStates verifies s bs ts → AreStates verifies (last_state s (take n ts)) (drop n bs) (drop n ts)
  states_drop zero s bs ts are = are
  states_drop (suc n) s [] [] are = tt
  states_drop (suc n) s [] (t ∷ ts) are = elim are [ ]
  states_drop (suc n) s (b ∷ bs) [] are = elim are [ ]
  states_drop (suc n) s (b ∷ bs) (t ∷ ts) are = states_drop n t bs ts are.1

  -- blocks make one list of states
  pub one_states : (s : LedgerState) (bs : List Block) (ts us : List LedgerState) → AreStates verifies s bs ts → AreStates verifies s bs us → ts ≡ us
  one_states s [] [] [] are too = refl
  one_states s [] [] (u ∷ us) are too = elim too [ ]
  one_states s [] (t ∷ ts) us are too = elim are [ ]
  one_states s (b ∷ bs) [] us are too = elim are [ ]
  one_states s (b ∷ bs) (t ∷ ts) [] are too = elim too [ ]
  one_states s (b ∷ bs) (t ∷ ts) (u ∷ us) are too =
      let same = one_after verifies s b t u are.0 too.0 in
      let rest = one_states t bs ts us are.1 (subst (λ (x : LedgerState). AreStates verifies x bs us) (sym same) too.1) in
      (λ i. same i ∷ rest i)

-- ---- chains

-- a chain that goes on from another
pub state_along : (network : Network) (chain : List Block) (s : LedgerState) (bs : List Block) (ts : List LedgerState) → IsStateOf network chain s → AreStates network.verifies s bs ts
    → IsStateOf network (chain ++ bs) (last_state s ts)
state_along network chain s [] [] is are = subst (λ (c : List Block). IsStateOf network c s) (sym (append-nil chain)) is
state_along network chain s [] (t ∷ ts) is are = elim are [ ]
state_along network chain s (b ∷ bs) [] is are = elim are [ ]
state_along network chain s (b ∷ bs) (t ∷ ts) is are =
    subst (λ (c : List Block). IsStateOf network c (last_state t ts)) (append_assoc chain (b ∷ []) bs)
    (state_along network (chain ++ b ∷ []) t bs ts (state_push network chain s b t is are.0) are.1)

-- the states of the rest of a chain, from the state of its front on
pub record GoesThrough (network : Network) (s : LedgerState) (bs : List Block) (t : LedgerState) : Type 0 where
  pub states : List LedgerState
  pub are : AreStates network.verifies s bs states
  pub last : last_state s states ≡ t

-- the ledger of a front, and of what comes after it
ledger_append : (network : Network) (ledger : Ledger) (xs ys : List Block) → ledger_from network ledger (xs ++ ys) ≡ option_and_then (λ m. ledger_from network m ys) (ledger_from network ledger xs)
ledger_append network ledger [] ys = refl
ledger_append network ledger (x ∷ xs) ys = past (λ m. ledger_append network m xs ys) (ledger_after_block network ledger x)
  where
    past : ((m : Ledger) → ledger_from network m (xs ++ ys) ≡ option_and_then (λ k. ledger_from network k ys) (ledger_from network m xs))
        → (o : Option Ledger) → option_and_then (λ m. ledger_from network m (xs ++ ys)) o ≡ option_and_then (λ k. ledger_from network k ys) (option_and_then (λ m. ledger_from network m xs) o)
    past each None = refl
    past each (Some m) = each m

all_in_front : (P : Block → Type 0) (xs ys : List Block) → AllByRecursion P (xs ++ ys) → AllByRecursion P xs
all_in_front P [] ys all = tt
all_in_front P (x ∷ xs) ys all = (all.0, all_in_front P xs ys all.1)

-- the front of a chain that has a state has one
pub front_state : (network : Network) (xs ys : List Block) (t : LedgerState) → IsStateOf network (xs ++ ys) t → (s : LedgerState) × IsStateOf network xs s
front_state network xs ys t is =
    elim (ledger_of network xs) as (λ o. ledger_of network xs ≡ o → (s : LedgerState) × IsStateOf network xs s) [
      | None ↦ λ e. absurd (None_not_Some t.ledger (sym (ledger_append network (opening_ledger network.genesis) xs ys ∙ ap (option_and_then (λ m. ledger_from network m ys)) e) ∙ is.ledger))
      | Some m ↦ λ e. (
        record { params = network.genesis.params; ledger = m; tip = tip_after genesis_tip xs },
        record {
          linked = linked_front genesis_tip xs ys is.linked;
          sizes = all_in_front (λ b. body_size_of b ≤ network.genesis.params.max_body_size) xs ys is.sizes;
          ledger = e;
          params = refl;
          tip = refl;
        },
      )
    ] refl

-- what comes after a front goes from its state to that of the whole
pub states_of : (network : Network) (chain bs : List Block) (s t : LedgerState) → IsStateOf network chain s → IsStateOf network (chain ++ bs) t → GoesThrough network s bs t
states_of network chain [] s t is whole =
    record { states = []; are = tt; last = one_state_of network chain s t is (subst (λ (c : List Block). IsStateOf network c t) (append-nil chain) whole) }
states_of network chain (b ∷ bs) s t is whole =
    let longer : IsStateOf network ((chain ++ b ∷ []) ++ bs) t = subst (λ (c : List Block). IsStateOf network c t) (sym (append_assoc chain (b ∷ []) bs)) whole in
    let front = front_state network (chain ++ b ∷ []) bs t longer in
    let was = state_pop network chain b front.0 front.1 in
    let same = one_state_of network chain was.before s was.is is in
    let rest = states_of network (chain ++ b ∷ []) bs front.0 t front.1 longer in
    record {
      states = front.0 ∷ rest.states;
      are = (subst (λ (x : LedgerState). IsApplied network.verifies x b front.0) same was.applied, rest.are);
      last = rest.last;
    }
