-- Blocks that are applied one after the other: a block has one first fault or is applied, and the states of a chain.
use Rattle.std.proofs.Common.{◌≡◌, ℕ, ◌≤◌, List, [], ◌∷◌, ◌++◌, Option, Some, None, refl, sym, ap, subst, ◌∙◌, arith}
use Rattle.std.specs.Prelude.{option_and_then, option_map, ◌==◌, if◌then◌else◌}
use Rattle.std.specs.List.{AllByRecursion}
use Rattle.std.proofs.lemmas.Option.{same_Some}
use Rattle.model.specs.Signature.{Verifies}
use Rattle.model.specs.Rules.{Reason}
use Rattle.model.specs.Block.{Block, body_size_of}
use Rattle.model.specs.Chain.{Tip, genesis_tip, tip_at, tip_after, Follows, IsLinked}
use Rattle.model.specs.Ledger.{Network, Ledger, opening_ledger, ledger_after, first_refused, ledger_after_block, ledger_of}
use Rattle.model.specs.Applying.{LedgerState, opening_state, BlockFault, WrongNumber, WrongPrev, SlotNotRising, BodyTooBig, TxFault, fault_number, HasFault, IsFirstFault, IsApplied, IsStateOf}
use Rattle.model.proofs.First.{one_first}
use Rattle.model.proofs.Lists.{all_append}
use Rattle.model.proofs.Chains.{tip_after-append, linked_front, linked_rest}
use Rattle.model.proofs.LedgerSteps.{None_not_Some, none_refused, ledger_push}

-- ---- one answer

module _ (verifies : Verifies) (s : LedgerState) (b : Block) where
  -- what is applied has no fault
  pub no_fault : (t : LedgerState) (fault : BlockFault) → IsApplied verifies s b t → HasFault verifies s b fault → ⊥
  no_fault t WrongNumber applied has = has applied.follows.number
  no_fault t WrongPrev applied has = has applied.follows.previous
  no_fault t SlotNotRising applied has = let later = applied.follows.slot in omega (arith, later, has)
  no_fault t BodyTooBig applied has = let fits = applied.size in omega (arith, fits, has)
  no_fault t (TxFault index reason) applied has =
      let none = none_refused verifies s.params b.header.slot s.ledger 0 b.transactions t.ledger applied.ledger in
      None_not_Some (index, reason) (sym none ∙ has)

  -- and makes one state
  pub one_after : (t u : LedgerState) → IsApplied verifies s b t → IsApplied verifies s b u → t ≡ u
  one_after t u applied too =
      let ledger = same_Some t.ledger u.ledger (sym applied.ledger ∙ too.ledger) in
      let params = applied.params ∙ sym too.params in
      let tip = applied.tip ∙ sym too.tip in
      (λ i. record { params = params i; ledger = ledger i; tip = tip i })

  -- a fault from its number, and what is told of the transactions
  abbrev numbered : ℕ → Option (ℕ × Reason) → Option BlockFault
  numbered n told =
      if n == 1 then Some WrongNumber
      else if n == 2 then Some WrongPrev
      else if n == 3 then Some SlotNotRising
      else if n == 4 then Some BodyTooBig
      else option_map (λ p. TxFault p.0 p.1) told

  abbrev told_of_transactions : Option (ℕ × Reason)
  told_of_transactions = first_refused verifies s.params b.header.slot s.ledger 0 b.transactions

  by_number : (fault : BlockFault) → HasFault verifies s b fault → numbered (fault_number fault) told_of_transactions ≡ Some fault
  by_number WrongNumber has = refl
  by_number WrongPrev has = refl
  by_number SlotNotRising has = refl
  by_number BodyTooBig has = refl
  by_number (TxFault index reason) has = ap (option_map (λ p. TxFault p.0 p.1)) has

  same_number : (fault other : BlockFault) → HasFault verifies s b fault → HasFault verifies s b other → fault_number fault ≡ fault_number other → fault ≡ other
  same_number fault other has too same =
      same_Some fault other (sym (by_number fault has) ∙ ap (λ n. numbered n told_of_transactions) same ∙ by_number other too)

  -- a block has one first fault
  pub one_first_fault : (fault other : BlockFault) → IsFirstFault verifies s b fault → IsFirstFault verifies s b other → fault ≡ other
  one_first_fault fault other is too = one_first fault_number (HasFault verifies s b) same_number fault other is too

-- ---- the states of a chain

pub state_at_genesis : (network : Network) → IsStateOf network [] (opening_state network.genesis)
state_at_genesis network = record { linked = tt; sizes = tt; ledger = refl; params = refl; tip = refl }

linked_push : (tip : Tip) (chain : List Block) (b : Block) → IsLinked tip chain → Follows (tip_after tip chain) b → IsLinked tip (chain ++ b ∷ [])
linked_push tip [] b linked follows = (follows, tt)
linked_push tip (x ∷ xs) b linked follows = (linked.0, linked_push (tip_at x) xs b linked.1 follows)

abbrev Fits : Network → Block → Type 0
Fits network b = body_size_of b ≤ network.genesis.params.max_body_size

-- one more block
pub state_push : (network : Network) (chain : List Block) (s : LedgerState) (b : Block) (t : LedgerState) → IsStateOf network chain s → IsApplied network.verifies s b t → IsStateOf network (chain ++ b ∷ []) t
state_push network chain s b t is applied = record {
  linked = linked_push genesis_tip chain b is.linked (subst (λ (tip : Tip). Follows tip b) is.tip applied.follows);
  sizes = all_append (Fits network) chain (b ∷ []) is.sizes (subst (λ p. body_size_of b ≤ p.max_body_size) is.params applied.size, tt);
  ledger =
      ledger_push network (opening_ledger network.genesis) chain b
      ∙ ap (option_and_then (λ m. ledger_after_block network m b)) is.ledger
      ∙ subst (λ p. ledger_after network.verifies p b.header.slot s.ledger b.transactions ≡ Some t.ledger) is.params applied.ledger;
  params = applied.params ∙ is.params;
  tip = applied.tip ∙ sym (tip_after-append genesis_tip chain (b ∷ []));
}

all_front : (P : Block → Type 0) (xs : List Block) (b : Block) → AllByRecursion P (xs ++ b ∷ []) → AllByRecursion P xs × P b
all_front P [] b all = (tt, all.0)
all_front P (x ∷ xs) b all = let rest = all_front P xs b all.1 in ((all.0, rest.0), rest.1)

-- what a chain without its last block leaves, and that this one was applied to it
pub record WasApplied (network : Network) (chain : List Block) (b : Block) (t : LedgerState) : Type 0 where
  pub before : LedgerState
  pub is : IsStateOf network chain before
  pub applied : IsApplied network.verifies before b t

pub state_pop : (network : Network) (chain : List Block) (b : Block) (t : LedgerState) → IsStateOf network (chain ++ b ∷ []) t → WasApplied network chain b t
state_pop network chain b t is =
    elim (ledger_of network chain) as (λ o. ledger_of network chain ≡ o → WasApplied network chain b t) [
      | None ↦ λ e. absurd (None_not_Some t.ledger (sym (folded None e) ∙ is.ledger))
      | Some m ↦ λ e. record {
        before = record { params = network.genesis.params; ledger = m; tip = tip_after genesis_tip chain };
        is = record { linked = linked_front genesis_tip chain (b ∷ []) is.linked; sizes = fits.0; ledger = e; params = refl; tip = refl };
        applied = record {
          follows = (linked_rest genesis_tip chain (b ∷ []) is.linked).0;
          size = fits.1;
          ledger = sym (folded (Some m) e) ∙ is.ledger;
          params = is.params;
          tip = is.tip ∙ tip_after-append genesis_tip chain (b ∷ []);
        };
      }
    ] refl
  where
    fits : AllByRecursion (Fits network) chain × Fits network b
    fits = all_front (Fits network) chain b is.sizes

    folded : (o : Option Ledger) → ledger_of network chain ≡ o → ledger_of network (chain ++ b ∷ []) ≡ option_and_then (λ m. ledger_after_block network m b) o
    folded o e = ledger_push network (opening_ledger network.genesis) chain b ∙ ap (option_and_then (λ m. ledger_after_block network m b)) e

-- a chain has one state
pub one_state_of : (network : Network) (chain : List Block) (s t : LedgerState) → IsStateOf network chain s → IsStateOf network chain t → s ≡ t
one_state_of network chain s t is too =
    let ledger = same_Some s.ledger t.ledger (sym is.ledger ∙ too.ledger) in
    let params = is.params ∙ sym too.params in
    let tip = is.tip ∙ sym too.tip in
    (λ i. record { params = params i; ledger = ledger i; tip = tip i })
