-- Candidates: their front, their states, and what they are over another list of kept blocks.
use Rattle.std.proofs.Common.{◌≡◌, ◌<◌, ◌≤◌, true, false, List, ◌++◌, length, take, drop, Contains, Some, None, refl, sym, ap, subst, ◌∙◌, arith}
use Rattle.std.specs.Prelude.{Option, IsSome, is_some, nat_lt}
use Rattle.std.specs.List.{AllByRecursion}
use Rattle.std.proofs.lemmas.List.{take-append-drop, length-append}
use Rattle.std.proofs.lemmas.Bool.{ltb-true}
use Rattle.model.specs.Block.{Block}
use Rattle.model.specs.Chain.{genesis_tip, tip_after, IsValidChain, IsCandidate, IsSelection, Stays, Changes, immutable_length, immutable_part, live_blocks}
use Rattle.model.specs.Ledger.{Network, Ledger, ledger_of}
use Rattle.model.specs.Applying.{LedgerState, IsStateOf}
use Rattle.model.proofs.Lists.{all_weaker, all_take, all_append}
use Rattle.model.proofs.MappedLists.{filter_member}
use Rattle.model.proofs.Chains.{length_immutable}
use Rattle.model.proofs.Selections.{live_rest}

-- ---- live blocks are kept, and past the immutable part

pub live_is_kept : (network : Network) (kept chain : List Block) (b : Block) → Contains (live_blocks network kept chain) b → Contains kept b
live_is_kept network kept chain b live = (filter_member (λ d. nat_lt (immutable_length network chain) d.header.number) kept b live).0

pub live_number : (network : Network) (kept chain : List Block) (b : Block) → Contains (live_blocks network kept chain) b → immutable_length network chain < b.header.number
live_number network kept chain b live = ltb-true (immutable_length network chain) b.header.number (filter_member (λ d. nat_lt (immutable_length network chain) d.header.number) kept b live).1

-- ---- valid chains and their states

pub state_of_valid : (network : Network) (chain : List Block) → IsValidChain network chain → (s : LedgerState) × IsStateOf network chain s
state_of_valid network chain valid =
    elim (ledger_of network chain) as (λ o. ledger_of network chain ≡ o → (s : LedgerState) × IsStateOf network chain s) [
      | None ↦ λ e. absurd (let some : false ≡ true = sym (ap (λ (o : Option Ledger). is_some o) e) ∙ valid.ledger in cc)
      | Some m ↦ λ e. (
        record { params = network.genesis.params; ledger = m; tip = tip_after genesis_tip chain },
        record { linked = valid.linked; sizes = valid.sizes; ledger = e; params = refl; tip = refl },
      )
    ] refl

pub valid_of_state : (network : Network) (chain : List Block) (s : LedgerState) → IsStateOf network chain s → IsValidChain network chain
valid_of_state network chain s is = record { linked = is.linked; sizes = is.sizes; ledger = subst (λ (o : Option Ledger). IsSome o) (sym is.ledger) refl }

-- ---- the front of a candidate

-- a candidate begins with the immutable part
pub candidate_front : (network : Network) (kept chain c : List Block) → IsCandidate network kept chain c → c ≡ immutable_part network chain ++ drop (immutable_length network chain) c
candidate_front network kept chain c candidate =
    let m = immutable_length network chain in
    let front : take m c ≡ immutable_part network chain = ap (λ n. take n c) (sym (length_immutable network chain)) ∙ candidate.begins in
    sym (take-append-drop m c) ∙ ap (λ (bs : List Block). bs ++ drop m c) front

-- ---- candidates over another list

-- a candidate over one list is one over another that has the chain and the live blocks
pub candidate_over : (network : Network) (kept other chain c : List Block) → ((b : Block) → Contains (live_blocks network kept chain) b → Contains other b)
    → AllByRecursion (Contains other) chain → IsCandidate network kept chain c → IsCandidate network other chain c
candidate_over network kept other chain c has_live has_chain candidate =
    let m = immutable_length network chain in
    let splits = candidate_front network kept chain c candidate in
    let long : m ≤ length c = omega (arith, ap length splits, length-append (immutable_part network chain) (drop m c), length_immutable network chain) in
    let live = live_rest network kept chain c candidate long in
    let members : AllByRecursion (Contains other) (immutable_part network chain ++ drop m c) =
    all_append (Contains other) (immutable_part network chain) (drop m c) (all_take (Contains other) m chain has_chain) (all_weaker (Contains (live_blocks network kept chain)) (Contains other) (drop m c) has_live live) in
    record { valid = candidate.valid; members = subst (AllByRecursion (Contains other)) (sym splits) members; begins = candidate.begins }

-- so the selection is one over both
pub selection_over : (network : Network) (kept other chain new : List Block) → ((b : Block) → Contains (live_blocks network kept chain) b → Contains other b)
    → ((b : Block) → Contains (live_blocks network other chain) b → Contains kept b)
    → AllByRecursion (Contains kept) chain → AllByRecursion (Contains other) chain → IsSelection network kept chain new → IsSelection network other chain new
selection_over network kept other chain new to back has_kept has_other (Stays none) =
    Stays (λ c candidate. none c (candidate_over network other kept chain c back has_kept candidate))
selection_over network kept other chain new to back has_kept has_other (Changes chosen is) =
    Changes chosen (record {
      candidate = candidate_over network kept other chain chosen to has_other is.candidate;
      longer = is.longer;
      longest = λ c candidate. is.longest c (candidate_over network other kept chain c back has_kept candidate);
      least = λ c candidate long. is.least c (candidate_over network other kept chain c back has_kept candidate) long;
    })
