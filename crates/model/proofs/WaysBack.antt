-- Where the way back from a live block meets the selected chain.
use Rattle.std.proofs.Common.{◌≡◌, ℕ, ◌<◌, ◌≤◌, List, length, take, drop, Contains, sym, subst, arith}
use Rattle.std.proofs.lemmas.List.{length-take, take-append-drop}
use Rattle.model.specs.Block.{Block}
use Rattle.model.specs.Ledger.{Network}
use Rattle.model.specs.Chain.{genesis_tip, tip_after, IsLinked, immutable_length}
use Rattle.model.specs.History.{State, live_of}
use Rattle.model.specs.Asked.{HangsOn}
use Rattle.model.proofs.Candidates.{live_number}
use Rattle.model.proofs.Chains.{tip_number, linked_front}

-- the number after the first blocks of a chain
pub number_after : (chain : List Block) (keep : ℕ) → IsLinked genesis_tip chain → keep ≤ length chain → (tip_after genesis_tip (take keep chain)).number ≡ keep
number_after chain keep linked within =
    let front = linked_front genesis_tip (take keep chain) (drop keep chain) (subst (IsLinked genesis_tip) (sym (take-append-drop keep chain)) linked) in
    let e = tip_number genesis_tip (take keep chain) front in
    omega (arith, e, within, length-take keep chain)

-- a live block hangs on no beginning of the chain that is shorter than the part that is never rolled back
pub hangs_past : (network : Network) (s : State) (b : Block) (keep : ℕ) → IsLinked genesis_tip s.chain → Contains (live_of network s) b → HangsOn s keep b → immutable_length network s.chain ≤ keep
hangs_past network s b keep linked live hangs =
    let young : immutable_length network s.chain < b.header.number = live_number network s.kept s.chain b live in
    let number = number_after s.chain keep linked hangs.within in
    let next = hangs.follows.number in
    omega (arith, young, number, next)
