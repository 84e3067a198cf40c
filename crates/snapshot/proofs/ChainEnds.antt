-- Where valid chains end.
use Rattle.std.proofs.Common.{◌≡◌, ℕ, ◌<◌, ◌≤◌, List, [], ◌∷◌, length, Some, refl, sym, ap, arith}
use Rattle.std.specs.List.{AllByRecursion}
use Rattle.std.proofs.lemmas.Option.{same_Some}
use Rattle.sha2.proofs.Facts256.{length-sha256}
use Rattle.model.specs.Limits.{hash_size}
use Rattle.model.specs.Cbor.{text_of}
use Rattle.model.specs.Block.{Block, IsBlock, block_hash_of, item_of_header}
use Rattle.model.specs.Chain.{Tip, genesis_tip, tip_at, tip_after, IsLinked}
use Rattle.model.specs.Ledger.{Network, Ledger, ledger_of, opening_ledger}
use Rattle.model.proofs.LedgerSteps.{supply_kept}
use Rattle.snapshot.specs.Snapshot.{IsReached}
use Rattle.snapshot.specs.Laws.{EndsOfChains}

hash_long : (b : Block) → length (block_hash_of b) ≡ hash_size
unfolding block_hash_of
hash_long b = length-sha256 (text_of (item_of_header b.header))

abbrev Ends : (fees : ℕ) → Tip → Type 0
Ends fees tip = IsReached tip.number tip.slot fees tip.hash

-- behind a block whose slot isn't below its number
behind : (fees : ℕ) (b : Block) (bs : List Block) → IsLinked (tip_at b) bs → AllByRecursion IsBlock (b ∷ bs) → 0 < b.header.number → b.header.number ≤ b.header.slot → Ends fees (tip_after (tip_at b) bs)
behind fees b [] linked all some late = (some, late, all.0.header.slot, hash_long b)
behind fees b (c ∷ bs) linked all some late =
    let number = linked.0.number in
    let slot = linked.0.slot in
    behind fees c bs linked.1 all.1 (omega (arith, number)) (omega (arith, number, slot, late))

ends : (network : Network) (chain : List Block) (m : Ledger) → IsLinked genesis_tip chain → AllByRecursion IsBlock chain → ledger_of network chain ≡ Some m → Ends m.fees (tip_after genesis_tip chain)
ends network [] m linked all is = (refl, refl, ap (λ (l : Ledger). l.fees) (sym (same_Some (opening_ledger network.genesis) m is)))
ends network (b ∷ bs) m linked all is =
    let number = linked.0.number in
    let slot = linked.0.slot in
    behind m.fees b bs linked.1 all (omega (arith, number)) (omega (arith, number, slot))

pub ends_of_chains : EndsOfChains
ends_of_chains network chain m digest valid all is long = (
  record { reached = ends network chain m valid.linked all is; digest = long },
  supply_kept network chain m all is,
)
