use Rattle.std.proofs.Common.{List, take, subst}
use Rattle.std.proofs.lemmas.Result.{IfOk-weaker}
use Rattle.model.specs.Block.{Block}
use Rattle.model.specs.Genesis.{Genesis}
use Rattle.model.specs.Ledger.{network_on}
use Rattle.model.specs.History.{State}
use Rattle.model.specs.Asked.{IsWhyOf}
use Rattle.model.proofs.Results.{on_err}
use Rattle.chain.specs.Chained.{chain_of}
use Rattle.chain_core.specs.ChainDbs.{IsWhole, HasState}
use Rattle.chain_core.specs.Ways.{why_of, IsWayTo, IsJudged}
use Rattle.chain_core.proofs.Arrivals.{at_rest, rests}
use Rattle.chain_core.proofs.BlocksByHash.{on_chain, none_live}
use Rattle.chain_core.proofs.WaysBack.{selected_is, beside_is, way_at, way_keeps, why_judged}
use Rattle.chain_core.proofs.PastHashes.{whole_indexed}
use Rattle.chain_core.proofs.why.why_in.Goals as goal

pub returns-in-Some-clause-why : goal.returns-in-Some-clause-why
returns-in-Some-clause-why g c = λ genesis opened s whole has.
    selected_is (network_on genesis g.S.SigScheme.verifies opened) c.args.chain_db.now s has c.args.hash.bytes c.in-Some.field-0.now c.in-Some.ensures.0 c.in-Some.ensures.1

pub returns-in_default-get-clause-why : goal.returns-in_default-get-clause-why
returns-in_default-get-clause-why g c = λ genesis opened s whole has.
    let network = network_on genesis g.S.SigScheme.verifies opened in
    let a = c.args.chain_db.now in (
      on_chain network a s has c.args.hash.bytes (c.in_default.ensures network whole),
      none_live network a s has c.args.hash.bytes c.in_default-get.ensures.found,
    )

pub returns-in_err-way-clause-memory : goal.returns-in_err-way-clause-memory
returns-in_err-way-clause-memory g c =
    on_err c.from_residual.result _ (λ network s whole has. beside_is network c.args.chain_db.now s has c.args.hash.bytes c.in-Some-get.stored.now c.in-Some-get.ensures.found (c.in_default.ensures network whole))

pub judge_live-requires-clause-keep : goal.judge_live-requires-clause-keep
judge_live-requires-clause-keep g c =
    let a = c.args.chain_db.now in
    let network = c.requires.whole.0 in
    let whole = c.requires.whole.1 in
    let hash = c.args.hash.bytes in
    let way = c.in_ok-way.way in
    let s = at_rest a in
    let has = rests network a whole in
    let to = way_at network a s has hash c.in-Some-get.stored.now c.live.result.now c.in-Some-get.ensures.found c.live.ensures (c.in_default.ensures network whole) way.blocks.items way.footing (c.in_ok-way.ensures network s whole has) in
    (way_keeps network a whole hash way.blocks.items c.in-Chain.keep (subst (IsWayTo network s hash way.blocks.items) c.in-Chain.is to)).0

pub judge_live-requires-clause-depth : goal.judge_live-requires-clause-depth
judge_live-requires-clause-depth g c =
    let a = c.args.chain_db.now in
    let network = c.requires.whole.0 in
    let whole = c.requires.whole.1 in
    let hash = c.args.hash.bytes in
    let way = c.in_ok-way.way in
    let s = at_rest a in
    let has = rests network a whole in
    let to = way_at network a s has hash c.in-Some-get.stored.now c.live.result.now c.in-Some-get.ensures.found c.live.ensures (c.in_default.ensures network whole) way.blocks.items way.footing (c.in_ok-way.ensures network s whole has) in
    (way_keeps network a whole hash way.blocks.items c.in-Chain.keep (subst (IsWayTo network s hash way.blocks.items) c.in-Chain.is to)).1

pub returns-in-Chain-clause-why : goal.returns-in-Chain-clause-why
returns-in-Chain-clause-why g c =
    let v = g.S.SigScheme.verifies in
    let a = c.args.chain_db.now in
    let hash = c.args.hash.bytes in
    let way = c.in_ok-way.way in
    let keep = c.in-Chain.keep in
    IfOk-weaker c.judge_live.result (λ why. (genesis : Genesis) (opened : List Block) → IsWhole (network_on genesis v opened) a → IsJudged (network_on genesis v opened) (take keep (chain_of a.chain)) c.deref.result.now why)
    (λ why. (genesis : Genesis) (opened : List Block) (s : State) → IsWhole (network_on genesis v opened) a → HasState (network_on genesis v opened) a s → IsWhyOf (network_on genesis v opened) s hash (why_of why))
    (λ why judged genesis opened s whole has.
    let network = network_on genesis v opened in
    let to = way_at network a s has hash c.in-Some-get.stored.now c.live.result.now c.in-Some-get.ensures.found c.live.ensures (c.in_default.ensures network whole) way.blocks.items way.footing (c.in_ok-way.ensures network s whole has) in
    why_judged network a s whole has hash way.blocks.items keep why (subst (IsWayTo network s hash way.blocks.items) c.in-Chain.is to)
    (subst (λ (bs : List Block). IsJudged network (take keep bs) way.blocks.items why) has.chain
    (subst (λ (bs : List Block). IsJudged network (take keep (chain_of a.chain)) bs why) c.deref.ensures.value (judged genesis opened whole))))
    c.judge_live.ensures

pub returns-in-Chain-clause-memory : goal.returns-in-Chain-clause-memory
returns-in-Chain-clause-memory g c =
    on_err c.judge_live.result _ (λ network s whole has. beside_is network c.args.chain_db.now s has c.args.hash.bytes c.in-Some-get.stored.now c.in-Some-get.ensures.found (c.in_default.ensures network whole))

pub returns-in-Missing-clause-why : goal.returns-in-Missing-clause-why
returns-in-Missing-clause-why g c = λ genesis opened s whole has.
    let network = network_on genesis g.S.SigScheme.verifies opened in
    let a = c.args.chain_db.now in
    let hash = c.args.hash.bytes in
    let way = c.in_ok-way.way in
    let to = way_at network a s has hash c.in-Some-get.stored.now c.live.result.now c.in-Some-get.ensures.found c.live.ensures (c.in_default.ensures network whole) way.blocks.items way.footing (c.in_ok-way.ensures network s whole has) in
    let is = subst (IsWayTo network s hash way.blocks.items) c.in-Missing.is to in
    (is.0, is.2)

pub returns-clause-why : goal.returns-clause-why
returns-clause-why g c = λ genesis opened s whole has.
    let network = network_on genesis g.S.SigScheme.verifies opened in
    let a = c.args.chain_db.now in
    let hash = c.args.hash.bytes in
    let way = c.in_ok-way.way in
    let to = way_at network a s has hash c.in-Some-get.stored.now c.live.result.now c.in-Some-get.ensures.found c.live.ensures (c.in_default.ensures network whole) way.blocks.items way.footing (c.in_ok-way.ensures network s whole has) in
    let is = subst (IsWayTo network s hash way.blocks.items) c.in-Misfit.is to in
    (is.0, is.2.0, is.2.1)

pub chain_block-requires : goal.chain_block-requires
chain_block-requires g c = whole_indexed c.requires.whole.0 c.args.chain_db.now c.requires.whole.1

pub way_back-requires : goal.way_back-requires
way_back-requires g c = whole_indexed c.requires.whole.0 c.args.chain_db.now c.requires.whole.1
