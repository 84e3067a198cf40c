use Rattle.std.proofs.Common.{List, take, subst, ◌∙◌}
use Rattle.std.specs.Prelude.{IfOk}
use Rattle.model.specs.Block.{Block}
use Rattle.model.specs.Genesis.{Genesis}
use Rattle.model.specs.Ledger.{network_on}
use Rattle.chain.specs.Chained.{chain_of}
use Rattle.chain_core.specs.ChainDbs.{IsWhole}
use Rattle.chain_core.specs.Ways.{IsJudged}
use Rattle.chain_core.proofs.why.judge_live.Goals as goal

pub returns : goal.returns
returns g c =
    let a = c.args.chain_db.now in
    let verifies = g.S.SigScheme.verifies in
    subst (λ (bs : List Block). IfOk c.judge.result (λ why. (genesis : Genesis) (opened : List Block) → IsWhole (network_on genesis verifies opened) a → IsJudged (network_on genesis verifies opened) (take c.args.keep (chain_of a.chain)) bs why))
    (c.deref.ensures.value ∙ c.in_ok-read.ensures) c.judge.ensures
