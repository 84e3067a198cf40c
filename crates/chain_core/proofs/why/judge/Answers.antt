use Rattle.std.proofs.Common.{◌≡◌, ◌≤◌, ◌-◌, ℕ, List, ◌++◌, Result, length, take, refl, sym, ap, subst, ◌∙◌}
use Rattle.std.specs.Prelude.{IfOk}
use Rattle.std.specs.declared.alloc.AllocError.{AllocError}
use Rattle.std.proofs.lemmas.Option.{slice_get_read}
use Rattle.model.specs.Block.{Block}
use Rattle.model.specs.Genesis.{Genesis}
use Rattle.model.specs.Ledger.{network_on}
use Rattle.model.specs.Chain.{IsValidChain}
use Rattle.ledger.specs.declared.block_fault.ApplyFault.TheVariants.{Refused}
use Rattle.ledgerdb.specs.Values.{depth}
use Rattle.ledgerdb.specs.Chains.{without_last, IsPreparedOf}
use Rattle.ledgerdb.specs.Faults.{StopsOnChain, IsFaultOnChain}
use Rattle.ledgerdb.proofs.ForCallers.{prepared_valid}
use Rattle.chain.specs.Chained.{chain_of}
use Rattle.chain_core.specs.ChainDbs.{IsWhole}
use Rattle.chain_core.specs.Ways.{IsJudged}
use Rattle.chain_core.specs.declared.why.Why.{Why}
use Rattle.chain_core.proofs.WaysBack.{kept_by, refused_on}
use Rattle.chain_core.proofs.why.judge.Goals as goal
use Rattle.chain_core.proofs.why.judge.Goals.{in-Ok, in-Err-Refused, in-Err-OutOfMemory}

pub returns : goal.returns
returns g c =
    let verifies = g.S.SigScheme.verifies in
    let a = c.args.chain_db.now in
    let chain = (chain_of a.chain) in
    let back = c.len.result - c.args.keep in
    let is : back ≡ length chain - c.args.keep = ap (λ (n : ℕ). n - c.args.keep) c.len.ensures in
    let kept = kept_by chain c.args.keep back c.requires.keep is in
    elim c.match-fork.branch [
      | in-Ok w ↦ subst (λ (r : Result Why AllocError). IfOk r (λ why. (genesis : Genesis) (opened : List Block) → IsWhole (network_on genesis verifies opened) a → IsJudged (network_on genesis verifies opened) (take c.args.keep chain) c.args.way.now why)) (sym w.result-is)
          (λ genesis opened whole.
          let network = network_on genesis verifies opened in
          let at = w.in-Ok.ensures.back in
          let are = w.in-Ok.ensures.chain genesis opened chain whole.settled.database in
          subst (λ (bs : List Block). IsValidChain network (bs ++ c.args.way.now)) kept
          (subst (λ (n : ℕ). IsValidChain network (without_last n chain ++ c.args.way.now)) at
          (prepared_valid network chain c.args.way.now a.db w.in-Ok.field-0 whole.settled.database (subst (λ (n : ℕ). n ≤ depth a.db) (sym (at ∙ is)) c.requires.depth)
          (subst (λ (n : ℕ). IsPreparedOf network (without_last n chain) c.args.way.now w.in-Ok.field-0) (sym at) are))))
      | in-Err-Refused w ↦ subst (λ (r : Result Why AllocError). IfOk r (λ why. (genesis : Genesis) (opened : List Block) → IsWhole (network_on genesis verifies opened) a → IsJudged (network_on genesis verifies opened) (take c.args.keep chain) c.args.way.now why)) (sym w.result-is)
          (λ genesis opened whole.
          let network = network_on genesis verifies opened in
          let told = w.in-Err-Refused.ensures.chain_refused genesis opened chain whole.settled.database in
          let stops = subst (IsFaultOnChain network (without_last back chain) c.args.way.now) w.in-Err-Refused.field-0-is told in
          let b = w.index-way-index.result in
          refused_on network (take c.args.keep chain) c.args.way.now w.in-Err-Refused.index w.in-Err-Refused.fault w.hash.result.bytes b
          (subst (λ (bs : List Block). StopsOnChain network bs c.args.way.now w.in-Err-Refused.index (Refused w.in-Err-Refused.fault)) kept stops)
          (slice_get_read c.args.way.now (length c.args.way.now) w.in-Err-Refused.index b refl stops.within w.index-way-index.is) (sym w.hash.ensures))
      | in-Err-OutOfMemory w ↦ subst (λ (r : Result Why AllocError). IfOk r (λ why. (genesis : Genesis) (opened : List Block) → IsWhole (network_on genesis verifies opened) a → IsJudged (network_on genesis verifies opened) (take c.args.keep chain) c.args.way.now why)) (sym w.result-is) tt
    ]
