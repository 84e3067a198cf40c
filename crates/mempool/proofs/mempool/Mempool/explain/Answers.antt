use Rattle.std.proofs.Common.{◌≡◌, inl, inr, subst}
use Rattle.model.specs.Mempool as mempool
use Rattle.model.specs.Evaluating.{Evaluates, Malformed, Known, Full, Acceptable}
use Rattle.utxo_rules.specs.View.{params_of}
use Rattle.mempool.specs.declared.evaluation.Evaluation.{Evaluation}
use Rattle.mempool.specs.declared.evaluation.Evaluation.TheVariants as code
use Rattle.mempool.specs.View.{evaluation_of}
use Rattle.mempool.proofs.Submissions.{not_refused}
use Rattle.mempool.proofs.mempool.Mempool.explain.Goals as goal

pub returns-in-Malformed : goal.returns-in-Malformed
returns-in-Malformed g c =
    let v = g.S.SigScheme.verifies in
    let params = params_of c.args.params.now in
    let now = c.args.self.now in
    let slot = c.args.slot in
    let bytes = c.args.bytes.now in
    let is = λ (e : Evaluation) (same : c.in_ok-detail.field-0 ≡ e). subst (λ (x : Evaluation). Evaluates v params slot now.waiting.unspent now.capacity now.waiting.txs bytes (evaluation_of x)) same c.in_ok-detail.ensures.told in
    record {
      told = elim c.in-Malformed.is [
        | inl malformed ↦ not_refused v params slot now bytes Malformed (λ reason same. absurd (let e : mempool.Malformed ≡ mempool.Refused reason = same in cc)) (is code.Malformed malformed)
        | inr others ↦ elim others [
          | inl known ↦ not_refused v params slot now bytes Known (λ reason same. absurd (let e : mempool.Known ≡ mempool.Refused reason = same in cc)) (is code.Known known)
          | inr rest ↦ elim rest [
            | inl full ↦ not_refused v params slot now bytes Full (λ reason same. absurd (let e : mempool.Full ≡ mempool.Refused reason = same in cc)) (is code.Full full)
            | inr acceptable ↦ not_refused v params slot now bytes Acceptable (λ reason same. absurd (let e : mempool.Added ≡ mempool.Refused reason = same in cc)) (is code.Acceptable acceptable)
          ]
        ]
      ];
      memory = tt;
    }
