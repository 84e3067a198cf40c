use Rattle.std.proofs.Common.{ℕ, List, ◌++◌, ap, ◌∙◌}
use Rattle.std.proofs.lemmas.Result.{on_ok_weaker}
use Rattle.tx.proofs.tx.TxEncode.write.Goals as goal

pub returns-clause-ok : goal.returns-clause-ok
returns-clause-ok c =
    on_ok_weaker c.write.result (λ written. written.appended ∙ ap (λ (text : List ℕ). c.args.out.now.items ++ text) written.spelled.text.spelled) c.write.ensures.ok
