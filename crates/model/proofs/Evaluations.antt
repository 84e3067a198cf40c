-- What is told of a submission beforehand.
use Rattle.std.proofs.Common.{◌≡◌, ℕ, List, sym, subst, ◌∙◌}
use Rattle.std.proofs.lemmas.Option.{same_Some}
use Rattle.model.specs.Transaction.{Transaction}
use Rattle.model.specs.Signature.{Verifies}
use Rattle.model.specs.Utxo.{Utxo}
use Rattle.model.specs.Rules.{Params}
use Rattle.model.specs.Ledger.{Network}
use Rattle.model.specs.Mempool.{SubmitReply, Answers, Submits, utxo_after_all, next_slot}
use Rattle.model.specs.History.{State}
use Rattle.model.specs.Evaluating.{Evaluation, Malformed, Known, Refused, Full, Acceptable, Evaluates, IsEvaluation, reply_of}
use Rattle.model.proofs.OneReply.{answers_one}

-- its reply is one that the bytes get
pub evaluation_answers : (verifies : Verifies) (params : Params) (slot : ℕ) (unspent : Utxo) (max : ℕ) (txs : List Transaction) (bytes : List ℕ) (e : Evaluation)
    → Evaluates verifies params slot unspent max txs bytes e → Answers verifies params slot unspent max txs bytes (reply_of e)
evaluation_answers verifies params slot unspent max txs bytes Malformed is = is
evaluation_answers verifies params slot unspent max txs bytes Known is = is
evaluation_answers verifies params slot unspent max txs bytes (Refused detail) is = (is.0, is.1, (is.2.0, is.2.1.reason))
evaluation_answers verifies params slot unspent max txs bytes Full is = is
evaluation_answers verifies params slot unspent max txs bytes Acceptable is = is

pub answered : (network : Network) (s : State) (bytes : List ℕ) (e : Evaluation) (reply : SubmitReply) (after : List Transaction)
    → IsEvaluation network s (next_slot s.chain) bytes e → Submits network s.chain s.mempool bytes reply after → reply ≡ reply_of e
answered network s bytes e reply after is submits =
    let v = network.verifies in
    let params = network.genesis.params in
    let slot = next_slot s.chain in
    let max = network.genesis.max_mempool in
    let same : submits.utxo ≡ is.0 = same_Some submits.utxo is.0 (sym submits.of_chain ∙ is.1) in
    answers_one v params slot (utxo_after_all is.0 s.mempool) max s.mempool bytes reply (reply_of e)
    (subst (λ (x : Utxo). Answers v params slot (utxo_after_all x s.mempool) max s.mempool bytes reply) same submits.answers)
    (evaluation_answers v params slot (utxo_after_all is.0 s.mempool) max s.mempool bytes e is.2)
