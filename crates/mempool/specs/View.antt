-- What the replies of the code stand for.
use Rattle.model.specs.Mempool as model
use Rattle.model.specs.Evaluating as evaluating
use Rattle.utxo_rules.specs.View.{reason_of}
use Rattle.utxo_rules.specs.DetailView.{detail_of}
use Rattle.mempool.specs.declared.reply.SubmitReply.{SubmitReply}
use Rattle.mempool.specs.declared.reply.SubmitReply.TheVariants.{Malformed, Known, Refused, Full, Added}
use Rattle.mempool.specs.declared.evaluation.Evaluation.{Evaluation}
use Rattle.mempool.specs.declared.evaluation.Evaluation.TheVariants as code

abbrev pub reply_of : SubmitReply → model.SubmitReply
reply_of Malformed = model.Malformed
reply_of Known = model.Known
reply_of (Refused reason) = model.Refused (reason_of reason)
reply_of Full = model.Full
reply_of Added = model.Added

abbrev pub evaluation_of : Evaluation → evaluating.Evaluation
evaluation_of code.Malformed = evaluating.Malformed
evaluation_of code.Known = evaluating.Known
evaluation_of (code.Refused detail) = evaluating.Refused (detail_of detail)
evaluation_of code.Full = evaluating.Full
evaluation_of code.Acceptable = evaluating.Acceptable
