use Rattle.model.proofs.LegalHistories.{legal_sound}
use Rattle.model.proofs.OneReply.{reply_one}
use Rattle.model.proofs.histories.one_reply.Goals as goal

pub returns : goal.returns
returns c = λ network history s event reply other t u opens legal enough enough_too one two. reply_one network s event reply other t u (legal_sound network history s opens legal) enough enough_too one two
