-- The words in which the answers to submissions are shown.
use Rattle.std.specs.Prelude.{ℕ, List, ◌++◌, decimal, codes}
use Rattle.model.specs.Rules.{reason_number}
use Rattle.model.specs.Mempool.{SubmitReply, Malformed, Known, Refused, Full, Added}
use Rattle.utxo_rules.specs.Texts.{reason_name}

abbrev pub submit_reply_text : SubmitReply → List ℕ
submit_reply_text Malformed = codes "malformed"
submit_reply_text Known = codes "known"
submit_reply_text (Refused reason) =
    codes "refused " ++ decimal (reason_number reason) ++ codes " " ++ reason_name reason
submit_reply_text Full = codes "full"
submit_reply_text Added = codes "added"
