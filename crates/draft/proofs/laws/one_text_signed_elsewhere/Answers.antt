use Rattle.draft.proofs.Bodies.{one_text}
use Rattle.draft.proofs.laws.one_text_signed_elsewhere.Goals as goal

pub returns : goal.returns
returns c = one_text c.one_body_of_draft.ensures c.one_tx_of_parts.ensures
