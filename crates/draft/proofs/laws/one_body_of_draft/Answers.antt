use Rattle.draft.proofs.Bodies.{same_bodies}
use Rattle.draft.proofs.laws.one_body_of_draft.Goals as goal

pub returns : goal.returns
returns c = same_bodies c.one_value_of_parts.ensures c.one_mint_of_parts.ensures
