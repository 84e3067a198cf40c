use Rattle.value.proofs.OneMaking.{one_mint_made}
use Rattle.value.proofs.laws.one_mint_of_parts.Goals as goal

pub returns : goal.returns
returns c = one_mint_made
