use Rattle.model.proofs.ExampleMints.{mint_accepted, mint_with_another, mint_by_never, burn_accepted, burn_without}
use Rattle.model.proofs.rule_examples.mint_and_burn.Goals as goal

pub returns-clause-minted : goal.returns-clause-minted
returns-clause-minted c = mint_accepted

pub returns-clause-another : goal.returns-clause-another
returns-clause-another c = mint_with_another

pub returns-clause-fails : goal.returns-clause-fails
returns-clause-fails c = mint_by_never

pub returns-clause-burnt : goal.returns-clause-burnt
returns-clause-burnt c = λ verifies w v is same. burn_accepted verifies w v same is

pub returns-clause-without : goal.returns-clause-without
returns-clause-without c = λ verifies w v is same. burn_without verifies w v same is
