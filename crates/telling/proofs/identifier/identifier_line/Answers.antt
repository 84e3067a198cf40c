use Rattle.telling.proofs.identifier.identifier_line.Goals as goal

pub returns-in-Ok-clause-line : goal.returns-in-Ok-clause-line
returns-in-Ok-clause-line c = record { id = c.in_ok-id.id; is_id = c.in_ok-id.ensures.id; text = c.in-Ok.ensures }
