use Rattle.std.proofs.Common.{arith}
use Rattle.timelock.proofs.ScriptClauses.{first_found, first_refused, first_wants}
use Rattle.timelock.proofs.script.Script.read.Goals as goal

pub returns-clause-found : goal.returns-clause-found
returns-clause-found c = first_found c.args.bytes.now (λ i. omega (arith, c.type_inv.bytes i)) c.first.result c.first.ensures.exact

pub returns-clause-malformed : goal.returns-clause-malformed
returns-clause-malformed c = first_refused c.args.bytes.now c.first.result c.first.ensures.exact

pub returns-clause-want : goal.returns-clause-want
returns-clause-want c = first_wants c.first.result c.args.bytes.now c.first.ensures.want
