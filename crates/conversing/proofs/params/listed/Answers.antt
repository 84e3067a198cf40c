use Rattle.std.proofs.Common.{sym, arith}
use Rattle.conversing.specs.Params.{listed}
use Rattle.conversing.proofs.Gathering.{few_listed, many_listed}
use Rattle.conversing.proofs.params.listed.Goals as goal

pub returns-then-len-gt-MAX_LISTED : goal.returns-then-len-gt-MAX_LISTED
unfolding listed
returns-then-len-gt-MAX_LISTED c = sym (many_listed _ _ c.in_ok-values.values.now.items (sym c.in_ok-param.ensures) (sym c.in_ok-values.ensures) (omega (arith, c.len.ensures)))

pub returns : goal.returns
unfolding listed
returns c = sym (few_listed _ _ c.in_ok-values.values.now.items (sym c.in_ok-param.ensures) (sym c.in_ok-values.ensures) (omega (arith, c.len.ensures)))
