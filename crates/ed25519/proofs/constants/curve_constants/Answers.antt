use Rattle.ed25519.proofs.Facts.{curve_d_is, root_is, base_y_is, base_x_even, base_on_curve, base_order}
use Rattle.ed25519.proofs.constants.curve_constants.Goals as goal

pub returns-clause-d : goal.returns-clause-d
returns-clause-d c = curve_d_is

pub returns-clause-root : goal.returns-clause-root
returns-clause-root c = root_is

pub returns-clause-base_y : goal.returns-clause-base_y
returns-clause-base_y c = base_y_is

pub returns-clause-base_x : goal.returns-clause-base_x
returns-clause-base_x c = base_x_even

pub returns-clause-on_curve : goal.returns-clause-on_curve
returns-clause-on_curve c = base_on_curve

pub returns-clause-order : goal.returns-clause-order
returns-clause-order c = base_order
