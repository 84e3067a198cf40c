use Rattle.std.proofs.Common.{◌+◌, ◌*◌, length}
use Rattle.witness_pool.proofs.pool.+check_shares+fn-check_shares-join+arg3.Given as goal

abbrev pub decreases-check_shares : goal.decreases-check_shares
decreases-check_shares g l = 2 * length l.shares.items

abbrev pub decreases-join+arg3 : goal.decreases-join+arg3
decreases-join+arg3 g l = 2 * length l.shares.items + 1
