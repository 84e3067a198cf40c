use Rattle.value.proofs.Listing.{listing_told, listing_in_order}
use Rattle.value.proofs.totals.Totals.policies.Goals as goal

pub returns-clause-listed : goal.returns-clause-listed
returns-clause-listed c = listing_told c.args.self.now.assets c.args.self.now.tidy

pub returns-clause-ordered : goal.returns-clause-ordered
returns-clause-ordered c = listing_in_order c.args.self.now.assets c.args.self.now.tidy
