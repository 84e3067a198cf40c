use Rattle.shared.proofs.Later.{stays_seen, heights_rise}
use Rattle.shared.proofs.laws.knowledge_stays.Goals as goal

pub returns-clause-seen : goal.returns-clause-seen
returns-clause-seen c = stays_seen

pub returns-clause-heights : goal.returns-clause-heights
returns-clause-heights c = heights_rise
