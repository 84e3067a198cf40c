-- What a caller has seen stays seen, so the heights that it reads never fall.
use Rattle.std.proofs.Common.{◌≤◌, ℕ, [], ◌∷◌, ◌++◌, ap, ◌∙◌, append_assoc}
use Rattle.model.specs.Ledger.{Network}
use Rattle.model.specs.Chain.{IsOpening}
use Rattle.model.specs.Journal.{JournalEntry, Journal, Knowledge, BeginsWithSeen, IsCalled, IsLook}
use Rattle.model.proofs.Heights.{never_falls}
use Rattle.shared.specs.Later.{IsLater, Same, Called, Looked, Met}
use Rattle.shared.proofs.Journals.{begins_all}

begins_on : (c b a : Journal) → BeginsWithSeen c b → BeginsWithSeen b a → BeginsWithSeen c a
begins_on c b a more first = (first.0 ++ more.0, more.1 ∙ (ap (λ (j : Journal). j ++ more.0) first.1 ∙ append_assoc a first.0 more.0))

begins_with_call : (network : Network) (before after : Knowledge) (call : JournalEntry) → IsCalled network before call after → BeginsWithSeen after.seen before.seen
begins_with_call network before after call is = (is.between ++ call ∷ [], is.seen ∙ append_assoc before.seen is.between (call ∷ []))

pub stays_seen : (network : Network) (a c : Knowledge) → IsLater network a c → BeginsWithSeen c.seen a.seen
stays_seen network _ _ (Same a) = begins_all a.seen
stays_seen network _ _ (Called a b c call later is) = begins_on c.seen b.seen a.seen (begins_with_call network b c call is) (stays_seen network a b later)
stays_seen network _ _ (Looked a b c height later is) = begins_on c.seen b.seen a.seen is.seen (stays_seen network a b later)
stays_seen network _ _ (Met a b c other other' later is) = begins_on c.seen b.seen a.seen is.one.seen (stays_seen network a b later)

pub heights_rise : (network : Network) (a b c d : Knowledge) (first second : ℕ) → IsOpening network → IsLook network a first b → IsLater network b c → IsLook network c second d → first ≤ second
heights_rise network a b c d first second opens look later next = never_falls network a b c d first second opens look (stays_seen network b c later) next
