-- What a locked call leaves, by what it answers. OutOfMemory stands in no journal; every other answer does, a refusal
-- too.
use Rattle.std.specs.Prelude.{◌≡◌, ℕ, [], ◌∷◌, ◌++◌}
use Rattle.model.specs.Ledger.{Network}
use Rattle.model.specs.History.{Event, Reply, OutOfMemory}
use Rattle.model.specs.Journal.{Journal, Knowledge, IsCalled}
use Rattle.shared.specs.Entries.{call_by}

-- RULE OF AN ANSWER: where memory ran out the caller knows what it knew; else the call is made, and is the last that
-- the caller has seen.
abbrev pub IsAnswered : Network → Knowledge → Event → Reply → Knowledge → Type 0
IsAnswered network before event OutOfMemory after = after ≡ before
IsAnswered network before event reply after = IsCalled network before (call_by before.caller event reply) after

-- the journal stays, or the caller's call is its last entry
abbrev pub IsJournaled : Journal → ℕ → Event → Reply → Journal → Type 0
IsJournaled old caller event OutOfMemory new = new ≡ old
IsJournaled old caller event reply new = new ≡ old ++ call_by caller event reply ∷ []

-- the caller has seen the whole journal then
abbrev pub HasSeenAll : Reply → Journal → Knowledge → Type 0
HasSeenAll OutOfMemory journal after = Unit {0}
HasSeenAll reply journal after = after.seen ≡ journal
