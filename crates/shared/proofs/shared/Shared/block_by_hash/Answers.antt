use Rattle.std.proofs.Common.{rules, ◌≡◌, Option, Some, None, sym, subst}
use Rattle.std.specs.Prelude.{ℕ, List, Contains, MatchOption, ◌⊎◌, option_map}
use Rattle.model.specs.Block.{Block, block_hash_of}
use Rattle.model.specs.Chain.{NoneHas}
use Rattle.model.specs.History.{State, live_of}
use Rattle.model.specs.Ledger.{Network}
use Rattle.shared.specs.Starts.{network_from}
use Rattle.shared.specs.Meeting.{IsInformed}
use Rattle.shared.specs.Standing.{IsCoreOf}
use Rattle.shared.proofs.Asking.{told_after}
use Rattle.shared.proofs.shared.Shared.block_by_hash.Goals as goal

-- what is said of what was found is said of what is shared
shared_too : {A B : Type 0} (f : A → B) (none : Type 0) (some : B → Type 0) (found : Option A) → MatchOption found none (λ a. some (f a)) → MatchOption (option_map f found) none some
shared_too f none some None h = h
shared_too f none some (Some a) h = h

-- this is the block of a hash in a state
abbrev Finds : Network → State → List ℕ → Option Block → Type 0
Finds n s hash found =
    MatchOption found (NoneHas s.chain hash × NoneHas (live_of n s) hash)
    (λ b. (Contains s.chain b ⊎ Contains (live_of n s) b) × (block_hash_of b ≡ hash))

pub returns-clause-block : goal.returns-clause-block
returns-clause-block g c =
    let core : IsCoreOf g.S.SigScheme.verifies g.B.Room.start c.tell.new.self c.core.result.now = search rules in
    let informed : IsInformed (network_from g.B.Room.start g.S.SigScheme.verifies) c.tell.new.self c.args.caller.now c.tell.new.caller = search rules in
    told_after g.S.SigScheme.verifies g.B.Room.start c.tell.new.self c.core.result.now c.args.caller.now c.tell.new.caller _ core informed
    (λ s network stands.
    subst (λ (x : Network × Option Block). Finds x.0 s c.args.hash.bytes x.1) (λ i. (network i, sym c.in_ok-found.ensures i))
    (shared_too (λ b. b.now) _ _ c.block_by_hash.result (c.block_by_hash.ensures s stands)))
