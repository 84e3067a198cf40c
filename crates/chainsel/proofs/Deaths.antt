-- A block that isn't applied where it would come is dead, and stays so.
use Rattle.std.proofs.Common.{◌≡◌, suc, ◌<◌, List, [], ◌∷◌, ◌++◌, take, drop, Contains, sym, subst, ◌∙◌, append_assoc}
use Rattle.std.specs.List.{AllByRecursion}
use Rattle.std.proofs.lemmas.List.Elements.{Contains-append_right}
use Rattle.model.specs.Block.{Block}
use Rattle.model.specs.Ledger.{Network}
use Rattle.model.specs.Chain.{genesis_tip, IsLinked, immutable_length}
use Rattle.model.specs.Applying.{LedgerState, BlockFault, HasFault, IsApplied, IsStateOf}
use Rattle.model.proofs.Lists.{all_weaker}
use Rattle.model.proofs.Sets.{split_at}
use Rattle.model.proofs.AppliedBlocks.{no_fault, state_pop, one_state_of}
use Rattle.model.proofs.StatesAlong.{front_state}
use Rattle.model.proofs.Candidates.{state_of_valid}
use Rattle.chainsel.specs.Dead.{HaveOnePlace, IsUnused, IsDead}
use Rattle.chainsel.proofs.Places.{one_front}

-- what comes before a member, up to it
abbrev pub up_to : (xs : List Block) (b : Block) → Contains xs b → List Block
up_to xs b member = take member.0 xs ++ b ∷ []

pub split_after : (xs : List Block) (b : Block) (member : Contains xs b) → xs ≡ up_to xs b member ++ drop (suc member.0) xs
split_after xs b member = split_at member.0 xs b member.1 member.2 ∙ sym (append_assoc (take member.0 xs) (b ∷ []) (drop (suc member.0) xs))

pub all_in_front : (P : Block → Type 0) (xs ys : List Block) → AllByRecursion P (xs ++ ys) → AllByRecursion P xs
all_in_front P [] ys all = tt
all_in_front P (x ∷ xs) ys all = (all.0, all_in_front P xs ys all.1)

-- blocks of a list lead to a block that has a fault where they end: no valid chain of the list has it
pub fault_unused : (network : Network) (bs root : List Block) (s : LedgerState) (b : Block) (fault : BlockFault) → HaveOnePlace bs → IsLinked genesis_tip (root ++ b ∷ [])
    → AllByRecursion (Contains bs) (root ++ b ∷ []) → IsStateOf network root s → HasFault network.verifies s b fault → IsUnused network bs b
fault_unused network bs root s b fault place linked members is has c valid within member =
    let front = take member.0 c in
    let rest = drop (suc member.0) c in
    let parts = split_after c b member in
    let whole = state_of_valid network c valid in
    let to_it = front_state network (front ++ b ∷ []) rest whole.0 (subst (λ (xs : List Block). IsStateOf network xs whole.0) parts whole.1) in
    let same : front ++ b ∷ [] ≡ root ++ b ∷ [] = one_front bs place genesis_tip front root b to_it.1.linked linked
    (all_in_front (Contains bs) (front ++ b ∷ []) rest (subst (AllByRecursion (Contains bs)) parts within)) members in
    let was = state_pop network root b to_it.0 (subst (λ (xs : List Block). IsStateOf network xs to_it.0) same to_it.1) in
    let before = one_state_of network root was.before s was.is is in
    no_fault network.verifies s b to_it.0 fault (subst (λ (x : LedgerState). IsApplied network.verifies x b to_it.0) before was.applied) has

-- so it is dead where these are live blocks and those of the chain
pub fault_dead : (network : Network) (chain live root : List Block) (s : LedgerState) (b : Block) (fault : BlockFault) → IsLinked genesis_tip (root ++ b ∷ [])
    → AllByRecursion (Contains (live ++ chain)) (root ++ b ∷ []) → IsStateOf network root s → HasFault network.verifies s b fault → IsDead network chain live b
fault_dead network chain live root s b fault linked members is has later past place =
    fault_unused network (later ++ (live ++ chain)) root s b fault place linked
    (all_weaker (Contains (live ++ chain)) (Contains (later ++ (live ++ chain))) (root ++ b ∷ []) (λ c member. Contains-append_right later (live ++ chain) c member) members) is has

-- dead stays dead when a block comes
pub dead_with : (network : Network) (chain live : List Block) (new b : Block) → immutable_length network chain < new.header.number → IsDead network chain live b → IsDead network chain (new ∷ live) b
dead_with network chain live new b new_past dead later past place =
    let parts : (later ++ new ∷ []) ++ (live ++ chain) ≡ later ++ ((new ∷ live) ++ chain) = append_assoc later (new ∷ []) (live ++ chain) in
    let more : AllByRecursion (λ c. immutable_length network chain < c.header.number) (later ++ new ∷ []) = all_push_past later past in
    subst (λ (bs : List Block). IsUnused network bs b) parts (dead (later ++ new ∷ []) more (subst HaveOnePlace (sym parts) place))
  where
    all_push_past : (xs : List Block) → AllByRecursion (λ c. immutable_length network chain < c.header.number) xs
        → AllByRecursion (λ c. immutable_length network chain < c.header.number) (xs ++ new ∷ [])
    all_push_past [] all = (new_past, tt)
    all_push_past (x ∷ xs) all = (all.0, all_push_past xs all.1)
