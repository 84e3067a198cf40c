-- The way back from a block, and that a way which is let through behind the chain isn't longer than it.
use Rattle.std.proofs.Common.{◌≡◌, ◌≢◌, ℕ, zero, suc, ◌-◌, ◌≤◌, List, [], ◌∷◌, ◌++◌, length, take, drop, Contains, Some, refl, sym, ap, subst, ◌∙◌, arith}
use Rattle.std.specs.Prelude.{slice_get}
use Rattle.std.specs.List.{AllByRecursion}
use Rattle.std.proofs.lemmas.List.{length-take, take-append-le, take-take}
use Rattle.std.proofs.lemmas.List.Elements.{Contains-append_left, Contains-append_right}
use Rattle.std.proofs.lemmas.Option.{same_Some, none-some, slice_get_read}
use Rattle.model.specs.Block.{Block, block_hash_of}
use Rattle.model.specs.Ledger.{Network}
use Rattle.model.specs.Chain.{Tip, genesis_tip, tip_at, tip_after, Follows, IsLinked, IsValidChain, BeginsWith, immutable_length, immutable_part, HaveDistinctHashes, NoneHas}
use Rattle.model.specs.Applying.{IsFirstFault}
use Rattle.model.specs.History.{State, live_of}
use Rattle.model.proofs.Lists.{all_from_members, all_of_member, all_weaker, all_take, all_append}
use Rattle.model.proofs.WaysBack.{number_after, hangs_past}
use Rattle.model.proofs.Chains.{length_immutable, one_with_hash}
use Rattle.blockstore.specs.Stored.{Stored, Store, HasBlock, blocks_of}
use Rattle.blockstore.specs.Answers.{IsAt}
use Rattle.ledger.specs.View.{fault_of}
use Rattle.ledger.specs.declared.block_fault.BlockFault.{BlockFault}
use Rattle.ledger.specs.declared.block_fault.ApplyFault.TheVariants.{Refused}
use Rattle.ledgerdb.specs.Faults.{StopsOnChain}
use Rattle.ledgerdb.specs.Values.{depth}
use Rattle.ledgerdb.specs.Chains.{without_last}
use Rattle.chain.specs.Chained.{chain_of}
use Rattle.chain_core.specs.declared.chain_db.ChainDb.{ChainDb}
use Rattle.chain_core.specs.ChainDbs.{IsWhole, HasState}
use Rattle.chain_core.specs.Numbers.{block_numbered}
use Rattle.model.specs.Asked.{IsBeside, HangsOn, IsHeld, Misfits, IsNotLonger, IsRefusedOn}
use Rattle.model.specs.Asked.{IsWhyOf, IsPlaceOf, HasBlockOf, Beside}
use Rattle.chain_core.specs.Ways.{why_of, IsFooting, IsWayTo, IsJudged}
use Rattle.chain_core.specs.declared.why.Footing.{Footing}
use Rattle.chain_core.specs.declared.why.Footing.TheVariants as footing
use Rattle.chain_core.specs.declared.why.Why.{Why}
use Rattle.chain_core.specs.declared.why.Why.TheVariants as why
use Rattle.chain_core.proofs.Arrivals.{at_rest, rests}
use Rattle.chain_core.proofs.PastHashes.{whole_linked, numbered_of}
use Rattle.chain_core.proofs.BlocksByHash.{found_live, live_there, chain_there, on_chain}

-- ---- where a block follows a chain

-- the first blocks of a chain end at the last of them
tip_of_place : (tip : Tip) (bs : List Block) (place : ℕ) (b : Block) → slice_get bs place ≡ Some b → tip_after tip (take (suc place) bs) ≡ tip_at b
tip_of_place tip [] place b is = absurd (none-some b is)
tip_of_place tip (x ∷ xs) zero b is = ap tip_at (same_Some x b is)
tip_of_place tip (x ∷ xs) (suc place) b is = tip_of_place (tip_at x) xs place b is

tip_of_number : (bs : List Block) (n : ℕ) (b : Block) → block_numbered bs n ≡ Some b → tip_after genesis_tip (take n bs) ≡ tip_at b
tip_of_number bs zero b is = absurd (none-some b is)
tip_of_number bs (suc n) b is = tip_of_place genesis_tip bs n b is

within_of : (bs : List Block) (n : ℕ) (b : Block) → slice_get bs n ≡ Some b → suc n ≤ length bs
within_of [] n b is = absurd (none-some b is)
within_of (x ∷ xs) zero b is = omega arith
within_of (x ∷ xs) (suc n) b is = let le = within_of xs n b is in omega (arith, le)

number_within : (bs : List Block) (n : ℕ) (b : Block) → block_numbered bs n ≡ Some b → n ≤ length bs
number_within bs zero b is = omega arith
number_within bs (suc n) b is = within_of bs n b is

-- a block that follows one of the chain follows its beginning up to that
pub follows_beginning : (chain : List Block) (c b : Block) → IsLinked genesis_tip chain → Contains chain c → Follows (tip_at c) b → (c.header.number ≤ length chain) × Follows (tip_after genesis_tip (take c.header.number chain)) b
follows_beginning chain c b linked member follows =
    let at = numbered_of chain c linked member in (
      number_within chain c.header.number c at,
      subst (λ (t : Tip). Follows t b) (sym (tip_of_number chain c.header.number c at)) follows,
    )

pub kept_number : (chain : List Block) (keep : ℕ) (b : Block) (number : ℕ) → IsLinked genesis_tip chain → keep ≤ length chain → Follows (tip_after genesis_tip (take keep chain)) b → number ≡ b.header.number - 1 → keep ≡ number
kept_number chain keep b number linked within follows is =
    let e = number_after chain keep linked within in
    let next = follows.number in
    omega (arith, e, next, is)

-- ---- one step back

-- no live block but the one of the hash that is named may go before
pub none_other_live : (store : Store) (hash : List ℕ) (found : Stored) (b block : Block) → IsAt store hash found → block.header.previous ≡ Some hash → (Follows (tip_at found.block) block → ⊥)
    → HaveDistinctHashes (blocks_of store) → HasBlock store b → Follows (tip_at b) block → ⊥
none_other_live store hash found b block at named refused distinct live follows =
    let hashes : block_hash_of b ≡ hash = same_Some (block_hash_of b) hash (sym follows.previous ∙ named) in
    let same : b ≡ found.block = one_with_hash (blocks_of store) b found.block distinct live (found_live store hash found at) (hashes ∙ sym at.same) in
    refused (subst (λ (c : Block). Follows (tip_at c) block) same follows)

module _ {S : Type 0} (network : Network) (a : ChainDb S) (s : State) (whole : IsWhole network a) (has : HasState network a s) (b : Block)
    (not_on : IsLinked genesis_tip (chain_of a.chain) → (keep : ℕ) → keep ≤ length (chain_of a.chain) → Follows (tip_after genesis_tip (take keep (chain_of a.chain))) b → ⊥) where
  none_kept : (keep : ℕ) → keep ≤ length (chain_of a.chain) → Follows (tip_after genesis_tip (take keep (chain_of a.chain))) b → ⊥
  none_kept = not_on (whole_linked network a whole)

  -- a live block that it follows isn't on the chain
  pub beside : (c : Block) → HasBlock a.store c → Follows (tip_at c) b → IsBeside network s c
  beside c live follows = record {
    live = live_there network a s has c live;
    apart = λ member.
        let there = follows_beginning (chain_of a.chain) c b (whole_linked network a whole) (subst (λ (bs : List Block). Contains bs c) (sym has.chain) member) follows in
        none_kept c.header.number there.0 there.1;
  }

  -- it follows no live block either
  module _ (none : HaveDistinctHashes (blocks_of a.store) → (c : Block) → HasBlock a.store c → Follows (tip_at c) b → ⊥) where
    pub misfits : ((hash : List ℕ) → b.header.previous ≡ Some hash → IsHeld network s hash) → Misfits network s b
    misfits names = record {
      names = names;
      not_first = λ follows. none_kept 0 (omega arith) follows;
      no_chain = all_from_members (λ (c : Block). Follows (tip_at c) b → ⊥) s.chain (λ c member follows.
          let there = follows_beginning (chain_of a.chain) c b (whole_linked network a whole) (subst (λ (bs : List Block). Contains bs c) (sym has.chain) member) follows in
          none_kept c.header.number there.0 there.1);
      no_live = all_from_members (λ (c : Block). Follows (tip_at c) b → ⊥) (live_of network s) (λ c member follows. none whole.settled.distinct c ((has.live.members c).1 member) follows);
    }

-- ---- a way that is let through

-- a live block hangs on no beginning of the chain that is shorter than the part that is never rolled back
pub keep_past : {S : Type 0} (network : Network) (a : ChainDb S) (s : State) → IsWhole network a → HasState network a s → (b : Block) (keep : ℕ) → Contains (live_of network s) b → HangsOn s keep b → immutable_length network (chain_of a.chain) ≤ keep
keep_past network a s whole has b keep live hangs =
    let linked : IsLinked genesis_tip s.chain = subst (IsLinked genesis_tip) has.chain (whole_linked network a whole) in
    let past = hangs_past network s b keep linked live hangs in
    let same : immutable_length network (chain_of a.chain) ≡ immutable_length network s.chain = ap (immutable_length network) has.chain in
    omega (arith, past, same)

-- NOTHING ELSE: where all of a way is let through behind the chain, the chain with it isn't longer
pub not_longer : {S : Type 0} (network : Network) (a : ChainDb S) (s : State) → IsWhole network a → HasState network a s → (keep : ℕ) (way : List Block) → keep ≤ length s.chain → immutable_length network (chain_of a.chain) ≤ keep
    → AllByRecursion (IsBeside network s) way → IsValidChain network (take keep s.chain ++ way) → IsNotLonger network s.chain (take keep s.chain) way
not_longer network a s whole has keep way within low beside valid = record {
  valid = valid;
  not_longer = subst (λ (bs : List Block). length (take keep s.chain ++ way) ≤ length bs) has.chain (whole.settled.longest (take keep s.chain ++ way) (record {
    valid = valid;
    members = all_append (Contains all) (take keep s.chain) way
        (all_take (Contains all) keep s.chain (all_from_members (Contains all) s.chain (λ b member. Contains-append_right (blocks_of a.store) (chain_of a.chain) b (subst (λ (bs : List Block). Contains bs b) (sym has.chain) member))))
        (all_weaker (IsBeside network s) (Contains all) way (λ b is. Contains-append_left (blocks_of a.store) (chain_of a.chain) b ((has.live.members b).1 is.live)) beside);
    begins = begins;
  }));
}
  where
    all : List Block
    all = blocks_of a.store ++ (chain_of a.chain)

    part : List Block
    part = immutable_part network (chain_of a.chain)

    begins : BeginsWith (take keep s.chain ++ way) part
    begins =
        let n = immutable_length network (chain_of a.chain) in
        let kept : n ≤ length (take keep s.chain) = omega (arith, low, within, length-take keep s.chain) in
        ap (λ (m : ℕ). take m (take keep s.chain ++ way)) (length_immutable network (chain_of a.chain))
        ∙ (take-append-le n (take keep s.chain) way kept ∙ (take-take n keep s.chain low ∙ ap (take n) (sym has.chain)))

-- ---- the judgement of a way

-- the first blocks of a chain are it without the others
pub kept_is : (chain : List Block) (keep : ℕ) → keep ≤ length chain → without_last (length chain - keep) chain ≡ take keep chain
kept_is chain keep within = let e : length chain - (length chain - keep) ≡ keep = omega (arith, within) in ap (λ (n : ℕ). take n chain) e

pub kept_by : (chain : List Block) (keep back : ℕ) → keep ≤ length chain → back ≡ length chain - keep → without_last back chain ≡ take keep chain
kept_by chain keep back within is = ap (λ (n : ℕ). without_last n chain) is ∙ kept_is chain keep within

parts_at : (xs : List Block) (place : ℕ) (x : Block) → slice_get xs place ≡ Some x → xs ≡ take place xs ++ x ∷ drop (suc place) xs
parts_at [] place x is = absurd (none-some x is)
parts_at (y ∷ ys) zero x is = ap (λ (z : Block). z ∷ ys) (same_Some y x is)
parts_at (y ∷ ys) (suc place) x is = ap (λ (zs : List Block). y ∷ zs) (parts_at ys place x is)

-- the block at which the judgement stops is the first that is refused
pub refused_on : (network : Network) (root way : List Block) (index : ℕ) (fault : BlockFault) (hash : List ℕ) (b : Block) → StopsOnChain network root way index (Refused fault) → slice_get way index ≡ Some b → block_hash_of b ≡ hash → IsRefusedOn network root way hash (fault_of fault)
refused_on network root way index fault hash b stops is same = record {
  before = take index way;
  block = b;
  later = drop (suc index) way;
  parts = parts_at way index b is;
  hash_is = same;
  state = stops.state;
  state_is = stops.is;
  first_fault = subst (λ (x : Block). IsFirstFault network.verifies stops.state x (fault_of fault)) here stops.is_stopped;
}
  where
    here : stops.block ≡ b
    here = same_Some stops.block b (sym (slice_get_read way (length way) index stops.block refl stops.within (sym stops.here)) ∙ is)

-- ---- the way back

-- what was passed, with what it leads from
pub way_found : (network : Network) (s : State) (block first : Block) (rest blocks : List Block) (footing : Footing) → blocks ≡ first ∷ rest → IsLinked (tip_at first) rest → tip_after (tip_at first) rest ≡ tip_at block → AllByRecursion (IsBeside network s) (first ∷ rest)
    → NoneHas s.chain (block_hash_of block) → IsFooting network s first footing → IsWayTo network s (block_hash_of block) blocks footing
way_found network s block first rest blocks footing are linked ends beside apart stands = (
  record { first = first; rest = rest; linked = linked; beside = beside; ends = ap (λ (t : Tip). t.hash) ends; apart = apart },
  are,
  stands,
)

-- a live block whose hash no block of the chain has isn't on it
pub apart_alone : (network : Network) (s : State) (b : Block) → Contains (live_of network s) b → NoneHas s.chain (block_hash_of b) → IsBeside network s b
apart_alone network s b live none = record { live = live; apart = λ member. all_of_member (λ (c : Block). block_hash_of c ≢ block_hash_of b) s.chain b none member refl }

-- a way that hangs on the chain can be judged on the states that the database has
pub way_keeps : {S : Type 0} (network : Network) (a : ChainDb S) → IsWhole network a → (hash : List ℕ) (blocks : List Block) (keep : ℕ) → IsWayTo network (at_rest a) hash blocks (footing.Chain keep) → (keep ≤ length (chain_of a.chain)) × (length (chain_of a.chain) - keep ≤ depth a.db)
way_keeps network a whole hash blocks keep is =
    let low = keep_past network a (at_rest a) whole (rests network a whole) is.0.first keep is.0.beside.0.live is.2 in
    let d = whole.settled.depth in
    (is.2.within, omega (arith, low, d))

-- what is told of a way that was judged
pub why_judged : {S : Type 0} (network : Network) (a : ChainDb S) (s : State) → IsWhole network a → HasState network a s → (hash : List ℕ) (blocks : List Block) (keep : ℕ) (w : Why) → IsWayTo network s hash blocks (footing.Chain keep) → IsJudged network (take keep s.chain) blocks w
    → IsWhyOf network s hash (why_of w)
why_judged network a s whole has hash blocks keep (why.Invalid refused fault) is judged =
    (is.0, keep, is.2, subst (λ (bs : List Block). IsRefusedOn network (take keep s.chain) bs refused.bytes (fault_of fault)) is.1 judged)
why_judged network a s whole has hash blocks keep why.NotLonger is judged = (
  is.0,
  keep,
  is.2,
  not_longer network a s whole has keep (is.0.first ∷ is.0.rest) is.2.within (keep_past network a s whole has is.0.first keep is.0.beside.0.live is.2) is.0.beside
      (subst (λ (bs : List Block). IsValidChain network (take keep s.chain ++ bs)) is.1 judged),
)
why_judged network a s whole has hash blocks keep why.Unknown is judged = absurd judged
why_judged network a s whole has hash blocks keep why.Selected is judged = absurd judged
why_judged network a s whole has hash blocks keep (why.Waits missing) is judged = absurd judged
why_judged network a s whole has hash blocks keep (why.Misfit first) is judged = absurd judged

-- ---- the answers

module _ {S : Type 0} (network : Network) (a : ChainDb S) (s : State) (has : HasState network a s) (hash : List ℕ) where
  -- a block of the chain has the hash
  pub selected_is : (b : Block) → Contains (chain_of a.chain) b → block_hash_of b ≡ hash → (number : ℕ) × HasBlockOf s.chain hash number
  selected_is b member same = (b.header.number, record { block = b; member = chain_there network a s has b member; hash_is = same; number_is = refl })

  -- a live one has it, and none of the chain
  pub beside_is : (found : Stored) → IsAt a.store hash found → NoneHas (chain_of a.chain) hash → (number : ℕ) × IsPlaceOf network s hash (Beside number)
  beside_is found at none = (
    found.block.header.number,
    (
      on_chain network a s has hash none,
      record { block = found.block; member = live_there network a s has found.block (found_live a.store hash found at); hash_is = at.same; number_is = refl },
    ),
  )

  -- a live block of the hash is the one from which its way back leads
  pub way_at : (found : Stored) (block : Block) → IsAt a.store hash found → block ≡ found.block → NoneHas (chain_of a.chain) hash → (blocks : List Block) (footing : Footing)
      → (HasBlock a.store block → NoneHas s.chain (block_hash_of block) → IsWayTo network s (block_hash_of block) blocks footing) → IsWayTo network s hash blocks footing
  way_at found block at is none blocks footing way =
      let same : block_hash_of block ≡ hash = ap block_hash_of is ∙ at.same in
      subst (λ (h : List ℕ). IsWayTo network s h blocks footing) same
      (way (subst (HasBlock a.store) (sym is) (found_live a.store hash found at)) (subst (NoneHas s.chain) (sym same) (on_chain network a s has hash none)))
