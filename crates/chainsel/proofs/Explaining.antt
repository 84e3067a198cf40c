-- That what is told to be dead explains the choice: how far open paths lead.
use Rattle.std.proofs.Common.{◌≡◌, ◌≢◌, ℕ, suc, ◌+◌, ◌-◌, ◌<◌, ◌≤◌, List, [], ◌∷◌, ◌++◌, length, take, drop, Contains, refl, sym, ap, subst, ◌∙◌, arith, inl, inr, append_assoc}
use Rattle.std.specs.List.{AllByRecursion}
use Rattle.std.specs.Ordering.{nat_cmp}
use Rattle.std.specs.declared.cmp.Ordering.TheVariants.{Greater}
use Rattle.std.specs.Cmp.Lexicographic.{slice_cmp}
use Rattle.std.proofs.lemmas.List.{take-append-drop, take-take, drop-take}
use Rattle.std.proofs.lemmas.List.Elements.{Contains-append_right}
use Rattle.model.specs.Block.{Block, block_hash_of}
use Rattle.model.specs.Ledger.{Network}
use Rattle.model.specs.Chain.{Tip, genesis_tip, tip_at, tip_after, tip_hash, IsLinked, immutable_length}
use Rattle.model.proofs.Lists.{all_of_member, all_from_members, all_weaker, all_append, all_take}
use Rattle.model.proofs.Chains.{tip_after-append, linked_front, linked_rest, begins_with_itself}
use Rattle.model.proofs.Sets.{split_at}
use Rattle.ident.specs.Kinds.{BlockHash}
use Rattle.blockstore.specs.Stored.{Store, blocks_of}
use Rattle.ledgerdb.specs.Values.{Database}
use Rattle.ledgerdb.specs.Chains.{without_last}
use Rattle.chainsel.specs.Ready.{IsReady}
use Rattle.chainsel.specs.Choices.{IsFoundDead, IsOpenPath, IsNoBetter, IsExplained}
use Rattle.chainsel.specs.declared.selection.Choice.{Choice}
use Rattle.chainsel.specs.declared.selection.Choice.TheVariants as choice
use Rattle.chainsel.specs.Paths.{IsFitLive, IsOnPath, Descends, IsBest, IsWay, HasNoWay, last_block}
use Rattle.chainsel.proofs.AtHand.{at_hand, chain_valid, candidate_steps}
use Rattle.chainsel.proofs.Lists.{all_front, all_rest}
use Rattle.chainsel.proofs.Tips.{linked_take}
use Rattle.chainsel.proofs.Through.{fit_after, tip_of_last, length_by_number, hash_by_end}
use Rattle.chainsel.proofs.Keeping.{linked_join, ends_in}
use Rattle.chainsel.proofs.Switching.{led_length, led_ends}
use Rattle.chainsel.proofs.Turns.{true_way, led_by}

-- no open path makes a longer chain
abbrev pub AreShort : Network → List Block → Store → Block → List BlockHash → Type 0
AreShort network chain store new told =
    (keep : ℕ) (path : List Block) → IsOpenPath network chain store new told keep path → length (take keep chain ++ path) ≤ length chain

pub when_kept : {S : Type 0} (network : Network) (chain : List Block) (store : Store) (new : Block) (told : List BlockHash) (chosen : Choice S)
    → chosen ≡ choice.Keep → AreShort network chain store new told → IsExplained network chain store new told chosen
when_kept network chain store new told chosen is short = subst (IsExplained network chain store new told) (sym is) short

module _ (network : Network) (chain : List Block) (store : Store) (db : Database) (new : Block) (ready : IsReady network chain store db new) (told : List BlockHash) where
  -- an open path comes to the new block, and goes on from there
  module _ (keep : ℕ) (path : List Block) (is : IsOpenPath network chain store new told keep path) where
    abbrev root : Tip
    root = tip_after genesis_tip (take keep chain)

    abbrev before : List Block
    before = take is.through.0 path

    abbrev after : List Block
    after = drop (suc is.through.0) path

    parts : path ≡ before ++ new ∷ after
    parts = split_at is.through.0 path new is.through.1 is.through.2

    linked : IsLinked root (before ++ new ∷ after)
    linked = subst (IsLinked root) parts is.linked

    at_new : IsLinked (tip_after root before) (new ∷ after)
    at_new = linked_rest root before (new ∷ after) linked

    steps : AllByRecursion (IsOnPath store told new) (before ++ new ∷ after)
    steps = subst (AllByRecursion (IsOnPath store told new)) parts is.members

    goes_on : Descends store told new (last_block new after)
    goes_on = record {
      path = after;
      linked = at_new.1;
      members = fit_after store told new after at_new.1 (all_rest (IsOnPath store told new) before (new ∷ after) steps).1;
      last = refl;
    }

    abbrev led : List Block
    led = take keep chain ++ path

    chain_linked : IsLinked genesis_tip (take keep chain)
    chain_linked = linked_take genesis_tip keep chain (chain_valid network chain store db new ready).linked

    ends : tip_after genesis_tip led ≡ tip_at (last_block new after)
    ends =
        tip_after-append genesis_tip (take keep chain) path
        ∙ (ap (tip_after root) parts ∙ (tip_after-append root before (new ∷ after) ∙ tip_of_last new after))

    long : length led ≡ (last_block new after).header.number
    long = length_by_number led (last_block new after) (linked_join genesis_tip (take keep chain) path chain_linked is.linked) ends

    -- so it ends no further than the best, and where it is as far in no lesser hash
    within_best : (best : Block) → IsBest store told new best → length led ≤ best.header.number
    within_best best is_best = let far = is_best.furthest (last_block new after) goes_on in omega (arith, long, far)

    not_less : (best : Block) → IsBest store told new best → length led ≡ best.header.number → slice_cmp nat_cmp (block_hash_of best) (tip_hash led) ≢ Greater
    not_less best is_best same greater =
        is_best.least (last_block new after) goes_on (sym long ∙ same)
        (ap (slice_cmp nat_cmp (block_hash_of best)) (sym (hash_by_end led (last_block new after) ends)) ∙ greater)

    -- and it is a way to all that goes on from the new block
    module _ (found : AllByRecursion (IsFoundDead network chain (new ∷ blocks_of store)) told) where
      abbrev m : ℕ
      m = immutable_length network chain

      abbrev start : Tip
      start = tip_after genesis_tip (take m chain)

      abbrev between : List Block
      between = drop m (take keep chain)

      kept : take m chain ++ between ≡ take keep chain
      kept = ap (λ (bs : List Block). bs ++ between) (sym (take-take m keep chain is.low)) ∙ take-append-drop m (take keep chain)

      reaches : tip_after start between ≡ root
      reaches = sym (tip_after-append genesis_tip (take m chain) between) ∙ ap (tip_after genesis_tip) kept

      between_linked : IsLinked start between
      between_linked = linked_rest genesis_tip (take m chain) between (subst (IsLinked genesis_tip) (sym kept) chain_linked)

      between_steps : AllByRecursion (IsOnPath store told new) between
      between_steps =
          let far : m + (keep - m) ≡ keep = let low = is.low in omega arith in
          let same : drop m (take keep chain) ≡ take (keep - m) (drop m chain) = ap (λ (n : ℕ). drop m (take n chain)) (sym far) ∙ drop-take m (keep - m) chain in
          let all = candidate_steps network chain store db new ready told found chain (record {
            valid = chain_valid network chain store db new ready;
            members = all_from_members (Contains (at_hand chain store new)) chain (λ b member. Contains-append_right (new ∷ blocks_of store) chain b member);
            begins = begins_with_itself network chain;
          }) in
          subst (AllByRecursion (IsOnPath store told new)) (sym same) (all_take (IsOnPath store told new) (keep - m) (drop m chain) all)

      leads : (b : Block) → Descends store told new b → HasNoWay store told chain m new b → ⊥
      leads b goes no_way =
          let front = ends_in new goes.path in
          let whole : new ∷ goes.path ≡ front.0 ++ b ∷ [] = front.1 ∙ ap (λ (d : Block). front.0 ++ d ∷ []) goes.last in
          let on : IsLinked root (before ++ new ∷ goes.path) = linked_join root before (new ∷ goes.path) (linked_front root before (new ∷ after) linked) (at_new.0, goes.linked) in
          let all : IsLinked start (between ++ (before ++ new ∷ goes.path)) =
          linked_join start between (before ++ new ∷ goes.path) between_linked (subst (λ (t : Tip). IsLinked t (before ++ new ∷ goes.path)) (sym reaches) on) in
          let to_it : between ++ (before ++ new ∷ goes.path) ≡ ((between ++ before) ++ front.0) ++ b ∷ [] =
          sym (append_assoc between before (new ∷ goes.path)) ∙ (ap (λ (bs : List Block). (between ++ before) ++ bs) whole ∙ sym (append_assoc (between ++ before) front.0 (b ∷ []))) in
          let onward : AllByRecursion (IsOnPath store told new) (new ∷ goes.path) = (inl refl, all_weaker (IsFitLive store told) (IsOnPath store told new) goes.path (λ d fit. inr fit) goes.members) in
          let are : AllByRecursion (IsOnPath store told new) ((between ++ before) ++ front.0) = all_append (IsOnPath store told new) (between ++ before) front.0
          (all_append (IsOnPath store told new) between before between_steps (all_front (IsOnPath store told new) before (new ∷ after) steps))
          (all_front (IsOnPath store told new) front.0 (b ∷ []) (subst (AllByRecursion (IsOnPath store told new)) whole onward)) in
          no_way ((between ++ before) ++ front.0) are (subst (IsLinked start) to_it all)

  -- ---- where the chain stays

  -- since nothing goes on past it
  pub short_by_number : (best : Block) → IsBest store told new best → best.header.number ≤ length chain → AreShort network chain store new told
  short_by_number best is_best within keep path is = let far = within_best keep path is best is_best in omega (arith, far, within)

  -- since the block that came is told to be dead
  pub short_by_death : (hash : BlockHash) → Contains told hash → hash.bytes ≡ block_hash_of new → AreShort network chain store new told
  short_by_death hash among same keep path is = absurd (all_of_member (λ (h : BlockHash). h.bytes ≢ block_hash_of new) told hash is.untold among same)

  module _ (found : AllByRecursion (IsFoundDead network chain (new ∷ blocks_of store)) told) where
    -- since no way leads to what goes on from it
    pub short_by_way : (immutable : ℕ) (b : Block) → immutable ≡ immutable_length network chain → Descends store told new b → HasNoWay store told chain immutable new b
        → AreShort network chain store new told
    short_by_way immutable b same goes no_way keep path is = absurd (leads keep path is found b goes (subst (λ (n : ℕ). HasNoWay store told chain n new b) same no_way))

    -- ---- where it changes
    module _ (best : Block) (is_best : IsBest store told new best) (longer : length chain < best.header.number) (immutable kept_blocks : ℕ) (same : immutable ≡ immutable_length network chain) (blocks : List Block)
        (way : IsWay store told chain immutable new best kept_blocks blocks) where
      abbrev selected : List Block
      selected = take kept_blocks chain ++ blocks

      way_on : IsWay store told chain (immutable_length network chain) new best kept_blocks blocks
      way_on = true_way network chain store db new ready told found best is_best longer immutable kept_blocks same blocks way

      as_long : length selected ≡ best.header.number
      as_long = led_length network chain store db new ready told found best is_best longer kept_blocks blocks way_on

      of_hash : tip_hash selected ≡ block_hash_of best
      of_hash = hash_by_end selected best (led_ends network chain store db new ready told found best is_best longer kept_blocks blocks way_on)

      no_better : (keep : ℕ) (path : List Block) → IsOpenPath network chain store new told keep path → IsNoBetter selected (take keep chain ++ path)
      no_better keep path is = record {
        longest = let far = within_best keep path is best is_best in omega (arith, far, as_long);
        least = λ level greater. not_less keep path is best is_best (level ∙ as_long) (ap (λ (h : List ℕ). slice_cmp nat_cmp h (tip_hash (take keep chain ++ path))) (sym of_hash) ∙ greater);
      }

      pub none_better : (back : ℕ) (put_on : List Block) → back ≡ length chain - kept_blocks → put_on ≡ blocks
          → (keep : ℕ) (path : List Block) → IsOpenPath network chain store new told keep path → IsNoBetter (without_last back chain ++ put_on) (take keep chain ++ path)
      none_better back put_on as_back as_blocks keep path is =
          let led_on = led_by network chain store db new ready told found best is_best longer immutable kept_blocks same blocks way back put_on as_back as_blocks in
          subst (λ (bs : List Block). IsNoBetter bs (take keep chain ++ path)) (sym led_on) (no_better keep path is)
