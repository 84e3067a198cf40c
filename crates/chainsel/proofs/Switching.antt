-- When the selected chain changes: the longest path is applied, or a block of it is dead.
use Rattle.std.proofs.Common.{◌≡◌, ℕ, suc, ◌-◌, ◌<◌, ◌≤◌, List, [], ◌∷◌, ◌++◌, length, take, drop, get_or, Contains, Some, refl, sym, ap, subst, ◌∙◌, arith, inl, inr, append_assoc}
use Rattle.std.specs.Prelude.{slice_get}
use Rattle.std.specs.List.{AllByRecursion}
use Rattle.std.specs.Ordering.{nat_cmp}
use Rattle.std.specs.Cmp.Lexicographic.{slice_cmp}
use Rattle.std.proofs.lemmas.Bool.{cases_lt}
use Rattle.std.proofs.lemmas.Option.{slice_get-get_or}
use Rattle.std.proofs.lemmas.List.{take_at, take-take, take-append-drop, length-append, length-take, get_or-take}
use Rattle.std.proofs.Math.Seq.{get_or-append_seam}
use Rattle.std.proofs.lemmas.List.Elements.{Contains-append_left, Contains-append_right}
use Rattle.model.specs.Block.{Block, block_hash_of}
use Rattle.model.specs.Ledger.{Network}
use Rattle.model.specs.Chain.{genesis_tip, tip_at, tip_after, tip_hash, IsLinked, IsValidChain, IsSelection, Changes, BeginsWith, immutable_length, immutable_part}
use Rattle.model.specs.Applying.{LedgerState, BlockFault, HasFault, IsStateOf}
use Rattle.model.specs.History.{IsChange}
use Rattle.model.proofs.Lists.{all_from_members, all_weaker, all_append, all_take}
use Rattle.model.proofs.Chains.{linked_front}
use Rattle.model.proofs.Sets.{split_at}
use Rattle.ident.specs.Kinds.{BlockHash}
use Rattle.blockstore.specs.Stored.{Store, blocks_of}
use Rattle.ledgerdb.specs.Values.{Database}
use Rattle.chainsel.specs.Dead.{IsDead}
use Rattle.chainsel.specs.Ready.{IsReady}
use Rattle.chainsel.specs.Choices.{IsFoundDead}
use Rattle.chainsel.specs.Paths.{IsOnPath, IsBest, IsWay, last_block}
use Rattle.chainsel.proofs.AtHand.{at_hand, chain_valid}
use Rattle.chainsel.proofs.Places.{tip_of_end}
use Rattle.chainsel.proofs.Deaths.{all_in_front, fault_dead}
use Rattle.chainsel.proofs.Through.{candidate_cases, through_length, length_by_number, hash_by_end, step_is_there}
use Rattle.chainsel.proofs.Keeping.{linked_join, end_is_step}

module _ (network : Network) (chain : List Block) (store : Store) (db : Database) (new : Block) (ready : IsReady network chain store db new) (invalid : List BlockHash)
    (found : AllByRecursion (IsFoundDead network chain (new ∷ blocks_of store)) invalid) (end : Block) (best : IsBest store invalid new end) (longer : length chain < end.header.number) (keep : ℕ) (blocks : List Block)
    (way : IsWay store invalid chain (immutable_length network chain) new end keep blocks) where
  -- the chain that the way leads on
  abbrev pub led : List Block
  led = take keep chain ++ blocks

  kept_length : length (take keep chain) ≡ keep
  kept_length = let high = way.high in omega (arith, length-take keep chain)

  pub led_linked : IsLinked genesis_tip led
  led_linked =
      linked_join genesis_tip (take keep chain) blocks
      (linked_front genesis_tip (take keep chain) (drop keep chain) (subst (IsLinked genesis_tip) (sym (take-append-drop keep chain)) (chain_valid network chain store db new ready).linked)) way.linked

  pub led_ends : tip_after genesis_tip led ≡ tip_at end
  led_ends =
      ap (λ (bs : List Block). tip_after genesis_tip (take keep chain ++ bs)) way.ends
      ∙ (ap (tip_after genesis_tip) (sym (append_assoc (take keep chain) way.before (end ∷ []))) ∙ tip_of_end genesis_tip (take keep chain ++ way.before) end)

  pub led_length : length led ≡ end.header.number
  led_length = length_by_number led end led_linked led_ends

  -- its blocks are steps
  pub blocks_there : AllByRecursion (Contains (new ∷ blocks_of store)) blocks
  blocks_there =
      all_weaker (IsOnPath store invalid new) (Contains (new ∷ blocks_of store)) blocks (step_is_there store invalid new)
      (subst (AllByRecursion (IsOnPath store invalid new)) (sym way.ends) (all_append (IsOnPath store invalid new) way.before (end ∷ []) way.members (end_is_step store invalid new end best.descends, tt)))

  pub led_at_hand : AllByRecursion (Contains (at_hand chain store new)) led
  led_at_hand =
      all_append (Contains (at_hand chain store new)) (take keep chain) blocks
      (all_take (Contains (at_hand chain store new)) keep chain (all_from_members (Contains (at_hand chain store new)) chain (λ b member. Contains-append_right (new ∷ blocks_of store) chain b member)))
      (all_weaker (Contains (new ∷ blocks_of store)) (Contains (at_hand chain store new)) blocks (λ b member. Contains-append_left (new ∷ blocks_of store) chain b member) blocks_there)

  led_begins : BeginsWith led (immutable_part network chain)
  led_begins =
      let m = immutable_length network chain in
      let imm = immutable_part network chain in
      let rest = drop m (take keep chain) ++ blocks in
      let front : take keep chain ≡ imm ++ drop m (take keep chain) = sym (take-append-drop m (take keep chain)) ∙ ap (λ (bs : List Block). bs ++ drop m (take keep chain)) (take-take m keep chain way.low) in
      let whole : led ≡ imm ++ rest = ap (λ (bs : List Block). bs ++ blocks) front ∙ append_assoc imm (drop m (take keep chain)) blocks in
      ap (take (length imm)) whole ∙ take_at imm rest (length imm) refl

  -- where it is valid it is selected
  pub led_selected : IsValidChain network led → IsSelection network (at_hand chain store new) chain led
  led_selected valid = Changes led (record {
    candidate = record { valid = valid; members = led_at_hand; begins = led_begins };
    longer = omega (arith, led_length, longer);
    longest = λ c candidate. elim (candidate_cases network chain store db new ready invalid found c candidate) [
      | inl through ↦
          let long = through_length network chain store db new ready invalid found c candidate through in
          let far = best.furthest (last_block new through.after) through.descends in
          omega (arith, long, far, led_length)
      | inr short ↦ omega (arith, short, led_length, longer)
    ];
    least = λ c candidate same. elim (candidate_cases network chain store db new ready invalid found c candidate) [
      | inl through ↦
          let long = through_length network chain store db new ready invalid found c candidate through in
          let ordered = best.least (last_block new through.after) through.descends (omega (arith, long, same, led_length)) in
          let here : block_hash_of end ≡ tip_hash led = sym (hash_by_end led end led_ends) in
          let there : block_hash_of (last_block new through.after) ≡ tip_hash c = sym (hash_by_end c (last_block new through.after) through.ends) in
          λ greater. ordered (ap (λ (h : List ℕ). slice_cmp nat_cmp h (block_hash_of (last_block new through.after))) here ∙ (ap (slice_cmp nat_cmp (tip_hash led)) there ∙ greater))
      | inr short ↦ absurd (omega (arith, short, same, led_length, longer))
    ];
  })

  -- the counts of the change
  not_next : (bs : List Block) → bs ≡ blocks → (m : ℕ) → keep < m → m ≤ length chain → take m chain ≡ take m (take keep chain ++ bs) → ⊥
  not_next [] empty m past within same = let e = ap length (empty ∙ way.ends) in absurd (omega (arith, e, length-append way.before (end ∷ [])))
  not_next (x ∷ xs) is m past within same =
      let here : get_or chain keep x ≡ x =
      sym (get_or-take m chain keep x past)
      ∙ (ap (λ (bs : List Block). get_or bs keep x) same
      ∙ (get_or-take m (take keep chain ++ x ∷ xs) keep x past
      ∙ (ap (λ (n : ℕ). get_or (take keep chain ++ x ∷ xs) n x) (sym kept_length) ∙ get_or-append_seam (take keep chain) x xs x))) in
      way.apart longer x (ap (λ (bs : List Block). slice_get bs 0) (sym is)) (slice_get-get_or chain keep x (omega (arith, past, within)) ∙ ap Some here)

  pub led_change : IsChange chain led (length chain - keep) (length blocks)
  led_change =
      let high = way.high in
      record {
        common = keep;
        is_common = record {
          in_old = high;
          in_new = omega (arith, length-append (take keep chain) blocks, kept_length);
          common = sym (take_at (take keep chain) blocks keep kept_length);
          longest = λ m in_old in_new same. elim (cases_lt keep m) [
            | inl past ↦ absurd (not_next blocks refl m past in_old same)
            | inr not_past ↦ omega (arith, not_past)
          ];
        };
        left = omega (arith, high);
        put_on = omega (arith, length-append (take keep chain) blocks, kept_length);
      }

  -- where a block of it has a fault on what those before it make, that one is dead
  pub led_dead : (index : ℕ) (b : Block) (s : LedgerState) (fault : BlockFault) → index < length blocks → get_or blocks index b ≡ b → IsStateOf network (take keep chain ++ take index blocks) s
      → HasFault network.verifies s b fault → IsDead network chain (new ∷ blocks_of store) b
  led_dead index b s fault within here is has =
      let parts : blocks ≡ take index blocks ++ b ∷ drop (suc index) blocks = split_at index blocks b within here in
      let whole : led ≡ ((take keep chain ++ take index blocks) ++ b ∷ []) ++ drop (suc index) blocks =
      ap (λ (bs : List Block). take keep chain ++ bs) parts
      ∙ (sym (append_assoc (take keep chain) (take index blocks) (b ∷ drop (suc index) blocks)) ∙ sym (append_assoc (take keep chain ++ take index blocks) (b ∷ []) (drop (suc index) blocks))) in
      let root = take keep chain ++ take index blocks in
      fault_dead network chain (new ∷ blocks_of store) root s b fault
      (linked_front genesis_tip (root ++ b ∷ []) (drop (suc index) blocks) (subst (IsLinked genesis_tip) whole led_linked))
      (all_in_front (Contains (at_hand chain store new)) (root ++ b ∷ []) (drop (suc index) blocks) (subst (AllByRecursion (Contains (at_hand chain store new))) whole led_at_hand)) is has
