-- One turn of the search: when the chain stays or changes, and which block is found dead.
use Rattle.std.proofs.Common.{◌≡◌, ℕ, zero, suc, ◌-◌, ◌<◌, ◌≤◌, List, [], ◌∷◌, ◌++◌, length, take, get_or, Contains, Some, None, true, false, sym, ap, subst, ◌∙◌, arith}
use Rattle.std.specs.Prelude.{Option, MatchOption}
use Rattle.std.specs.Option.{is_some}
use Rattle.std.specs.List.{AllByRecursion}
use Rattle.model.specs.Block.{Block, block_hash_of}
use Rattle.model.specs.Ledger.{Network}
use Rattle.model.specs.Chain.{IsValidChain, Stays, immutable_length}
use Rattle.model.specs.Applying.{HasFault, IsStateOf}
use Rattle.model.specs.History.{IsChange}
use Rattle.model.proofs.Lists.{all_of_member}
use Rattle.ident.specs.Kinds.{BlockHash}
use Rattle.blockstore.specs.Stored.{Store, blocks_of}
use Rattle.ledger.specs.View.{fault_of}
use Rattle.ledger.specs.declared.block_fault.BlockFault.{BlockFault}
use Rattle.ledgerdb.specs.Values.{Database, depth}
use Rattle.ledgerdb.specs.Chains.{without_last, IsPreparedOf}
use Rattle.ledgerdb.specs.Faults.{IsFaultOnChain}
use Rattle.ledgerdb.specs.declared.fork_fault.ForkFault.TheVariants.{Refused}
use Rattle.ledgerdb.proofs.ForCallers.{prepared_valid}
use Rattle.chainsel.specs.Ready.{IsReady}
use Rattle.chainsel.specs.Choices.{IsSelected, IsSwitch, IsFoundDead}
use Rattle.chainsel.specs.declared.selection.Switch.{Switch}
use Rattle.chainsel.specs.Paths.{Descends, IsBest, IsWay, HasNoWay}
use Rattle.chainsel.proofs.Keeping.{selected_over, none_by_number, none_by_way, none_by_death}
use Rattle.chainsel.proofs.Switching.{led_selected, led_change, led_dead, blocks_there}

pub match_none : {T : Type 0} (A : Type 0) (B : T → Type 0) (o : Option T) → MatchOption o A B → o ≡ None → A
match_none A B o is none = subst (λ p. MatchOption p A B) none is

pub match_empty : {T : Type 0} (A : Type 0) (B : T → Type 0) (o : Option T) → MatchOption o A B → is_some o ≡ false → A
match_empty A B None is empty = is
match_empty A B (Some x) is empty = absurd (let e : true ≡ false = empty in cc)

pub match_some : {T : Type 0} (A : Type 0) (B : T → Type 0) (o : Option T) (x : T) → MatchOption o A B → o ≡ Some x → B x
match_some A B o x is some = subst (λ p. MatchOption p A B) some is

module _ (network : Network) (chain : List Block) (store : Store) (db : Database) (new : Block) (ready : IsReady network chain store db new) where
  -- how many blocks of the chain can't be rolled back
  pub immutable_is : (n d : ℕ) → n ≡ length chain - d → d ≡ depth db → n ≡ immutable_length network chain
  immutable_is n d is depth_is = let e = ready.settled.depth in omega (arith, is, depth_is, e)

  module _ (invalid : List BlockHash) (found : AllByRecursion (IsFoundDead network chain (new ∷ blocks_of store)) invalid) where
    pub stays_by_number : (best : Block) → IsBest store invalid new best → best.header.number ≤ length chain → IsSelected network store chain new chain
    stays_by_number best is within = selected_over network chain store db new ready chain (Stays (none_by_number network chain store db new ready invalid found best is within))

    pub stays_by_way : (immutable : ℕ) (b : Block) → immutable ≡ immutable_length network chain → Descends store invalid new b → HasNoWay store invalid chain immutable new b → IsSelected network store chain new chain
    stays_by_way immutable b same is no_way =
        selected_over network chain store db new ready chain
        (Stays (none_by_way network chain store db new ready invalid found b is (subst (λ (n : ℕ). HasNoWay store invalid chain n new b) same no_way)))

    pub stays_by_death : (hash : BlockHash) → Contains invalid hash → hash.bytes ≡ block_hash_of new → IsSelected network store chain new chain
    stays_by_death hash among same = selected_over network chain store db new ready chain (Stays (none_by_death network chain store db new ready invalid found hash among same))

    -- with a way that leads past the chain
    module _ (best : Block) (is : IsBest store invalid new best) (longer : length chain < best.header.number) (immutable keep : ℕ) (same : immutable ≡ immutable_length network chain) (blocks : List Block)
        (way : IsWay store invalid chain immutable new best keep blocks) where
      pub true_way : IsWay store invalid chain (immutable_length network chain) new best keep blocks
      true_way = subst (λ (n : ℕ). IsWay store invalid chain n new best keep blocks) same way

      front : without_last (length chain - keep) chain ≡ take keep chain
      front = let high = way.high in let e : length chain - (length chain - keep) ≡ keep = omega arith in ap (λ (n : ℕ). take n chain) e

      pub rolled_within : length chain - keep ≤ depth db
      rolled_within = let low = true_way.low in let e = ready.settled.depth in omega (arith, low, e)

      -- the chain of a switch is the one that the way leads on
      pub led_by : (back : ℕ) (put_on : List Block) → back ≡ length chain - keep → put_on ≡ blocks → without_last back chain ++ put_on ≡ take keep chain ++ blocks
      led_by back put_on as_back as_blocks =
          ap (λ (n : ℕ). without_last n chain ++ put_on) as_back ∙ (ap (λ (bs : List Block). bs ++ put_on) front ∙ ap (λ (bs : List Block). take keep chain ++ bs) as_blocks)

      pub switches : {S : Type 0} (switch : Switch S) → switch.back ≡ length chain - keep → switch.blocks.items ≡ blocks → switch.prepared.back ≡ switch.back
          → IsPreparedOf network (without_last switch.back chain) switch.blocks.items switch.prepared → IsSwitch network chain store db new switch
      switches switch back put_on prepared_back prepared =
          let within : switch.back ≤ depth db = subst (λ (n : ℕ). n ≤ depth db) (sym back) rolled_within in
          let led = led_by switch.back switch.blocks.items back put_on in
          let valid = prepared_valid network chain switch.blocks.items db switch.prepared ready.settled.database (subst (λ (n : ℕ). n ≤ depth db) (sym prepared_back) within)
          (subst (λ (n : ℕ). IsPreparedOf network (without_last n chain) switch.blocks.items switch.prepared) (sym prepared_back) prepared) in
          let whole : without_last switch.prepared.back chain ++ switch.blocks.items ≡ take keep chain ++ blocks = ap (λ (n : ℕ). without_last n chain ++ switch.blocks.items) prepared_back ∙ led in
          record {
            selected =
                subst (IsSelected network store chain new) (sym led)
                (selected_over network chain store db new ready (take keep chain ++ blocks)
                (led_selected network chain store db new ready invalid found best is longer keep blocks true_way (subst (IsValidChain network) whole valid)));
            change =
                subst (λ (bs : List Block). IsChange chain bs switch.back (length switch.blocks.items)) (sym led)
                (subst (λ (n : ℕ). IsChange chain (take keep chain ++ blocks) n (length switch.blocks.items)) (sym back)
                (subst (λ (bs : List Block). IsChange chain (take keep chain ++ blocks) (length chain - keep) (length bs)) (sym put_on)
                (led_change network chain store db new ready invalid found best is longer keep blocks true_way)));
            within = within;
            members = subst (AllByRecursion (Contains (new ∷ blocks_of store))) (sym put_on) (blocks_there network chain store db new ready invalid found best is longer keep blocks true_way);
            back = prepared_back;
            prepared = prepared;
          }

      -- a block of it that isn't applied is dead
      pub dies : (index : ℕ) (fault : BlockFault) (b : Block) (hash : BlockHash) → IsFaultOnChain network (without_last (length chain - keep) chain) blocks (Refused index fault) → get_or blocks index b ≡ b
          → hash.bytes ≡ block_hash_of b → IsFoundDead network chain (new ∷ blocks_of store) hash
      dies index fault b hash stops here named =
          let one : stops.block ≡ b = at_one_place blocks index stops.block b stops.within stops.here here in
          record {
            block = b;
            member = all_of_member (Contains (new ∷ blocks_of store)) blocks b (blocks_there network chain store db new ready invalid found best is longer keep blocks true_way) (index, stops.within, here);
            same = sym named;
            dead = led_dead network chain store db new ready invalid found best is longer keep blocks true_way index b stops.state (fault_of fault) stops.within here
                (subst (λ (bs : List Block). IsStateOf network (bs ++ take index blocks) stops.state) front stops.is)
                (subst (λ (c : Block). HasFault network.verifies stops.state c (fault_of fault)) one stops.is_stopped.applies);
          }
        where
          at_one_place : (bs : List Block) (n : ℕ) (x y : Block) → n < length bs → get_or bs n x ≡ x → get_or bs n y ≡ y → x ≡ y
          at_one_place [] n x y within first second = absurd (omega (arith, within))
          at_one_place (z ∷ zs) zero x y within first second = sym first ∙ second
          at_one_place (z ∷ zs) (suc n) x y within first second = at_one_place zs n x y (omega (arith, within)) first second
