-- That valid chains through the immutable tip go by live blocks without marks past it, so that a way leads to each of these.
use Rattle.std.proofs.Common.{◌≡◌, suc, ◌+◌, ◌<◌, ◌≤◌, true, false, List, [], ◌∷◌, ◌++◌, length, take, drop, Contains, sym, ap, subst, ◌∙◌, arith, inl, inr, append_assoc}
use Rattle.std.specs.List.{AllByRecursion}
use Rattle.std.proofs.lemmas.Bool.{cases_lt, false_from_ne_true}
use Rattle.std.proofs.lemmas.List.{length-append}
use Rattle.std.proofs.lemmas.List.Elements.{Contains-append_left, Contains-append_right, Contains-append_cases}
use Rattle.model.specs.Block.{Block}
use Rattle.model.specs.Ledger.{Network}
use Rattle.model.specs.Chain.{genesis_tip, IsLinked, IsValidChain, IsCandidate, immutable_length, immutable_part, live_blocks}
use Rattle.model.proofs.Lists.{all_of_member, all_from_members, all_weaker, all_take, all_append}
use Rattle.model.proofs.MappedLists.{contains_map, contains_before}
use Rattle.model.proofs.Sets.{split_at}
use Rattle.model.proofs.Chains.{linked_rest, linked_front, length_immutable, begins_with_itself}
use Rattle.model.proofs.Selections.{live_rest}
use Rattle.model.proofs.Candidates.{live_is_kept, live_number, candidate_front}
use Rattle.model.proofs.LegalHistories.{numbers_within}
use Rattle.blockstore.specs.Stored.{Stored, Store, HasBlock, blocks_of, unmarked}
use Rattle.blockstore.specs.Ways.{HasWay}
use Rattle.blockstore.specs.OffWays.{IsOnWay}
use Rattle.ledgerdb.specs.Values.{Database}
use Rattle.ledgerdb.proofs.ForCallers.{database_valid}
use Rattle.chainsel.specs.Dead.{HaveOnePlace, IsDead}
use Rattle.chainsel.specs.Ready.{IsSettled}
use Rattle.chainsel.proofs.Places.{distinct_placed, one_number}

module _ (network : Network) (chain : List Block) (store : Store) (db : Database) (settled : IsSettled network chain store db) where
  abbrev all_blocks : List Block
  all_blocks = blocks_of store ++ chain

  valid_chain : IsValidChain network chain
  valid_chain = database_valid network chain db settled.database

  -- past the immutable part they are live
  is_live : (b : Block) → Contains all_blocks b → immutable_length network chain < b.header.number → HasBlock store b
  is_live b member past = elim (Contains-append_cases (blocks_of store) chain b member) [
    | inl there ↦ there
    | inr on_chain ↦ all_of_member (λ c. immutable_length network chain < c.header.number → HasBlock store c) chain b settled.live on_chain past
  ]

  of_chain : (b : Block) → Contains all_blocks b → b.header.number ≤ immutable_length network chain → Contains chain b
  of_chain b member before = elim (Contains-append_cases (blocks_of store) chain b member) [
    | inl there ↦ absurd (let past = all_of_member (λ c. immutable_length network chain < c.header.number) (blocks_of store) b settled.past there in omega (arith, past, before))
    | inr on_chain ↦ on_chain
  ]

  placed : HaveOnePlace all_blocks
  placed a b has_a has_b hash number =
      let m = immutable_length network chain in
      elim (cases_lt m a.header.number) [
        | inl past ↦ distinct_placed (blocks_of store) settled.distinct a b (is_live a has_a past) (is_live b has_b (omega (arith, past, number))) hash number
        | inr before ↦ one_number genesis_tip chain a b valid_chain.linked (of_chain a has_a (omega (arith, before))) (of_chain b has_b (omega (arith, before, number))) number
      ]

  -- a valid chain of the immutable part and live blocks
  module _ (rest : List Block) (valid : IsValidChain network (immutable_part network chain ++ rest)) (live : AllByRecursion (HasBlock store) rest) where
    abbrev whole : List Block
    whole = immutable_part network chain ++ rest

    among : AllByRecursion (Contains all_blocks) whole
    among =
        all_append (Contains all_blocks) (immutable_part network chain) rest
        (all_take (Contains all_blocks) (immutable_length network chain) chain (all_from_members (Contains all_blocks) chain (Contains-append_right (blocks_of store) chain)))
        (all_weaker (HasBlock store) (Contains all_blocks) rest (Contains-append_left (blocks_of store) chain) live)

    bare : (y : Stored) → Contains store.blocks y → Contains whole y.block → y.invalid ≡ false
    bare y member there = false_from_ne_true y.invalid (λ marked.
        all_of_member (λ z. z.invalid ≡ true → IsDead network chain (blocks_of store) z.block) store.blocks y settled.marks member marked [] tt placed whole valid among there)

    in_rest : (b : Block) → HasBlock store b → Contains whole b → Contains rest b
    in_rest b has there = elim (Contains-append_cases (immutable_part network chain) rest b there) [
      | inl front ↦
          let within = all_of_member (λ c. c.header.number ≤ 0 + length (immutable_part network chain)) (immutable_part network chain) b
          (numbers_within genesis_tip (immutable_part network chain) (linked_front genesis_tip (immutable_part network chain) rest valid.linked)) front in
          let past = all_of_member (λ c. immutable_length network chain < c.header.number) (blocks_of store) b settled.past has in
          absurd (omega (arith, within, past, length_immutable network chain))
      | inr later ↦ later
    ]

    bare_live : (b : Block) → Contains rest b → Contains store.blocks (unmarked b)
    bare_live b member =
        let y = contains_before (λ (z : Stored). z.block) store.blocks b (all_of_member (HasBlock store) rest b live member) in
        let none = bare y.0 y.1 (subst (Contains whole) (sym y.2) (Contains-append_right (immutable_part network chain) rest b member)) in
        let is : y.0 ≡ unmarked b = λ i. record { block = y.2 i; invalid = none i } in
        subst (Contains store.blocks) is y.1

    way : (b : Block) → Contains rest b → HasWay store.root store.blocks b
    way b member =
        let k = member.0 in
        let parts : rest ≡ take k rest ++ b ∷ drop (suc k) rest = split_at k rest b member.1 member.2 in
        let linked : IsLinked store.root rest = subst (λ t. IsLinked t rest) (sym settled.root) (linked_rest genesis_tip (immutable_part network chain) rest valid.linked) in
        let before : AllByRecursion (Contains rest) (take k rest) = all_take (Contains rest) k rest (all_from_members (Contains rest) rest (λ c there. there)) in
        record {
          before = take k rest;
          members = all_weaker (Contains rest) (λ c. Contains store.blocks (unmarked c)) (take k rest) bare_live before;
          linked = linked_front store.root (take k rest ++ b ∷ []) (drop (suc k) rest)
              (subst (IsLinked store.root) (parts ∙ sym (append_assoc (take k rest) (b ∷ []) (drop (suc k) rest))) linked);
        }

    goes_by_ways : (x : Stored) → Contains store.blocks x → Contains whole x.block → IsOnWay store x
    goes_by_ways x member there =
        record { unmarked = bare x member there; way = way x.block (in_rest x.block (contains_block x member) there) }
      where
        contains_block : (y : Stored) → Contains store.blocks y → HasBlock store y.block
        contains_block y at = contains_map (λ (z : Stored). z.block) store.blocks y at

  -- a way leads to each live block that a candidate has
  pub candidate_on_ways : (kept : List Block) → ((b : Block) → Contains (live_blocks network kept chain) b → HasBlock store b) → (c : List Block) → IsCandidate network kept chain c
      → (x : Stored) → Contains store.blocks x → Contains c x.block → IsOnWay store x
  candidate_on_ways kept held c candidate x member there =
      let m = immutable_length network chain in
      let splits = candidate_front network kept chain c candidate in
      let long : m ≤ length c = omega (arith, ap length splits, length-append (immutable_part network chain) (drop m c), length_immutable network chain) in
      goes_by_ways (drop m c) (subst (IsValidChain network) splits candidate.valid)
      (all_weaker (Contains (live_blocks network kept chain)) (HasBlock store) (drop m c) held (live_rest network kept chain c candidate long))
      x member (subst (λ (bs : List Block). Contains bs x.block) splits there)

  -- and to each of the selected chain
  pub chain_on_ways : (x : Stored) → Contains store.blocks x → Contains chain x.block → IsOnWay store x
  chain_on_ways x member there =
      candidate_on_ways all_blocks (λ b live. is_live b (live_is_kept network all_blocks chain b live) (live_number network all_blocks chain b live)) chain
      (record { valid = valid_chain; members = all_from_members (Contains all_blocks) chain (Contains-append_right (blocks_of store) chain); begins = begins_with_itself network chain })
      x member there
