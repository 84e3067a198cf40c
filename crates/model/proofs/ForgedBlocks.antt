-- A forged block comes next on a valid chain, and its text isn't too large.
use Rattle.std.proofs.Common.{◌≡◌, ℕ, ◌+◌, ◌≤◌, List, [], ◌∷◌, ◌++◌, length, Option, Some, None, Bool, true, false, cond, inl, inr, refl, sym, ap, subst, ◌∙◌, arith}
use Rattle.std.specs.Prelude.{◌&&◌, nat_le, IfSome}
use Rattle.std.specs.Option.{option_map}
use Rattle.std.proofs.lemmas.Bool.{cases_lt, leb-true, le-leb}
use Rattle.std.proofs.lemmas.Option.{same_Some}
use Rattle.model.specs.Limits.{block_size_limit}
use Rattle.model.specs.Cbor.{head, text_of, Bytes}
use Rattle.model.specs.Transaction.{Transaction}
use Rattle.model.specs.Utxo.{Utxo}
use Rattle.model.specs.Rules.{Params}
use Rattle.model.specs.Genesis.{IsGenesis}
use Rattle.model.specs.Block.{Block, SpellsBlock, body_size_of, item_of_previous, item_of_transactions, item_of_block}
use Rattle.model.specs.Ledger.{Network, Ledger, ledger_after}
use Rattle.model.specs.Chain.{Tip, tip_at, Follows, IsValidChain}
use Rattle.model.specs.Applying.{LedgerState, IsApplied}
use Rattle.model.specs.Mempool.{picked, fits_in_a_block, nests_in_a_block}
use Rattle.model.specs.Forging.{SlotNotAfterTip, IsForged, next_block, tip_of}
use Rattle.model.proofs.TextLengths.{item_length, length_of_text}
use Rattle.model.proofs.MempoolPasses.{picked_folds, picked_fits}
use Rattle.model.proofs.AppliedBlocks.{state_push}
use Rattle.model.proofs.Candidates.{state_of_valid, valid_of_state}

second : (a b : Bool) → (a && b) ≡ true → b ≡ true
second true b e = e
second false b e = absurd (let f : false ≡ true = e in cc)

-- no transactions fit into every block
pub nothing_fits : (network : Network) → IsGenesis network.genesis → fits_in_a_block network.genesis.params [] ≡ true
unfolding head
nothing_fits network genesis = le-leb 1 network.genesis.params.max_body_size genesis.ranges.max_body_size.not_below

-- ---- its size

nine_bytes : (p q r s : Bool) (a b c d e : ℕ) (u v w x : List ℕ) → length u ≤ 8 → length v ≤ 8 → length w ≤ 8 → length x ≤ 8
    → length (cond p (a ∷ []) (cond q (b ∷ u) (cond r (c ∷ v) (cond s (d ∷ w) (e ∷ x))))) ≤ 9
nine_bytes true q r s a b c d e u v w x lu lv lw lx = omega arith
nine_bytes false true r s a b c d e u v w x lu lv lw lx = omega arith
nine_bytes false false true s a b c d e u v w x lu lv lw lx = omega arith
nine_bytes false false false true a b c d e u v w x lu lv lw lx = omega arith
nine_bytes false false false false a b c d e u v w x lu lv lw lx = omega arith

-- a number has at most nine bytes
pub number_length : (n : ℕ) → length (head 0 n) ≤ 9
unfolding head
number_length n = search (arith, nine_bytes)

hash_length : (hash : List ℕ) → length hash ≡ 32 → item_length (Bytes hash) ≤ 34
unfolding head
hash_length hash long = subst (λ (n : ℕ). length (head 2 n) + n ≤ 34) (sym long) (omega arith)

previous_length : (o : Option (List ℕ)) → IfSome o (λ hash. length hash ≡ 32) → item_length (item_of_previous o) ≤ 34
unfolding head
previous_length None long = omega arith
previous_length (Some hash) long = hash_length hash long

two_heads : (length (head 4 2) ≡ 1) × (length (head 4 4) ≡ 1)
unfolding head
two_heads = (refl, refl)

-- what stands before a body has at most 88 bytes
pub block_length : (b : Block) (bytes : List ℕ) → SpellsBlock b bytes → length bytes ≤ 88 + body_size_of b
unfolding body_size_of
block_length b bytes spelled =
    let is = spelled.shape.header in
    let whole = ap length spelled.text.spelled ∙ length_of_text (item_of_block b) in
    let body = length_of_text (item_of_transactions b.transactions) in
    omega (arith, whole, body, number_length b.header.number, number_length b.header.slot, previous_length b.header.previous is.previous, hash_length b.header.body_hash is.body_hash, two_heads.0, two_heads.1)

-- ---- the chain with it

module _ (network : Network) (chain : List Block) (waiting : List Transaction) (slot : ℕ) (b : Block) (genesis : IsGenesis network.genesis) (valid : IsValidChain network chain) (forged : IsForged network chain waiting slot b) where
  abbrev taken : List Transaction
  taken = picked network.verifies network.genesis.params slot forged.utxo [] waiting

  abbrev the_block : Block
  the_block = next_block network chain slot taken

  pub forged_follows : Follows (tip_of network chain) b
  forged_follows = subst (Follows (tip_of network chain)) (sym forged.next) (record {
    number = refl;
    previous = refl;
    slot = elim (cases_lt (tip_of network chain).slot slot) [ inl lt ↦ lt | inr le ↦ absurd (forged.none SlotNotAfterTip le) ];
  })

  next_size : body_size_of the_block ≤ network.genesis.params.max_body_size
  unfolding body_size_of
  next_size =
      let fits = picked_fits network.verifies network.genesis.params slot forged.utxo [] waiting (nothing_fits network genesis) in
      leb-true (length (text_of (item_of_transactions taken))) network.genesis.params.max_body_size (second (nests_in_a_block taken) (nat_le (length (text_of (item_of_transactions taken))) network.genesis.params.max_body_size) fits)

  pub forged_size : body_size_of b ≤ network.genesis.params.max_body_size
  forged_size = subst (λ (c : Block). body_size_of c ≤ network.genesis.params.max_body_size) (sym forged.next) next_size

  -- its text is small enough to be read
  pub forged_length : (bytes : List ℕ) → SpellsBlock b bytes → length bytes ≤ block_size_limit
  forged_length bytes spelled = let most = genesis.ranges.max_body_size.not_above in omega (arith, block_length b bytes spelled, forged_size, most)

  next_valid : IsValidChain network (chain ++ the_block ∷ [])
  next_valid =
      let at = state_of_valid network chain valid in
      let s = at.0 in
      let is = at.1 in
      let outputs : s.ledger.utxo ≡ forged.utxo = same_Some s.ledger.utxo forged.utxo (sym (ap (λ (o : Option Ledger). option_map (λ (l : Ledger). l.utxo) o) is.ledger) ∙ forged.of_chain) in
      let folded = picked_folds network.verifies network.genesis.params slot s.ledger waiting in
      let ledger : ledger_after network.verifies s.params slot s.ledger taken ≡ Some folded.0 =
      ap (λ (p : Params). ledger_after network.verifies p slot s.ledger taken) is.params
      ∙ (ap (λ (u : Utxo). ledger_after network.verifies network.genesis.params slot s.ledger (picked network.verifies network.genesis.params slot u [] waiting)) (sym outputs) ∙ folded.1) in
      let t : LedgerState = record { params = s.params; ledger = folded.0; tip = tip_at the_block } in
      let applied : IsApplied network.verifies s the_block t = record {
        follows = subst (λ (tip : Tip). Follows tip the_block) (sym is.tip) (subst (Follows (tip_of network chain)) forged.next forged_follows);
        size = subst (λ (p : Params). body_size_of the_block ≤ p.max_body_size) (sym is.params) next_size;
        ledger = ledger;
        params = refl;
        tip = refl;
      } in
      valid_of_state network (chain ++ the_block ∷ []) t (state_push network chain s the_block t is applied)

  -- with it the chain is valid
  pub forged_valid : IsValidChain network (chain ++ b ∷ [])
  forged_valid = subst (λ (c : Block). IsValidChain network (chain ++ c ∷ [])) (sym forged.next) next_valid
