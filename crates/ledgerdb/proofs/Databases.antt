-- The database of a chain: its states, what stays of it when blocks are rolled back, and when its anchor moves on.
use Rattle.std.proofs.Common.{◌≡◌, ℕ, suc, ◌+◌, ◌-◌, ◌≤◌, inl, inr, List, [], ◌∷◌, ◌++◌, length, take, drop, sym, ap, subst, ◌∙◌, arith, append_assoc, append-nil, length-append}
use Rattle.std.proofs.lemmas.List.{take_all, drop_all, take-append-drop}
use Rattle.std.proofs.lemmas.Bool.{cases_lt}
use Rattle.model.specs.Block.{Block}
use Rattle.model.specs.Ledger.{Network}
use Rattle.model.specs.Applying.{LedgerState, last_state, IsStateOf}
use Rattle.ledgerdb.specs.Values.{Database, depth, state_back}
use Rattle.ledgerdb.specs.Chains.{without_last, AreStatesOf, IsDatabaseOf}
use Rattle.ledgerdb.proofs.Beside.{beside_length, beside_last, beside_take, beside_drop, beside_append}

-- of two lists after one another, without a given number of the last ones
take_past : (n : ℕ) (xs ys : List Block) → take (length xs + n) (xs ++ ys) ≡ xs ++ take n ys
take_past n [] ys = let e : 0 + n ≡ n = omega arith in ap (λ (m : ℕ). take m ys) e
take_past n (x ∷ xs) ys = let e : suc (length xs) + n ≡ suc (length xs + n) = omega arith in ap (λ (m : ℕ). take m (x ∷ (xs ++ ys))) e ∙ ap (λ (zs : List Block). x ∷ zs) (take_past n xs ys)

without_last_of : (back : ℕ) (older blocks : List Block) → back ≤ length blocks → without_last back (older ++ blocks) ≡ older ++ take (length blocks - back) blocks
without_last_of back older blocks within =
    let e : length (older ++ blocks) - back ≡ length older + (length blocks - back) = omega (arith, length-append older blocks) in
    ap (λ (m : ℕ). take m (older ++ blocks)) e ∙ take_past (length blocks - back) older blocks

-- a database with this anchor and these states, and none beside the chain
abbrev pub with_states : ℕ → LedgerState → List LedgerState → Database
with_states k anchor states = record { k = k; anchor = anchor; states = states; sides = [] }

module _ (network : Network) where
  -- what is kept beside the chain doesn't matter
  pub beside_any : (chain : List Block) (db : Database) (sides : List LedgerState) → IsDatabaseOf network chain db → IsDatabaseOf network chain (record db { sides = sides })
  beside_any chain db sides is = record { older = is.older; blocks = is.blocks; parts = is.parts; anchor = is.anchor; states = is.states }

  -- one state and no blocks after it
  pub new_database : (k : ℕ) (anchor : LedgerState) (chain : List Block) → IsStateOf network chain anchor → IsDatabaseOf network chain (with_states k anchor [])
  new_database k anchor chain is = record { older = chain; blocks = []; parts = sym (append-nil chain); anchor = is; states = tt }

  -- the state `back` blocks ago is that of the chain without its last `back` blocks
  pub back_state : (chain : List Block) (db : Database) (back : ℕ) → IsDatabaseOf network chain db → back ≤ depth db → IsStateOf network (without_last back chain) (state_back db back)
  back_state chain db back is within =
      let long : length db.states ≡ length is.blocks = beside_length network is.older is.blocks db.states is.states in
      let n = depth db - back in
      let same : without_last back chain ≡ is.older ++ take n is.blocks =
      ap (without_last back) is.parts ∙ (without_last_of back is.older is.blocks (omega arith) ∙ ap (λ (m : ℕ). is.older ++ take (m - back) is.blocks) (sym long)) in
      subst (λ (c : List Block). IsStateOf network c (state_back db back)) (sym same)
      (beside_last network is.older db.anchor (take n is.blocks) (take n db.states) is.anchor (beside_take network n is.older is.blocks db.states is.states))

  -- a database has at most as many blocks as its chain
  pub depth_within : (chain : List Block) (db : Database) → IsDatabaseOf network chain db → depth db ≤ length chain
  depth_within chain db is =
      let long : length db.states ≡ length is.blocks = beside_length network is.older is.blocks db.states is.states in
      let whole = ap length is.parts in
      omega (arith, long, whole, length-append is.older is.blocks)

  -- blocks are rolled back
  pub rolled_back : (chain : List Block) (db : Database) (back k : ℕ) → IsDatabaseOf network chain db → back ≤ depth db
      → IsDatabaseOf network (without_last back chain) (with_states k db.anchor (take (depth db - back) db.states))
  rolled_back chain db back k is within =
      let long : length db.states ≡ length is.blocks = beside_length network is.older is.blocks db.states is.states in
      let n = depth db - back in
      record {
        older = is.older;
        blocks = take n is.blocks;
        parts = ap (without_last back) is.parts ∙ (without_last_of back is.older is.blocks (omega arith) ∙ ap (λ (m : ℕ). is.older ++ take (m - back) is.blocks) (sym long));
        anchor = is.anchor;
        states = beside_take network n is.older is.blocks db.states is.states;
      }

  -- blocks come after it
  pub gone_on : (chain blocks : List Block) (db : Database) (k : ℕ) (states : List LedgerState) → IsDatabaseOf network chain db → AreStatesOf network chain blocks states
      → IsDatabaseOf network (chain ++ blocks) (with_states k db.anchor (db.states ++ states))
  gone_on chain blocks db k states is are = record {
    older = is.older;
    blocks = is.blocks ++ blocks;
    parts = ap (λ (c : List Block). c ++ blocks) is.parts ∙ append_assoc is.older is.blocks blocks;
    anchor = is.anchor;
    states = beside_append network is.older is.blocks blocks db.states states is.states (subst (λ (c : List Block). AreStatesOf network c blocks states) is.parts are);
  }

  -- the anchor moves on
  pub moved_on : (chain : List Block) (db : Database) (n k : ℕ) → IsDatabaseOf network chain db → IsDatabaseOf network chain (with_states k (last_state db.anchor (take n db.states)) (drop n db.states))
  moved_on chain db n k is = record {
    older = is.older ++ take n is.blocks;
    blocks = drop n is.blocks;
    parts = is.parts ∙ (ap (λ (bs : List Block). is.older ++ bs) (sym (take-append-drop n is.blocks)) ∙ sym (append_assoc is.older (take n is.blocks) (drop n is.blocks)));
    anchor = beside_last network is.older db.anchor (take n is.blocks) (take n db.states) is.anchor (beside_take network n is.older is.blocks db.states is.states);
    states = beside_drop network n is.older is.blocks db.states is.states;
  }

  -- what a commit makes of it: of the states that are left the first go where there are too many, and then the first of
  -- those that are put on
  pub committed : (chain blocks : List Block) (db : Database) (back k : ℕ) (newer : List LedgerState) → IsDatabaseOf network chain db → back ≤ depth db
      → AreStatesOf network (without_last back chain) blocks newer
      → (let kept = take (depth db - back) db.states in
      let old = length kept - (k - length newer) in
      let new = length newer - k in
      IsDatabaseOf network (without_last back chain ++ blocks) (with_states k (last_state (last_state db.anchor (take old kept)) (take new newer)) (drop old kept ++ drop new newer)))
  committed chain blocks db back k newer is within are =
      let root = without_last back chain in
      let kept = take (depth db - back) db.states in
      let old = length kept - (k - length newer) in
      let new = length newer - k in
      let anchor = last_state db.anchor (take old kept) in
      let rolled : IsDatabaseOf network root (with_states k db.anchor kept) = rolled_back chain db back k is within in
      let moved : IsDatabaseOf network root (with_states k anchor (drop old kept)) = moved_on root (with_states k db.anchor kept) old k rolled in
      elim (cases_lt k (length newer)) [
        | inl more ↦
            let none : drop old kept ≡ [] = drop_all old kept (omega arith) in
            let bare : IsDatabaseOf network root (with_states k anchor []) = subst (λ (ts : List LedgerState). IsDatabaseOf network root (with_states k anchor ts)) none moved in
            let on : IsDatabaseOf network (root ++ blocks) (with_states k anchor newer) = gone_on root blocks (with_states k anchor []) k newer bare are in
            subst (λ (ts : List LedgerState). IsDatabaseOf network (root ++ blocks) (with_states k (last_state anchor (take new newer)) (ts ++ drop new newer))) (sym none)
            (moved_on (root ++ blocks) (with_states k anchor newer) new k on)
        | inr fits ↦
            let none : 0 ≡ new = omega arith in
            subst (λ (n : ℕ). IsDatabaseOf network (root ++ blocks) (with_states k (last_state anchor (take n newer)) (drop old kept ++ drop n newer))) none
            (gone_on root blocks (with_states k anchor (drop old kept)) k newer moved are)
      ]

module _ (network : Network) where
  -- the newest state is that of the whole chain
  pub newest_state : (chain : List Block) (db : Database) → IsDatabaseOf network chain db → IsStateOf network chain (state_back db 0)
  newest_state chain db is =
      let whole : without_last 0 chain ≡ chain = take_all (length chain - 0) chain (omega arith) in
      subst (λ (c : List Block). IsStateOf network c (state_back db 0)) whole (back_state network chain db 0 is (omega arith))

  -- the same of what a database stands for
  pub newest_from : (chain : List Block) (db inside : Database) (s : LedgerState) → IsDatabaseOf network chain db → inside ≡ db → s ≡ last_state inside.anchor inside.states → IsStateOf network chain s
  newest_from chain db inside s is same from =
      let whole : take (depth db - 0) db.states ≡ db.states = take_all (depth db - 0) db.states (omega arith) in
      let e : state_back db 0 ≡ s = ap (last_state db.anchor) whole ∙ sym (from ∙ ap (λ (d : Database). last_state d.anchor d.states) same) in
      subst (IsStateOf network chain) e (newest_state chain db is)

  pub back_from : (chain : List Block) (db inside : Database) (back : ℕ) (s : LedgerState) → IsDatabaseOf network chain db → back ≤ depth db → inside ≡ db → s ≡ state_back inside back
      → IsStateOf network (without_last back chain) s
  back_from chain db inside back s is within same from =
      let e : state_back db back ≡ s = sym (from ∙ ap (λ (d : Database). state_back d back) same) in
      subst (IsStateOf network (without_last back chain)) e (back_state network chain db back is within)

  -- the same, by the steps of a commit
  pub commit_steps : (chain blocks : List Block) (db : Database) (back k room : ℕ) (newer kept left late states : List LedgerState) (moved last : LedgerState) → IsDatabaseOf network chain db → back ≤ depth db
      → AreStatesOf network (without_last back chain) blocks newer → kept ≡ take (depth db - back) db.states → room ≡ k - length newer
      → left ≡ drop (length kept - room) kept → moved ≡ last_state db.anchor (take (length kept - room) kept)
      → late ≡ drop (length newer - k) newer → last ≡ last_state moved (take (length newer - k) newer)
      → states ≡ left ++ late → IsDatabaseOf network (without_last back chain ++ blocks) (with_states k last states)
  commit_steps chain blocks db back k room newer kept left late states moved last is within are kept_is room_is left_is moved_is late_is last_is states_is =
      let first = take (depth db - back) db.states in
      let old = length first - (k - length newer) in
      let new = length newer - k in
      let last_same : last_state (last_state db.anchor (take old first)) (take new newer) ≡ last = cc in
      let states_same : drop old first ++ drop new newer ≡ states = cc in
      subst (λ (s : LedgerState). IsDatabaseOf network (without_last back chain ++ blocks) (with_states k s states)) last_same
      (subst (λ (ts : List LedgerState). IsDatabaseOf network (without_last back chain ++ blocks) (with_states k (last_state (last_state db.anchor (take old first)) (take new newer)) ts)) states_same
      (committed network chain blocks db back k newer is within are))
