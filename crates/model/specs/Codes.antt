-- THIS FILE MAY BE SKIPPED: it defines nothing that the node means. A type of the code can stand for a value only if
-- that value has a code, a one to one map into trees of numbers; here are these codes, each with its proof that it is
-- one to one. Those of recursive data are read back from the tree; those of records are the codes of their fields.
use Rattle.std.specs.Prelude.{◌≡◌, ◌⊎◌, ℕ, zero, suc, ◌-◌, List, [], ◌∷◌, get_or, Option}
use mathlib.Core.Path.{refl, sym, ap, ◌∙◌}
use mathlib.Core.Logic.{inl, inr}
use base.Stored.{Gv, gnil, gnum, gcons, num}
use Rattle.std.specs.FinMap as finite
use Rattle.std.specs.Coded.{Coded, coded_ℕ, coded_ℤ, coded_list, coded×, coded⊎, coded_option, code_by}
use Rattle.model.specs.Cbor.{Item, Items, Pairs, Unsigned, Negative, Bytes, Array, Map, Null, NoItems, NextItem}
use Rattle.model.specs.Cbor.{NoPairs, NextPair}
use Rattle.model.specs.Value.{Token, Policy, Value, Mint}
use Rattle.model.specs.Script.{Script, Scripts, RequireSignature, RequireAllOf, RequireAnyOf, RequireMOf}
use Rattle.model.specs.Script.{RequireTimeStart, RequireTimeExpire, NoScripts, NextScript}
use Rattle.model.specs.Transaction.{Credential, KeyHash, ScriptHash, Address, Input, Output, KeyWitness, Transaction}
use Rattle.model.specs.Block.{Header, Block}
use Rattle.model.specs.Utxo.{Utxo}
use Rattle.model.specs.Rules.{SecondEra, Params}
use Rattle.model.specs.Genesis.{Grant, Genesis}
use Rattle.model.specs.Chain.{Tip}
use Rattle.model.specs.Applying.{LedgerState}
use Rattle.model.specs.Follower.{Follower, Followers}
use Rattle.model.specs.History.{State, Refusal, TooLarge, Malformed, BodyHashMismatch, TooOld, Known, Clash}
use Rattle.model.specs.History.{VolatileFull, refusal_number}

-- ---- bytes

-- the tree of a list of bytes
abbrev pub tree_of_bytes : List ℕ → Gv
tree_of_bytes [] = gnil
tree_of_bytes (b ∷ bs) = gcons (gnum b) (tree_of_bytes bs)

-- the list of a tree
abbrev pub bytes_from : Gv → List ℕ
bytes_from gnil = []
bytes_from (gnum n) = []
bytes_from (gcons b bs) = num b ∷ bytes_from bs

-- a list comes back from its tree
pub bytes_back : (bs : List ℕ) → bytes_from (tree_of_bytes bs) ≡ bs
bytes_back [] = refl
bytes_back (b ∷ bs) = ap (λ (cs : List ℕ). b ∷ cs) (bytes_back bs)

-- lists of bytes
abbrev pub coded_bytes : Coded (List ℕ)
coded_bytes = coded_list coded_ℕ

-- ---- items

-- the tree of an item: its kind, 0 to 4, and what the kind has; an empty tree is null
abbrev mutual
  pub tree_of_item : Item → Gv
  tree_of_item (Unsigned n) = gcons (gnum 0) (gnum n)
  tree_of_item (Negative n) = gcons (gnum 1) (gnum n)
  tree_of_item (Bytes bs) = gcons (gnum 2) (tree_of_bytes bs)
  tree_of_item (Array is) = gcons (gnum 3) (tree_of_items is)
  tree_of_item (Map ps) = gcons (gnum 4) (tree_of_pairs ps)
  tree_of_item Null = gnil

  pub tree_of_items : Items → Gv
  tree_of_items NoItems = gnil
  tree_of_items (NextItem i is) = gcons (tree_of_item i) (tree_of_items is)

  pub tree_of_pairs : Pairs → Gv
  tree_of_pairs NoPairs = gnil
  tree_of_pairs (NextPair k v ps) = gcons (gcons (tree_of_item k) (tree_of_item v)) (tree_of_pairs ps)

-- the item of a kind, of what the tree beside it may be
abbrev pub item_of_kind : ℕ → ℕ → List ℕ → Items → Pairs → Item
item_of_kind zero n bs is ps = Unsigned n
item_of_kind (suc zero) n bs is ps = Negative n
item_of_kind (suc (suc zero)) n bs is ps = Bytes bs
item_of_kind (suc (suc (suc zero))) n bs is ps = Array is
item_of_kind (suc (suc (suc (suc k)))) n bs is ps = Map ps

abbrev mutual
  -- the item, the members and the entries of a tree
  pub item_from : Gv → Item
  item_from gnil = Null
  item_from (gnum n) = Null
  item_from (gcons kind rest) = item_of_kind (num kind) (num rest) (bytes_from rest) (items_from rest) (pairs_from rest)

  pub items_from : Gv → Items
  items_from gnil = NoItems
  items_from (gnum n) = NoItems
  items_from (gcons first rest) = NextItem (item_from first) (items_from rest)

  pub pairs_from : Gv → Pairs
  pairs_from gnil = NoPairs
  pairs_from (gnum n) = NoPairs
  pairs_from (gcons gnil rest) = NoPairs
  pairs_from (gcons (gnum n) rest) = NoPairs
  pairs_from (gcons (gcons key value) rest) = NextPair (item_from key) (item_from value) (pairs_from rest)

mutual
  -- each comes back from its tree
  pub item_back : (i : Item) → item_from (tree_of_item i) ≡ i
  item_back (Unsigned n) = refl
  item_back (Negative n) = refl
  item_back (Bytes bs) = ap Bytes (bytes_back bs)
  item_back (Array is) = ap Array (items_back is)
  item_back (Map ps) = ap Map (pairs_back ps)
  item_back Null = refl

  pub items_back : (is : Items) → items_from (tree_of_items is) ≡ is
  items_back NoItems = refl
  items_back (NextItem i is) = λ d. NextItem (item_back i d) (items_back is d)

  pub pairs_back : (ps : Pairs) → pairs_from (tree_of_pairs ps) ≡ ps
  pairs_back NoPairs = refl
  pairs_back (NextPair k v ps) = λ d. NextPair (item_back k d) (item_back v d) (pairs_back ps d)

-- items, members of arrays and entries of maps
abbrev pub coded_item : Coded Item
coded_item = record { code = tree_of_item; inj = λ a b e. sym (item_back a) ∙ ap item_from e ∙ item_back b }

abbrev pub coded_items : Coded Items
coded_items = record { code = tree_of_items; inj = λ a b e. sym (items_back a) ∙ ap items_from e ∙ items_back b }

abbrev pub coded_pairs : Coded Pairs
coded_pairs = record { code = tree_of_pairs; inj = λ a b e. sym (pairs_back a) ∙ ap pairs_from e ∙ pairs_back b }

-- ---- scripts

-- the tree of a script: its kind with its number or hash, and beside them its scripts
abbrev mutual
  pub tree_of_script : Script → Gv
  tree_of_script (RequireSignature hash) = gcons (gcons (gnum 0) (tree_of_bytes hash)) gnil
  tree_of_script (RequireAllOf ss) = gcons (gcons (gnum 1) gnil) (tree_of_scripts ss)
  tree_of_script (RequireAnyOf ss) = gcons (gcons (gnum 2) gnil) (tree_of_scripts ss)
  tree_of_script (RequireMOf n ss) = gcons (gcons (gnum 3) (gnum n)) (tree_of_scripts ss)
  tree_of_script (RequireTimeStart slot) = gcons (gcons (gnum 4) (gnum slot)) gnil
  tree_of_script (RequireTimeExpire slot) = gcons (gcons (gnum 5) (gnum slot)) gnil

  pub tree_of_scripts : Scripts → Gv
  tree_of_scripts NoScripts = gnil
  tree_of_scripts (NextScript s ss) = gcons (tree_of_script s) (tree_of_scripts ss)

-- the script of a kind, of what the tree beside it may be
abbrev pub script_of_kind : ℕ → ℕ → List ℕ → Scripts → Script
script_of_kind zero n hash ss = RequireSignature hash
script_of_kind (suc zero) n hash ss = RequireAllOf ss
script_of_kind (suc (suc zero)) n hash ss = RequireAnyOf ss
script_of_kind (suc (suc (suc zero))) n hash ss = RequireMOf n ss
script_of_kind (suc (suc (suc (suc zero)))) n hash ss = RequireTimeStart n
script_of_kind (suc (suc (suc (suc (suc k))))) n hash ss = RequireTimeExpire n

abbrev mutual
  -- the script and the scripts of a tree
  pub script_from : Gv → Script
  script_from gnil = RequireTimeStart 0
  script_from (gnum n) = RequireTimeStart 0
  script_from (gcons gnil scripts) = RequireTimeStart 0
  script_from (gcons (gnum n) scripts) = RequireTimeStart 0
  script_from (gcons (gcons kind rest) scripts) = script_of_kind (num kind) (num rest) (bytes_from rest)
      (scripts_from scripts)

  pub scripts_from : Gv → Scripts
  scripts_from gnil = NoScripts
  scripts_from (gnum n) = NoScripts
  scripts_from (gcons first rest) = NextScript (script_from first) (scripts_from rest)

mutual
  -- each comes back from its tree
  pub script_back : (s : Script) → script_from (tree_of_script s) ≡ s
  script_back (RequireSignature hash) = ap RequireSignature (bytes_back hash)
  script_back (RequireAllOf ss) = ap RequireAllOf (scripts_back ss)
  script_back (RequireAnyOf ss) = ap RequireAnyOf (scripts_back ss)
  script_back (RequireMOf n ss) = ap (RequireMOf n) (scripts_back ss)
  script_back (RequireTimeStart slot) = refl
  script_back (RequireTimeExpire slot) = refl

  pub scripts_back : (ss : Scripts) → scripts_from (tree_of_scripts ss) ≡ ss
  scripts_back NoScripts = refl
  scripts_back (NextScript s ss) = λ d. NextScript (script_back s d) (scripts_back ss d)

-- scripts, and those inside another
abbrev pub coded_script : Coded Script
coded_script = record { code = tree_of_script; inj = λ a b e. sym (script_back a) ∙ ap script_from e ∙ script_back b }

abbrev pub coded_scripts : Coded Scripts
coded_scripts = record {
  code = tree_of_scripts;
  inj = λ a b e. sym
      (scripts_back a) ∙ ap scripts_from e ∙ scripts_back b;
}

-- ---- values

-- an asset with its quantity
abbrev pub coded_token : {Q : Type 0} → Coded Q → Coded (Token Q)
coded_token {Q} quantity =
    code_by (List ℕ × Q) (coded× coded_bytes quantity) (λ t. (t.name, t.quantity))
    (λ p. record { name = p.0; quantity = p.1 }) (λ _. refl)

-- the assets of one policy
abbrev pub coded_policy : {Q : Type 0} → Coded Q → Coded (Policy Q)
coded_policy {Q} quantity =
    code_by (List ℕ × List (Token Q)) (coded× coded_bytes (coded_list (coded_token quantity))) (λ p. (p.id, p.tokens))
    (λ p. record { id = p.0; tokens = p.1 }) (λ _. refl)

-- what an output holds
abbrev pub coded_value : Coded Value
coded_value =
    code_by (ℕ × List (Policy ℕ)) (coded× coded_ℕ (coded_list (coded_policy coded_ℕ))) (λ v. (v.coin, v.assets))
    (λ p. record { coin = p.0; assets = p.1 }) (λ _. refl)

-- what a transaction makes or takes away
abbrev pub coded_mint : Coded Mint
coded_mint = coded_list (coded_policy coded_ℤ)

-- ---- transactions

-- a credential as one of two hashes
abbrev pub hash_of_credential : Credential → List ℕ ⊎ List ℕ
hash_of_credential (KeyHash hash) = inl hash
hash_of_credential (ScriptHash hash) = inr hash

-- and back
abbrev pub credential_of_hash : List ℕ ⊎ List ℕ → Credential
credential_of_hash (inl hash) = KeyHash hash
credential_of_hash (inr hash) = ScriptHash hash

-- a credential comes back
pub credential_back : (c : Credential) → credential_of_hash (hash_of_credential c) ≡ c
credential_back (KeyHash hash) = refl
credential_back (ScriptHash hash) = refl

-- what unlocks an output
abbrev pub coded_credential : Coded Credential
coded_credential = code_by (List ℕ
    ⊎ List ℕ) (coded⊎ coded_bytes coded_bytes) hash_of_credential credential_of_hash credential_back

-- an address
abbrev pub coded_address : Coded Address
coded_address =
    code_by (ℕ × Credential) (coded× coded_ℕ coded_credential) (λ a. (a.network, a.payment))
    (λ p. record { network = p.0; payment = p.1 }) (λ _. refl)

-- an output of an earlier transaction
abbrev pub coded_input : Coded Input
coded_input =
    code_by (List ℕ × ℕ) (coded× coded_bytes coded_ℕ) (λ i. (i.transaction, i.index))
    (λ p. record { transaction = p.0; index = p.1 }) (λ _. refl)

-- an output
abbrev pub coded_output : Coded Output
coded_output =
    code_by (Address × Value) (coded× coded_address coded_value) (λ o. (o.address, o.value))
    (λ p. record { address = p.0; value = p.1 }) (λ _. refl)

-- a key and its signature
abbrev pub coded_key_witness : Coded KeyWitness
coded_key_witness =
    code_by (List ℕ × List ℕ) (coded× coded_bytes coded_bytes) (λ w. (w.key, w.signature))
    (λ p. record { key = p.0; signature = p.1 }) (λ _. refl)

-- the fields of a transaction, as pairs
abbrev pub TransactionFields : Type 0
TransactionFields = List Input × (List Output × (ℕ × (Option ℕ
    × (Option ℕ × (Mint × (List KeyWitness × List Script))))))

-- those fields
abbrev pub coded_transaction_fields : Coded TransactionFields
coded_transaction_fields =
    coded× (coded_list coded_input) (coded× (coded_list coded_output)
    (coded× coded_ℕ (coded× (coded_option coded_ℕ) (coded× (coded_option coded_ℕ)
    (coded× coded_mint (coded× (coded_list coded_key_witness) (coded_list coded_script)))))))

-- a transaction
abbrev pub coded_transaction : Coded Transaction
coded_transaction =
    code_by TransactionFields coded_transaction_fields
    (λ t. (t.inputs, (t.outputs, (t.fee, (t.end, (t.start, (t.mint, (t.signatures, t.scripts))))))))
    (λ p. record { inputs = p.0; outputs = p.1.0; fee = p.1.1.0; end = p.1.1.1.0; start = p.1.1.1.1.0; mint = p.1.1.1.1.1.0; signatures = p.1.1.1.1.1.1.0; scripts = p.1.1.1.1.1.1.1 })
    (λ _. refl)

-- ---- blocks

-- a header
abbrev pub coded_header : Coded Header
coded_header =
    code_by (ℕ × (ℕ × (Option (List ℕ)
    × List ℕ))) (coded× coded_ℕ (coded× coded_ℕ (coded× (coded_option coded_bytes) coded_bytes)))
    (λ h. (h.number, (h.slot, (h.previous, h.body_hash))))
    (λ p. record { number = p.0; slot = p.1.0; previous = p.1.1.0; body_hash = p.1.1.1 })
    (λ _. refl)

-- a block
abbrev pub coded_block : Coded Block
coded_block =
    code_by (Header × List Transaction) (coded× coded_header (coded_list coded_transaction))
    (λ b. (b.header, b.transactions)) (λ p. record { header = p.0; transactions = p.1 }) (λ _. refl)

-- ---- the genesis

-- a second era
abbrev pub coded_second_era : Coded SecondEra
coded_second_era =
    code_by (ℕ × ℕ) (coded× coded_ℕ coded_ℕ) (λ e. (e.first_slot, e.per_asset))
    (λ p. record { first_slot = p.0; per_asset = p.1 }) (λ _. refl)

-- the fields of what is asked of transactions, as pairs
abbrev pub ParamsFields : Type 0
ParamsFields = ℕ × (ℕ × (ℕ × (ℕ × (ℕ × (ℕ × Option SecondEra)))))

-- what is asked of transactions
abbrev pub coded_params : Coded Params
coded_params =
    code_by ParamsFields
    (coded× coded_ℕ (coded× coded_ℕ (coded× coded_ℕ (coded× coded_ℕ (coded× coded_ℕ (coded× coded_ℕ
    (coded_option coded_second_era)))))))
    (λ p. (p.network, (p.min_fee_a, (p.min_fee_b, (p.min_utxo, (p.max_tx_size, (p.max_body_size, p.second_era)))))))
    (λ p. record {
      network = p.0;
      min_fee_a = p.1.0;
      min_fee_b = p.1.1.0;
      min_utxo = p.1.1.1.0;
      max_tx_size = p.1.1.1.1.0;
      max_body_size = p.1.1.1.1.1.0;
      second_era = p.1.1.1.1.1.1;
    })
    (λ _. refl)

-- what stands at an address from the start
abbrev pub coded_grant : Coded Grant
coded_grant =
    code_by (Address × ℕ) (coded× coded_address coded_ℕ) (λ g. (g.address, g.coin))
    (λ p. record { address = p.0; coin = p.1 }) (λ _. refl)

-- all that a network agrees on before its first block
abbrev pub coded_genesis : Coded Genesis
coded_genesis =
    code_by (Params × (ℕ × (ℕ × (Option ℕ × (ℕ × List Grant)))))
    (coded× coded_params (coded× coded_ℕ (coded× coded_ℕ (coded× (coded_option coded_ℕ) (coded× coded_ℕ
    (coded_list coded_grant))))))
    (λ g. (g.params, (g.k, (g.max_volatile, (g.max_volatile_bytes, (g.max_mempool, g.grants))))))
    (λ p. record {
      params = p.0;
      k = p.1.0;
      max_volatile = p.1.1.0;
      max_volatile_bytes = p.1.1.1.0;
      max_mempool = p.1.1.1.1.0;
      grants = p.1.1.1.1.1;
    })
    (λ _. refl)

-- ---- chains and histories

-- where a chain ends
abbrev pub coded_tip : Coded Tip
coded_tip =
    code_by (ℕ × (ℕ × Option (List ℕ))) (coded× coded_ℕ (coded× coded_ℕ (coded_option coded_bytes)))
    (λ t. (t.number, (t.slot, t.hash)))
    (λ p. record { number = p.0; slot = p.1.0; hash = p.1.1 })
    (λ _. refl)

-- what blocks are applied to
abbrev pub coded_ledger_state : Coded LedgerState
coded_ledger_state =
    code_by (Params × (Utxo × (ℕ × Tip)))
    (coded× coded_params (coded× (finite.code coded_input coded_output) (coded× coded_ℕ coded_tip)))
    (λ s. (s.params, (s.ledger.utxo, (s.ledger.fees, s.tip))))
    (λ p. record { params = p.0; ledger = record { utxo = p.1.0; fees = p.1.1.0 }; tip = p.1.1.1 })
    (λ _. refl)

-- a follower's two chains
abbrev pub coded_follower : Coded Follower
coded_follower =
    code_by (List Block × List Block) (coded× (coded_list coded_block) (coded_list coded_block))
    (λ f. (f.told, f.agreed)) (λ p. record { told = p.0; agreed = p.1 }) (λ _. refl)

-- what is kept, the selected chain, the mempool, and the followers
abbrev pub coded_state : Coded State
coded_state =
    code_by (List Block × (List Block × (List Transaction × Followers)))
    (coded× (coded_list coded_block) (coded× (coded_list coded_block) (coded× (coded_list coded_transaction)
    (coded_list (coded_option coded_follower)))))
    (λ s. (s.kept, (s.chain, (s.mempool, s.followers))))
    (λ p. record { kept = p.0; chain = p.1.0; mempool = p.1.1.0; followers = p.1.1.1 }) (λ _. refl)

-- all refusals, by their numbers
abbrev pub refusals : List Refusal
refusals = TooLarge ∷ Malformed ∷ BodyHashMismatch ∷ TooOld ∷ Known ∷ Clash ∷ VolatileFull ∷ []

-- the refusal of a number
abbrev pub refusal_at : ℕ → Refusal
refusal_at n = get_or refusals (n - 1) TooLarge

-- a refusal comes back from its number
pub refusal_back : (r : Refusal) → refusal_at (refusal_number r) ≡ r
refusal_back TooLarge = refl
refusal_back Malformed = refl
refusal_back BodyHashMismatch = refl
refusal_back TooOld = refl
refusal_back Known = refl
refusal_back Clash = refl
refusal_back VolatileFull = refl

-- why bytes are refused
abbrev pub coded_refusal : Coded Refusal
coded_refusal = code_by ℕ coded_ℕ refusal_number refusal_at refusal_back
