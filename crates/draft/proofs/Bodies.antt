-- Of the parts of a draft there is one body, whoever signs and whatever scripts are supplied.
use Rattle.std.proofs.Common.{◌≡◌, ℕ, ℤ, ◌≤◌, List, [], ◌∷◌, ◌++◌, map, refl, sym, ap, subst, ◌∙◌, arith}
use Rattle.std.specs.List.{AllZip, AllByRecursion}
use Rattle.model.specs.Cbor.{Item, Unsigned, Bytes, Null, HasText, array_of, map_of, items_of, pairs_of, items_nesting, pairs_nesting, ItemsAreInRange, PairsAreInRange, ItemsHaveRisingKeys, PairsHaveRisingKeys, text_of}
use Rattle.model.specs.Transaction.{Transaction, Output, KeyWitness, IsOutput, SpellsTransaction, address_bytes, input_cmp, interval_of_transaction, item_of_transaction, item_of_body, item_of_witnesses, item_of_output, item_of_input, optional_entry, unless_empty, transaction_id_of}
use Rattle.model.specs.Value.{Value, Mint, IsValue, IsMint, item_of_value, item_of_assets, item_of_number}
use Rattle.value.specs.Parts.{AssetQuantity, IsValueOf, IsMintOf}
use Rattle.tx.proofs.ForCallers.{one_order}
use Rattle.tx.specs.Order.{inputs_total}
use Rattle.tx.specs.Parts.{Parts, IsTxOf}
use Rattle.draft.specs.Draft.{Draft, DraftOutput, Signer, HasPartsOf, IsBodyOf, IsIdOf, IsOutputOf, IsTxOfDraft, without_witnesses, body_alone, made_elsewhere, parts_with, signed_elsewhere, witness_by}

-- ---- what stands in an item that has a text

-- members of an array
pub record AreTexts (is : List Item) : Type 0 where
  pub in_range : ItemsAreInRange (items_of is)
  pub rising : ItemsHaveRisingKeys (items_of is)
  pub nests : items_nesting (items_of is) ≤ 64

of_array : (is : List Item) → HasText (array_of is) → AreTexts is
of_array is h = record { in_range = h.in_range.1; rising = h.rising; nests = let n = h.nests in omega (arith, n) }

first_has : (i : Item) (is : List Item) → AreTexts (i ∷ is) → HasText i
first_has i is h = record { in_range = h.in_range.0; rising = h.rising.0; nests = let n = h.nests in omega (arith, n) }

others_have : (i : Item) (is : List Item) → AreTexts (i ∷ is) → AreTexts is
others_have i is h = record { in_range = h.in_range.1; rising = h.rising.1; nests = let n = h.nests in omega (arith, n) }

-- entries of a map
pub record HaveTexts (es : List (Item × Item)) : Type 0 where
  pub in_range : PairsAreInRange (pairs_of es)
  pub rising : PairsHaveRisingKeys (pairs_of es)
  pub nests : pairs_nesting (pairs_of es) ≤ 64

of_map : (es : List (Item × Item)) → HasText (map_of es) → HaveTexts es
of_map es h = record { in_range = h.in_range.1; rising = h.rising; nests = let n = h.nests in omega (arith, n) }

value_has : (e : Item × Item) (es : List (Item × Item)) → HaveTexts (e ∷ es) → HasText e.1
value_has e es h = record { in_range = h.in_range.1; rising = h.rising.1; nests = let n = h.nests in omega (arith, n) }

rest_have : (e : Item × Item) (es : List (Item × Item)) → HaveTexts (e ∷ es) → HaveTexts es
rest_have e es h = record { in_range = h.in_range.2; rising = h.rising.3; nests = let n = h.nests in omega (arith, n) }

later_have : (es more : List (Item × Item)) → HaveTexts (es ++ more) → HaveTexts more
later_have [] more h = h
later_have (e ∷ es) more h = later_have es more (rest_have e (es ++ more) h)

-- ---- outputs and mint of a transaction that has a text

abbrev after_fee : Transaction → List (Item × Item)
after_fee t = optional_entry 3 t.end ++ (optional_entry 8 t.start ++ unless_empty 9 (item_of_assets item_of_number) t.mint)

abbrev after_inputs : Transaction → List (Item × Item)
after_inputs t = (Unsigned 1, array_of (map item_of_output t.outputs)) ∷ (Unsigned 2, Unsigned t.fee) ∷ after_fee t

body_has : (t : Transaction) → HasText (item_of_transaction t) → HaveTexts (after_inputs t)
body_has t h =
    let body = first_has (item_of_body t) (item_of_witnesses t ∷ Null ∷ []) (of_array (item_of_body t ∷ item_of_witnesses t ∷ Null ∷ []) h) in
    rest_have (Unsigned 0, array_of (map item_of_input t.inputs)) (after_inputs t) (of_map ((Unsigned 0, array_of (map item_of_input t.inputs)) ∷ after_inputs t) body)

outputs_have : (t : Transaction) → HaveTexts (after_inputs t) → AreTexts (map item_of_output t.outputs)
outputs_have t h = of_array (map item_of_output t.outputs) (value_has (Unsigned 1, array_of (map item_of_output t.outputs)) ((Unsigned 2, Unsigned t.fee) ∷ after_fee t) h)

assets_have : (mint : Mint) → HaveTexts (unless_empty 9 (item_of_assets item_of_number) mint) → HasText (item_of_assets item_of_number mint)
assets_have [] h = record { in_range = (omega arith, tt); rising = tt; nests = omega arith }
assets_have (p ∷ ps) h = value_has (Unsigned 9, item_of_assets item_of_number (p ∷ ps)) [] h

mint_has : (t : Transaction) → HaveTexts (after_inputs t) → HasText (item_of_assets item_of_number t.mint)
mint_has t h =
    let fee = rest_have (Unsigned 1, array_of (map item_of_output t.outputs)) ((Unsigned 2, Unsigned t.fee) ∷ after_fee t) h in
    let end = rest_have (Unsigned 2, Unsigned t.fee) (after_fee t) fee in
    let start = later_have (optional_entry 3 t.end) (optional_entry 8 t.start ++ unless_empty 9 (item_of_assets item_of_number) t.mint) end in
    assets_have t.mint (later_have (optional_entry 8 t.start) (unless_empty 9 (item_of_assets item_of_number) t.mint) start)

value_text : (o : Output) → HasText (item_of_output o) → HasText (item_of_value o.value)
value_text o h =
    let both = of_array (Bytes (address_bytes o.address) ∷ item_of_value o.value ∷ []) h in
    first_has (item_of_value o.value) [] (others_have (Bytes (address_bytes o.address)) (item_of_value o.value ∷ []) both)

-- ---- one body

-- the laws of values and mints, of which it follows
abbrev pub OneValue : Type 0
OneValue = (a b : Value) (coin : ℕ) (assets : List (AssetQuantity ℕ)) → IsValue a → HasText (item_of_value a) → IsValue b → HasText (item_of_value b) → IsValueOf a coin assets → IsValueOf b coin assets → a ≡ b

abbrev pub OneMint : Type 0
OneMint = (a b : Mint) (assets : List (AssetQuantity ℤ)) → IsMint a → HasText (item_of_assets item_of_number a) → IsMint b → HasText (item_of_assets item_of_number b) → IsMintOf a assets → IsMintOf b assets → a ≡ b

module _ (one_value : OneValue) where
  same_output : (d : DraftOutput) (o p : Output) → IsOutputOf d o → IsOutputOf d p → IsOutput o → IsOutput p → HasText (item_of_output o) → HasText (item_of_output p) → o ≡ p
  same_output d o p of too is also text other =
      let address = of.address ∙ sym too.address in
      let value = one_value o.value p.value d.coin d.assets is.value (value_text o text) also.value (value_text p other) of.value too.value in
      λ i. record { address = address i; value = value i }

  same_outputs : (ds : List DraftOutput) (os ps : List Output) → AllZip IsOutputOf ds os → AllZip IsOutputOf ds ps → AllByRecursion IsOutput os → AllByRecursion IsOutput ps → AreTexts (map item_of_output os) → AreTexts (map item_of_output ps) → os ≡ ps
  same_outputs [] [] [] of too is also texts others = refl
  same_outputs [] [] (p ∷ ps) of too is also texts others = absurd too
  same_outputs [] (o ∷ os) ps of too is also texts others = absurd of
  same_outputs (d ∷ ds) [] ps of too is also texts others = absurd of
  same_outputs (d ∷ ds) (o ∷ os) [] of too is also texts others = absurd too
  same_outputs (d ∷ ds) (o ∷ os) (p ∷ ps) of too is also texts others =
      let first = same_output d o p of.0 too.0 is.0 also.0 (first_has (item_of_output o) (map item_of_output os) texts) (first_has (item_of_output p) (map item_of_output ps) others) in
      let rest = same_outputs ds os ps of.1 too.1 is.1 also.1 (others_have (item_of_output o) (map item_of_output os) texts) (others_have (item_of_output p) (map item_of_output ps) others) in
      λ i. first i ∷ rest i

  pub same_bodies : OneMint → (d : Draft) (a b : Transaction) → HasPartsOf d a → HasPartsOf d b → body_alone a ≡ body_alone b
  same_bodies one_mint d a b x y =
      let text = body_has a x.spelled.text.has_text in
      let other = body_has b y.spelled.text.has_text in
      let inputs = one_order input_cmp inputs_total d.inputs a.inputs b.inputs x.spelled.shape.inputs_rise y.spelled.shape.inputs_rise x.is_tx.parts.inputs y.is_tx.parts.inputs in
      let outputs = same_outputs d.outputs a.outputs b.outputs x.is_tx.outputs y.is_tx.outputs x.spelled.shape.outputs y.spelled.shape.outputs (outputs_have a text) (outputs_have b other) in
      let fee = x.is_tx.parts.fee ∙ sym y.is_tx.parts.fee in
      let interval : interval_of_transaction a ≡ interval_of_transaction b = x.is_tx.parts.interval ∙ sym y.is_tx.parts.interval in
      let mint = one_mint a.mint b.mint d.mint x.spelled.shape.mint (mint_has a text) y.spelled.shape.mint (mint_has b other) x.is_tx.mint y.is_tx.mint in
      λ i. record { inputs = inputs i; outputs = outputs i; fee = fee i; end = (interval i).end; start = (interval i).start; mint = mint i; signatures = []; scripts = [] }

-- what is told of the body alone is told of both
pub same_id : (a b : Transaction) → body_alone a ≡ body_alone b → transaction_id_of a ≡ transaction_id_of b
unfolding transaction_id_of
same_id a b same = ap transaction_id_of same

abbrev pub OneBody : Type 0
OneBody = (d : Draft) (a b : Transaction) → HasPartsOf d a → HasPartsOf d b → body_alone a ≡ body_alone b

-- what is told of the transaction without witnesses is told of all
module _ (one_body : OneBody) (d : Draft) (tx : Transaction) (of : IsTxOfDraft (without_witnesses d) tx) (spelled : SpellsTransaction tx (text_of (item_of_transaction tx))) where
  has_parts : HasPartsOf d tx
  has_parts = record { signers = []; scripts = []; is_tx = of; spelled = spelled }

  pub body_told : (text : List ℕ) → text ≡ text_of (item_of_body tx) → IsBodyOf d text
  body_told text is = record { one = (tx, has_parts); all = λ other parts. ap (λ (t : Transaction). text_of (item_of_body t)) (one_body d other tx parts has_parts) ∙ sym is }

  pub id_told : (id : List ℕ) → id ≡ transaction_id_of tx → IsIdOf d id
  id_told id is = record { one = (tx, has_parts); all = λ other parts. same_id other tx (one_body d other tx parts has_parts) ∙ sym is }

-- ---- signatures that were made elsewhere

-- the text, as it is written
pub spells_own : (t : Transaction) (text : List ℕ) → SpellsTransaction t text → SpellsTransaction t (text_of (item_of_transaction t))
spells_own t text s = record { shape = s.shape; text = record { has_text = s.text.has_text; spelled = refl } }

-- what signs elsewhere makes the same signatures, whatever is signed then
same_signatures : (id other : List ℕ) (signers : List Signer) → map (witness_by other) (map (λ s. made_elsewhere s.key (s.signs id)) signers) ≡ map (witness_by id) signers
same_signatures id other [] = refl
same_signatures id other (s ∷ ss) = ap (λ (ws : List KeyWitness). witness_by id s ∷ ws) (same_signatures id other ss)

abbrev pub OneTx : Type 0
OneTx = (a b : Transaction) (parts : Parts) (text other : List ℕ) → SpellsTransaction a text → SpellsTransaction b other → IsTxOf a parts → IsTxOf b parts → a ≡ b

pub one_text : OneBody → OneTx → (d : Draft) (a b : Transaction) (text other : List ℕ) → IsTxOfDraft d a → SpellsTransaction a text → IsTxOfDraft (signed_elsewhere (transaction_id_of a) d) b → SpellsTransaction b other → text ≡ other
one_text one_body one_tx d a b text other of spells too also =
    let id = transaction_id_of a in
    let signers = map (λ (s : Signer). made_elsewhere s.key (s.signs id)) d.signers in
    let same : body_alone a ≡ body_alone b = one_body d a b (record { signers = d.signers; scripts = d.scripts; is_tx = of; spelled = spells_own a text spells }) (record { signers = signers; scripts = d.scripts; is_tx = too; spelled = spells_own b other also }) in
    let parts : parts_with (signed_elsewhere id d) b.outputs b.mint (transaction_id_of b) ≡ parts_with d a.outputs a.mint id =
    λ i. record (parts_with d a.outputs a.mint id) { outputs = (sym same i).outputs; mint = (sym same i).mint; signatures = same_signatures id (transaction_id_of b) d.signers i } in
    let whole = one_tx a b (parts_with d a.outputs a.mint id) text other spells also of.parts (subst (λ (p : Parts). IsTxOf b p) parts too.parts) in
    spells.text.spelled ∙ ap (λ (t : Transaction). text_of (item_of_transaction t)) whole ∙ sym also.text.spelled
