-- Each transaction has one text, and no transaction's text begins another's.
use Rattle.std.proofs.Common.{◌≡◌, ℕ, suc, ◌+◌, ◌<◌, ◌≢◌, List, [], ◌∷◌, ◌++◌, map, Option, Some, None, ap, arith}
use Rattle.std.specs.List.{AllByRecursion}
use Rattle.model.specs.Cbor.{Item, Unsigned, Bytes, Null, NextPair, Pairs, items_of, pairs_of, array_of}
use Rattle.model.specs.Value.{Mint, item_of_value, item_of_assets, item_of_number}
use Rattle.model.specs.Script.{Script, IsScript, item_of_script}
use Rattle.model.specs.Transaction.{Credential, KeyHash, ScriptHash, Address, Input, Output, KeyWitness, Transaction, payment_bytes, address_bytes, item_of_input, item_of_output, item_of_witness, optional_entry, unless_empty, item_of_body, item_of_witnesses, item_of_transaction, IsAddress, IsInput, IsOutput, IsKeyWitness, IsTransaction, SpellsTransaction}
use Rattle.model.proofs.ItemTexts.{one_item}
use Rattle.model.proofs.Members.{unsigned_is, bytes_is, array_is, map_is, next_pair_is, two_are, same_members, first_key, same_optional, same_unless_empty, same_last}
use Rattle.model.proofs.ScriptTexts.{same_script, spellings_apart}
use Rattle.model.proofs.ValueItems.{same_number, same_assets, same_value}

-- ---- the parts of a transaction

first_is : (a b : ℕ) (s t : List ℕ) → a ∷ s ≡ b ∷ t → (a ≡ b) × (s ≡ t)
first_is a b s t e = (cc, cc)

-- the first byte says the kind and the network, since networks are below 16
same_payment : (m n : ℕ) (a b : Credential) → m < 16 → n < 16 → payment_bytes m a ≡ payment_bytes n b → (m ≡ n) × (a ≡ b)
same_payment m n (KeyHash h) (KeyHash k) lm ln e =
    let both = first_is (96 + m) (96 + n) h k e in
    (omega (arith, both.0), ap KeyHash both.1)
same_payment m n (ScriptHash h) (ScriptHash k) lm ln e =
    let both = first_is (112 + m) (112 + n) h k e in
    (omega (arith, both.0), ap ScriptHash both.1)
same_payment m n (KeyHash h) (ScriptHash k) lm ln e = absurd (omega (arith, (first_is (96 + m) (112 + n) h k e).0))
same_payment m n (ScriptHash h) (KeyHash k) lm ln e = absurd (omega (arith, (first_is (112 + m) (96 + n) h k e).0))

-- addresses with the same bytes are one address
pub same_address : (a b : Address) → IsAddress a → IsAddress b → address_bytes a ≡ address_bytes b → a ≡ b
same_address a b p q e =
    let both = same_payment a.network b.network a.payment b.payment p.network q.network e in
    λ i. record { network = both.0 i; payment = both.1 i }

-- inputs with one item are one input
pub same_input : (a b : Input) → IsInput a → IsInput b → item_of_input a ≡ item_of_input b → a ≡ b
same_input a b p q e =
    let both = two_are (Bytes a.transaction) (Unsigned a.index) (Bytes b.transaction) (Unsigned b.index) e in
    λ i. record { transaction = bytes_is a.transaction b.transaction both.0 i; index = unsigned_is a.index b.index both.1 i }

-- outputs with one item are one output
pub same_output : (a b : Output) → IsOutput a → IsOutput b → item_of_output a ≡ item_of_output b → a ≡ b
same_output a b p q e =
    let both = two_are (Bytes (address_bytes a.address)) (item_of_value a.value) (Bytes (address_bytes b.address)) (item_of_value b.value) e in
    λ i. record { address = same_address a.address b.address p.address q.address (bytes_is (address_bytes a.address) (address_bytes b.address) both.0) i; value = same_value a.value b.value both.1 i }

-- witnesses with one item are one witness
pub same_witness : (a b : KeyWitness) → IsKeyWitness a → IsKeyWitness b → item_of_witness a ≡ item_of_witness b → a ≡ b
same_witness a b p q e =
    let both = two_are (Bytes a.key) (Bytes a.signature) (Bytes b.key) (Bytes b.signature) e in
    λ i. record { key = bytes_is a.key b.key both.0 i; signature = bytes_is a.signature b.signature both.1 i }

-- ---- the body and the witnesses

-- the first keys of what may come after an entry are others
mint_after_start : {X : Type 0} (item : List X → Item) (xs : List X) → first_key (pairs_of (unless_empty 9 item xs)) ≢ suc 8
mint_after_start item [] = omega arith
mint_after_start item (x ∷ xs) = omega arith

start_after_end : {X : Type 0} (item : List X → Item) (start : Option ℕ) (xs : List X) → first_key (pairs_of (optional_entry 8 start ++ unless_empty 9 item xs)) ≢ suc 3
start_after_end item None [] = omega arith
start_after_end item None (x ∷ xs) = omega arith
start_after_end item (Some n) xs = omega arith

scripts_after_signatures : {X : Type 0} (item : List X → Item) (xs : List X) → first_key (pairs_of (unless_empty 1 item xs)) ≢ suc 0
scripts_after_signatures item [] = omega arith
scripts_after_signatures item (x ∷ xs) = omega arith

-- the entries of a body that may be left out
abbrev mint_entry : Mint → List (Item × Item)
mint_entry mint = unless_empty 9 (item_of_assets item_of_number) mint

-- the entries after the fee
abbrev late_entries : Option ℕ → Option ℕ → Mint → List (Item × Item)
late_entries end start mint = optional_entry 3 end ++ (optional_entry 8 start ++ mint_entry mint)

-- what those entries say
record SameLate (e f s r : Option ℕ) (m n : Mint) : Type 0 where
  end : e ≡ f
  start : s ≡ r
  mint : m ≡ n

same_late : (e f s r : Option ℕ) (m n : Mint) → pairs_of (late_entries e s m) ≡ pairs_of (late_entries f r n) → SameLate e f s r m n
same_late e f s r m n p =
    let g = item_of_assets item_of_number in
    let ends = same_optional 3 e f (optional_entry 8 s ++ mint_entry m) (optional_entry 8 r ++ mint_entry n) (start_after_end g s m) (start_after_end g r n) p in
    let starts = same_optional 8 s r (mint_entry m) (mint_entry n) (mint_after_start g m) (mint_after_start g n) ends.1 in
    record { end = ends.0; start = starts.0; mint = same_last 9 g m n (same_assets item_of_number same_number m n) starts.1 }

-- what a body says
record SameBody (a b : Transaction) : Type 0 where
  inputs : a.inputs ≡ b.inputs
  outputs : a.outputs ≡ b.outputs
  fee : a.fee ≡ b.fee
  late : SameLate a.end b.end a.start b.start a.mint b.mint

same_body : (a b : Transaction) → IsTransaction a → IsTransaction b → item_of_body a ≡ item_of_body b → SameBody a b
same_body a b p q e =
    let late : Transaction → Pairs = λ t. pairs_of (late_entries t.end t.start t.mint) in
    let inputs : Transaction → Item = λ t. array_of (map item_of_input t.inputs) in
    let outputs : Transaction → Item = λ t. array_of (map item_of_output t.outputs) in
    let after_outputs : Transaction → Pairs = λ t. NextPair (Unsigned 2) (Unsigned t.fee) (late t) in
    let after_inputs : Transaction → Pairs = λ t. NextPair (Unsigned 1) (outputs t) (after_outputs t) in
    let whole = map_is (NextPair (Unsigned 0) (inputs a) (after_inputs a)) (NextPair (Unsigned 0) (inputs b) (after_inputs b)) e in
    let first = next_pair_is (Unsigned 0) (Unsigned 0) (inputs a) (inputs b) (after_inputs a) (after_inputs b) whole in
    let second = next_pair_is (Unsigned 1) (Unsigned 1) (outputs a) (outputs b) (after_outputs a) (after_outputs b) first.rest in
    let third = next_pair_is (Unsigned 2) (Unsigned 2) (Unsigned a.fee) (Unsigned b.fee) (late a) (late b) second.rest in
    record {
      inputs = same_members IsInput item_of_input same_input a.inputs b.inputs p.inputs q.inputs (array_is (items_of (map item_of_input a.inputs)) (items_of (map item_of_input b.inputs)) first.value);
      outputs = same_members IsOutput item_of_output same_output a.outputs b.outputs p.outputs q.outputs (array_is (items_of (map item_of_output a.outputs)) (items_of (map item_of_output b.outputs)) second.value);
      fee = unsigned_is a.fee b.fee third.value;
      late = same_late a.end b.end a.start b.start a.mint b.mint third.rest;
    }

-- the items of the witness set
abbrev item_of_signatures : List KeyWitness → Item
item_of_signatures witnesses = array_of (map item_of_witness witnesses)

abbrev item_of_script_list : List Script → Item
item_of_script_list scripts = array_of (map item_of_script scripts)

same_signatures : (xs ys : List KeyWitness) → AllByRecursion IsKeyWitness xs → AllByRecursion IsKeyWitness ys → item_of_signatures xs ≡ item_of_signatures ys → xs ≡ ys
same_signatures xs ys p q e =
    same_members IsKeyWitness item_of_witness same_witness xs ys p q (array_is (items_of (map item_of_witness xs)) (items_of (map item_of_witness ys)) e)

same_script_list : (xs ys : List Script) → AllByRecursion IsScript xs → AllByRecursion IsScript ys → item_of_script_list xs ≡ item_of_script_list ys → xs ≡ ys
same_script_list xs ys p q e =
    same_members IsScript item_of_script (λ a b _ _. same_script a b) xs ys p q (array_is (items_of (map item_of_script xs)) (items_of (map item_of_script ys)) e)

same_witnesses : (a b : Transaction) → IsTransaction a → IsTransaction b → item_of_witnesses a ≡ item_of_witnesses b → (a.signatures ≡ b.signatures) × (a.scripts ≡ b.scripts)
same_witnesses a b p q e =
    let scripts : Transaction → List (Item × Item) = λ t. unless_empty 1 item_of_script_list t.scripts in
    let all : Transaction → List (Item × Item) = λ t. unless_empty 0 item_of_signatures t.signatures ++ scripts t in
    let whole = map_is (pairs_of (all a)) (pairs_of (all b)) e in
    let first = same_unless_empty 0 item_of_signatures a.signatures b.signatures (same_signatures a.signatures b.signatures p.signatures q.signatures) (scripts a) (scripts b) (scripts_after_signatures item_of_script_list a.scripts) (scripts_after_signatures item_of_script_list b.scripts) whole in
    (first.0, same_last 1 item_of_script_list a.scripts b.scripts (same_script_list a.scripts b.scripts p.scripts q.scripts) first.1)

-- ---- transactions

parts_are : (a b c d : Item) → array_of (a ∷ b ∷ Null ∷ []) ≡ array_of (c ∷ d ∷ Null ∷ []) → (a ≡ c) × (b ≡ d)
parts_are a b c d e = (cc, cc)

-- transactions with one item are one transaction
pub same_transaction : (a b : Transaction) → IsTransaction a → IsTransaction b → item_of_transaction a ≡ item_of_transaction b → a ≡ b
same_transaction a b p q e =
    let parts = parts_are (item_of_body a) (item_of_witnesses a) (item_of_body b) (item_of_witnesses b) e in
    let body = same_body a b p q parts.0 in
    let witnesses = same_witnesses a b p q parts.1 in
    λ i. record { inputs = body.inputs i; outputs = body.outputs i; fee = body.fee i; end = body.late.end i; start = body.late.start i; mint = body.late.mint i; signatures = witnesses.0 i; scripts = witnesses.1 i }

-- bytes are the text of one transaction
pub one_transaction : (a b : Transaction) (bytes : List ℕ) → SpellsTransaction a bytes → SpellsTransaction b bytes → a ≡ b
one_transaction a b bytes p q = same_transaction a b p.shape q.shape (one_item (item_of_transaction a) (item_of_transaction b) bytes p.text q.text)

-- no transaction's text begins another's
pub transactions_apart : (a b : Transaction) (s t x y : List ℕ) → SpellsTransaction a s → SpellsTransaction b t → s ++ x ≡ t ++ y → (a ≡ b) × (x ≡ y)
transactions_apart a b s t x y p q e =
    let both = spellings_apart (item_of_transaction a) (item_of_transaction b) s t x y p.text q.text e in
    (same_transaction a b p.shape q.shape both.0, both.1)
