-- What is printed of an index, and when it can't go on.
use Rattle.std.proofs.Common.{◌≡◌, ◌≢◌, ℕ, ◌+◌, ◌<◌, Bool, true, false, cond, List, [], ◌∷◌, ◌++◌, length, map, take, slice_index_or, Option, Some, None, option_map, Result, Ok, Err, refl, sym, ap, subst, ◌∙◌, append_assoc, append-nil}
use Rattle.std.specs.Prelude.{IfErr, OnOk, ◌==◌}
use Rattle.std.specs.declared.alloc.AllocError.{AllocError}
use Rattle.std.specs.FinMap as finite
use Rattle.std.proofs.lemmas.List.{take_more, map-append}
use Rattle.model.specs.Transaction.{Address, Input, Output, address_bytes}
use Rattle.model.specs.Utxo.{Utxo}
use Rattle.model.specs.Block.{Block, SpellsBlock}
use Rattle.model.specs.Chain.{Follows}
use Rattle.model.specs.Follower.{AddBlock}
use Rattle.model.specs.History.{Reply}
use Rattle.model.proofs.BlockTexts.{one_block}
use Rattle.utxo_rules.specs.Entries.{has_address, pairs_of, pairs_with}
use Rattle.watching.specs.Chains.{Watched}
use Rattle.watching.specs.Ledgers.{IsTaken}
use Rattle.watching.specs.Faults.{IsAddFault}
use Rattle.watching.specs.declared.watch_fault.WatchFault.{WatchFault}
use Rattle.watching.specs.declared.watch_fault.WatchFault.TheVariants as fault
use Rattle.script.specs.Names.{Named}
use Rattle.script.specs.Line.{OwnedByKey}
use Rattle.script.specs.RequestView.{key_address_of}
use Rattle.scenario.specs.Balances.{outputs_of_address, IsBalanceText}
use Rattle.scenario.specs.declared.indexes.Indexes as table
use Rattle.scenario.specs.declared.key_index.KeyIndex as code
use Rattle.scenario.specs.Indexes.{AreBalancesText, Indexes, KeyIndex, IsIndexAfter, IsIndexText, with_index}
use Rattle.scenario.specs.IndexView.{AreIndexes, key_index_of}

-- ---- outputs of an address among those of the address

twice_step : (bytes : List ℕ) (p : Input × Output) (ps : List (Input × Output)) (here : Bool) → has_address bytes p ≡ here → pairs_with bytes ps ≡ ps → pairs_with bytes (cond here (p ∷ ps) ps) ≡ cond here (p ∷ ps) ps
twice_step bytes p ps true is same = ap (λ (b : Bool). cond b (p ∷ pairs_with bytes ps) (pairs_with bytes ps)) is ∙ ap (λ (qs : List (Input × Output)). p ∷ qs) same
twice_step bytes p ps false is same = same

with_twice : (bytes : List ℕ) (es : List (Input × Output)) → pairs_with bytes (pairs_with bytes es) ≡ pairs_with bytes es
with_twice bytes [] = refl
with_twice bytes (p ∷ es) = twice_step bytes p (pairs_with bytes es) (has_address bytes p) refl (with_twice bytes es)

pub same_of_address : (address : Address) (found all : Utxo) → finite.entries found ≡ pairs_of address (finite.entries all) → outputs_of_address address found ≡ outputs_of_address address all
same_of_address address found all is =
    ap (λ (es : List (Input × Output)). map (λ p. p.1) (pairs_of address es)) is ∙ ap (map (λ p. p.1)) (with_twice (address_bytes address) (finite.entries all))

-- ---- balances

-- one key more
pub balances_more : (utxo : Utxo) (keys : List (Named Address)) (key : Named Address) (start more : List ℕ) → AreBalancesText utxo keys start → IsBalanceText (outputs_of_address key.bound utxo) (OwnedByKey key.name) more → AreBalancesText utxo (keys ++ key ∷ []) (start ++ more)
balances_more utxo [] key start more before text = (more, [], text, refl, ap (λ (l : List ℕ). l ++ more) before ∙ sym (append-nil more))
balances_more utxo (k ∷ ks) key start more (first, rest, is, others, all) text =
    (first, rest ++ more, is, balances_more utxo ks key rest more others text, ap (λ (l : List ℕ). l ++ more) all ∙ append_assoc first rest more)

-- one more of a list, seen by a view of it
pub view_more : {X Y : Type 0} (view : X → Y) (xs : List X) (i : ℕ) (x : X) → i < length xs → x ≡ slice_index_or xs i x → map view (take (i + 1) xs) ≡ map view (take i xs) ++ view x ∷ []
view_more {X} {Y} view xs i x below is =
    ap (map view) (take_more xs i x below ∙ ap (λ (y : X). take i xs ++ y ∷ []) (sym is)) ∙ map-append view (take i xs) (x ∷ [])

pub seen_twice : {X Y Z : Type 0} (g : Y → Z) (f : X → Y) (xs : List X) → map (λ x. g (f x)) xs ≡ map g (map f xs)
seen_twice g f [] = refl
seen_twice {Z = Z} g f (x ∷ xs) = ap (λ (l : List Z). g (f x) ∷ l) (seen_twice g f xs)

-- ---- an index that takes a block, or can't

pub taken_block : (result : Result (Unit {0}) WatchFault) (old new : Watched) (b : Block) (bytes : List ℕ) → SpellsBlock b bytes → OnOk result ((text : List ℕ) → SpellsBlock b text → IsTaken old (AddBlock text) new) → OnOk result (IsTaken old (AddBlock bytes) new)
taken_block (Ok done) old new b bytes spelled taken = taken bytes spelled
taken_block (Err why) old new b bytes spelled taken = tt

pub lost_block : (result : Result (Unit {0}) WatchFault) (w : Watched) (b : Block) (bytes : List ℕ) → SpellsBlock b bytes → IfErr result (IsAddFault w b) → IfErr result (λ why. why ≢ fault.OutOfMemory → (next : Watched) → IsTaken w (AddBlock bytes) next → ⊥)
lost_block (Ok done) w b bytes spelled why = tt
lost_block (Err fault.NotNext) w b bytes spelled why = λ enough next (other, spells, follows, is). why (subst (Follows w.last.tip) (one_block other b bytes spells spelled) follows)
lost_block (Err fault.UnknownPoint) w b bytes spelled why = absurd why
lost_block (Err fault.OutOfMemory) w b bytes spelled why = λ enough. absurd (enough refl)

-- ---- what is told of an index that is put back

covered : {X : Type 0} (here : Bool) (new old : Option X) (other : Option X) → cond here new (cond here old other) ≡ cond here new other
covered true new old other = refl
covered false new old other = refl

-- what stood there is covered
pub put_over : (code : table.Indexes) (indexes : Indexes) (id : ℕ) (old new : Option KeyIndex) → AreIndexes code (with_index id new (with_index id old indexes)) → AreIndexes code (with_index id new indexes)
put_over code indexes id old new are = record {
  genesis = are.genesis;
  of_follower = λ other. are.of_follower other ∙ covered (other == id) new old (indexes.of_follower other);
}

absent : {X : Type 0} (found : Option X) → ((x : X) → found ≡ Some x → ⊥) → found ≡ None
absent None none = refl
absent (Some x) none = absurd (none x refl)

-- what comes of telling an index that stands there
abbrev pub IsToldOf : (indexes : Indexes) (name : List ℕ) (id : ℕ) → Reply → (old out : List ℕ) (code : table.Indexes) → Type 0
IsToldOf indexes name id reply old out code = (new : Option KeyIndex) × (text : List ℕ) × IsIndexAfter (indexes.of_follower id) reply new
    × IsIndexText name (indexes.of_follower id) new text × (out ≡ old ++ text) × AreIndexes code (with_index id new indexes)

-- no index stands there
pub none_told : (indexes : Indexes) (name : List ℕ) (id : ℕ) (reply : Reply) (line : List ℕ) (found : Option code.KeyIndex) (new : table.Indexes) → ((x : code.KeyIndex) → found ≡ Some x → ⊥)
    → (option_map key_index_of found ≡ indexes.of_follower id) × AreIndexes new (with_index id None indexes) → IsToldOf indexes name id reply line line new
none_told indexes name id reply line found new none (is, are) =
    let no : indexes.of_follower id ≡ None = sym is ∙ ap (option_map key_index_of) (absent found none) in
    let told : IsIndexAfter (indexes.of_follower id) reply None × IsIndexText name (indexes.of_follower id) None [] =
    subst (λ (o : Option KeyIndex). IsIndexAfter o reply None × IsIndexText name o None []) (sym no) (refl, refl) in
    (None, [], told.0, told.1, sym (append-nil line), are)

-- one stands there, and this came of it
one_told : (indexes : Indexes) (name : List ℕ) (id : ℕ) (reply : Reply) (old text out : List ℕ) (found : Option code.KeyIndex) (index : code.KeyIndex) (after : Option KeyIndex) (new : table.Indexes) → found ≡ Some index
    → option_map key_index_of found ≡ indexes.of_follower id → IsIndexAfter (Some (key_index_of index)) reply after → IsIndexText name (Some (key_index_of index)) after text → out ≡ old ++ text → AreIndexes new (with_index id after indexes)
    → IsToldOf indexes name id reply old out new
one_told indexes name id reply old text out found index after new there is went told behind are =
    let some : indexes.of_follower id ≡ Some (key_index_of index) = sym is ∙ ap (option_map key_index_of) there in
    let both : IsIndexAfter (indexes.of_follower id) reply after × IsIndexText name (indexes.of_follower id) after text =
    subst (λ (o : Option KeyIndex). IsIndexAfter o reply after × IsIndexText name o after text) (sym some) (went, told) in
    (after, text, both.0, both.1, behind, are)

-- it took what its follower was told, and is put back
pub index_told : (result : Result (Unit {0}) AllocError) (name : List ℕ) (id : ℕ) (reply : Reply) (old out : List ℕ) (found : Option code.KeyIndex) (index taken : code.KeyIndex) (before without new : table.Indexes) → found ≡ Some index
    → ((indexes : Indexes) → AreIndexes before indexes → (option_map key_index_of found ≡ indexes.of_follower id) × AreIndexes without (with_index id None indexes))
    → IsIndexAfter (Some (key_index_of index)) reply (Some (key_index_of taken)) → (text : List ℕ) × AreBalancesText taken.index.last.tables.outputs (map key_address_of taken.keys.items) text × (out ≡ old ++ text)
    → OnOk result ((indexes : Indexes) → AreIndexes without indexes → AreIndexes new (with_index id (Some (key_index_of taken)) indexes))
    → OnOk result ((indexes : Indexes) → AreIndexes before indexes → IsToldOf indexes name id reply old out new)
index_told (Ok done) name id reply old out found index taken before without new there removed went (text, is_text, behind) put = λ indexes are.
    let gone = removed indexes are in
    one_told indexes name id reply old text out found index (Some (key_index_of taken)) new there gone.0 went is_text behind
    (put_over new indexes id None (Some (key_index_of taken)) (put (with_index id None indexes) gone.1))
index_told (Err why) name id reply old out found index taken before without new there removed went told put = tt

-- it can't take it, and is given up
pub index_lost : (result : Result (Unit {0}) AllocError) (name : List ℕ) (id : ℕ) (reply : Reply) (old out : List ℕ) (found : Option code.KeyIndex) (index : code.KeyIndex) (before without : table.Indexes) → found ≡ Some index
    → ((indexes : Indexes) → AreIndexes before indexes → (option_map key_index_of found ≡ indexes.of_follower id) × AreIndexes without (with_index id None indexes))
    → IsIndexAfter (Some (key_index_of index)) reply None → OnOk result ((one : KeyIndex) → (text : List ℕ) × IsIndexText name (Some one) None text × (out ≡ old ++ text))
    → OnOk result ((indexes : Indexes) → AreIndexes before indexes → IsToldOf indexes name id reply old out without)
index_lost (Ok done) name id reply old out found index before without there removed went told = λ indexes are.
    let gone = removed indexes are in
    let said = told (key_index_of index) in
    one_told indexes name id reply old said.0 out found index None without there gone.0 went said.1 said.2 gone.1
index_lost (Err why) name id reply old out found index before without there removed went told = tt
