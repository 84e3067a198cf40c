-- One more name.
use Rattle.std.proofs.Common.{◌≡◌, ℕ, Bool, true, false, cond, List, [], ◌∷◌, ◌++◌, Option, Some, None, is_some, option_map, refl, sym, ◌∙◌, ap, subst}
use Rattle.std.specs.Prelude.{bytes_eq}
use Rattle.std.specs.Option.{option_or}
use Rattle.std.specs.List.{find}
use Rattle.std.specs.Global.{Vec}
use Rattle.std.specs.Map.{lookup}
use Rattle.std.specs.BTreeMap.{insert_entry}
use Rattle.byte_keys.specs.ByteKeys.{at_bytes}
use Rattle.byte_keys.proofs.ForCallers.{has_bytes, by_bytes, same_from, lookup_insert}
use Rattle.script.specs.declared.bound_names.BoundNames.{BoundNames}
use Rattle.ident.specs.Kinds.{TxId}
use Rattle.model.specs.Transaction.{Transaction, transaction_id_of}
use Rattle.std.proofs.lemmas.Slice.Eq.{bytes_eq-Decides}
use Rattle.script.specs.declared.tx_names.TxNames.{TxNames}
use Rattle.script.specs.TxNamesView.{AreTxsNamed}
use Rattle.script.specs.Names.{Named, Bound, Binding, bound_to, first_name, first_tx_name, has_hash}
use Rattle.script.specs.NamesView.{AreBound, bound_of}
use Rattle.script.specs.KnownView.{IsTable}
use Rattle.script.specs.declared.name_table.NameTable.{NameTable}
use Rattle.std.proofs.lemmas.Map.Text.{is_eq-slice_cmp}

-- ---- maps

module _ {K X : Type 0} (f : K → List ℕ) where
  after_bit : {Y : Type 0} (view : X → Y) (v : X) (y : Y) (old : Option X) (b : Bool) → view v ≡ y → (b ≡ true → old ≡ None)
      → option_map view (cond b (Some v) old) ≡ option_or (option_map view old) (cond b (Some y) None)
  after_bit view v y old true is free = rw (free refl) (ap Some is)
  after_bit view v y None false is free = refl
  after_bit view v y (Some w) false is free = refl

  -- what a map has at some bytes after an insertion at bytes that were free
  pub after_insert : {Y : Type 0} (view : X → Y) (q bytes : List ℕ) (es : List (K × X)) (k : K) (v : X) (y : Y) → f k ≡ bytes → view v ≡ y → lookup (has_bytes f bytes) es ≡ None
      → option_map view (lookup (has_bytes f q) (insert_entry (by_bytes f) es k v)) ≡ option_or (option_map view (lookup (has_bytes f q) es)) (cond (bytes_eq q bytes) (Some y) None)
  after_insert view q bytes es k v y key value free =
      let test : has_bytes f q k ≡ bytes_eq q bytes = is_eq-slice_cmp q (f k) ∙ ap (bytes_eq q) key in
      let there : bytes_eq q bytes ≡ true → lookup (has_bytes f q) es ≡ None =
      λ h. subst (λ (b : List ℕ). lookup (has_bytes f b) es ≡ None) (sym (same_from q (f k) (test ∙ h) ∙ key)) free in
      rw (lookup_insert f q es k v, test) (after_bit view v y (lookup (has_bytes f q) es) (bytes_eq q bytes) value there)

-- ---- lists

found_or : {X : Type 0} (b : Bool) (y : X) (m n : Option X) → cond b (Some y) (option_or m n) ≡ option_or (cond b (Some y) m) n
found_or true y m n = refl
found_or false y m n = refl

-- what is found in a list with one more member
pub find_more : {X : Type 0} (test : X → Bool) (xs : List X) (x : X) → find test (xs ++ x ∷ []) ≡ option_or (find test xs) (cond (test x) (Some x) None)
find_more test [] x = refl
find_more test (y ∷ ys) x = rw (find_more test ys x) (found_or (test y) y (find test ys) (cond (test x) (Some x) None))

pub more_bit : {X Y : Type 0} (g : X → Y) (m : Option X) (b : Bool) (x : X) → option_map g (option_or m (cond b (Some x) None)) ≡ option_or (option_map g m) (cond b (Some (g x)) None)
more_bit g None true x = refl
more_bit g None false x = refl
more_bit g (Some y) b x = refl

-- what a name is bound to where one more is
pub bound_more : {A : Type 0} (q : List ℕ) (names : List (Named A)) (b : Named A) → bound_to q (names ++ b ∷ []) ≡ option_or (bound_to q names) (cond (bytes_eq q b.name) (Some b.bound) None)
bound_more {A} q names b = ap (option_map (λ (b : Named A). b.bound)) (find_more (λ (b : Named A). bytes_eq q b.name) names b)
    ∙ more_bit (λ (b : Named A). b.bound) (find (λ (b : Named A). bytes_eq q b.name) names) (bytes_eq q b.name) b

-- the first name of a block where one more is bound
first_more : (q : List ℕ) (names : List Binding) (b : Binding) → first_name q (names ++ b ∷ []) ≡ option_or (first_name q names) (cond (has_hash q b.bound.place) (Some b.name) None)
first_more q names b = ap (option_map (λ (b : Binding). b.name)) (find_more (λ (b : Binding). has_hash q b.bound.place) names b)
    ∙ more_bit (λ (b : Binding). b.name) (find (λ (b : Binding). has_hash q b.bound.place) names) (has_hash q b.bound.place) b

-- the first name of a transaction where one more is bound
pub first_tx_more : (q : List ℕ) (names : List (Named Transaction)) (b : Named Transaction) → first_tx_name q (names ++ b ∷ []) ≡ option_or (first_tx_name q names) (cond (bytes_eq q (transaction_id_of b.bound)) (Some b.name) None)
first_tx_more q names b = ap (option_map (λ (b : Named Transaction). b.name)) (find_more (λ (b : Named Transaction). bytes_eq q (transaction_id_of b.bound)) names b)
    ∙ more_bit (λ (b : Named Transaction). b.name) (find (λ (b : Named Transaction). bytes_eq q (transaction_id_of b.bound)) names) (bytes_eq q (transaction_id_of b.bound)) b

-- what has its first name keeps it
or_there : {X : Type 0} (m : Option X) (b : Bool) (x : X) → (b ≡ true → is_some m ≡ true) → m ≡ option_or m (cond b (Some x) None)
or_there None true x there = absurd (let e : false ≡ true = there refl in cc)
or_there None false x there = refl
or_there (Some y) b x there = refl

some_map : {X Y : Type 0} (f : X → Y) (m : Option X) (n : Option Y) → is_some m ≡ true → option_map f m ≡ n → is_some n ≡ true
some_map f None n some is = absurd (let e : false ≡ true = some in cc)
some_map f (Some x) n some is = ap (λ o. is_some o) (sym is)

module _ (old : TxNames) (names : List (Named Transaction)) (tx : Transaction) (id : TxId) (name : List ℕ) (named : AreTxsNamed old names) (is : id.bytes ≡ transaction_id_of tx) where
  -- the transaction had its name
  pub tx_named_before : is_some (at_bytes (λ (k : TxId). k.bytes) id.bytes old.by_id) ≡ true → AreTxsNamed old (names ++ record { name = name; bound = tx } ∷ [])
  tx_named_before some = λ q.
      let there : bytes_eq q (transaction_id_of tx) ≡ true → is_some (first_tx_name q names) ≡ true = λ t.
      let same : id.bytes ≡ q = is ∙ sym ((bytes_eq-Decides q (transaction_id_of tx)).0 t) in
      subst (λ (bs : List ℕ). is_some (first_tx_name bs names) ≡ true) same (some_map (λ (n : Vec ℕ). n.items) (at_bytes (λ (k : TxId). k.bytes) id.bytes old.by_id) (first_tx_name id.bytes names) some (named id.bytes)) in
      named q ∙ (or_there (first_tx_name q names) (bytes_eq q (transaction_id_of tx)) name there ∙ sym (first_tx_more q names (record { name = name; bound = tx })))

  -- or gets it
  pub tx_named_now : (new : TxNames) → ((q : List ℕ) → option_map (λ (n : Vec ℕ). n.items) (at_bytes (λ (k : TxId). k.bytes) q new.by_id)
      ≡ option_or (option_map (λ (n : Vec ℕ). n.items) (at_bytes (λ (k : TxId). k.bytes) q old.by_id)) (cond (bytes_eq q id.bytes) (Some name) None))
      → AreTxsNamed new (names ++ record { name = name; bound = tx } ∷ [])
  tx_named_now new put = λ q.
      put q ∙ (ap (λ (m : Option (List ℕ)). option_or m (cond (bytes_eq q id.bytes) (Some name) None)) (named q)
      ∙ (ap (λ (bs : List ℕ). option_or (first_tx_name q names) (cond (bytes_eq q bs) (Some name) None)) is ∙ sym (first_tx_more q names (record { name = name; bound = tx }))))

pub map_none : {X Y : Type 0} (g : X → Y) (m : Option X) → option_map g m ≡ None → m ≡ None
map_none g None h = refl
map_none g (Some x) h = cc

-- the names of the code with one more
pub bound_after : (old new : BoundNames) (names : List Binding) (b : Binding) → AreBound old names
    → ((q : List ℕ) → option_map bound_of (at_bytes (λ k. k.items) q new.by_name) ≡ option_or (option_map bound_of (at_bytes (λ k. k.items) q old.by_name)) (cond (bytes_eq q b.name) (Some b.bound) None))
    → ((q : List ℕ) → option_map (λ n. n.items) (at_bytes (λ k. k.bytes) q new.by_hash) ≡ option_or (option_map (λ n. n.items) (at_bytes (λ k. k.bytes) q old.by_hash)) (cond (has_hash q b.bound.place) (Some b.name) None))
    → AreBound new (names ++ b ∷ [])
bound_after old new names b bound by_name by_hash = record {
  by_name = λ q. by_name q ∙ ap (λ (m : Option Bound). option_or m (cond (bytes_eq q b.name) (Some b.bound) None)) (bound.by_name q) ∙ sym (bound_more q names b);
  by_hash = λ q. by_hash q ∙ ap (λ (m : Option (List ℕ)). option_or m (cond (has_hash q b.bound.place) (Some b.name) None)) (bound.by_hash q) ∙ sym (first_more q names b);
}

pub or_none : {X : Type 0} (m : Option X) → m ≡ option_or m None
or_none None = refl
or_none (Some x) = refl

same_option : {X : Type 0} (m : Option X) → m ≡ option_map (λ (x : X). x) m
same_option None = refl
same_option (Some x) = refl

-- a table with one more name
pub table_more : {V : Type 0} (old new : NameTable V) (names : List (Named V)) (name : Vec ℕ) (v : V) → new.by_name.entries ≡ insert_entry (by_bytes (λ (k : Vec ℕ). k.items)) old.by_name.entries name v
    → IsTable old names → bound_to name.items names ≡ None → IsTable new (names ++ record { name = name.items; bound = v } ∷ [])
table_more {V} old new names name v is table free = λ q.
    let here : lookup (has_bytes (λ (k : Vec ℕ). k.items) name.items) old.by_name.entries ≡ None = table name.items ∙ free in
    rw is (same_option (lookup (has_bytes (λ (k : Vec ℕ). k.items) q) (insert_entry (by_bytes (λ (k : Vec ℕ). k.items)) old.by_name.entries name v))
    ∙ after_insert (λ (k : Vec ℕ). k.items) (λ (x : V). x) q name.items old.by_name.entries name v v refl refl here
    ∙ ap (λ (m : Option V). option_or m (cond (bytes_eq q name.items) (Some v) None)) (sym (same_option (lookup (has_bytes (λ (k : Vec ℕ). k.items) q) old.by_name.entries)) ∙ table q)
    ∙ sym (bound_more q names (record { name = name.items; bound = v })))
