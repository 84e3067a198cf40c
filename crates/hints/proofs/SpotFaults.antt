-- What is told of a document is of its fault.
use Rattle.std.proofs.Common.{◌≡◌, ℕ, suc, ◌+◌, ◌≤◌, Bool, true, false, ◌&&◌, ℤ, List, [], ◌∷◌, length, take, nat_le, nat_lt, Option, Some, None, refl, sym, ap, subst, ◌∙◌, arith}
use Rattle.std.specs.Prelude.{Result, Ok, if◌then◌else◌, option_map, codes, sum_by}
use Rattle.std.proofs.lemmas.Option.{same_Some, none-some, cond_some}
use Rattle.std.proofs.lemmas.Bool.Decides.{nat_tests}
use Rattle.std.proofs.lemmas.List.Sums.{sum_by-cons}
use Rattle.toml.specs.Data.{Data, Items, Members, no_members, member, get_member, as_integer, as_str, as_array, as_table}
use Rattle.model.specs.Limits.{number_limit, greatest_number}
use Rattle.model.specs.Genesis.{Genesis, Grant}
use Rattle.genesis.specs.declared.genesis_fault.GenesisFault.{GenesisFault}
use Rattle.genesis.specs.declared.genesis_fault.GenesisFault.TheVariants as faults
use Rattle.genesis.specs.Steps.{◌>>=◌, guard, each, or_fault}
use Rattle.genesis.specs.Document.{EraNumbers, Numbers, Lock, ByAddress, ByKey, Entry, Written, is_known, has_only, genesis_keys, entry_keys, number_at, number_if, number_if_at, both_or_none, era_in, numbers_in, scheme_of, scheme_at, scheme_in, one_lock, lock_in, entry_in, entry_of, values_of, outputs_in, written_in}
use Rattle.genesis.specs.Judgement.{within, within_if, era_of, era_if_written, Settings, settings_of, address_of_lock, Placed, placed_of, grant_of, limited, grants_of, counted, genesis_with, judged}
use Rattle.hints.specs.GenesisSpots.{Spot, in_document, in_output, ◌or◌, unless, first_found, unknown_in, number_trouble, number_spot, lacking, optional_spot, era_spot, scheme_name_spot, scheme_spot, lock_spot, table_spot, element_spot, entry_spot, array_spot, outputs_spot, shape_spot}
use Rattle.hints.specs.GenesisSpots.{Bounded, bounded, bytes_bounds, era_bounds, number_bounds, bound_spot, range_spot, homeless_spot, address_spot, or_zero, coin_trouble, coin_spot, count_spot, written_spot, document_spot, fault_or_genesis, fault_of, TellsOf}
use Rattle.hints.specs.declared.genesis_spot.Trouble.TheVariants.{Unknown, NotNumber, NoCoin, TooMuch, NoOutputs, TooMany}

-- ---- one step

-- something is told just where nothing was found, and what is told is of this fault
abbrev Told : {X : Type 0} → GenesisFault → Option X → Option Spot → Type 0
Told fault (Some x) None = Unit {0}
Told fault (Some x) (Some spot) = ⊥
Told fault None None = ⊥
Told fault None (Some spot) = fault_of spot.trouble ≡ fault

told_then : {X Y : Type 0} (fault : GenesisFault) (found : Option X) (f : X → Option Y) (spot next : Option Spot) → Told fault found spot → ((x : X) → found ≡ Some x → Told fault (f x) next) → Told fault (found >>= f) (spot or next)
told_then fault (Some x) f None next told after = after x refl
told_then fault (Some x) f (Some s) next told after = absurd told
told_then fault None f None next told after = absurd told
told_then fault None f (Some s) next told after = told

-- what is made of what was found
told_made : {X Y : Type 0} (fault : GenesisFault) (found : Option X) (f : X → Y) (spot : Option Spot) → Told fault found spot → Told fault (found >>= λ x. Some (f x)) spot
told_made fault (Some x) f None told = tt
told_made fault (Some x) f (Some s) told = absurd told
told_made fault None f None told = absurd told
told_made fault None f (Some s) told = told

told_mapped : {X Y : Type 0} (fault : GenesisFault) (found : Option X) (f : X → Y) (spot : Option Spot) → Told fault found spot → Told fault (option_map f found) spot
told_mapped fault (Some x) f None told = tt
told_mapped fault (Some x) f (Some s) told = absurd told
told_mapped fault None f None told = absurd told
told_mapped fault None f (Some s) told = told

told_unless : {X : Type 0} (fault : GenesisFault) (found : Option X) (spot : Spot) → fault_of spot.trouble ≡ fault → Told fault found (unless found spot)
told_unless fault (Some x) spot is = tt
told_unless fault None spot is = is

-- where a stage found something, and where it found nothing
tells_then : {X : Type 0} (fault : GenesisFault) (found : Option X) (f : X → Result Genesis GenesisFault) (spot next : Option Spot) → Told fault found spot → ((x : X) → found ≡ Some x → TellsOf (f x) next) → TellsOf (or_fault fault found f) (spot or next)
tells_then fault (Some x) f None next told after = after x refl
tells_then fault (Some x) f (Some s) next told after = absurd told
tells_then fault None f None next told after = absurd told
tells_then fault None f (Some s) next told after = told

-- ---- one after the other

or_assoc : (a b c : Option Spot) → ((a or b) or c) ≡ (a or (b or c))
or_assoc None b c = refl
or_assoc (Some s) b c = refl

or_assoc_twice : (a b c d : Option Spot) → ((a or (b or c)) or d) ≡ (a or (b or (c or d)))
or_assoc_twice None b c d = or_assoc b c d
or_assoc_twice (Some s) b c d = refl

-- what is found first, or else this
abbrev first_or : {A : Type 0} → (ℕ → A → Option Spot) → ℕ → List A → Option Spot → Option Spot
first_or f n [] rest = rest
first_or f n (x ∷ xs) rest = f n x or first_or f (n + 1) xs rest

first_or-is : {A : Type 0} (f : ℕ → A → Option Spot) (n : ℕ) (xs : List A) (rest : Option Spot) → (first_found f n xs or rest) ≡ first_or f n xs rest
first_or-is f n [] rest = refl
first_or-is f n (x ∷ xs) rest = or_assoc (f n x) (first_found f (n + 1) xs) rest ∙ ap (λ (s : Option Spot). f n x or s) (first_or-is f (n + 1) xs rest)

-- ---- the shape

-- a key that isn't known
unknown_at : (known : List (List ℕ)) (key : List ℕ) (rest : Members) (spot : List ℕ → Spot) → ((key : List ℕ) → fault_of (spot key).trouble ≡ faults.BadShape) → (test : Bool)
    → Told faults.BadShape (guard (has_only known rest)) (option_map spot (unknown_in known rest)) → Told faults.BadShape (guard (test && has_only known rest)) (option_map spot (if test then unknown_in known rest else Some key))
unknown_at known key rest spot is true told = told
unknown_at known key rest spot is false told = is key

unknown_told : (known : List (List ℕ)) (document : Members) (spot : List ℕ → Spot) → ((key : List ℕ) → fault_of (spot key).trouble ≡ faults.BadShape) → Told faults.BadShape (guard (has_only known document)) (option_map spot (unknown_in known document))
unknown_told known no_members spot is = tt
unknown_told known (member key value rest) spot is = unknown_at known key rest spot is (is_known known key) (unknown_told known rest spot is)

-- a number that has to stand there
number_told : (key : List ℕ) (document : Members) → Told faults.BadShape (number_at key document) (number_spot key document)
number_told key document = by_value (get_member key document)
  where
    by_value : (value : Option Data) → Told faults.BadShape (value >>= as_integer) (option_map (in_document key) (number_trouble value))
    by_value None = refl
    by_value (Some value) = by_number (as_integer value)
      where
        by_number : (number : Option ℤ) → Told faults.BadShape number (option_map (in_document key) (unless number NotNumber))
        by_number None = refl
        by_number (Some z) = tt

coin_told : (n : ℕ) (document : Members) → Told faults.BadShape (number_at (codes "coin") document) (option_map (in_output n (codes "coin")) (number_trouble (get_member (codes "coin") document)))
coin_told n document = by_value (get_member (codes "coin") document)
  where
    by_value : (value : Option Data) → Told faults.BadShape (value >>= as_integer) (option_map (in_output n (codes "coin")) (number_trouble value))
    by_value None = refl
    by_value (Some value) = by_number (as_integer value)
      where
        by_number : (number : Option ℤ) → Told faults.BadShape number (option_map (in_output n (codes "coin")) (unless number NotNumber))
        by_number None = refl
        by_number (Some z) = tt

era_told : (document : Members) → Told faults.BadShape (era_in document) (era_spot (get_member (codes "era2_slot") document) (get_member (codes "per_asset") document))
unfolding era_in
era_told document = by_values (get_member (codes "era2_slot") document) (get_member (codes "per_asset") document)
  where
    by_values : (slot coin : Option Data) → Told faults.BadShape (both_or_none slot coin) (era_spot slot coin)
    by_values None None = tt
    by_values (Some s) None = refl
    by_values None (Some c) = refl
    by_values (Some s) (Some c) =
        told_then faults.BadShape (as_integer s) _ _ _ (told_unless faults.BadShape (as_integer s) _ refl)
        (λ slot is. told_made faults.BadShape (as_integer c) _ _ (told_unless faults.BadShape (as_integer c) _ refl))

-- a number that may be missing
optional_told : (key : List ℕ) (document : Members) → Told faults.BadShape (number_if_at key document) (optional_spot key (get_member key document))
unfolding number_if_at
optional_told key document = by_value (get_member key document)
  where
    by_value : (found : Option Data) → Told faults.BadShape (number_if found) (optional_spot key found)
    by_value None = tt
    by_value (Some value) = told_mapped faults.BadShape (as_integer value) (λ number. Some number) _ (told_unless faults.BadShape (as_integer value) _ refl)

-- where something is told of each element
each_told : {A B : Type 0} (fault : GenesisFault) (f : A → Option B) (g : ℕ → A → Option Spot) → ((n : ℕ) (x : A) → Told fault (f x) (g n x)) → (n : ℕ) (xs : List A) → Told fault (each f xs) (first_found g n xs)
each_told fault f g told n [] = tt
each_told fault f g told n (x ∷ xs) =
    told_then fault (f x) _ (g n x) (first_found g (n + 1) xs) (told n x)
    (λ y is. told_made fault (each f xs) (λ ys. y ∷ ys) (first_found g (n + 1) xs) (each_told fault f g told (n + 1) xs))

numbers_told : (document : Members) → Told faults.BadShape (numbers_in document) (lacking (take 9 genesis_keys) document or (optional_spot (codes "max_volatile_bytes") (get_member (codes "max_volatile_bytes") document) or era_spot (get_member (codes "era2_slot") document) (get_member (codes "per_asset") document)))
unfolding numbers_in
numbers_told document =
    let era = era_spot (get_member (codes "era2_slot") document) (get_member (codes "per_asset") document) in
    let rest = optional_spot (codes "max_volatile_bytes") (get_member (codes "max_volatile_bytes") document) or era in
    let f : ℕ → List ℕ → Option Spot = λ n key. number_spot key document in
    let number = λ (key : List ℕ). number_told key document in
    subst (Told faults.BadShape (numbers_in document)) (sym (first_or-is f 0 (take 9 genesis_keys) rest))
    (told_then faults.BadShape (number_at (codes "network") document) _ _ _ (number (codes "network")) (λ a is_a.
    told_then faults.BadShape (number_at (codes "k") document) _ _ _ (number (codes "k")) (λ b is_b.
    told_then faults.BadShape (number_at (codes "min_fee_a") document) _ _ _ (number (codes "min_fee_a")) (λ c is_c.
    told_then faults.BadShape (number_at (codes "min_fee_b") document) _ _ _ (number (codes "min_fee_b")) (λ d is_d.
    told_then faults.BadShape (number_at (codes "min_utxo") document) _ _ _ (number (codes "min_utxo")) (λ e is_e.
    told_then faults.BadShape (number_at (codes "max_tx_size") document) _ _ _ (number (codes "max_tx_size")) (λ f is_f.
    told_then faults.BadShape (number_at (codes "max_body_size") document) _ _ _ (number (codes "max_body_size")) (λ g is_g.
    told_then faults.BadShape (number_at (codes "max_volatile") document) _ _ _ (number (codes "max_volatile")) (λ h is_h.
    told_then faults.BadShape (number_at (codes "max_mempool") document) _ _ _ (number (codes "max_mempool")) (λ i is_i.
    told_then faults.BadShape (number_if_at (codes "max_volatile_bytes") document) _ _ _ (optional_told (codes "max_volatile_bytes") document) (λ l is_l.
    told_made faults.BadShape (era_in document) _ _ (era_told document))))))))))))

scheme_told : (document : Members) → Told faults.BadShape (scheme_in document) (scheme_spot (get_member (codes "scheme") document))
unfolding scheme_in
scheme_told document = by_value (get_member (codes "scheme") document)
  where
    by_name : (found : Option (List ℕ)) → Told faults.BadShape (found >>= scheme_of) (scheme_name_spot found)
    by_name None = refl
    by_name (Some name) = told_unless faults.BadShape (scheme_of name) _ refl

    by_value : (found : Option Data) → Told faults.BadShape (scheme_at found) (scheme_spot found)
    by_value None = tt
    by_value (Some value) = by_name (as_str value)

lock_told : (n : ℕ) (entry : Members) → Told faults.BadShape (lock_in entry) (lock_spot n (get_member (codes "address") entry) (get_member (codes "key") entry))
unfolding lock_in
lock_told n entry = by_values (get_member (codes "address") entry) (get_member (codes "key") entry)
  where
    by_values : (address key : Option Data) → Told faults.BadShape (one_lock address key) (lock_spot n address key)
    by_values None None = refl
    by_values (Some a) (Some k) = refl
    by_values (Some a) None = told_mapped faults.BadShape (as_str a) ByAddress _ (told_unless faults.BadShape (as_str a) _ refl)
    by_values None (Some k) = told_mapped faults.BadShape (as_str k) ByKey _ (told_unless faults.BadShape (as_str k) _ refl)

table_told : (n : ℕ) (entry : Members) → Told faults.BadShape (entry_in entry) (table_spot n entry)
unfolding entry_in table_spot
table_told n entry =
    told_then faults.BadShape (guard (has_only entry_keys entry)) _ _ _ (unknown_told entry_keys entry (λ key. in_output n key Unknown) (λ key. refl)) (λ known is_known.
    told_then faults.BadShape (lock_in entry) _ _ _ (lock_told n entry) (λ lock is_lock.
    told_made faults.BadShape (number_at (codes "coin") entry) _ _ (coin_told n entry)))

entry_told : (n : ℕ) (value : Data) → Told faults.BadShape (entry_of value) (entry_spot n value)
entry_told n value = by_table (as_table value)
  where
    by_table : (found : Option Members) → Told faults.BadShape (found >>= entry_in) (element_spot n found)
    by_table None = refl
    by_table (Some entry) = table_told n entry

outputs_told : (document : Members) → Told faults.BadShape (outputs_in document) (outputs_spot (get_member (codes "output") document))
unfolding outputs_in
outputs_told document = by_value (get_member (codes "output") document)
  where
    by_array : (found : Option Items) → Told faults.BadShape (found >>= λ tables. each entry_of (values_of tables)) (array_spot found)
    by_array None = refl
    by_array (Some tables) = each_told faults.BadShape entry_of entry_spot entry_told 0 (values_of tables)

    by_value : (found : Option Data) → Told faults.BadShape (found >>= λ output. (as_array output >>= λ tables. each entry_of (values_of tables))) (outputs_spot found)
    by_value None = refl
    by_value (Some value) = by_array (as_array value)

shape_told : (document : Members) → Told faults.BadShape (written_in document) (shape_spot document)
unfolding written_in shape_spot
shape_told document =
    let bytes = optional_spot (codes "max_volatile_bytes") (get_member (codes "max_volatile_bytes") document) in
    let era = era_spot (get_member (codes "era2_slot") document) (get_member (codes "per_asset") document) in
    let scheme = scheme_spot (get_member (codes "scheme") document) in
    let outputs = outputs_spot (get_member (codes "output") document) in
    told_then faults.BadShape (guard (has_only genesis_keys document)) _ _ _ (unknown_told genesis_keys document (λ key. in_document key Unknown) (λ key. refl)) (λ known is_known.
    subst (Told faults.BadShape (numbers_in document >>= λ numbers. (scheme_in document >>= λ scheme. (outputs_in document >>= λ outputs. Some (record { numbers = numbers; scheme = scheme; outputs = outputs })))))
    (or_assoc_twice (lacking (take 9 genesis_keys) document) bytes era (scheme or outputs))
    (told_then faults.BadShape (numbers_in document) _ _ _ (numbers_told document) (λ numbers is_numbers.
    told_then faults.BadShape (scheme_in document) _ _ _ (scheme_told document) (λ found is_scheme.
    told_made faults.BadShape (outputs_in document) _ _ (outputs_told document)))))

-- ---- the numbers

bound_told : (key : List ℕ) (least most : ℕ) (number : ℤ) → Told faults.OutOfRange (within least most number) (bound_spot (bounded key least most number))
bound_told key least most number = told_unless faults.OutOfRange (within least most number) _ refl

bounds_told : (numbers : Option EraNumbers) → Told faults.OutOfRange (era_if_written numbers) (range_spot (era_bounds numbers))
unfolding era_if_written era_of
bounds_told None = tt
bounds_told (Some era) =
    told_mapped faults.OutOfRange (era_of era) (λ e. Some e) _
    (told_then faults.OutOfRange (within 1 greatest_number era.first_slot) _ _ _ (bound_told (codes "era2_slot") 1 greatest_number era.first_slot) (λ slot is_slot.
    told_then faults.OutOfRange (within 0 1000000000000 era.per_asset) _ _ _ (bound_told (codes "per_asset") 0 1000000000000 era.per_asset) (λ coin is_coin. tt)))

or_nothing : (a : Option Spot) → (a or None) ≡ a
or_nothing None = refl
or_nothing (Some s) = refl

bytes_told : (number : Option ℤ) → Told faults.OutOfRange (within_if 1 1099511627776 number) (range_spot (bytes_bounds number))
unfolding within_if
bytes_told None = tt
bytes_told (Some number) =
    subst (Told faults.OutOfRange (within_if 1 1099511627776 (Some number))) (sym (or_nothing (bound_spot (bounded (codes "max_volatile_bytes") 1 1099511627776 number))))
    (told_mapped faults.OutOfRange (within 1 1099511627776 number) (λ n. Some n) _ (bound_told (codes "max_volatile_bytes") 1 1099511627776 number))

settings_told : (numbers : Numbers) → Told faults.OutOfRange (settings_of numbers) (range_spot (number_bounds numbers) or (range_spot (bytes_bounds numbers.max_volatile_bytes) or range_spot (era_bounds numbers.second_era)))
unfolding settings_of
settings_told numbers =
    let f : ℕ → Bounded → Option Spot = λ n b. bound_spot b in
    subst (Told faults.OutOfRange (settings_of numbers)) (sym (first_or-is f 0 (number_bounds numbers) (range_spot (bytes_bounds numbers.max_volatile_bytes) or range_spot (era_bounds numbers.second_era))))
    (told_then faults.OutOfRange (within 0 15 numbers.network) _ _ _ (bound_told (codes "network") 0 15 numbers.network) (λ a is_a.
    told_then faults.OutOfRange (within 1 10000 numbers.k) _ _ _ (bound_told (codes "k") 1 10000 numbers.k) (λ b is_b.
    told_then faults.OutOfRange (within 0 1000000 numbers.min_fee_a) _ _ _ (bound_told (codes "min_fee_a") 0 1000000 numbers.min_fee_a) (λ c is_c.
    told_then faults.OutOfRange (within 0 1000000000000 numbers.min_fee_b) _ _ _ (bound_told (codes "min_fee_b") 0 1000000000000 numbers.min_fee_b) (λ d is_d.
    told_then faults.OutOfRange (within 0 1000000000000 numbers.min_utxo) _ _ _ (bound_told (codes "min_utxo") 0 1000000000000 numbers.min_utxo) (λ e is_e.
    told_then faults.OutOfRange (within 1 65536 numbers.max_tx_size) _ _ _ (bound_told (codes "max_tx_size") 1 65536 numbers.max_tx_size) (λ f is_f.
    told_then faults.OutOfRange (within 1 1048000 numbers.max_body_size) _ _ _ (bound_told (codes "max_body_size") 1 1048000 numbers.max_body_size) (λ g is_g.
    told_then faults.OutOfRange (within 1 100000 numbers.max_volatile) _ _ _ (bound_told (codes "max_volatile") 1 100000 numbers.max_volatile) (λ h is_h.
    told_then faults.OutOfRange (within 1 100000 numbers.max_mempool) _ _ _ (bound_told (codes "max_mempool") 1 100000 numbers.max_mempool) (λ i is_i.
    told_then faults.OutOfRange (within_if 1 1099511627776 numbers.max_volatile_bytes) _ _ _ (bytes_told numbers.max_volatile_bytes) (λ l is_l.
    told_made faults.OutOfRange (era_if_written numbers.second_era) _ _ (bounds_told numbers.second_era))))))))))))

-- what was found on the way
on_the_way : {A B : Type 0} (found : Option A) (f : A → Option B) (y : B) → (found >>= f) ≡ Some y → (x : A) × (found ≡ Some x) × (f x ≡ Some y)
on_the_way None f y is = absurd (none-some y is)
on_the_way (Some x) f y is = (x, refl, is)

-- the network is the one that is written
network_found : (numbers : Numbers) (settings : Settings) → settings_of numbers ≡ Some settings → within 0 15 numbers.network ≡ Some settings.params.network
unfolding settings_of
network_found numbers settings is =
    let (network, found, rest) = on_the_way (within 0 15 numbers.network) _ settings is in
    let k = on_the_way (within 1 10000 numbers.k) _ settings rest in
    let fee_a = on_the_way (within 0 1000000 numbers.min_fee_a) _ settings k.2 in
    let fee_b = on_the_way (within 0 1000000000000 numbers.min_fee_b) _ settings fee_a.2 in
    let utxo = on_the_way (within 0 1000000000000 numbers.min_utxo) _ settings fee_b.2 in
    let tx_size = on_the_way (within 1 65536 numbers.max_tx_size) _ settings utxo.2 in
    let body_size = on_the_way (within 1 1048000 numbers.max_body_size) _ settings tx_size.2 in
    let volatile = on_the_way (within 1 100000 numbers.max_volatile) _ settings body_size.2 in
    let mempool = on_the_way (within 1 100000 numbers.max_mempool) _ settings volatile.2 in
    let bytes = on_the_way (within_if 1 1099511627776 numbers.max_volatile_bytes) _ settings mempool.2 in
    let era = on_the_way (era_if_written numbers.second_era) _ settings bytes.2 in
    found ∙ ap (λ (s : Settings). Some s.params.network) (same_Some _ _ era.2)

-- ---- the outputs

address_told : (network n : ℕ) (entry : Entry) → Told faults.BadAddress (placed_of network entry) (address_spot network n entry)
address_told network n entry = told_unless faults.BadAddress (placed_of network entry) (homeless_spot n entry.lock) (by_lock entry.lock)
  where
    by_lock : (lock : Lock) → fault_of (homeless_spot n lock).trouble ≡ faults.BadAddress
    by_lock (ByAddress text) = refl
    by_lock (ByKey text) = refl

-- how much is granted
abbrev coin_of_grant : Grant → ℕ
coin_of_grant grant = grant.coin

-- what is granted, where it and this are less than 2^63
abbrev limited_after : ℕ → List Grant → Option (List Grant)
limited_after sum grants = if nat_lt (sum + sum_by coin_of_grant grants) number_limit then Some grants else None

-- one more coin, of this much
abbrev with_coin : Placed → ℕ → Grant
with_coin placed coin = record { address = placed.address; coin = coin }

-- what was found doesn't matter, only that something was
told_some : {X Y : Type 0} (fault : GenesisFault) (x : X) (y : Y) (spot : Option Spot) → Told fault (Some x) spot → Told fault (Some y) spot
told_some fault x y None told = tt
told_some fault x y (Some s) told = absurd told

told_if : {X Y : Type 0} (fault : GenesisFault) (b : Bool) (x : X) (y : Y) (spot : Option Spot) → Told fault (if b then Some x else None) spot → Told fault (if b then Some y else None) spot
told_if fault true x y spot told = told_some fault x y spot told
told_if fault false x y None told = absurd told
told_if fault false x y (Some s) told = told

-- the same grants are too much, whether a coin is counted before them or among them
counted_before : (sum coin : ℕ) (g : Grant) (found : Option (List Grant)) (spot : Option Spot) → g.coin ≡ coin → Told faults.BadCoin (found >>= limited_after (sum + coin)) spot → Told faults.BadCoin ((found >>= λ gs. Some (g ∷ gs)) >>= limited_after sum) spot
counted_before sum coin g None None is told = absurd told
counted_before sum coin g None (Some s) is told = told
counted_before sum coin g (Some gs) spot is told =
    let total : (sum + coin) + sum_by coin_of_grant gs ≡ sum + sum_by coin_of_grant (g ∷ gs) = omega (arith, sum_by-cons coin_of_grant g gs, is) in
    let same : nat_lt ((sum + coin) + sum_by coin_of_grant gs) number_limit ≡ nat_lt (sum + sum_by coin_of_grant (g ∷ gs)) number_limit = ap (λ (n : ℕ). nat_lt n number_limit) total in
    let P : Bool → Type 0 = λ b. Told faults.BadCoin (if b then Some (g ∷ gs) else None) spot in
    subst P same (told_if faults.BadCoin (nat_lt ((sum + coin) + sum_by coin_of_grant gs) number_limit) gs (g ∷ gs) spot told)

-- with a coin that is too much, all are
past_limit : (sum coin : ℕ) (g : Grant) (found : Option (List Grant)) → g.coin ≡ coin → number_limit ≤ sum + coin → ((found >>= λ gs. Some (g ∷ gs)) >>= limited_after sum) ≡ None
past_limit sum coin g None is past = refl
past_limit sum coin g (Some gs) is past =
    let total : number_limit ≤ sum + sum_by coin_of_grant (g ∷ gs) = omega (arith, sum_by-cons coin_of_grant g gs, is, past) in
    let test : nat_lt (sum + sum_by coin_of_grant (g ∷ gs)) number_limit ≡ false = grind (arith, nat_tests) in
    let P : Bool → Option (List Grant) = λ b. if b then Some (g ∷ gs) else None in
    ap P test

none_kept : (sum : ℕ) → sum ≤ greatest_number → limited_after sum [] ≡ Some []
none_kept sum le = grind (arith, nat_tests)

coin_placed : (network : ℕ) (entry : Entry) (placed : Placed) → placed_of network entry ≡ Some placed → placed.coin ≡ entry.coin
coin_placed network entry placed is =
    let found = on_the_way (address_of_lock network entry.lock) _ placed is in
    ap (λ (p : Placed). p.coin) (sym (same_Some _ _ found.2))

granted : (placed : Placed) (coin : ℤ) (found : Option ℕ) → placed.coin ≡ coin → within 1 greatest_number coin ≡ found → grant_of placed ≡ (found >>= λ c. Some (with_coin placed c))
granted placed coin found same is = rw (same, is) refl

at_most : (n : ℕ) → nat_le n greatest_number ≡ true → n ≤ greatest_number
at_most n is = grind (arith, nat_tests)

more_than : (n : ℕ) → nat_le n greatest_number ≡ false → number_limit ≤ n
more_than n is = grind (arith, nat_tests)

coins_told : (network sum n : ℕ) (entries : List Entry) (placed : List Placed) → sum ≤ greatest_number → each (placed_of network) entries ≡ Some placed → Told faults.BadCoin (each grant_of placed >>= limited_after sum) (coin_spot sum n entries)
coins_told network sum n [] placed le is =
    let none : [] ≡ placed = same_Some _ _ is in
    let P : List Placed → Type 0 = λ ps. Told faults.BadCoin (each grant_of ps >>= limited_after sum) None in
    let Q : Option (List Grant) → Type 0 = λ found. Told faults.BadCoin found None in
    subst P none (subst Q (sym (none_kept sum le)) tt)
coins_told network sum n (e ∷ es) placed le is =
    let (p, here, after) = on_the_way (placed_of network e) _ placed is in
    let (ps, there, made) = on_the_way (each (placed_of network) es) _ placed after in
    let P : List Placed → Type 0 = λ xs. Told faults.BadCoin (each grant_of xs >>= limited_after sum) (coin_spot sum n (e ∷ es)) in
    subst P (same_Some _ _ made) (by_coin p ps (coin_placed network e p here) (λ coin le. coins_told network (sum + coin) (n + 1) es ps le there) (within 1 greatest_number e.coin) refl)
  where
    -- what is told of the others, after a coin
    Others : List Placed → ℕ → Type 0
    Others ps coin = Told faults.BadCoin (each grant_of ps >>= limited_after (sum + coin)) (coin_spot (sum + coin) (n + 1) es)

    by_limit : (p : Placed) (ps : List Placed) (coin : ℕ) → (sum + coin ≤ greatest_number → Others ps coin) → (b : Bool) → nat_le (sum + coin) greatest_number ≡ b
        → Told faults.BadCoin ((each grant_of ps >>= λ gs. Some (with_coin p coin ∷ gs)) >>= limited_after sum) (option_map (in_output n (codes "coin")) (if b then None else Some TooMuch) or coin_spot (sum + coin) (n + 1) es)
    by_limit p ps coin others true test = counted_before sum coin (with_coin p coin) (each grant_of ps) _ refl (others (at_most (sum + coin) test))
    by_limit p ps coin others false test =
        let Q : Option (List Grant) → Type 0 = λ found. Told faults.BadCoin found (Some (in_output n (codes "coin") TooMuch)) in
        subst Q (sym (past_limit sum coin (with_coin p coin) (each grant_of ps) refl (more_than (sum + coin) test))) refl

    by_coin : (p : Placed) (ps : List Placed) → p.coin ≡ e.coin → ((coin : ℕ) → sum + coin ≤ greatest_number → Others ps coin) → (found : Option ℕ) → within 1 greatest_number e.coin ≡ found
        → Told faults.BadCoin (each grant_of (p ∷ ps) >>= limited_after sum) (option_map (in_output n (codes "coin")) (coin_trouble sum found) or coin_spot (sum + or_zero found) (n + 1) es)
    by_coin p ps same others None test =
        let Q : Option Grant → Type 0 = λ found. Told faults.BadCoin ((found >>= λ g. (each grant_of ps >>= λ gs. Some (g ∷ gs))) >>= limited_after sum) (Some (in_output n (codes "coin") NoCoin)) in
        subst Q (sym (granted p e.coin None same test)) refl
    by_coin p ps same others (Some coin) test =
        let Q : Option Grant → Type 0 = λ found. Told faults.BadCoin ((found >>= λ g. (each grant_of ps >>= λ gs. Some (g ∷ gs))) >>= limited_after sum) (option_map (in_output n (codes "coin")) (coin_trouble sum (Some coin)) or coin_spot (sum + coin) (n + 1) es) in
        subst Q (sym (granted p e.coin (Some coin) same test)) (by_limit p ps coin (others coin) (nat_le (sum + coin) greatest_number) refl)

limited_from_none : (found : Option (List Grant)) → (found >>= limited_after 0) ≡ (found >>= limited)
limited_from_none None = refl
limited_from_none (Some gs) =
    let total : 0 + sum_by coin_of_grant gs ≡ sum_by coin_of_grant gs = omega arith in
    ap (λ (n : ℕ). if nat_lt n number_limit then Some gs else None) total

grants_told : (network : ℕ) (entries : List Entry) (placed : List Placed) → each (placed_of network) entries ≡ Some placed → Told faults.BadCoin (grants_of placed) (coin_spot 0 0 entries)
unfolding grants_of
grants_told network entries placed is =
    let P : Option (List Grant) → Type 0 = λ found. Told faults.BadCoin found (coin_spot 0 0 entries) in
    subst P (limited_from_none (each grant_of placed)) (coins_told network 0 0 entries placed (omega arith) is)

-- ---- how many there are

each_length : {A B : Type 0} (f : A → Option B) (xs : List A) (ys : List B) → each f xs ≡ Some ys → length ys ≡ length xs
each_length f [] ys is = ap length (sym (same_Some _ _ is))
each_length f (x ∷ xs) ys is =
    let (y, here, after) = on_the_way (f x) _ ys is in
    let (zs, there, made) = on_the_way (each f xs) _ ys after in
    ap length (sym (same_Some _ _ made)) ∙ ap suc (each_length f xs zs there)

limited_same : (grants gs : List Grant) → limited grants ≡ Some gs → grants ≡ gs
limited_same grants gs is = (cond_some (nat_lt (sum_by coin_of_grant grants) number_limit) grants gs is).1

grants_length : (placed : List Placed) (grants : List Grant) → grants_of placed ≡ Some grants → length grants ≡ length placed
unfolding grants_of
grants_length placed grants is =
    let (gs, found, kept) = on_the_way (each grant_of placed) limited grants is in
    ap length (sym (limited_same gs grants kept)) ∙ each_length grant_of placed gs found

count_told : {X : Type 0} (n : ℕ) (x : X) → Told faults.BadOutputs (if nat_le 1 n && nat_le n 10000 then Some x else None) (count_spot n)
count_told n x = by_tests (nat_le n 0) (nat_le n 10000) refl refl
  where
    some : n ≤ 10000 → 1 ≤ n → (nat_le 1 n && nat_le n 10000) ≡ true
    some high low = grind (arith, nat_tests)

    by_tests : (none few : Bool) → nat_le n 0 ≡ none → nat_le n 10000 ≡ few → Told faults.BadOutputs (if nat_le 1 n && nat_le n 10000 then Some x else None) (if none then Some (in_document (codes "output") NoOutputs) else if few then None else Some (in_document (codes "output") TooMany))
    by_tests true few is_none is_few =
        let test : (nat_le 1 n && nat_le n 10000) ≡ false = grind (arith, nat_tests) in
        rw test refl
    by_tests false true is_none is_few =
        let test : (nat_le 1 n && nat_le n 10000) ≡ true = grind (arith, nat_tests) in
        rw test tt
    by_tests false false is_none is_few =
        let test : (nat_le 1 n && nat_le n 10000) ≡ false = grind (arith, nat_tests) in
        rw test refl

counted_told : (grants : List Grant) (entries : List Entry) → length grants ≡ length entries → Told faults.BadOutputs (counted grants) (count_spot (length entries))
counted_told grants entries same =
    let P : ℕ → Type 0 = λ n. Told faults.BadOutputs (counted grants) (count_spot n) in
    subst P same (count_told (length grants) grants)

-- ---- the whole

-- where the last stage finds something, nothing is told
tells_last : {X : Type 0} (fault : GenesisFault) (found : Option X) (f : X → Genesis) (spot : Option Spot) → Told fault found spot → TellsOf (or_fault fault found (λ x. Ok (f x))) spot
tells_last fault (Some x) f None told = tt
tells_last fault (Some x) f (Some s) told = absurd told
tells_last fault None f None told = absurd told
tells_last fault None f (Some s) told = told

judged_told : (written : Written) → TellsOf (judged written) (written_spot written)
unfolding judged written_spot
judged_told written =
    let numbers = range_spot (number_bounds written.numbers) in
    let bytes = range_spot (bytes_bounds written.numbers.max_volatile_bytes) in
    let era = range_spot (era_bounds written.numbers.second_era) in
    let P : Option Spot → Type 0 = λ spot. TellsOf (judged written) spot in
    subst P (or_assoc_twice numbers bytes era _)
    (tells_then faults.OutOfRange (settings_of written.numbers) _ _ _ (settings_told written.numbers) (λ settings is_settings.
    let network = settings.params.network in
    let Q : Option ℕ → Type 0 = λ found. TellsOf (or_fault faults.BadAddress (each (placed_of network) written.outputs) (λ placed.
    or_fault faults.BadCoin (grants_of placed) (λ grants. or_fault faults.BadOutputs (counted grants) (λ counted. Ok (genesis_with settings grants)))))
    ((found >>= λ n. first_found (address_spot n) 0 written.outputs) or (coin_spot 0 0 written.outputs or count_spot (length written.outputs))) in
    subst Q (sym (network_found written.numbers settings is_settings))
    (tells_then faults.BadAddress (each (placed_of network) written.outputs) _ _ _ (each_told faults.BadAddress (placed_of network) (address_spot network) (address_told network) 0 written.outputs) (λ placed is_placed.
    tells_then faults.BadCoin (grants_of placed) _ _ _ (grants_told network written.outputs placed is_placed) (λ grants is_grants.
    tells_last faults.BadOutputs (counted grants) (λ counted. genesis_with settings grants) _
    (counted_told grants written.outputs (grants_length placed grants is_grants ∙ each_length (placed_of network) written.outputs placed is_placed)))))))

-- WHAT IS TOLD OF A DOCUMENT
pub document_told : (document : Members) → TellsOf (fault_or_genesis document) (document_spot document)
unfolding document_spot
document_told document = by_written (written_in document) (shape_spot document) (shape_told document)
  where
    by_written : (found : Option Written) (spot : Option Spot) → Told faults.BadShape found spot → TellsOf (or_fault faults.BadShape found judged) (spot or (found >>= written_spot))
    by_written (Some written) None told = judged_told written
    by_written (Some written) (Some s) told = absurd told
    by_written None None told = absurd told
    by_written None (Some s) told = told

-- the same of what the stages tell
module _ (document : Members) where
  pub told_as : (spot : Option Spot) → spot ≡ document_spot document → TellsOf (fault_or_genesis document) spot
  told_as spot is = subst (TellsOf (fault_or_genesis document)) (sym is) (document_told document)

  pub by_shape : (spot : Spot) → Some spot ≡ shape_spot document → Some spot ≡ document_spot document
  unfolding document_spot
  by_shape spot is = rw (← is) refl

  pub by_written : (written : Written) (spot : Option Spot) → shape_spot document ≡ None → written_in document ≡ Some written → spot ≡ written_spot written → spot ≡ document_spot document
  unfolding document_spot
  by_written written spot none some is = rw (none, some) is

  pub by_neither : shape_spot document ≡ None → written_in document ≡ None → None ≡ document_spot document
  unfolding document_spot
  by_neither none nothing = rw (none, nothing) refl
