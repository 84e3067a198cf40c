-- What an index keeps of transactions is what its chain tells.
use Rattle.std.proofs.Common.{◌≡◌, ℕ, suc, ◌<◌, ◌≤◌, Bool, true, false, cond, ◌||◌, List, [], ◌∷◌, ◌++◌, reverse, Option, Some, None, refl, sym, ap, subst, ◌∙◌, arith, append_assoc, append-nil}
use Rattle.std.proofs.lemmas.List.{reverse-append}
use Rattle.std.specs.Bool.{one_answer}
use Rattle.std.specs.Prelude.{if◌then◌else◌, bytes_eq, unwrap_or, nat_eq}
use Rattle.std.specs.List.{list_any}
use Rattle.std.specs.FinMap as finite
use Rattle.std.specs.FinMap.{put}
use Rattle.std.specs.FinMap.Entries.{by_order}
use Rattle.std.specs.Ordering.{eq_by_cmp, is_eq, nat_cmp, ordering_then}
use Rattle.std.specs.declared.cmp.Ordering.{Ordering}
use Rattle.std.specs.declared.cmp.Ordering.TheVariants.{Less, Equal}
use Rattle.std.specs.Cmp.{tied_itself, nat_cmp_is}
use Rattle.std.proofs.lemmas.Bool.{false_from_ne_true}
use Rattle.std.proofs.lemmas.Slice.Eq.{bytes_eq-Decides}
use Rattle.model.specs.Transaction.{Transaction, transaction_id_of}
use Rattle.model.specs.Utxo.{Utxo, utxo_after}
use Rattle.model.specs.Mempool.{utxo_after_all}
use Rattle.model.specs.Block.{Block, Header}
use Rattle.model.specs.Chain.{genesis_tip, IsLinked}
use Rattle.model.proofs.Chains.{linked_rest}
use Rattle.persistent_map.proofs.ForCallers.{empty_of}
use Rattle.watching.specs.Owned.{owner_cmp}
use Rattle.watching.specs.Histories.{Inclusion, inclusion_in, inclusion_cmp, History, Histories, Inclusions, history_at, with_entry, with_entries, owners_in, is_told}
use Rattle.watching.specs.Which.{Which, watched_among}
use Rattle.watching.specs.Chains.{Tables, tables_after, tables_after_all, Version, version_after, version_after_all, first_version, unspent_of}
use Rattle.watching.specs.Told.{Entry, entry_if, entries_in, entries_of, concerns, or_first, last_of, HistoriesAreTheChains, InclusionsAreTheChains}
use Rattle.watching.proofs.Owning.{owners_total}
use Rattle.watching.proofs.Entering.{inclusions_total, inclusions_same, same_owner, at_history, history_set, entered}
use Rattle.watching.proofs.Following.{outputs_after}
use Rattle.watching.proofs.Narrowing.{after_watched, same_owners, same_told}

-- ---- one owner of those for whom a transaction is entered

twice : (t : Bool) (x : List ℕ) (r : Option (List ℕ)) → cond t (Some x) (cond t (Some x) r) ≡ cond t (Some x) r
twice true x r = refl
twice false x r = refl

inserted_twice : (h : History) (m : Inclusion) (id : List ℕ) → finite.insert (finite.insert h m id) m id ≡ finite.insert h m id
inserted_twice h m id = finite.same_map inclusions_total inclusions_same (finite.insert (finite.insert h m id) m id) (finite.insert h m id) (λ q.
    finite.get-insert inclusions_total (finite.insert h m id) m id q
    ∙ ap (λ (r : Option (List ℕ)). cond (eq_by_cmp inclusion_cmp q m) (Some id) r) (finite.get-insert inclusions_total h m id q)
    ∙ twice (eq_by_cmp inclusion_cmp q m) id (finite.get h q)
    ∙ sym (finite.get-insert inclusions_total h m id q))

abbrev seen_with : Inclusion → List ℕ → Bool → History → History
seen_with m id t h = if t then finite.insert h m id else h

entry_seen : (m : Inclusion) (id o : List ℕ) (hs : Histories) (q : List ℕ) → history_at (with_entry m id o hs) q ≡ seen_with m id (bytes_eq q o) (history_at hs q)
entry_seen m id o hs q =
    let more = finite.insert (history_at hs o) m id in
    elim (eq_by_cmp owner_cmp q o) as (λ t. eq_by_cmp owner_cmp q o ≡ t → history_at (with_entry m id o hs) q ≡ seen_with m id (bytes_eq q o) (history_at hs q)) [
      | true ↦ λ tie.
          let is : q ≡ o = same_owner q o tie in
          ap (history_at (with_entry m id o hs)) is ∙ ap (λ (w : Histories). history_at w o) (sym (entered m id o hs)) ∙ history_set hs o more
          ∙ ap (λ (w : List ℕ). finite.insert (history_at hs w) m id) (sym is)
          ∙ ap (λ (t : Bool). seen_with m id t (history_at hs q)) (sym ((bytes_eq-Decides q o).1 is))
      | false ↦ λ other.
          let apart : bytes_eq q o ≡ false = false_from_ne_true (bytes_eq q o) (λ same.
          let is : q ≡ o = (bytes_eq-Decides q o).0 same in
          let tie : eq_by_cmp owner_cmp q o ≡ true = subst (λ (x : List ℕ). eq_by_cmp owner_cmp q x ≡ true) is (ap is_eq (tied_itself owners_total q)) in
          let clash : true ≡ false = sym tie ∙ other in
          cc) in
          ap (λ (w : Histories). history_at w q) (sym (entered m id o hs))
          ∙ ap (λ (r : Option History). unwrap_or r finite.empty) (at_history hs o more q)
          ∙ ap (λ (t : Bool). unwrap_or (cond t (if nat_eq (finite.len more) 0 then None else Some more) (finite.get hs q)) finite.empty) other
          ∙ ap (λ (t : Bool). seen_with m id t (history_at hs q)) (sym apart)
    ] refl

either_entered : (m : Inclusion) (id : List ℕ) (a b : Bool) (h : History) → seen_with m id b (seen_with m id a h) ≡ seen_with m id (a || b) h
either_entered m id true true h = inserted_twice h m id
either_entered m id true false h = refl
either_entered m id false b h = refl

entries_seen : (m : Inclusion) (id : List ℕ) (os : List (List ℕ)) (hs : Histories) (q : List ℕ) → history_at (with_entries m id os hs) q ≡ seen_with m id (list_any (bytes_eq q) os) (history_at hs q)
entries_seen m id [] hs q = refl
entries_seen m id (o ∷ os) hs q =
    entries_seen m id os (with_entry m id o hs) q
    ∙ ap (seen_with m id (list_any (bytes_eq q) os)) (entry_seen m id o hs q)
    ∙ either_entered m id (bytes_eq q o) (list_any (bytes_eq q) os) (history_at hs q)

-- ---- the newest first

abbrev Entries : Type 0
Entries = List Entry

-- the inclusion is later than those of these entries, the newest first
abbrev IsNewer : Inclusion → Entries → Type 0
IsNewer m [] = Unit {0}
IsNewer m (e ∷ es) = inclusion_cmp m e.0 ≡ Less

-- none of these entries is of a block after that of this number
abbrev AreUpTo : ℕ → Entries → Type 0
AreUpTo n [] = Unit {0}
AreUpTo n (e ∷ es) = e.0.number ≤ n

less_is : (x y : ℕ) → x < y → nat_cmp x y ≡ Less
less_is x y lt = sym (nat_cmp_is x y Less lt)

equal_is : (x : ℕ) → nat_cmp x x ≡ Equal
equal_is x = sym (nat_cmp_is x x Equal refl)

later_index : (h : Header) (i : ℕ) → inclusion_cmp (inclusion_in h (suc i)) (inclusion_in h i) ≡ Less
later_index h i =
    ap (λ (r : Ordering). ordering_then r (ordering_then (nat_cmp h.slot h.slot) (nat_cmp i (suc i)))) (equal_is h.number)
    ∙ ap (λ (r : Ordering). ordering_then r (nat_cmp i (suc i))) (equal_is h.slot)
    ∙ less_is i (suc i) (omega arith)

later_block : (m : Inclusion) (e : Inclusion) → e.number < m.number → inclusion_cmp m e ≡ Less
later_block m e lt = ap (λ (r : Ordering). ordering_then r (ordering_then (nat_cmp e.slot m.slot) (nat_cmp e.index m.index))) (less_is e.number m.number lt)

newer_in_block : (h : Header) (i : ℕ) (older : Entries) → IsNewer (inclusion_in h i) older → IsNewer (inclusion_in h (suc i)) older
newer_in_block h i [] newer = tt
newer_in_block h i (e ∷ es) newer = inclusions_total.trans (inclusion_in h (suc i)) (inclusion_in h i) e.0 (later_index h i) newer

newer_block : (h : Header) (n : ℕ) (older : Entries) → n < h.number → AreUpTo n older → IsNewer (inclusion_in h 0) older
newer_block h n [] lt up = tt
newer_block h n (e ∷ es) lt up = later_block (inclusion_in h 0) e.0 (omega (arith, lt, up))

up_to_more : (n m : ℕ) (older : Entries) → n ≤ m → AreUpTo n older → AreUpTo m older
up_to_more n m [] le up = tt
up_to_more n m (e ∷ es) le up = omega (arith, le, up)

put_first : (m : Inclusion) (id : List ℕ) (older : Entries) → IsNewer m older → put inclusion_cmp m id older ≡ (m, id) ∷ older
put_first m id [] newer = refl
put_first m id (e ∷ es) newer = ap (λ (r : Ordering). by_order r ((m, id) ∷ e ∷ es) ((e.0, id) ∷ es) (e ∷ put inclusion_cmp m id es)) newer

-- ---- over a block

-- these entries are the history, and none of them is of this inclusion or a later one
record AreTold (h : History) (header : Header) (index : ℕ) (entries : Entries) : Type 0 where
  are : finite.entries h ≡ entries
  newer : IsNewer (inclusion_in header index) entries
  up : AreUpTo header.number entries

one_told : (t : Bool) (h after : History) (header : Header) (index : ℕ) (transaction : Transaction) (older : Entries) → after ≡ seen_with (inclusion_in header index) (transaction_id_of transaction) t h → AreTold h header index older
    → AreTold after header (suc index) (reverse (entry_if t header index transaction) ++ older)
one_told true h after header index transaction older is told =
    let m = inclusion_in header index in
    let id = transaction_id_of transaction in
    record {
      are = ap (λ (g : History). finite.entries g) is ∙ finite.entries-insert inclusions_total h m id ∙ ap (put inclusion_cmp m id) told.are ∙ put_first m id older told.newer;
      newer = later_index header index;
      up = omega arith;
    }
one_told false h after header index transaction older is told =
    record { are = ap (λ (g : History). finite.entries g) is ∙ told.are; newer = newer_in_block header index older told.newer; up = told.up }

-- what a block tells of an owner
record IsBlockTold (owner : List ℕ) (header : Header) (k : Tables) (entries : Entries) : Type 0 where
  are : finite.entries (history_at k.histories owner) ≡ entries
  up : AreUpTo header.number entries

-- the newer ones come before the older ones
turned : (xs ys older : Entries) → reverse ys ++ (reverse xs ++ older) ≡ reverse (xs ++ ys) ++ older
turned xs ys older = sym (append_assoc (reverse ys) (reverse xs) older) ∙ ap (λ (es : Entries). es ++ older) (sym (reverse-append xs ys))

block_told : (which : Which) (owner : List ℕ) (header : Header) (index : ℕ) (k : Tables) (u : Utxo) (ts : List Transaction) (older : Entries) → k.outputs ≡ watched_among which u → AreTold (history_at k.histories owner) header index older
    → IsBlockTold owner header (tables_after_all which header index k ts) (reverse (entries_in (concerns which owner) header index u ts) ++ older)
block_told which owner header index k u [] older is told = record { are = told.are; up = told.up }
block_told which owner header index k u (t ∷ ts) older is told =
    let m = inclusion_in header index in
    let id = transaction_id_of t in
    let next = tables_after which m k t in
    let own = entry_if (concerns which owner u t) header index t in
    let others = entries_in (concerns which owner) header (suc index) (utxo_after u t) ts in
    let seen = entries_seen m id (owners_in which k.outputs t) k.histories owner ∙ ap (λ (os : List (List ℕ)). seen_with m id (list_any (bytes_eq owner) os) (history_at k.histories owner)) (same_owners which t u k.outputs is) in
    let rest = block_told which owner header (suc index) next (utxo_after u t) ts (reverse own ++ older) (after_watched which t u k.outputs is)
    (one_told (concerns which owner u t) (history_at k.histories owner) (history_at next.histories owner) header index t older seen told) in
    subst (IsBlockTold owner header (tables_after_all which header (suc index) next ts)) (turned own others older) rest

-- ---- over a chain

chain_told : (which : Which) (owner : List ℕ) (v : Version) (u : Utxo) (bs : List Block) (older : Entries) → v.tables.outputs ≡ watched_among which u → IsLinked v.tip bs → finite.entries (history_at v.tables.histories owner) ≡ older → AreUpTo v.tip.number older
    → finite.entries (history_at (version_after_all which v bs).tables.histories owner) ≡ reverse (entries_of (concerns which owner) u bs) ++ older
chain_told which owner v u [] older is linked are up = are
chain_told which owner v u (b ∷ bs) older is linked are up =
    let n = linked.0.number in
    let next = version_after which v b in
    let after = utxo_after_all u b.transactions in
    let first : AreTold (history_at v.tables.histories owner) b.header 0 older = record {
      are = are;
      newer = newer_block b.header v.tip.number older (omega (arith, n)) up;
      up = up_to_more v.tip.number b.header.number older (omega (arith, n)) up;
    } in
    let block = block_told which owner b.header 0 v.tables u b.transactions older is first in
    let own = entries_in (concerns which owner) b.header 0 u b.transactions in
    chain_told which owner next after bs (reverse own ++ older) (outputs_after which b.header 0 v.tables u b.transactions is) linked.1 block.are block.up
    ∙ turned own (entries_of (concerns which owner) after bs) older

nothing_told : (owner : List ℕ) → finite.entries (history_at finite.empty owner) ≡ []
nothing_told owner =
    ap (λ (r : Option History). finite.entries (unwrap_or r finite.empty)) (finite.get-empty owner_cmp owner)
    ∙ ap (λ (h : History). finite.entries h) (sym (empty_of inclusion_cmp)) ∙ finite.entries-from_sorted inclusion_cmp [] tt

pub histories_are_its : HistoriesAreTheChains
histories_are_its granted past since w owner of =
    let which = w.which in
    ap (λ (v : Version). finite.entries (history_at v.tables.histories owner)) of.last
    ∙ chain_told which owner (first_version which granted past) (unspent_of granted past) since [] refl (linked_rest genesis_tip past since of.linked) (nothing_told owner) tt
    ∙ append-nil (reverse (entries_of (concerns which owner) (unspent_of granted past) since))

-- ---- where transactions were put on

or_again : (a b c : Option Inclusion) → or_first a (or_first b c) ≡ or_first (or_first a b) c
or_again None b c = refl
or_again (Some x) b c = refl

last_append : (id : List ℕ) (xs ys : Entries) → last_of id (xs ++ ys) ≡ or_first (last_of id ys) (last_of id xs)
last_append id [] ys = or_none (last_of id ys)
  where
    or_none : (o : Option Inclusion) → o ≡ or_first o None
    or_none None = refl
    or_none (Some x) = refl
last_append id (x ∷ xs) ys =
    let own : Option Inclusion = if bytes_eq x.1 id then Some x.0 else None in
    ap (λ (o : Option Inclusion). or_first o own) (last_append id xs ys) ∙ sym (or_again (last_of id ys) (last_of id xs) own)

-- one entry, where the transaction is told
told_as : (b : Bool) (m : Inclusion) (tid id : List ℕ) (old : Inclusions) → finite.get (if b then finite.insert old tid m else old) id ≡ or_first (last_of id (if b then (m, tid) ∷ [] else [])) (finite.get old id)
told_as true m tid id old =
    finite.get-insert owners_total old tid m id
    ∙ ap (λ (b : Bool). cond b (Some m) (finite.get old id)) (same_test id tid)
    ∙ either_way (bytes_eq tid id)
  where
    is_tied : (a b : List ℕ) → a ≡ b → owner_cmp a b ≡ Equal
    is_tied a b is = subst (λ (x : List ℕ). owner_cmp a x ≡ Equal) is (tied_itself owners_total a)

    same_test : (a b : List ℕ) → eq_by_cmp owner_cmp a b ≡ bytes_eq b a
    same_test a b = one_answer (eq_by_cmp owner_cmp a b) (bytes_eq b a) (λ tie. sym (same_owner a b tie), λ is. ap is_eq (is_tied a b (sym is))) (bytes_eq-Decides b a)

    either_way : (b : Bool) → cond b (Some m) (finite.get old id) ≡ or_first (if b then Some m else None) (finite.get old id)
    either_way true = refl
    either_way false = refl
told_as false m tid id old = refl

put_on : (which : Which) (header : Header) (index : ℕ) (k : Tables) (u : Utxo) (t : Transaction) (id : List ℕ) → k.outputs ≡ watched_among which u
    → finite.get (tables_after which (inclusion_in header index) k t).inclusions id ≡ or_first (last_of id (entry_if (is_told which u t) header index t)) (finite.get k.inclusions id)
put_on which header index k u t id is =
    told_as (is_told which k.outputs t) (inclusion_in header index) (transaction_id_of t) id k.inclusions
    ∙ ap (λ (b : Bool). or_first (last_of id (entry_if b header index t)) (finite.get k.inclusions id)) (same_told which t u k.outputs is)

block_put_on : (which : Which) (header : Header) (index : ℕ) (k : Tables) (u : Utxo) (ts : List Transaction) (id : List ℕ) → k.outputs ≡ watched_among which u
    → finite.get (tables_after_all which header index k ts).inclusions id ≡ or_first (last_of id (entries_in (is_told which) header index u ts)) (finite.get k.inclusions id)
block_put_on which header index k u [] id is = refl
block_put_on which header index k u (t ∷ ts) id is =
    let next = tables_after which (inclusion_in header index) k t in
    let own = entry_if (is_told which u t) header index t in
    let others = entries_in (is_told which) header (suc index) (utxo_after u t) ts in
    block_put_on which header (suc index) next (utxo_after u t) ts id (after_watched which t u k.outputs is)
    ∙ ap (or_first (last_of id others)) (put_on which header index k u t id is)
    ∙ or_again (last_of id others) (last_of id own) (finite.get k.inclusions id)
    ∙ ap (λ (o : Option Inclusion). or_first o (finite.get k.inclusions id)) (sym (last_append id own others))

chain_put_on : (which : Which) (v : Version) (u : Utxo) (bs : List Block) (id : List ℕ) → v.tables.outputs ≡ watched_among which u
    → finite.get (version_after_all which v bs).tables.inclusions id ≡ or_first (last_of id (entries_of (is_told which) u bs)) (finite.get v.tables.inclusions id)
chain_put_on which v u [] id is = refl
chain_put_on which v u (b ∷ bs) id is =
    let next = version_after which v b in
    let after = utxo_after_all u b.transactions in
    let own = entries_in (is_told which) b.header 0 u b.transactions in
    let others = entries_of (is_told which) after bs in
    chain_put_on which next after bs id (outputs_after which b.header 0 v.tables u b.transactions is)
    ∙ ap (or_first (last_of id others)) (block_put_on which b.header 0 v.tables u b.transactions id is)
    ∙ or_again (last_of id others) (last_of id own) (finite.get v.tables.inclusions id)
    ∙ ap (λ (o : Option Inclusion). or_first o (finite.get v.tables.inclusions id)) (sym (last_append id own others))

pub inclusions_are_its : InclusionsAreTheChains
inclusions_are_its granted past since w id of =
    let which = w.which in
    let told = last_of id (entries_of (is_told which) (unspent_of granted past) since) in
    ap (λ (v : Version). finite.get v.tables.inclusions id) of.last
    ∙ chain_put_on which (first_version which granted past) (unspent_of granted past) since id refl
    ∙ ap (or_first told) (finite.get-empty owner_cmp id)
    ∙ nothing_first told
  where
    nothing_first : (o : Option Inclusion) → or_first o None ≡ o
    nothing_first None = refl
    nothing_first (Some x) = refl
