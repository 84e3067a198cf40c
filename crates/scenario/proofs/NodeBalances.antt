-- What an index tells of its keys, beside the ledger of the selected chain.
use Rattle.std.proofs.Common.{◌≡◌, ℕ, Bool, true, false, ◌||◌, List, [], ◌∷◌, map, Contains, inl, inr, refl, sym, ap, subst, ◌∙◌}
use Rattle.std.specs.List.{list_any}
use Rattle.std.specs.FinSet as set
use Rattle.std.specs.Ordering.{eq_by_cmp, is_eq}
use Rattle.std.specs.Cmp.{tied_itself}
use Rattle.std.proofs.lemmas.Cmp.{nat_list_cmp_total}
use Rattle.model.specs.Transaction.{Address, Output, address_bytes}
use Rattle.model.specs.Utxo.{Utxo}
use Rattle.model.proofs.Lists.{nothing_contained, contains_first, contains_later, contains_cases}
use Rattle.watching.specs.Owned.{owner_cmp}
use Rattle.watching.specs.Which.{Which}
use Rattle.watching.specs.Settled.{WatchesAddress, IndexIsTheNodes}
use Rattle.script.specs.Names.{Named}
use Rattle.script.specs.Line.{OwnedByKey}
use Rattle.scenario.specs.Balances.{outputs_of_address, IsBalanceText}
use Rattle.scenario.specs.Indexes.{outputs_of_keys, AreBalancesText, BalancesAreTheNodes}

-- ---- the address of each key is watched

or_true : (a b : Bool) → b ≡ true → (a || b) ≡ true
or_true true b is = refl
or_true false b is = is

one_passes : (keys : List (Named Address)) (key : Named Address) → Contains keys key → list_any (eq_by_cmp owner_cmp (address_bytes key.bound)) (map (λ k. address_bytes k.bound) keys) ≡ true
one_passes [] key member = absurd (nothing_contained key member)
one_passes (k ∷ ks) key member =
    let rest = list_any (eq_by_cmp owner_cmp (address_bytes key.bound)) (map (λ (n : Named Address). address_bytes n.bound) ks) in
    elim (contains_cases k ks key member) [
      | inl same ↦
          let tied : eq_by_cmp owner_cmp (address_bytes key.bound) (address_bytes k.bound) ≡ true =
          subst (λ (n : Named Address). eq_by_cmp owner_cmp (address_bytes key.bound) (address_bytes n.bound) ≡ true) (sym same) (ap is_eq (tied_itself nat_list_cmp_total (address_bytes key.bound))) in
          ap (λ (b : Bool). b || rest) tied
      | inr later ↦ or_true (eq_by_cmp owner_cmp (address_bytes key.bound) (address_bytes k.bound)) rest (one_passes ks key later)
    ]

key_watched : (keys : List (Named Address)) (key : Named Address) → Contains keys key → WatchesAddress (outputs_of_keys keys) key.bound
key_watched keys key member = set.contains-from_list nat_list_cmp_total (map (λ k. address_bytes k.bound) keys) (address_bytes key.bound) ∙ one_passes keys key member

-- ---- what is printed

same_texts : (a b : Utxo) (keys : List (Named Address)) → ((key : Named Address) → Contains keys key → outputs_of_address key.bound a ≡ outputs_of_address key.bound b) → (out : List ℕ) → AreBalancesText a keys out → AreBalancesText b keys out
same_texts a b [] same out text = text
same_texts a b (k ∷ ks) same out (first, rest, is, others, whole) = (
  first,
  rest,
  subst (λ (os : List Output). IsBalanceText os (OwnedByKey k.name) first) (same k (contains_first k ks)) is,
  same_texts a b ks (λ key member. same key (contains_later k ks key member)) rest others,
  whole,
)

pub balances_are_the_nodes : IndexIsTheNodes → BalancesAreTheNodes
balances_are_the_nodes law network history state id at theorem beside nothing_left =
    let of_node = law network history state at.index (record { theorem = theorem; id = id; follower = beside.follower; is_open = beside.is_open; followed = beside.followed; nothing_left = nothing_left }) in
    let of_key : (key : Named Address) → Contains at.keys key → outputs_of_address key.bound at.index.last.tables.outputs ≡ outputs_of_address key.bound of_node.ledger.utxo =
    λ key member. of_node.of_address key.bound (subst (λ (which : Which). WatchesAddress which key.bound) (sym beside.of_keys) (key_watched at.keys key member)) in
    record {
      ledger = of_node.ledger;
      is_ledger = of_node.is_ledger;
      of_key = of_key;
      printed = same_texts at.index.last.tables.outputs of_node.ledger.utxo at.keys of_key;
    }
