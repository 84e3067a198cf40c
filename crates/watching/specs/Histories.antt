-- Which transactions spent from an owner or paid to it, and where each was put onto a chain.
use Rattle.std.specs.Prelude.{ℕ, Bool, ◌||◌, List, [], ◌∷◌, ◌++◌, map, unwrap_or, Some, ◌≡◌, ◌<◌, refl}
use Rattle.std.specs.Coded.{Coded, code_by, coded×, coded_ℕ}
use Rattle.std.specs.List.{list_any}
use Rattle.std.specs.FinMap as finite
use Rattle.std.specs.Ordering.{nat_cmp, ordering_then}
use Rattle.std.specs.declared.cmp.Ordering.{Ordering}
use Rattle.model.specs.Transaction.{Transaction, Output, address_bytes}
use Rattle.model.specs.Utxo.{Utxo, spent_outputs}
use Rattle.model.specs.Block.{Header}
use Rattle.watching.specs.Owned.{owner_cmp}
use Rattle.watching.specs.Which.{Which, is_all, is_watched, watched_outputs}

-- where a transaction was put onto a chain: the number and the slot of its block, and its place in that, counted from 0
pub record Inclusion : Type 0 where
  pub number : ℕ
  pub slot : ℕ
  pub index : ℕ

-- that of the transaction of this index in a block
abbrev pub inclusion_in : Header → (index : ℕ) → Inclusion
inclusion_in header index = record { number = header.number; slot = header.slot; index = index }

-- the later one comes first
abbrev pub inclusion_cmp : Inclusion → Inclusion → Ordering
inclusion_cmp a b =
    ordering_then (nat_cmp b.number a.number) (ordering_then (nat_cmp b.slot a.slot) (nat_cmp b.index a.index))

abbrev pub coded_inclusion : Coded Inclusion
coded_inclusion =
    code_by (ℕ × (ℕ × ℕ)) (coded× coded_ℕ (coded× coded_ℕ coded_ℕ)) (λ m. (m.number, (m.slot, m.index)))
    (λ p. record { number = p.0; slot = p.1.0; index = p.1.1 })
    (λ _. refl)

-- the identifiers of transactions by their inclusions, the newest first
abbrev pub History : Type 0
History = finite.FinMap inclusion_cmp (List ℕ)

-- the history of each owner that has one
abbrev pub Histories : Type 0
Histories = finite.FinMap owner_cmp History

abbrev pub history_at : Histories → (owner : List ℕ) → History
history_at histories owner = unwrap_or (finite.get histories owner) finite.empty

-- no owner has an empty history
abbrev pub NoneEmpty : Histories → Type 0
NoneEmpty histories =
    (owner : List ℕ) (history : History) → finite.get histories owner ≡ Some history → 0 < finite.len history

-- with a transaction in the history of an owner
abbrev pub with_entry : Inclusion → (id : List ℕ) → (owner : List ℕ) → Histories → Histories
with_entry inclusion id owner histories =
    finite.insert histories owner (finite.insert (history_at histories owner) inclusion id)

-- and in that of each of these; it stands there once, however often an owner is among them
abbrev pub with_entries : Inclusion → (id : List ℕ) → (owners : List (List ℕ)) → Histories → Histories
with_entries inclusion id [] histories = histories
with_entries inclusion id (o ∷ os) histories = with_entries inclusion id os (with_entry inclusion id o histories)

-- whose an output is, and whose these are
abbrev pub owner_of : Output → List ℕ
owner_of o = address_bytes o.address

abbrev pub owners_of : List Output → List (List ℕ)
owners_of outputs = map owner_of outputs

-- whose watched outputs a transaction spends and makes. An output that another one replaces isn't spent; on a valid
-- chain none is replaced.
abbrev pub owners_in : Which → Utxo → Transaction → List (List ℕ)
owners_in which utxo t =
    owners_of (watched_outputs which (spent_outputs utxo t)) ++ owners_of (watched_outputs which t.outputs)

-- the transaction spends a watched output or makes one; or all outputs are watched, whatever it does
abbrev pub is_told : Which → Utxo → Transaction → Bool
is_told which utxo t =
    is_all which || (list_any (is_watched which) (spent_outputs utxo t) || list_any (is_watched which) t.outputs)

-- identifiers are ordered by their bytes
abbrev pub id_cmp : List ℕ → List ℕ → Ordering
id_cmp = owner_cmp

-- the inclusion of each transaction
abbrev pub Inclusions : Type 0
Inclusions = finite.FinMap id_cmp Inclusion
