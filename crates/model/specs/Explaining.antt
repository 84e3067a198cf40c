-- What a reason against a transaction is about: with each of the fourteen, the first thing that breaks its condition,
-- and the two numbers that were compared where there are two (this project's own).
use Rattle.std.specs.Prelude.{◌≡◌, ◌≢◌, ℕ, ℤ, Bool, true, false, not, is_some, nat_le, ◌==◌, List, length}
use Rattle.std.specs.Prelude.{take, slice_get, Option, Some, None}
use Rattle.std.specs.List.{list_all}
use Rattle.std.specs.Ordering.{nat_cmp, ordering_then}
use Rattle.std.specs.declared.cmp.Ordering.{Ordering}
use Rattle.std.specs.declared.cmp.Ordering.TheVariants.{Less, Equal, Greater}
use Rattle.std.specs.Cmp.Lexicographic.{slice_cmp}
use Rattle.model.specs.Script.{Script, script_hash_of, holds}
use Rattle.model.specs.Value.{Asset, Ada, Named}
use Rattle.model.specs.Transaction.{Input, Output, KeyWitness, Transaction, interval_of_transaction}
use Rattle.model.specs.Transaction.{size_of, transaction_id_of}
use Rattle.model.specs.Signature.{Verifies}
use Rattle.model.specs.Utxo.{Utxo, output_at, new_pairs}
use Rattle.model.specs.Balance.{consumed, produced}
use Rattle.model.specs.Rules.{Params, Reason, era_at, min_fee, least_coin, is_among, keys_needed, scripts_needed}
use Rattle.model.specs.Rules.{keys_of, scripts_of, reason_against}
use Rattle.model.specs.Rules as rules

-- a reason, with what it is about
pub data Detail : Type 0 where
  OutsideInterval : (slot : ℕ) (start end : Option ℕ) → Detail
  NoInputs : Detail
  TooBig : (size most : ℕ) → Detail  -- in bytes
  FeeTooSmall : (fee least : ℕ) → Detail  -- in lovelace
  MissingInput : Input → Detail
  OutputTooSmall : (index coin least : ℕ) → Detail  -- outputs are counted from 0 on; in lovelace
  WrongNetwork : (index : ℕ) → Detail
  NotBalanced : Asset → (sum_in sum_out : ℤ) → Detail  -- how much of it is consumed, and how much is produced
  OutputExists : (index : ℕ) → Detail
  BadSignature : (key : List ℕ) → Detail
  MissingKeyWitness : (hash : List ℕ) → Detail
  MissingScript : (hash : List ℕ) → Detail
  ExtraScript : (hash : List ℕ) → Detail
  ScriptFails : (hash : List ℕ) → Detail

-- the reason alone
abbrev pub reason_of_detail : Detail → Reason
reason_of_detail (OutsideInterval slot start end) = rules.OutsideInterval
reason_of_detail NoInputs = rules.NoInputs
reason_of_detail (TooBig size most) = rules.TooBig
reason_of_detail (FeeTooSmall fee least) = rules.FeeTooSmall
reason_of_detail (MissingInput input) = rules.MissingInput
reason_of_detail (OutputTooSmall index coin least) = rules.OutputTooSmall
reason_of_detail (WrongNetwork index) = rules.WrongNetwork
reason_of_detail (NotBalanced asset sum_in sum_out) = rules.NotBalanced
reason_of_detail (OutputExists index) = rules.OutputExists
reason_of_detail (BadSignature key) = rules.BadSignature
reason_of_detail (MissingKeyWitness hash) = rules.MissingKeyWitness
reason_of_detail (MissingScript hash) = rules.MissingScript
reason_of_detail (ExtraScript hash) = rules.ExtraScript
reason_of_detail (ScriptFails hash) = rules.ScriptFails

-- ---- the first that fails

-- it stands at this index of the list, counted from 0 on, and fails the test, which all before it pass
pub record IsFailingAt {X : Type 0} (test : X → Bool) (xs : List X) (index : ℕ) (x : X) : Type 0 where
  pub there : slice_get xs index ≡ Some x
  pub fails : test x ≡ false
  pub first : list_all test (take index xs) ≡ true

-- it is the first of the list that fails the test
abbrev pub IsFirstFailing : {X : Type 0} → (X → Bool) → List X → X → Type 0
IsFirstFailing test xs x = (index : ℕ) × IsFailingAt test xs index x

-- ---- the first asset out of balance

-- which of two names comes first in the text of a value (RFC 8949, 4.2.1): the shorter one, and of one length by their
-- bytes
abbrev pub name_cmp : List ℕ → List ℕ → Ordering
name_cmp a b = ordering_then (nat_cmp (length a) (length b)) (slice_cmp nat_cmp a b)

-- which of two assets comes first: ada before the others, and these by policy, and of one policy by name
abbrev pub asset_cmp : Asset → Asset → Ordering
asset_cmp Ada Ada = Equal
asset_cmp Ada (Named policy name) = Less
asset_cmp (Named policy name) Ada = Greater
asset_cmp (Named policy name) (Named policy' name') =
    ordering_then (slice_cmp nat_cmp policy policy') (name_cmp name name')

-- not as much of it is consumed as is produced, but of each asset that comes before it as much is
pub record IsFirstUnbalanced (utxo : Utxo) (t : Transaction) (asset : Asset) : Type 0 where
  pub differs : consumed utxo t asset ≢ produced t asset
  pub first : (other : Asset) → asset_cmp other asset ≡ Less → consumed utxo t other ≡ produced t other

-- ---- what a detail says

-- What a detail names is so: what was compared are the numbers of the condition, and what it names is the first that
-- breaks it.
abbrev pub SaysSo : Verifies → Params → Utxo → (slot : ℕ) → Transaction → Detail → Type 0
SaysSo verifies params utxo slot t (OutsideInterval told start end) =
    (told ≡ slot) × (start ≡ t.start) × (end ≡ t.end)
SaysSo verifies params utxo slot t NoInputs = Unit {0}
SaysSo verifies params utxo slot t (TooBig size most) = (size ≡ size_of t) × (most ≡ params.max_tx_size)
SaysSo verifies params utxo slot t (FeeTooSmall fee least) = (fee ≡ t.fee) × (least ≡ min_fee params t)
SaysSo verifies params utxo slot t (MissingInput input) =
    IsFirstFailing (λ i. is_some (output_at utxo i)) t.inputs input
SaysSo verifies params utxo slot t (OutputTooSmall index coin least) =
    (o : Output) × IsFailingAt (λ x. nat_le (least_coin (era_at params slot) x) x.value.coin) t.outputs index o
    × (coin ≡ o.value.coin) × (least ≡ least_coin (era_at params slot) o)
SaysSo verifies params utxo slot t (WrongNetwork index) =
    (o : Output) × IsFailingAt (λ x. x.address.network == params.network) t.outputs index o
SaysSo verifies params utxo slot t (NotBalanced asset sum_in sum_out) =
    IsFirstUnbalanced utxo t asset × (sum_in ≡ consumed utxo t asset) × (sum_out ≡ produced t asset)
SaysSo verifies params utxo slot t (OutputExists index) =
    (p : Input × Output) × IsFailingAt (λ x. not (is_some (output_at utxo x.0))) (new_pairs t) index p
SaysSo verifies params utxo slot t (BadSignature key) =
    (w : KeyWitness)
    × IsFirstFailing (λ x. verifies x.key (transaction_id_of t) x.signature) t.signatures w × (key ≡ w.key)
SaysSo verifies params utxo slot t (MissingKeyWitness hash) =
    IsFirstFailing (is_among (keys_of t)) (keys_needed utxo t) hash
SaysSo verifies params utxo slot t (MissingScript hash) =
    IsFirstFailing (is_among (scripts_of t)) (scripts_needed utxo t) hash
SaysSo verifies params utxo slot t (ExtraScript hash) =
    IsFirstFailing (is_among (scripts_needed utxo t)) (scripts_of t) hash
SaysSo verifies params utxo slot t (ScriptFails hash) =
    (s : Script) × IsFirstFailing (holds (keys_of t) (interval_of_transaction t)) t.scripts s
    × (hash ≡ script_hash_of s)

-- DETAIL OF A REASON (this project's own)
-- It tells the reason against a transaction, at a slot and on a UTXO, and what it names is so.
pub record IsDetail (verifies : Verifies) (params : Params) (utxo : Utxo) (slot : ℕ) (t : Transaction)
    (detail : Detail) : Type 0 where
  pub reason : reason_against verifies params utxo slot t ≡ Some (reason_of_detail detail)
  pub so : SaysSo verifies params utxo slot t detail

-- there is no reason against the transaction where none is told, and else that is its detail
abbrev pub Explains : Verifies → Params → Utxo → (slot : ℕ) → Transaction → Option Detail → Type 0
Explains verifies params utxo slot t None = reason_against verifies params utxo slot t ≡ None
Explains verifies params utxo slot t (Some detail) = IsDetail verifies params utxo slot t detail
