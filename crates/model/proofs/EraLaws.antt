-- What a second era changes, and what it leaves as it was.
use Rattle.std.proofs.Common.{◌≡◌, ℕ, suc, ◌+◌, ◌*◌, ◌<◌, ◌≤◌, Bool, true, false, List, [], ◌∷◌, Contains, Option, Some, None, Result, Err, refl, sym, ap, subst, ◌∙◌, arith, inl, inr}
use Rattle.std.specs.Prelude.{nat_le, if◌then◌else◌, option_and_then}
use Rattle.std.specs.List.{AllByRecursion, list_all}
use Rattle.std.specs.Option.{option_map_or}
use Rattle.std.specs.Result.{result_ok}
use Rattle.std.proofs.lemmas.Bool.{and_parts, and_from, leb-true, le-leb}
use Rattle.std.proofs.lemmas.Bool.Decides.{nat_tests}
use Rattle.model.specs.Transaction.{Output, Transaction}
use Rattle.model.specs.Signature.{Verifies}
use Rattle.model.specs.Utxo.{Utxo}
use Rattle.model.specs.Rules.{SecondEra, Params, Era, scaled_era, era_among, era_at, in_one_era, Reason, OutputTooSmall, passes, reasons, first_failing, asset_count, outputs_reach_minimum, reason_against}
use Rattle.model.specs.Genesis.{opening_utxo}
use Rattle.model.specs.Block.{Block}
use Rattle.model.specs.Ledger.{Network, network_in_one_era, Ledger, ledger_with, judged_in_order, ledger_after_block, ledger_from, ledger_of}
use Rattle.model.proofs.Lists.{nothing_contained, contains_first, contains_later, contains_cases}

-- ---- the era of a slot

chosen : (early late : Era) (b : Bool) → b ≡ false → (if b then late else early) ≡ early
chosen early late b is = ap (λ (b : Bool). if b then late else early) is

taken : (early late : Era) (b : Bool) → b ≡ true → (if b then late else early) ≡ late
taken early late b is = ap (λ (b : Bool). if b then late else early) is

module _ (params : Params) (second : SecondEra) (slot : ℕ) (given : params.second_era ≡ Some second) where
  among : era_at params slot ≡ era_among params (Some second) slot
  among = ap (λ (era : Option SecondEra). era_among params era slot) given

  era_before : slot < second.first_slot → era_at params slot ≡ era_at (in_one_era params) slot
  era_before before =
      let late : nat_le second.first_slot slot ≡ false = grind (arith, nat_tests) in
      among ∙ chosen (era_at (in_one_era params) slot) (scaled_era params second.per_asset) (nat_le second.first_slot slot) late

  pub era_from : second.first_slot ≤ slot → era_at params slot ≡ scaled_era params second.per_asset
  era_from begun =
      let late : nat_le second.first_slot slot ≡ true = grind (arith, nat_tests) in
      among ∙ taken (era_at (in_one_era params) slot) (scaled_era params second.per_asset) (nat_le second.first_slot slot) late

-- ---- before the second era

module _ (verifies : Verifies) (params : Params) (slot : ℕ) where
  -- the conditions, in whichever era
  abbrev passes_in : Utxo → Transaction → Era → Reason → Bool
  passes_in utxo t era OutputTooSmall = outputs_reach_minimum era t
  passes_in utxo t era r = passes verifies params utxo slot t r

  module _ (second : SecondEra) (given : params.second_era ≡ Some second) (before : slot < second.first_slot) where
    pub reason_before : (utxo : Utxo) (t : Transaction) → reason_against verifies params utxo slot t ≡ reason_against verifies (in_one_era params) utxo slot t
    unfolding reason_against
    reason_before utxo t = ap (λ (era : Era). first_failing (passes_in utxo t era) reasons) (era_before params second slot given before)

    judged_before : (ledger : Ledger) (index : ℕ) (ts : List Transaction) → judged_in_order verifies params slot ledger index ts ≡ judged_in_order verifies (in_one_era params) slot ledger index ts
    judged_before ledger index [] = refl
    judged_before ledger index (t ∷ ts) =
        ap (λ (r : Option Reason). option_map_or (λ reason. Err (index, reason)) r (judged_in_order verifies params slot (ledger_with ledger t) (suc index) ts)) (reason_before ledger.utxo t)
        ∙ ap (option_map_or (λ reason. Err (index, reason)) (reason_against verifies (in_one_era params) ledger.utxo slot t)) (judged_before (ledger_with ledger t) (suc index) ts)

then_alike : {A B : Type 0} (f g : A → Option B) → ((x : A) → f x ≡ g x) → (found : Option A) → option_and_then f found ≡ option_and_then g found
then_alike f g alike None = refl
then_alike f g alike (Some x) = alike x

module _ (network : Network) (second : SecondEra) (given : network.genesis.params.second_era ≡ Some second) where
  abbrev IsBefore : Block → Type 0
  IsBefore b = b.header.slot < second.first_slot

  blocks_before : (ledger : Ledger) (bs : List Block) → AllByRecursion IsBefore bs → ledger_from network ledger bs ≡ ledger_from (network_in_one_era network) ledger bs
  blocks_before ledger [] all = refl
  blocks_before ledger (b ∷ bs) all =
      ap (λ (judged : Result Ledger (ℕ × Reason)). option_and_then (λ after. ledger_from network after bs) (result_ok judged)) (judged_before network.verifies network.genesis.params b.header.slot second given all.0 ledger 0 b.transactions)
      ∙ then_alike (λ after. ledger_from network after bs) (λ after. ledger_from (network_in_one_era network) after bs) (λ after. blocks_before after bs all.1) (ledger_after_block (network_in_one_era network) ledger b)

  pub ledger_before : (chain : List Block) → AllByRecursion IsBefore chain → ledger_of network chain ≡ ledger_of (network_in_one_era network) chain
  unfolding opening_utxo
  ledger_before chain all = blocks_before (record { utxo = opening_utxo network.genesis; fees = 0 }) chain all

-- ---- in the second era

module _ {X : Type 0} (least coin : X → ℕ) where
  -- each has at least what is asked of it
  each_at_least : (xs : List X) → list_all (λ x. nat_le (least x) (coin x)) xs ≡ true → (x : X) → Contains xs x → least x ≤ coin x
  each_at_least [] all x member = absurd (nothing_contained x member)
  each_at_least (y ∷ ys) all x member =
      let parts = and_parts (nat_le (least y) (coin y)) (list_all (λ x. nat_le (least x) (coin x)) ys) all in
      elim (contains_cases y ys x member) [
        | inl here ↦ subst (λ (z : X). least z ≤ coin z) here (leb-true (least y) (coin y) parts.0)
        | inr later ↦ each_at_least ys parts.1 x later
      ]

  all_at_least : (xs : List X) → ((x : X) → Contains xs x → least x ≤ coin x) → list_all (λ x. nat_le (least x) (coin x)) xs ≡ true
  all_at_least [] each = refl
  all_at_least (y ∷ ys) each =
      and_from (nat_le (least y) (coin y)) (list_all (λ x. nat_le (least x) (coin x)) ys) (le-leb (least y) (coin y) (each y (contains_first y ys)))
      (all_at_least ys (λ x later. each x (contains_later y ys x later)))

module _ (params : Params) (second : SecondEra) (slot : ℕ) (given : params.second_era ≡ Some second) (begun : second.first_slot ≤ slot) (t : Transaction) where
  abbrev asked : Output → ℕ
  asked o = params.min_utxo + second.per_asset * asset_count o

  abbrev held : Output → ℕ
  held o = o.value.coin

  tested : outputs_reach_minimum (era_at params slot) t ≡ list_all (λ o. nat_le (asked o) (held o)) t.outputs
  tested = ap (λ (era : Era). outputs_reach_minimum era t) (era_from params second slot given begun)

  pub asked_in : outputs_reach_minimum (era_at params slot) t ≡ true → (o : Output) → Contains t.outputs o → asked o ≤ held o
  asked_in reach = each_at_least asked held t.outputs (sym tested ∙ reach)

  pub asked_of_all : ((o : Output) → Contains t.outputs o → asked o ≤ held o) → outputs_reach_minimum (era_at params slot) t ≡ true
  asked_of_all each = tested ∙ all_at_least asked held t.outputs each
