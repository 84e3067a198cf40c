-- The answer for a text is the genesis that it says, or the least fault that applies.
use Rattle.std.proofs.Common.{◌≡◌, ℕ, ◌<◌, ◌≤◌, ◌&&◌, ℤ, pos, List, length, nat_le, Option, Some, None, Ok, Err, refl, sym, ap, subst, ◌∙◌, arith}
use Rattle.std.specs.Prelude.{◌≤ℤ◌, Result, sum_by}
use Rattle.std.specs.List.{AllByRecursion}
use Rattle.std.proofs.lemmas.Option.{same_Some, none-some, cond_some}
use Rattle.std.proofs.lemmas.Bool.Decides.{nat_tests}
use Rattle.std.proofs.lemmas.Int.{ints}
use Rattle.toml.specs.Data.{Members}
use Rattle.toml.specs.Parse.{parse_document}
use Rattle.model.specs.Limits.{number_limit}
use Rattle.model.specs.Genesis.{Genesis, Grant, IsWithin, IsGrant, IsGenesis}
use Rattle.genesis.specs.declared.genesis_fault.GenesisFault.{GenesisFault}
use Rattle.genesis.specs.declared.genesis_fault.GenesisFault.TheVariants as faults
use Rattle.genesis.specs.Steps.{each, Paired, or_fault, Gives}
use Rattle.genesis.specs.Document.{Numbers, Entry, Written, written_in}
use Rattle.genesis.specs.Judgement.{Settings, settings_of, Placed, placed_of, grants_of, counted, genesis_with, judged, genesis_of}
use Rattle.genesis.specs.Meaning.{number_of, Writes, AreInRange, HasAddress, HaveCoins, IsGrantOf, IsGenesisOf, WritesWithout, Applies, IsLeastFault, IsAnswer}
use Rattle.genesis.proofs.Steps.{paired_weaker, paired_first, paired_second, paired_through, paired_length}
use Rattle.genesis.proofs.Ranges.{AreFound, settings_found, found_in_range, found_params, settings_there}
use Rattle.genesis.proofs.Places.{IsFoundAt, IsPlacedOf, places_found, places_there}
use Rattle.genesis.proofs.Coins.{coin_of_grant, IsGranted, grants_found, same_sum, coins_there}

-- ---- the genesis

-- a grant beside the output that it is of
grant_of_entry : (network : ℕ) (entry : Entry) (placed : Placed) (grant : Grant) → IsPlacedOf network entry placed → IsGranted placed grant → IsGrantOf (pos network) entry grant × IsGrant network grant
grant_of_entry network entry placed grant place granted =
    let found : IsFoundAt network entry.lock grant.address = subst (IsFoundAt network entry.lock) (sym granted.address) place.address in
    (record { address = found.named; coin = place.coin ∙ granted.coin }, record { address = found.shape; on_network = found.on_network; something = granted.something })

-- what the stages found
pub record AreGranted (entries : List Entry) (settings : Settings) (grants : List Grant) : Type 0 where
  pub pairs : Paired (λ e g. IsGrantOf (pos settings.params.network) e g × IsGrant settings.params.network g) entries grants
  pub supply : sum_by coin_of_grant grants < number_limit

pub judged_so : (numbers : Numbers) (entries : List Entry) (settings : Settings) (placed : List Placed) (grants : List Grant) → AreFound numbers settings → each (placed_of settings.params.network) entries ≡ Some placed → grants_of placed ≡ Some grants → AreGranted entries settings grants
judged_so numbers entries settings placed grants found places granted =
    let network = settings.params.network in
    let below : network < 16 = omega (arith, found.network.within.not_above) in
    let (pairs, supply) = grants_found placed grants granted in
    record {
      pairs = paired_through (IsPlacedOf network) IsGranted _ entries placed grants (grant_of_entry network) (places_found network entries placed below places) pairs;
      supply = supply;
    }

pub whole_genesis : (numbers : Numbers) (entries : List Entry) (settings : Settings) (grants : List Grant) → AreFound numbers settings → AreGranted entries settings grants → IsWithin 1 10000 (length grants) → IsGenesis (genesis_with settings grants)
whole_genesis numbers entries settings grants found all count = record {
  ranges = found_params numbers settings found;
  k = found.k.within;
  max_volatile = found.max_volatile.within;
  max_volatile_bytes = found.max_volatile_bytes.within;
  max_mempool = found.max_mempool.within;
  each_grant = paired_second _ (IsGrant settings.params.network) entries grants (λ e g both. both.1) all.pairs;
  supply = all.supply;
  count = count;
}

-- what is written is what the genesis has
pub means_so : (written : Written) (settings : Settings) (grants : List Grant) → AreFound written.numbers settings → AreGranted written.outputs settings grants → IsGenesisOf written (genesis_with settings grants)
means_so written settings grants found all = record {
  network = found.network.same;
  k = found.k.same;
  min_fee_a = found.min_fee_a.same;
  min_fee_b = found.min_fee_b.same;
  min_utxo = found.min_utxo.same;
  max_tx_size = found.max_tx_size.same;
  max_body_size = found.max_body_size.same;
  max_volatile = found.max_volatile.same;
  max_volatile_bytes = found.max_volatile_bytes.same;
  max_mempool = found.max_mempool.same;
  second_era = found.second_era.same;
  grants = subst (λ (z : ℤ). Paired (IsGrantOf z) written.outputs grants) (sym found.network.same)
      (paired_weaker _ (IsGrantOf (pos settings.params.network)) written.outputs grants (λ e g both. both.0) all.pairs);
}

-- ---- what holds of what is written

have_addresses : (written : Written) (settings : Settings) (placed : List Placed) → AreFound written.numbers settings → each (placed_of settings.params.network) written.outputs ≡ Some placed → AllByRecursion (HasAddress written.numbers.network) written.outputs
have_addresses written settings placed found places =
    let network = settings.params.network in
    let below : network < 16 = omega (arith, found.network.within.not_above) in
    subst (λ (z : ℤ). AllByRecursion (HasAddress z) written.outputs) (sym found.network.same)
    (paired_first (IsPlacedOf network) (HasAddress (pos network)) written.outputs placed (λ e p place. (p.address, place.address.named)) (places_found network written.outputs placed below places))

coin_written : (network : ℕ) (entry : Entry) (grant : Grant) → IsGrantOf (pos network) entry grant × IsGrant network grant → pos 1 ≤ℤ entry.coin
coin_written network entry grant both = rw both.0.coin (omega (arith, ints, both.1.something))

have_coins : (entries : List Entry) (settings : Settings) (grants : List Grant) → AreGranted entries settings grants → HaveCoins entries
have_coins entries settings grants all =
    let network = settings.params.network in
    let sum = same_sum entries grants (paired_weaker _ (λ e g. e.coin ≡ pos g.coin) entries grants (λ e g both. both.0.coin) all.pairs) in
    record {
      something = paired_first _ (λ e. pos 1 ≤ℤ e.coin) entries grants (coin_written network) all.pairs;
      total = rw sum (omega (arith, ints, all.supply));
    }

-- ---- the faults

-- one text writes one thing
one_written : (text : List ℕ) (a b : Written) → Writes text a → Writes text b → a ≡ b
one_written text a b first second =
    let same : first.document ≡ second.document = same_Some _ _ (sym first.parsed ∙ second.parsed) in
    same_Some _ _ (sym first.shape ∙ ap written_in same ∙ second.shape)

-- what is written lacks nothing that it has
lacks_nothing : (text : List ℕ) (Has : Written → Type 0) (written : Written) → Writes text written → Has written → WritesWithout text Has → ⊥
lacks_nothing text Has written writes has without = without.2 (subst Has (one_written text written without.0 writes without.1) has)

-- the faults below a number don't apply, if each of them doesn't
pub none_below : (text : List ℕ) (n : ℕ) → (1 < n → Applies text faults.NotToml → ⊥) → (2 < n → Applies text faults.BadShape → ⊥) → (3 < n → Applies text faults.OutOfRange → ⊥)
    → (4 < n → Applies text faults.BadAddress → ⊥) → (5 < n → Applies text faults.BadCoin → ⊥) → (6 < n → Applies text faults.BadOutputs → ⊥)
    → (other : GenesisFault) → number_of other < n → Applies text other → ⊥
none_below text n a b c d e f faults.NotToml below applies = a below applies
none_below text n a b c d e f faults.BadShape below applies = b below applies
none_below text n a b c d e f faults.OutOfRange below applies = c below applies
none_below text n a b c d e f faults.BadAddress below applies = d below applies
none_below text n a b c d e f faults.BadCoin below applies = e below applies
none_below text n a b c d e f faults.BadOutputs below applies = f below applies
none_below text n a b c d e f faults.OutOfMemory below applies = applies

-- the number of each fault is below 7
number_below : (fault : GenesisFault) → number_of fault < 7
number_below faults.NotToml = omega arith
number_below faults.BadShape = omega arith
number_below faults.OutOfRange = omega arith
number_below faults.BadAddress = omega arith
number_below faults.BadCoin = omega arith
number_below faults.BadOutputs = omega arith
number_below faults.OutOfMemory = omega arith

-- a count that is right is found so
counted_within : (grants : List Grant) → IsWithin 1 10000 (length grants) → counted grants ≡ Some grants
counted_within grants within =
    let low : 1 ≤ length grants = within.not_below in
    let high : length grants ≤ 10000 = within.not_above in
    grind (arith, nat_tests)

within_counted : (grants gs : List Grant) → counted grants ≡ Some gs → IsWithin 1 10000 (length grants)
within_counted grants gs is =
    let (test, same) = cond_some (nat_le 1 (length grants) && nat_le (length grants) 10000) grants gs is in
    let low : 1 ≤ length grants = grind (arith, nat_tests) in
    let high : length grants ≤ 10000 = grind (arith, nat_tests) in
    record { not_below = low; not_above = high }

module _ (text : List ℕ) where
  is_document : (document : Members) → parse_document text ≡ Some document → Applies text faults.NotToml → ⊥
  is_document document parsed applies = applies document parsed

  module _ (written : Written) (writes : Writes text written) where
    not_toml : Applies text faults.NotToml → ⊥
    not_toml applies = applies writes.document writes.parsed

    not_shape : Applies text faults.BadShape → ⊥
    not_shape applies = applies.2 written writes

    -- where nothing is found for the numbers
    pub out_of_range : settings_of written.numbers ≡ None → IsLeastFault text faults.OutOfRange
    out_of_range none = record {
      applies = (written, writes, λ ranges. settings_there written.numbers ranges none);
      first = none_below text 3 (λ _. not_toml) (λ _. not_shape) (λ lt. absurd (omega arith)) (λ lt. absurd (omega arith)) (λ lt. absurd (omega arith)) (λ lt. absurd (omega arith));
    }

    module _ (settings : Settings) (found : AreFound written.numbers settings) where
      not_range : Applies text faults.OutOfRange → ⊥
      not_range = lacks_nothing text (λ w. AreInRange w.numbers) written writes (found_in_range written.numbers settings found)

      -- where an output has no address
      pub bad_address : each (placed_of settings.params.network) written.outputs ≡ None → IsLeastFault text faults.BadAddress
      bad_address none = record {
        applies = (written, writes, λ all. places_there settings.params.network written.outputs (subst (λ (z : ℤ). AllByRecursion (HasAddress z) written.outputs) found.network.same all) none);
        first = none_below text 4 (λ _. not_toml) (λ _. not_shape) (λ _. not_range) (λ lt. absurd (omega arith)) (λ lt. absurd (omega arith)) (λ lt. absurd (omega arith));
      }

      module _ (placed : List Placed) (places : each (placed_of settings.params.network) written.outputs ≡ Some placed) where
        not_address : Applies text faults.BadAddress → ⊥
        not_address = lacks_nothing text (λ w. AllByRecursion (HasAddress w.numbers.network) w.outputs) written writes (have_addresses written settings placed found places)

        -- where a coin is nothing, or all are too much
        pub bad_coin : grants_of placed ≡ None → IsLeastFault text faults.BadCoin
        bad_coin none = record {
          applies = (written, writes, λ coins. coins_there settings.params.network written.outputs placed (places_found settings.params.network written.outputs placed (omega (arith, found.network.within.not_above)) places) coins none);
          first = none_below text 5 (λ _. not_toml) (λ _. not_shape) (λ _. not_range) (λ _. not_address) (λ lt. absurd (omega arith)) (λ lt. absurd (omega arith));
        }

        module _ (grants : List Grant) (granted : grants_of placed ≡ Some grants) where
          all_judged : AreGranted written.outputs settings grants
          all_judged = judged_so written.numbers written.outputs settings placed grants found places granted

          not_coin : Applies text faults.BadCoin → ⊥
          not_coin = lacks_nothing text (λ w. HaveCoins w.outputs) written writes (have_coins written.outputs settings grants all_judged)

          same_count : length written.outputs ≡ length grants
          same_count = paired_length _ written.outputs grants all_judged.pairs

          pub counted_answer : (count : Option (List Grant)) → counted grants ≡ count → IsAnswer text (or_fault faults.BadOutputs count (λ _. Ok (genesis_with settings grants)))
          counted_answer None none = record {
            applies = (written, writes, λ within. none-some grants (sym none ∙ counted_within grants (subst (λ (n : ℕ). IsWithin 1 10000 n) same_count within)));
            first = none_below text 6 (λ _. not_toml) (λ _. not_shape) (λ _. not_range) (λ _. not_address) (λ _. not_coin) (λ lt. absurd (omega arith));
          }
          counted_answer (Some gs) some =
              let count = within_counted grants gs some in
              let there : IsWithin 1 10000 (length written.outputs) = subst (λ (n : ℕ). IsWithin 1 10000 n) (sym same_count) count in
              record {
                says = record { written = written; writes = writes; means = means_so written settings grants found all_judged; whole = whole_genesis written.numbers written.outputs settings grants found all_judged count };
                faultless = λ fault applies. none_below text 7 (λ _. not_toml) (λ _. not_shape) (λ _. not_range) (λ _. not_address) (λ _. not_coin)
                    (λ _. lacks_nothing text (λ w. IsWithin 1 10000 (length w.outputs)) written writes there) fault (number_below fault) applies;
              }

        grants_answer : (found_grants : Option (List Grant)) → grants_of placed ≡ found_grants → IsAnswer text (or_fault faults.BadCoin found_grants (λ grants. or_fault faults.BadOutputs (counted grants) (λ _. Ok (genesis_with settings grants))))
        grants_answer None none = bad_coin none
        grants_answer (Some grants) some = counted_answer grants some (counted grants) refl

      places_answer : (found_places : Option (List Placed)) → each (placed_of settings.params.network) written.outputs ≡ found_places
          → IsAnswer text (or_fault faults.BadAddress found_places (λ placed. or_fault faults.BadCoin (grants_of placed) (λ grants. or_fault faults.BadOutputs (counted grants) (λ _. Ok (genesis_with settings grants)))))
      places_answer None none = bad_address none
      places_answer (Some placed) some = grants_answer placed some (grants_of placed) refl

    settings_answer : (found_settings : Option Settings) → settings_of written.numbers ≡ found_settings
        → IsAnswer text (or_fault faults.OutOfRange found_settings (λ settings. or_fault faults.BadAddress (each (placed_of settings.params.network) written.outputs) (λ placed.
        or_fault faults.BadCoin (grants_of placed) (λ grants. or_fault faults.BadOutputs (counted grants) (λ _. Ok (genesis_with settings grants))))))
    settings_answer None none = out_of_range none
    settings_answer (Some settings) some = places_answer settings (settings_found written.numbers settings some) (each (placed_of settings.params.network) written.outputs) refl

    judged_answer : IsAnswer text (judged written)
    unfolding judged
    judged_answer = settings_answer (settings_of written.numbers) refl

  module _ (document : Members) (parsed : parse_document text ≡ Some document) where
    written_answer : (found_written : Option Written) → written_in document ≡ found_written → IsAnswer text (or_fault faults.BadShape found_written judged)
    written_answer None none = record {
      applies = (
        document,
        parsed,
        λ written writes.
            let same : document ≡ writes.document = same_Some _ _ (sym parsed ∙ writes.parsed) in
            none-some written (sym none ∙ ap written_in same ∙ writes.shape),
      );
      first = none_below text 2 (λ _. is_document document parsed) (λ lt. absurd (omega arith)) (λ lt. absurd (omega arith)) (λ lt. absurd (omega arith)) (λ lt. absurd (omega arith)) (λ lt. absurd (omega arith));
    }
    written_answer (Some written) some = judged_answer written (record { document = document; parsed = parsed; shape = some })

  document_answer : (found_document : Option Members) → parse_document text ≡ found_document → IsAnswer text (or_fault faults.NotToml found_document (λ document. or_fault faults.BadShape (written_in document) judged))
  document_answer None none = record {
    applies = λ document parsed. none-some document (sym none ∙ parsed);
    first = none_below text 1 (λ lt. absurd (omega arith)) (λ lt. absurd (omega arith)) (λ lt. absurd (omega arith)) (λ lt. absurd (omega arith)) (λ lt. absurd (omega arith)) (λ lt. absurd (omega arith));
  }
  document_answer (Some document) some = written_answer document some (written_in document) refl

  -- the whole
  pub answer_said : IsAnswer text (genesis_of text)
  unfolding genesis_of
  answer_said = document_answer (parse_document text) refl

-- what gives it is an answer
pub answer_given : (text : List ℕ) (result : Result Genesis GenesisFault) → Gives (λ genesis. genesis) result (genesis_of text) → IsAnswer text result
answer_given text (Ok genesis) gives = subst (IsAnswer text) gives (answer_said text)
answer_given text (Err faults.OutOfMemory) gives = tt
answer_given text (Err fault) gives = subst (IsAnswer text) gives (answer_said text)
