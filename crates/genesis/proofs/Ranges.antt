-- The numbers and their ranges.
use Rattle.std.proofs.Common.{◌≡◌, ℕ, ℤ, pos, negsuc, ◌≤◌, Option, Some, None, refl, sym, ap, subst, ◌∙◌, arith}
use Rattle.std.specs.Prelude.{IfSome, option_map}
use Rattle.std.proofs.lemmas.Option.{same_Some, none-some}
use Rattle.std.proofs.lemmas.Bool.Decides.{nat_tests}
use Rattle.std.proofs.lemmas.Int.{ints}
use Rattle.model.specs.Rules.{SecondEra}
use Rattle.model.specs.Genesis.{IsWithin, IsSecondEra, IsParams}
use Rattle.genesis.specs.Document.{EraNumbers, Numbers}
use Rattle.genesis.specs.Judgement.{within, within_if, era_of, era_if_written, Settings, settings_of}
use Rattle.genesis.specs.Meaning.{IsInRange, AreOfSecondEra, AreInRange, numbers_of_era}
use Rattle.genesis.proofs.Steps.{on_the_way}

-- what a number in its range is
pub record IsFound (least most : ℕ) (number : ℤ) (n : ℕ) : Type 0 where
  pub same : number ≡ pos n
  pub within : IsWithin least most n

pub found_within : (least most : ℕ) (number : ℤ) (n : ℕ) → within least most number ≡ Some n → IsFound least most number n
found_within least most (pos m) n is =
    let same : m ≡ n = grind (arith, nat_tests) in
    let low : least ≤ m = grind (arith, nat_tests) in
    let high : m ≤ most = grind (arith, nat_tests) in
    record { same = ap pos same; within = record { not_below = omega arith; not_above = omega arith } }
found_within least most (negsuc m) n is = absurd (none-some n is)

-- a number in its range is found
pub in_range : (least most : ℕ) (number : ℤ) → IsInRange least most number → (n : ℕ) × (within least most number ≡ Some n)
in_range least most (pos m) is =
    let low : least ≤ m = omega (arith, ints, is.not_below) in
    let high : m ≤ most = omega (arith, ints, is.not_above) in
    (m, grind (arith, nat_tests))
in_range least most (negsuc m) is = absurd (omega (arith, ints, is.not_below))

-- and a number that is found is in its range
pub range_of : (least most : ℕ) (number : ℤ) (n : ℕ) → IsFound least most number n → IsInRange least most number
range_of least most number n found =
    rw found.same (record { not_below = omega (arith, ints, found.within.not_below); not_above = omega (arith, ints, found.within.not_above) })

-- ---- a number that may be missing

-- what was found of what is written
pub record IsFoundIf (least most : ℕ) (number : Option ℤ) (n : Option ℕ) : Type 0 where
  pub same : number ≡ option_map (λ m. pos m) n
  pub within : IfSome n (IsWithin least most)
  pub in_range : IfSome number (IsInRange least most)

-- where something was found of an option's map
wrapped : {X : Type 0} (found : Option X) (other : Option X) → option_map (λ x. Some x) found ≡ Some other → (x : X) × (found ≡ Some x) × (Some x ≡ other)
wrapped None other is = absurd (none-some other is)
wrapped (Some x) other is = (x, refl, same_Some _ _ is)

pub found_if : (least most : ℕ) (number : Option ℤ) (n : Option ℕ) → within_if least most number ≡ Some n → IsFoundIf least most number n
unfolding within_if
found_if least most None n is = subst (IsFoundIf least most None) (same_Some _ _ is) (record { same = refl; within = tt; in_range = tt })
found_if least most (Some number) n is =
    let (m, found, here) = wrapped (within least most number) n is in
    let f = found_within least most number m found in
    subst (IsFoundIf least most (Some number)) here (record { same = ap Some f.same; within = f.within; in_range = range_of least most number m f })

pub there_if : (least most : ℕ) (number : Option ℤ) → IfSome number (IsInRange least most) → (n : Option ℕ) × (within_if least most number ≡ Some n)
unfolding within_if
there_if least most None range = (None, refl)
there_if least most (Some number) range = let (m, is) = in_range least most number range in (Some m, rw is refl)

-- ---- a second era

-- what was found of what is written
pub record IsFoundEra (numbers : Option EraNumbers) (era : Option SecondEra) : Type 0 where
  pub same : numbers ≡ option_map numbers_of_era era
  pub within : IfSome era IsSecondEra
  pub in_range : IfSome numbers AreOfSecondEra

era_found : (numbers : EraNumbers) (era : SecondEra) → era_of numbers ≡ Some era → IsFoundEra (Some numbers) (Some era)
unfolding era_of
era_found numbers era is =
    let slot = on_the_way (within 1 9223372036854775807 numbers.first_slot) _ era is in
    let coin = on_the_way (within 0 1000000000000 numbers.per_asset) _ era slot.2 in
    let s = found_within 1 9223372036854775807 _ _ slot.1 in
    let c = found_within 0 1000000000000 _ _ coin.1 in
    rw (← same_Some _ _ coin.2) (record {
      same = λ i. Some (record { first_slot = s.same i; per_asset = c.same i });
      within = record { first_slot = s.within; per_asset = c.within };
      in_range = record { first_slot = range_of _ _ _ _ s; per_asset = range_of _ _ _ _ c };
    })

pub era_if_found : (numbers : Option EraNumbers) (era : Option SecondEra) → era_if_written numbers ≡ Some era → IsFoundEra numbers era
unfolding era_if_written
era_if_found None era is = subst (IsFoundEra None) (same_Some _ _ is) (record { same = refl; within = tt; in_range = tt })
era_if_found (Some numbers) era is =
    let (e, found, here) = wrapped (era_of numbers) era is in
    subst (IsFoundEra (Some numbers)) here (era_found numbers e found)

-- numbers in their ranges are found
pub era_there : (numbers : Option EraNumbers) → IfSome numbers AreOfSecondEra → (era : Option SecondEra) × (era_if_written numbers ≡ Some era)
unfolding era_if_written era_of
era_there None ranges = (None, refl)
era_there (Some numbers) ranges =
    let (slot, s) = in_range 1 9223372036854775807 numbers.first_slot ranges.first_slot in
    let (coin, c) = in_range 0 1000000000000 numbers.per_asset ranges.per_asset in
    (Some (record { first_slot = slot; per_asset = coin }), rw (s, c) refl)

-- ---- all numbers

-- each found in its range
pub record AreFound (numbers : Numbers) (settings : Settings) : Type 0 where
  pub network : IsFound 0 15 numbers.network settings.params.network
  pub k : IsFound 1 10000 numbers.k settings.k
  pub min_fee_a : IsFound 0 1000000 numbers.min_fee_a settings.params.min_fee_a
  pub min_fee_b : IsFound 0 1000000000000 numbers.min_fee_b settings.params.min_fee_b
  pub min_utxo : IsFound 0 1000000000000 numbers.min_utxo settings.params.min_utxo
  pub max_tx_size : IsFound 1 65536 numbers.max_tx_size settings.params.max_tx_size
  pub max_body_size : IsFound 1 1048000 numbers.max_body_size settings.params.max_body_size
  pub max_volatile : IsFound 1 100000 numbers.max_volatile settings.max_volatile
  pub max_volatile_bytes : IsFoundIf 1 1099511627776 numbers.max_volatile_bytes settings.max_volatile_bytes
  pub max_mempool : IsFound 1 100000 numbers.max_mempool settings.max_mempool
  pub second_era : IsFoundEra numbers.second_era settings.params.second_era

pub settings_found : (numbers : Numbers) (settings : Settings) → settings_of numbers ≡ Some settings → AreFound numbers settings
unfolding settings_of
settings_found numbers settings is =
    let network = on_the_way (within 0 15 numbers.network) _ settings is in
    let k = on_the_way (within 1 10000 numbers.k) _ settings network.2 in
    let fee_a = on_the_way (within 0 1000000 numbers.min_fee_a) _ settings k.2 in
    let fee_b = on_the_way (within 0 1000000000000 numbers.min_fee_b) _ settings fee_a.2 in
    let utxo = on_the_way (within 0 1000000000000 numbers.min_utxo) _ settings fee_b.2 in
    let tx_size = on_the_way (within 1 65536 numbers.max_tx_size) _ settings utxo.2 in
    let body_size = on_the_way (within 1 1048000 numbers.max_body_size) _ settings tx_size.2 in
    let volatile = on_the_way (within 1 100000 numbers.max_volatile) _ settings body_size.2 in
    let mempool = on_the_way (within 1 100000 numbers.max_mempool) _ settings volatile.2 in
    let bytes = on_the_way (within_if 1 1099511627776 numbers.max_volatile_bytes) _ settings mempool.2 in
    let era = on_the_way (era_if_written numbers.second_era) _ settings bytes.2 in
    rw (← same_Some _ _ era.2) (record {
      network = found_within 0 15 _ _ network.1;
      k = found_within 1 10000 _ _ k.1;
      min_fee_a = found_within 0 1000000 _ _ fee_a.1;
      min_fee_b = found_within 0 1000000000000 _ _ fee_b.1;
      min_utxo = found_within 0 1000000000000 _ _ utxo.1;
      max_tx_size = found_within 1 65536 _ _ tx_size.1;
      max_body_size = found_within 1 1048000 _ _ body_size.1;
      max_volatile = found_within 1 100000 _ _ volatile.1;
      max_volatile_bytes = found_if 1 1099511627776 _ _ bytes.1;
      max_mempool = found_within 1 100000 _ _ mempool.1;
      second_era = era_if_found _ _ era.1;
    })

pub found_in_range : (numbers : Numbers) (settings : Settings) → AreFound numbers settings → AreInRange numbers
found_in_range numbers settings found = record {
  network = range_of _ _ _ _ found.network;
  k = range_of _ _ _ _ found.k;
  min_fee_a = range_of _ _ _ _ found.min_fee_a;
  min_fee_b = range_of _ _ _ _ found.min_fee_b;
  min_utxo = range_of _ _ _ _ found.min_utxo;
  max_tx_size = range_of _ _ _ _ found.max_tx_size;
  max_body_size = range_of _ _ _ _ found.max_body_size;
  max_volatile = range_of _ _ _ _ found.max_volatile;
  max_volatile_bytes = found.max_volatile_bytes.in_range;
  max_mempool = range_of _ _ _ _ found.max_mempool;
  second_era = found.second_era.in_range;
}

pub found_params : (numbers : Numbers) (settings : Settings) → AreFound numbers settings → IsParams settings.params
found_params numbers settings found = record {
  network = found.network.within;
  min_fee_a = found.min_fee_a.within;
  min_fee_b = found.min_fee_b.within;
  min_utxo = found.min_utxo.within;
  max_tx_size = found.max_tx_size.within;
  max_body_size = found.max_body_size.within;
  second_era = found.second_era.within;
}

-- numbers in their ranges are found
pub settings_there : (numbers : Numbers) → AreInRange numbers → settings_of numbers ≡ None → ⊥
unfolding settings_of
settings_there numbers ranges none =
    let (network, a) = in_range 0 15 numbers.network ranges.network in
    let (k, b) = in_range 1 10000 numbers.k ranges.k in
    let (fee_a, c) = in_range 0 1000000 numbers.min_fee_a ranges.min_fee_a in
    let (fee_b, d) = in_range 0 1000000000000 numbers.min_fee_b ranges.min_fee_b in
    let (utxo, e) = in_range 0 1000000000000 numbers.min_utxo ranges.min_utxo in
    let (tx_size, f) = in_range 1 65536 numbers.max_tx_size ranges.max_tx_size in
    let (body_size, g) = in_range 1 1048000 numbers.max_body_size ranges.max_body_size in
    let (volatile, h) = in_range 1 100000 numbers.max_volatile ranges.max_volatile in
    let (mempool, i) = in_range 1 100000 numbers.max_mempool ranges.max_mempool in
    let (bytes, l) = there_if 1 1099511627776 numbers.max_volatile_bytes ranges.max_volatile_bytes in
    let (era, j) = era_there numbers.second_era ranges.second_era in
    let settings : Settings = record {
      params = record { network = network; min_fee_a = fee_a; min_fee_b = fee_b; min_utxo = utxo; max_tx_size = tx_size; max_body_size = body_size; second_era = era };
      k = k;
      max_volatile = volatile;
      max_volatile_bytes = bytes;
      max_mempool = mempool;
    } in
    let some : settings_of numbers ≡ Some settings = rw (a, b, c, d, e, f, g, h, i, l, j) refl in
    none-some settings (sym none ∙ some)
