-- The addresses that outputs name.
use Rattle.std.proofs.Common.{◌≡◌, ℕ, ◌<◌, pos, ◌==◌, List, [], ◌∷◌, length, Some, None, Result, Ok, Err, refl, sym, ap, subst, ◌∙◌, arith}
use Rattle.std.specs.List.{AllByRecursion}
use Rattle.std.specs.Result.{result_ok}
use Rattle.std.proofs.lemmas.Option.{same_Some, none-some, cond_some}
use Rattle.std.proofs.lemmas.Bool.Decides.{nat_tests}
use Rattle.std.proofs.lemmas.Int.{ints}
use Rattle.hex.specs.Hex.{decode_sized}
use Rattle.hex.specs.declared.error.FromHexError.{FromHexError}
use Rattle.hex.proofs.HexLemmas.{decode_sized-ok, decode_sized-twice, decode_of-ok}
use Rattle.model.specs.Transaction.{Address, KeyHash, key_hash_of, address_bytes, IsAddress}
use Rattle.model.proofs.ExampleSizes.{key_hash_length}
use Rattle.tx.specs.Reading.{address_of_bytes}
use Rattle.tx.proofs.ForCallers.{address_read, address_again}
use Rattle.genesis.specs.Steps.{each, Paired}
use Rattle.genesis.specs.Document.{Lock, ByAddress, ByKey, Entry}
use Rattle.genesis.specs.Judgement.{decoded, on_network, address_of_lock, Placed, placed_of}
use Rattle.genesis.specs.Meaning.{IsAddressOf, HasAddress}
use Rattle.genesis.proofs.Steps.{on_the_way, each_found, all_found, paired_weaker}

-- bytes that were decoded
bytes_of : (answer : Result (List ℕ) FromHexError) (bytes : List ℕ) → result_ok answer ≡ Some bytes → answer ≡ Ok bytes
bytes_of (Ok found) bytes is = ap Ok (same_Some found bytes is)
bytes_of (Err e) bytes is = absurd (none-some bytes is)

-- and how many these are
decoded_length : (text bytes : List ℕ) (count : ℕ) → decode_sized text count ≡ Ok bytes → length bytes ≡ count
decoded_length text bytes count is =
    let twice = decode_sized-ok text count bytes is in
    let whole = decode_of-ok text bytes (sym (decode_sized-twice text count twice) ∙ is) in
    omega (arith, twice, whole.2)

-- an address that was found is the one that the output names
pub record IsFoundAt (network : ℕ) (lock : Lock) (address : Address) : Type 0 where
  pub named : IsAddressOf (pos network) lock address
  pub shape : IsAddress address
  pub on_network : address.network ≡ network

pub address_found : (network : ℕ) (lock : Lock) (address : Address) → network < 16 → address_of_lock network lock ≡ Some address → IsFoundAt network lock address
unfolding address_of_lock
address_found network (ByAddress text) address below is =
    let (bytes, decodes, after) = on_the_way (decoded text 33) _ address is in
    let (found, reads, here) = on_the_way (address_of_bytes bytes) _ address after in
    let (test, same) = cond_some (found.network == network) found address here in
    let digits = bytes_of (decode_sized text 33) bytes decodes in
    let (spelled, shape) = address_read bytes found (decoded_length text bytes 33 digits) reads in
    let there : found.network ≡ network = grind (arith, nat_tests) in
    subst (IsFoundAt network (ByAddress text)) same (record {
      named = record { text = record { shape = shape; digits = digits ∙ ap Ok (sym spelled) }; on_network = ap pos there };
      shape = shape;
      on_network = there;
    })
address_found network (ByKey text) address below is =
    let (key, decodes, here) = on_the_way (decoded text 32) _ address is in
    subst (IsFoundAt network (ByKey text)) (same_Some _ _ here) (record {
      named = record { text = record { key = key; digits = bytes_of (decode_sized text 32) key decodes; hash = refl }; on_network = refl };
      shape = record { network = below; hash = key_hash_length key };
      on_network = refl;
    })

-- an address that an output names is found
same_network : (network : ℕ) (address : Address) → address.network ≡ network → on_network network address ≡ Some address
same_network network address is = grind (arith, nat_tests)

pub address_there : (network : ℕ) (lock : Lock) (address : Address) → IsAddressOf (pos network) lock address → (found : Address) × (address_of_lock network lock ≡ Some found)
unfolding address_of_lock
address_there network (ByAddress text) address is =
    let there : address.network ≡ network = omega (arith, ints, is.on_network) in
    let decodes : decoded text 33 ≡ Some (address_bytes address) = ap result_ok is.text.digits in
    (address, rw (decodes, address_again address is.text.shape, same_network network address there) refl)
address_there network (ByKey text) address is =
    let decodes : decoded text 32 ≡ Some is.text.key = ap result_ok is.text.digits in
    (record { network = network; payment = KeyHash (key_hash_of is.text.key) }, rw decodes refl)

-- ---- all outputs

-- an output with the address that it names
pub record IsPlacedOf (network : ℕ) (entry : Entry) (placed : Placed) : Type 0 where
  pub address : IsFoundAt network entry.lock placed.address
  pub coin : entry.coin ≡ placed.coin

placed_found : (network : ℕ) → network < 16 → (entry : Entry) (placed : Placed) → placed_of network entry ≡ Some placed → IsPlacedOf network entry placed
placed_found network below entry placed is =
    let (address, found, here) = on_the_way (address_of_lock network entry.lock) _ placed is in
    subst (IsPlacedOf network entry) (same_Some _ _ here) (record { address = address_found network entry.lock address below found; coin = refl })

pub places_found : (network : ℕ) (entries : List Entry) (placed : List Placed) → network < 16 → each (placed_of network) entries ≡ Some placed → Paired (IsPlacedOf network) entries placed
places_found network entries placed below is =
    paired_weaker (λ e p. placed_of network e ≡ Some p) (IsPlacedOf network) entries placed (placed_found network below) (each_found (placed_of network) entries placed is)

-- each output has its place where each names an address
each_place : (network : ℕ) (entries : List Entry) → AllByRecursion (HasAddress (pos network)) entries → AllByRecursion (λ e. (p : Placed) × (placed_of network e ≡ Some p)) entries
each_place network [] all = tt
each_place network (e ∷ es) all =
    let (named, is) = all.0 in
    let (address, found) = address_there network e.lock named is in
    let placed : Placed = record { address = address; coin = e.coin } in
    ((placed, rw found refl), each_place network es all.1)

pub places_there : (network : ℕ) (entries : List Entry) → AllByRecursion (HasAddress (pos network)) entries → each (placed_of network) entries ≡ None → ⊥
places_there network entries all none =
    let (placed, some) = all_found (placed_of network) entries (each_place network entries all) in
    none-some placed (sym none ∙ some)
