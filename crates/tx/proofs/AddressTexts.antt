-- The bytes of an address: the address that was read has them, and an address is read from its bytes.
use Rattle.std.proofs.Common.{◌≡◌, ℕ, ◌+◌, ◌/◌, ◌%◌, ◌<◌, Bool, true, false, cond, eqb, List, [], ◌∷◌, length, Option, Some, None, refl, ap, subst, ◌∙◌, arith, inl, inr}
use Rattle.std.specs.Prelude.{◌⊎◌}
use Rattle.std.proofs.lemmas.Bool.{eqb-true}
use Rattle.model.specs.Transaction.{Credential, KeyHash, ScriptHash, Address, payment_bytes, address_bytes, payment_hash, IsAddress}
use Rattle.cbor.proofs.ForCallers.{bind_some, some_is}
use Rattle.tx.specs.Reading.{payment_of_kind, address_of_bytes}

abbrev just : {A : Type 0} → A → Option A
just x = Some x

pick : (b c : Bool) (x y p : Credential) → cond b (just x) (cond c (just y) None) ≡ Some p → ((b ≡ true) × (x ≡ p)) ⊎ ((c ≡ true) × (y ≡ p))
pick true c x y p e = inl (refl, some_is x p e)
pick false true x y p e = inr (refl, some_is y p e)
pick false false x y p e = absurd cc

-- the bytes of an address whose kind was read
same_bytes : (first : ℕ) (hash : List ℕ) (payment : Credential) → payment_of_kind (first / 16) hash ≡ Some payment → (payment_bytes (first % 16) payment ≡ first ∷ hash) × (payment_hash payment ≡ hash)
same_bytes first hash payment e = elim (pick (eqb (first / 16) 6) (eqb (first / 16) 7) (KeyHash hash) (ScriptHash hash) payment e) [
  | inl key ↦
      let kind : first / 16 ≡ 6 = eqb-true _ _ key.0 in
      let bytes : 96 + first % 16 ≡ first = omega (arith, kind) in
      subst (λ (p : Credential). (payment_bytes (first % 16) p ≡ first ∷ hash) × (payment_hash p ≡ hash)) key.1 (ap (λ (b : ℕ). b ∷ hash) bytes, refl)
  | inr script ↦
      let kind : first / 16 ≡ 7 = eqb-true _ _ script.0 in
      let bytes : 112 + first % 16 ≡ first = omega (arith, kind) in
      subst (λ (p : Credential). (payment_bytes (first % 16) p ≡ first ∷ hash) × (payment_hash p ≡ hash)) script.1 (ap (λ (b : ℕ). b ∷ hash) bytes, refl)
]

-- what was read has these bytes
pub address_read : (bytes : List ℕ) (a : Address) → length bytes ≡ 33 → address_of_bytes bytes ≡ Some a → (address_bytes a ≡ bytes) × IsAddress a
unfolding address_of_bytes
address_read [] a len e = absurd (omega (arith, len))
address_read (first ∷ hash) a len e =
    let p = bind_some (payment_of_kind (first / 16) hash) _ a e in
    let same = same_bytes first hash p.0 p.1 in
    let made : Address = record { network = first % 16; payment = p.0 } in
    subst (λ (x : Address). (address_bytes x ≡ first ∷ hash) × IsAddress x) (some_is made a p.2)
    (same.0, record { network = omega arith; hash = ap length same.1 ∙ omega (arith, len) })

-- the bytes of an address are read as it
of_parts : (network : ℕ) (payment : Credential) → network < 16 → address_of_bytes (payment_bytes network payment) ≡ Some (record { network = network; payment = payment })
unfolding address_of_bytes
of_parts network (KeyHash hash) lt =
    let kind : (96 + network) / 16 ≡ 6 = omega arith in
    let low : (96 + network) % 16 ≡ network = omega arith in
    rw (kind, low) refl
of_parts network (ScriptHash hash) lt =
    let kind : (112 + network) / 16 ≡ 7 = omega arith in
    let low : (112 + network) % 16 ≡ network = omega arith in
    rw (kind, low) refl

pub address_again : (a : Address) → IsAddress a → address_of_bytes (address_bytes a) ≡ Some a
address_again a is = of_parts a.network a.payment is.network

bytes_length : (network : ℕ) (payment : Credential) → length (payment_hash payment) ≡ 32 → length (payment_bytes network payment) ≡ 33
bytes_length network (KeyHash hash) len = omega (arith, len)
bytes_length network (ScriptHash hash) len = omega (arith, len)

-- an address has 33 bytes
pub address_length : (a : Address) → IsAddress a → length (address_bytes a) ≡ 33
address_length a is = bytes_length a.network a.payment is.hash
