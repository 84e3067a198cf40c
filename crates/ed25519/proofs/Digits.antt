use Rattle.std.proofs.lemmas.Bool.{eq-eqb}
use Rattle.std.proofs.lemmas.Bool.Decides.{eqb_tells}
use Rattle.std.proofs.Common.{false, eqb, ◌&&◌, inl, inr, ◌≡◌, ℕ, ◌+◌, ◌*◌, ◌-◌, ◌^◌, ◌%◌, ◌<◌, sym, ap, ◌∙◌, arith}
use Rattle.std.proofs.Math.Nat.{mod-eq_of_lt, add-mul-mod_self_left}
use Rattle.std.proofs.lemmas.Nat.{and_mask}
use Rattle.std.specs.Int.Bits.{bit_and}
use Rattle.ed25519.specs.Arithmetic.{prime}
use Rattle.ed25519.specs.Inside.{IsLoose, limbs}
use Rattle.ed25519.proofs.Products.{moved}

onto : (a0 a1 a2 a3 a4 k : ℕ) → limbs (a0 + k) a1 a2 a3 a4 ≡ limbs a0 a1 a2 a3 a4 + k
unfolding limbs
onto a0 a1 a2 a3 a4 k = omega arith

limbs_below : (a0 a1 a2 a3 a4 : ℕ) → a0 < 2 ^ 51 → a1 < 2 ^ 51 → a2 < 2 ^ 51 → a3 < 2 ^ 51 → a4 < 2 ^ 51 →
    limbs a0 a1 a2 a3 a4 < 2 ^ 255
unfolding limbs
limbs_below a0 a1 a2 a3 a4 h0 h1 h2 h3 h4 = omega arith

loose_below : (a0 a1 a2 a3 a4 : ℕ) → IsLoose a0 a1 a2 a3 a4 → limbs a0 a1 a2 a3 a4 < 2 ^ 255 + 2 ^ 218
unfolding limbs
loose_below a0 a1 a2 a3 a4 h = omega arith

least_of : (v n q m r : ℕ) → v + 19 ≡ n + 2 ^ 255 * q → n < 2 ^ 255 → v + 19 * q ≡ m + 2 ^ 255 * r → m < 2 ^ 255 →
    v < 2 ^ 255 + 2 ^ 218 → m ≡ v % prime
unfolding prime
least_of v n q m r e hn f hm hv =
    let same : q ≡ r = omega arith in
    let whole : v ≡ m + (2 ^ 255 - 19) * q = omega arith in
    let small : m < 2 ^ 255 - 19 = omega arith in
    sym (mod-eq_of_lt small) ∙ sym (add-mul-mod_self_left m (2 ^ 255 - 19) q)
    ∙ ap (λ (k : ℕ). k % (2 ^ 255 - 19)) (sym whole)

-- the digits of the least number that is the same modulo p
pub least : (a0 a1 a2 a3 a4 o0 o1 o2 o3 q n0 n1 n2 n3 n4 q0 m0 q1 m1 q2 m2 q3 m3 q4 m4 : ℕ) →
    IsLoose a0 a1 a2 a3 a4 →
    a0 + 19 ≡ 2 ^ 51 * o0 + n0 → n0 < 2 ^ 51 → a1 + o0 ≡ 2 ^ 51 * o1 + n1 → n1 < 2 ^ 51 → a2 + o1 ≡ 2 ^ 51 * o2 + n2 →
    n2 < 2 ^ 51 →
    a3 + o2 ≡ 2 ^ 51 * o3 + n3 → n3 < 2 ^ 51 → a4 + o3 ≡ 2 ^ 51 * q + n4 → n4 < 2 ^ 51 →
    a0 + 19 * q ≡ 2 ^ 51 * q0 + m0 → a1 + q0 ≡ 2 ^ 51 * q1 + m1 → a2 + q1 ≡ 2 ^ 51 * q2 + m2 →
    a3 + q2 ≡ 2 ^ 51 * q3 + m3 →
    a4 + q3 ≡ 2 ^ 51 * q4 + m4 → m0 < 2 ^ 51 → m1 < 2 ^ 51 → m2 < 2 ^ 51 → m3 < 2 ^ 51 → m4 < 2 ^ 51 →
    limbs m0 m1 m2 m3 m4 ≡ limbs a0 a1 a2 a3 a4 % prime
least a0 a1 a2 a3 a4 o0 o1 o2 o3 q n0 n1 n2 n3 n4 q0 m0 q1 m1 q2 m2 q3 m3 q4 m4 loose f0 g0 f1 g1 f2 g2 f3 g3 f4 g4 e0
    e1 e2 e3 e4 h0 h1 h2 h3 h4 =
    let over : limbs (a0 + 19) a1 a2 a3 a4 ≡ limbs n0 n1 n2 n3 n4 + 2 ^ 255 * q =
    moved (a0 + 19) a1 a2 a3 a4 o0 n0 o1 n1 o2 n2 o3 n3 q n4 f0 f1 f2 f3 f4 in
    let more : limbs (a0 + 19 * q) a1 a2 a3 a4 ≡ limbs m0 m1 m2 m3 m4 + 2 ^ 255 * q4 =
    moved (a0 + 19 * q) a1 a2 a3 a4 q0 m0 q1 m1 q2 m2 q3 m3 q4 m4 e0 e1 e2 e3 e4 in
    least_of (limbs a0 a1 a2 a3 a4) (limbs n0 n1 n2 n3 n4) q (limbs m0 m1 m2 m3 m4) q4
    (sym (onto a0 a1 a2 a3 a4 19) ∙ over) (limbs_below n0 n1 n2 n3 n4 g0 g1 g2 g3 g4)
    (sym (onto a0 a1 a2 a3 a4 (19 * q)) ∙ more) (limbs_below m0 m1 m2 m3 m4 h0 h1 h2 h3 h4)
    (loose_below a0 a1 a2 a3 a4 loose)

pub cut_below : (n : ℕ) → bit_and n (2 ^ 51 - 1) < 2 ^ 51
cut_below n = omega (arith, and_mask n 51)

-- two lists of small digits with one number
pub same_digits : (a0 a1 a2 a3 a4 b0 b1 b2 b3 b4 : ℕ) → a0 < 2 ^ 51 → a1 < 2 ^ 51 → a2 < 2 ^ 51 → a3 < 2 ^ 51 →
    a4 < 2 ^ 51 →
    b0 < 2 ^ 51 → b1 < 2 ^ 51 → b2 < 2 ^ 51 → b3 < 2 ^ 51 → b4 < 2 ^ 51 → limbs a0 a1 a2 a3 a4 ≡ limbs b0 b1 b2 b3 b4 →
    (a0 ≡ b0) × (a1 ≡ b1) × (a2 ≡ b2) × (a3 ≡ b3) × (a4 ≡ b4)
unfolding limbs
same_digits a0 a1 a2 a3 a4 b0 b1 b2 b3 b4 h0 h1 h2 h3 h4 g0 g1 g2 g3 g4 e = omega arith

pub lowest : (a0 a1 a2 a3 a4 : ℕ) → bit_and a0 1 ≡ limbs a0 a1 a2 a3 a4 % 2
unfolding limbs
lowest a0 a1 a2 a3 a4 = omega (arith, and_mask a0 1)

abbrev pub AreSmall : ℕ → ℕ → ℕ → ℕ → ℕ → Type 0
AreSmall a0 a1 a2 a3 a4 = (a0 < 2 ^ 51) × (a1 < 2 ^ 51) × (a2 < 2 ^ 51) × (a3 < 2 ^ 51) × (a4 < 2 ^ 51)

differ : (m n s o : ℕ) → m ≡ s → n ≡ o → (m ≡ n → ⊥) → false ≡ eqb s o
differ m n s o e f h = elim (eqb_tells s o) [ inl w ↦ absurd (h (e ∙ w.1 ∙ sym f)) | inr w ↦ sym w.0 ]

pub equal_digits : (a0 a1 a2 a3 a4 b0 b1 b2 b3 b4 s o : ℕ) → limbs a0 a1 a2 a3 a4 ≡ s → limbs b0 b1 b2 b3 b4 ≡ o →
    AreSmall a0 a1 a2 a3 a4 → AreSmall b0 b1 b2 b3 b4 →
    ((((eqb a0 b0 && eqb a1 b1) && eqb a2 b2) && eqb a3 b3) && eqb a4 b4) ≡ eqb s o
equal_digits a0 a1 a2 a3 a4 b0 b1 b2 b3 b4 s o e f h g =
    let all : limbs a0 a1 a2 a3 a4 ≡ limbs b0 b1 b2 b3 b4 → (a0 ≡ b0) × (a1 ≡ b1) × (a2 ≡ b2) × (a3 ≡ b3) × (a4 ≡ b4) =
    same_digits a0 a1 a2 a3 a4 b0 b1 b2 b3 b4 h.0 h.1 h.2 h.3 h.4 g.0 g.1 g.2 g.3 g.4 in
    let no : (limbs a0 a1 a2 a3 a4 ≡ limbs b0 b1 b2 b3 b4 → ⊥) → false ≡ eqb s o =
    differ (limbs a0 a1 a2 a3 a4) (limbs b0 b1 b2 b3 b4) s o e f in
    elim (eqb_tells a0 b0) [
      | inr w ↦ rw w.0 (no (λ k. w.1 (all k).0))
      | inl v0 ↦
          elim (eqb_tells a1 b1) [
            | inr w ↦ rw (v0.0, w.0) (no (λ k. w.1 (all k).1))
            | inl v1 ↦
                elim (eqb_tells a2 b2) [
                  | inr w ↦ rw (v0.0, v1.0, w.0) (no (λ k. w.1 (all k).2))
                  | inl v2 ↦
                      elim (eqb_tells a3 b3) [
                        | inr w ↦ rw (v0.0, v1.0, v2.0, w.0) (no (λ k. w.1 (all k).3))
                        | inl v3 ↦
                            elim (eqb_tells a4 b4) [
                              | inr w ↦ rw (v0.0, v1.0, v2.0, v3.0, w.0) (no (λ k. w.1 (all k).4))
                              | inl v4 ↦
                                  (let same : s ≡ o = sym e ∙ cc (v0.1, v1.1, v2.1, v3.1, v4.1) ∙ f in
                                  rw (v0.0, v1.0, v2.0, v3.0, v4.0) (sym (eq-eqb s o same)))
                            ]
                      ]
                ]
          ]
    ]
