use Rattle.std.proofs.Common.{lit<, inl, inr, ◌≢◌, Bool, true, false, eqb, ltb, ◌≡◌, ℕ, zero, suc, ◌+◌, ◌*◌, ◌/◌, ◌-◌}
use Rattle.std.proofs.Common.{◌^◌, ◌%◌, ◌<◌, ◌≤◌, List, [], ◌∷◌, length, take, drop, get_or, sym, refl, ap, ◌∙◌}
use Rattle.std.proofs.Common.{arith}
use Rattle.std.proofs.Math.Nat.{mod-eq_of_lt, add-mul-mod_self_left, div-add-mod, mod-add-mod, pow-suc}
use Rattle.std.proofs.Math.Seq.{drop-cons}
use Rattle.std.proofs.Math.ListN.{drop_of_length-le}
use Rattle.std.proofs.lemmas.Nat.{and_mask, pow-add, shr-shr, mul-mod_second, mul-mod_first}
use Rattle.std.specs.Int.Bits.{bit_and}
use Rattle.ed25519.specs.Arithmetic.{prime}
use Rattle.ed25519.specs.Points.{order}
use Rattle.ed25519.specs.Encoding.{little_endian}
use Rattle.ed25519.specs.Keys.{pruned}
use Rattle.ed25519.specs.Inside.{AreWords, limbs, words}
use Rattle.std.specs.Bool.{IsTrue}
use Rattle.std.proofs.lemmas.Bool.{eqb-true, eq-eqb, cases_lt, false≢true}
use Rattle.std.proofs.lemmas.List.{length-drop, drop-drop, take_all}

-- a number cut at 64 bits
pub cut_word : (n : ℕ) → n ≡ 2 ^ 64 * (n / 2 ^ 64) + bit_and n (2 ^ 64 - 1)
cut_word n = omega (arith, and_mask n 64, div-add-mod n (2 ^ 64))

pub word_below : (n : ℕ) → bit_and n (2 ^ 64 - 1) < 2 ^ 64
word_below n = omega (arith, and_mask n 64)

pub carries : (w0 w1 w2 w3 c0 c1 c2 c3 t0 t1 t2 t3 q0 q1 q2 q3 m0 m1 m2 m3 : ℕ) →
    t0 ≡ w0 + c0 + 0 → t1 ≡ w1 + c1 + q0 → t2 ≡ w2 + c2 + q1 → t3 ≡ w3 + c3 + q2 →
    t0 ≡ 2 ^ 64 * q0 + m0 → t1 ≡ 2 ^ 64 * q1 + m1 → t2 ≡ 2 ^ 64 * q2 + m2 → t3 ≡ 2 ^ 64 * q3 + m3 →
    words w0 w1 w2 w3 + words c0 c1 c2 c3 ≡ words m0 m1 m2 m3 + 2 ^ 256 * q3
unfolding words
carries w0 w1 w2 w3 c0 c1 c2 c3 t0 t1 t2 t3 q0 q1 q2 q3 m0 m1 m2 m3 a0 a1 a2 a3 b0 b1 b2 b3 = omega arith

pub words_below : (w0 w1 w2 w3 : ℕ) → w0 < 2 ^ 64 → w1 < 2 ^ 64 → w2 < 2 ^ 64 → w3 < 2 ^ 64 →
    words w0 w1 w2 w3 < 2 ^ 256
unfolding words
words_below w0 w1 w2 w3 h0 h1 h2 h3 = omega arith

pub order_lack : words 0xa7ed9ce5a30a2c13 0xeb2106215d086329 0xffffffffffffffff 0xefffffffffffffff + order ≡ 2 ^ 256
unfolding words order
order_lack = refl

pub order_size : (order < 2 ^ 253) × (0 < order)
unfolding order
order_size = (lit< tt, lit< tt)

-- the number less L
pub less : (n c o m q : ℕ) → n + c ≡ m + 2 ^ 256 * q → c + o ≡ 2 ^ 256 → n < 2 ^ 256 → m < 2 ^ 256 → 0 < o →
    (q ≡ 1 → o ≤ n) × (o ≤ n → q ≡ 1) × (q ≡ 1 → m + o ≡ n)
less n c o m q e f h g p = (λ k. omega arith, λ k. omega arith, λ k. omega arith)

twice_from : (w0 w1 w2 w3 l0 h0 l1 h1 l2 h2 l3 b : ℕ) → w0 ≡ 2 ^ 63 * h0 + l0 → w1 ≡ 2 ^ 63 * h1 + l1 →
    w2 ≡ 2 ^ 63 * h2 + l2 → l3 ≡ w3 →
    words (l0 * 2 + b) (l1 * 2 + h0) (l2 * 2 + h1) (l3 * 2 + h2) ≡ 2 * words w0 w1 w2 w3 + b
unfolding words
twice_from w0 w1 w2 w3 l0 h0 l1 h1 l2 h2 l3 b e0 e1 e2 e3 = omega arith

pub twice_words : (w0 w1 w2 w3 b : ℕ) → words w0 w1 w2 w3 < 2 ^ 255 →
    words (w0 % 2 ^ 63 * 2 + b) (w1 % 2 ^ 63 * 2 + w0 / 2 ^ 63) (w2 % 2 ^ 63 * 2 + w1 / 2 ^ 63)
    (w3 % 2 ^ 63 * 2 + w2 / 2 ^ 63)
    ≡ 2 * words w0 w1 w2 w3 + b
unfolding words
twice_words w0 w1 w2 w3 b h =
    let k : w3 < 2 ^ 63 = omega arith in
    let d : w3 % 2 ^ 63 ≡ w3 = mod-eq_of_lt k in
    twice_from w0 w1 w2 w3 (w0 % 2 ^ 63) (w0 / 2 ^ 63) (w1 % 2 ^ 63) (w1 / 2 ^ 63) (w2 % 2 ^ 63) (w2 / 2 ^ 63)
    (w3 % 2 ^ 63) b
    (sym (div-add-mod w0 (2 ^ 63))) (sym (div-add-mod w1 (2 ^ 63))) (sym (div-add-mod w2 (2 ^ 63))) d

whole_from : (a c b a' c' d : ℕ) → a' ≡ 2 * a → d / 2 ≡ c → d ≡ c' → b ≡ d % 2 → 2 * (a + c) + b ≡ a' + c'
whole_from a c b a' c' d u t f g = omega arith

pub inside : (k x b : ℕ) → (k * (x % order) + b) % order ≡ (k * x + b) % order
inside k x b =
    sym (mod-add-mod (k * (x % order)) order b)
    ∙ ap (λ (v : ℕ). (v + b) % order) (mul-mod_second k x order)
    ∙ mod-add-mod (k * x) order b

-- one more bit of a byte, modulo L
pub next_bit : (r w i n : ℕ) → i < 8 → n ≡ (r * 2 ^ i + w / 2 ^ (8 - i)) % order →
    (2 * n + bit_and (w / 2 ^ (7 - i)) 1) % order ≡ (r * 2 ^ (i + 1) + w / 2 ^ (8 - (i + 1))) % order
next_bit r w i n h e =
    let s : w / 2 ^ (7 - i) / 2 ^ 1 ≡ w / 2 ^ (7 - i + 1) = shr-shr w (7 - i) 1 in
    let k : 7 - i + 1 ≡ 8 - i = omega arith in
    let t : w / 2 ^ (7 - i) / 2 ≡ w / 2 ^ (8 - i) = s ∙ ap (λ (v : ℕ). w / 2 ^ v) k in
    let j : 7 - i ≡ 8 - (i + 1) = omega arith in
    let f : w / 2 ^ (7 - i) ≡ w / 2 ^ (8 - (i + 1)) = ap (λ (v : ℕ). w / 2 ^ v) j in
    let u : r * 2 ^ (i + 1) ≡ 2 * (r * 2 ^ i) = omega (arith, ap (λ (v : ℕ). r * v) (pow-add 2 i 1)) in
    let b : bit_and (w / 2 ^ (7 - i)) 1 ≡ w / 2 ^ (7 - i) % 2 = and_mask (w / 2 ^ (7 - i)) 1 in
    let whole : 2 * (r * 2 ^ i + w / 2 ^ (8 - i)) + bit_and (w / 2 ^ (7 - i)) 1 ≡ r * 2 ^ (i + 1) + w / 2 ^
    (8 - (i + 1)) =
    whole_from (r * 2 ^ i) (w / 2 ^ (8 - i)) (bit_and (w / 2 ^ (7 - i)) 1) (r * 2 ^ (i + 1)) (w / 2 ^ (8 - (i + 1)))
    (w / 2 ^ (7 - i)) u t f b in
    ap (λ (v : ℕ). (2 * v + bit_and (w / 2 ^ (7 - i)) 1) % order) e
    ∙ inside 2 (r * 2 ^ i + w / 2 ^ (8 - i)) (bit_and (w / 2 ^ (7 - i)) 1)
    ∙ ap (λ (v : ℕ). v % order) whole

-- a byte's bits, none and all
pub no_bit : (r w : ℕ) → w < 2 ^ 8 → r < order → r ≡ (r * 2 ^ 0 + w / 2 ^ (8 - 0)) % order
no_bit r w h g =
    let e : r * 2 ^ 0 + w / 2 ^ (8 - 0) ≡ r = omega arith in
    sym (ap (λ (v : ℕ). v % order) e ∙ mod-eq_of_lt g)

pub all_bits : (r w : ℕ) → (r * 2 ^ 8 + w / 2 ^ (8 - 8)) % order ≡ (256 * r + w) % order
all_bits r w = let e : r * 2 ^ 8 + w / 2 ^ (8 - 8) ≡ 256 * r + w = omega arith in ap (λ (v : ℕ). v % order) e

split_from : (w0 w1 w2 w3 l0 h0 l1 h1 l2 h2 l3 h3 l4 h4 : ℕ) → w0 ≡ 2 ^ 51 * h0 + l0 → w1 ≡ 2 ^ 38 * h1 + l1 →
    w2 ≡ 2 ^ 25 * h2 + l2 →
    w3 ≡ 2 ^ 12 * h3 + l3 → h3 ≡ 2 ^ 51 * h4 + l4 →
    words w0 w1 w2 w3 ≡ limbs l0 (h0 + l1 * 2 ^ 13) (h1 + l2 * 2 ^ 26) (h2 + l3 * 2 ^ 39) l4 + 2 ^ 255 * h4
unfolding words limbs
split_from w0 w1 w2 w3 l0 h0 l1 h1 l2 h2 l3 h3 l4 h4 e0 e1 e2 e3 e4 = omega arith

limbs_below : (a0 a1 a2 a3 a4 : ℕ) → a0 < 2 ^ 51 → a1 < 2 ^ 51 → a2 < 2 ^ 51 → a3 < 2 ^ 51 → a4 < 2 ^ 51 →
    limbs a0 a1 a2 a3 a4 < 2 ^ 255
unfolding limbs
limbs_below a0 a1 a2 a3 a4 h0 h1 h2 h3 h4 = omega arith

-- the digits of four words
pub split_words : (w0 w1 w2 w3 : ℕ) → w0 < 2 ^ 64 → w1 < 2 ^ 64 → w2 < 2 ^ 64 →
    limbs (w0 % 2 ^ 51) (w0 / 2 ^ 51 + w1 % 2 ^ 38 * 2 ^ 13) (w1 / 2 ^ 38 + w2 % 2 ^ 25 * 2 ^ 26)
    (w2 / 2 ^ 25 + w3 % 2 ^ 12 * 2 ^ 39) (w3 / 2 ^ 12 % 2 ^ 51) ≡ words w0 w1 w2 w3 % 2 ^ 255
split_words w0 w1 w2 w3 g0 g1 g2 =
    let l0 = w0 % 2 ^ 51 in let h0 = w0 / 2 ^ 51 in let l1 = w1 % 2 ^ 38 in let h1 = w1 / 2 ^ 38 in
    let l2 = w2 % 2 ^ 25 in let h2 = w2 / 2 ^ 25 in let l3 = w3 % 2 ^ 12 in let h3 = w3 / 2 ^ 12 in
    let l4 = h3 % 2 ^ 51 in let h4 = h3 / 2 ^ 51 in
    let e : words w0 w1 w2 w3 ≡ limbs l0 (h0 + l1 * 2 ^ 13) (h1 + l2 * 2 ^ 26) (h2 + l3 * 2 ^ 39) l4 + 2 ^ 255 * h4 =
    split_from w0 w1 w2 w3 l0 h0 l1 h1 l2 h2 l3 h3 l4 h4 (sym (div-add-mod w0 (2 ^ 51))) (sym (div-add-mod w1 (2 ^ 38)))
    (sym (div-add-mod w2 (2 ^ 25))) (sym (div-add-mod w3 (2 ^ 12))) (sym (div-add-mod h3 (2 ^ 51))) in
    let b0 : l0 < 2 ^ 51 = omega arith in
    let b1 : h0 + l1 * 2 ^ 13 < 2 ^ 51 = omega arith in
    let b2 : h1 + l2 * 2 ^ 26 < 2 ^ 51 = omega arith in
    let b3 : h2 + l3 * 2 ^ 39 < 2 ^ 51 = omega arith in
    let b4 : l4 < 2 ^ 51 = omega arith in
    let s : limbs l0 (h0 + l1 * 2 ^ 13) (h1 + l2 * 2 ^ 26) (h2 + l3 * 2 ^ 39) l4 < 2 ^ 255 =
    limbs_below _ _ _ _ _ b0 b1 b2 b3 b4 in
    sym (mod-eq_of_lt s)
    ∙ sym (add-mul-mod_self_left (limbs l0 (h0 + l1 * 2 ^ 13) (h1 + l2 * 2 ^ 26) (h2 + l3 * 2 ^ 39) l4) (2 ^ 255) h4)
    ∙ ap (λ (v : ℕ). v % 2 ^ 255) (sym e)

-- the highest bit
pub top_bit : (w0 w1 w2 w3 : ℕ) → w0 < 2 ^ 64 → w1 < 2 ^ 64 → w2 < 2 ^ 64 → words w0 w1 w2 w3 / 2 ^ 255 ≡ w3 / 2 ^ 63
unfolding words
top_bit w0 w1 w2 w3 h0 h1 h2 = omega arith

below_to : (w0 w1 w2 v t0 t1 t2 t3 q0 q1 q2 : ℕ) → w0 < 2 ^ 64 → w1 < 2 ^ 64 → w2 < 2 ^ 64 →
    t0 ≡ w0 + 19 + 0 → t1 ≡ w1 + 0 + q0 → t2 ≡ w2 + 0 + q1 → t3 ≡ v + 0 + q2 →
    q0 ≡ t0 / 2 ^ 64 → q1 ≡ t1 / 2 ^ 64 → q2 ≡ t2 / 2 ^ 64 → t3 < 2 ^ 63 → words w0 w1 w2 v < prime
unfolding words prime
below_to w0 w1 w2 v t0 t1 t2 t3 q0 q1 q2 h0 h1 h2 a0 a1 a2 a3 b0 b1 b2 k = omega arith

below_from : (w0 w1 w2 v t0 t1 t2 t3 q0 q1 q2 : ℕ) → w0 < 2 ^ 64 → w1 < 2 ^ 64 → w2 < 2 ^ 64 →
    t0 ≡ w0 + 19 + 0 → t1 ≡ w1 + 0 + q0 → t2 ≡ w2 + 0 + q1 → t3 ≡ v + 0 + q2 →
    q0 ≡ t0 / 2 ^ 64 → q1 ≡ t1 / 2 ^ 64 → q2 ≡ t2 / 2 ^ 64 → words w0 w1 w2 v < prime → t3 < 2 ^ 63
unfolding words prime
below_from w0 w1 w2 v t0 t1 t2 t3 q0 q1 q2 h0 h1 h2 a0 a1 a2 a3 b0 b1 b2 k = omega arith

low_bits : (w0 w1 w2 w3 : ℕ) → w0 < 2 ^ 64 → w1 < 2 ^ 64 → w2 < 2 ^ 64 →
    words w0 w1 w2 w3 % 2 ^ 255 ≡ words w0 w1 w2 (w3 % 2 ^ 63)
unfolding words
low_bits w0 w1 w2 w3 h0 h1 h2 = omega arith

same_test : (a b c d : ℕ) → (a < b → c < d) → (c < d → a < b) → ltb a b ≡ ltb c d
same_test a b c d f g = grind (arith, f, g)

-- whether a number without its highest bit is below p
pub below_p : (w0 w1 w2 w3 t0 t1 t2 t3 q0 q1 q2 : ℕ) → w0 < 2 ^ 64 → w1 < 2 ^ 64 → w2 < 2 ^ 64 →
    t0 ≡ w0 + 19 + 0 → t1 ≡ w1 + 0 + q0 → t2 ≡ w2 + 0 + q1 → t3 ≡ w3 % 2 ^ 63 + 0 + q2 →
    q0 ≡ t0 / 2 ^ 64 → q1 ≡ t1 / 2 ^ 64 → q2 ≡ t2 / 2 ^ 64 →
    ltb t3 (2 ^ 63) ≡ ltb (words w0 w1 w2 w3 % 2 ^ 255) prime
below_p w0 w1 w2 w3 t0 t1 t2 t3 q0 q1 q2 h0 h1 h2 a0 a1 a2 a3 b0 b1 b2 =
    let e : words w0 w1 w2 w3 % 2 ^ 255 ≡ words w0 w1 w2 (w3 % 2 ^ 63) = low_bits w0 w1 w2 w3 h0 h1 h2 in
    same_test t3 (2 ^ 63) (words w0 w1 w2 w3 % 2 ^ 255) prime
    (λ k. rw e (below_to w0 w1 w2 (w3 % 2 ^ 63) t0 t1 t2 t3 q0 q1 q2 h0 h1 h2 a0 a1 a2 a3 b0 b1 b2 k))
    (λ k. below_from w0 w1 w2 (w3 % 2 ^ 63) t0 t1 t2 t3 q0 q1 q2 h0 h1 h2 a0 a1 a2 a3 b0 b1 b2 (rw e at k))

bytes_split_cons : (n b : ℕ) (bs : List ℕ) (l t d : ℕ) → l ≡ t + 256 ^ n * d →
    b + 256 * l ≡ b + 256 * t + 256 ^ suc n * d
bytes_split_cons n b bs l t d e = omega (arith, ap (λ (v : ℕ). v * d) (pow-suc 256 n))

-- the bytes of a number in two parts
pub bytes_split : (n : ℕ) (bs : List ℕ) → little_endian bs ≡ little_endian (take n bs) + 256 ^ n * little_endian
    (drop n bs)
bytes_split zero bs = omega arith
bytes_split (suc n) [] = omega arith
bytes_split (suc n) (b ∷ bs) = bytes_split_cons n b bs (little_endian bs) (little_endian (take n bs))
    (little_endian (drop n bs)) (bytes_split n bs)

turned : (b l : ℕ) → b + 256 * l ≡ 256 * l + b
turned b l = omega arith

-- one more byte, from the top
pub next_byte : (bs : List ℕ) (j : ℕ) → j < length bs → little_endian (drop j bs) ≡ 256 * little_endian
    (drop (suc j) bs) + get_or bs j 0
next_byte bs j h = ap little_endian (drop-cons bs j 0 h) ∙ turned (get_or bs j 0) (little_endian (drop (suc j) bs))

four_from : (a b c d l l8 l16 l24 : ℕ) → l ≡ a + 256 ^ 8 * l8 → l8 ≡ b + 256 ^ 8 * l16 → l16 ≡ c + 256 ^ 8 * l24 →
    d ≡ l24 → words a b c d ≡ l
unfolding words
four_from a b c d l l8 l16 l24 e0 e1 e2 e3 = omega arith

pub four_parts : (bs : List ℕ) → length bs ≡ 32 →
    words (little_endian (take 8 bs)) (little_endian (take 8 (drop 8 bs))) (little_endian (take 8 (drop 16 bs)))
    (little_endian (take 8 (drop 24 bs)))
    ≡ little_endian bs
four_parts bs h =
    let e1 : little_endian (drop 8 (drop 8 bs)) ≡ little_endian (drop 16 bs) = ap little_endian (drop-drop 8 8 bs) in
    let e2 : little_endian (drop 8 (drop 16 bs)) ≡ little_endian (drop 24 bs) = ap little_endian (drop-drop 8 16 bs) in
    let k : length (drop 24 bs) ≤ 8 = omega (arith, length-drop 24 bs) in
    let e3 : little_endian (take 8 (drop 24 bs)) ≡ little_endian (drop 24 bs) =
    ap little_endian (take_all 8 (drop 24 bs) k) in
    four_from _ _ _ _ _ _ _ _ (bytes_split 8 bs) (bytes_split 8 (drop 8 bs)
    ∙ ap (λ (v : ℕ). little_endian (take 8 (drop 8 bs)) + 256 ^ 8 * v) e1)
    (bytes_split 8 (drop 16 bs) ∙ ap (λ (v : ℕ). little_endian (take 8 (drop 16 bs)) + 256 ^ 8 * v) e2) e3

pub less_words : (n w0 w1 w2 w3 t0 t1 t2 t3 : ℕ) → words w0 w1 w2 w3 ≡ n → AreWords w0 w1 w2 w3 →
    t0 ≡ w0 + 0xa7ed9ce5a30a2c13 + 0 → t1 ≡ w1 + 0xeb2106215d086329 + t0 / 2 ^ 64 →
    t2 ≡ w2 + 0xffffffffffffffff + t1 / 2 ^ 64 →
    t3 ≡ w3 + 0xefffffffffffffff + t2 / 2 ^ 64 →
    (IsTrue (eqb (t3 / 2 ^ 64) 1) → order ≤ n) × (order ≤ n →
    IsTrue (eqb (t3 / 2 ^ 64) 1)) × (IsTrue (eqb (t3 / 2 ^ 64) 1) →
    words (bit_and t0 (2 ^ 64 - 1)) (bit_and t1 (2 ^ 64 - 1)) (bit_and t2 (2 ^ 64 - 1)) (bit_and t3 (2 ^ 64 - 1)) +
    order ≡ n)
less_words n w0 w1 w2 w3 t0 t1 t2 t3 v a e0 e1 e2 e3 =
    let m : ℕ = words (bit_and t0 (2 ^ 64 - 1)) (bit_and t1 (2 ^ 64 - 1)) (bit_and t2 (2 ^ 64 - 1))
    (bit_and t3 (2 ^ 64 - 1)) in
    let s : words w0 w1 w2 w3 + words 0xa7ed9ce5a30a2c13 0xeb2106215d086329 0xffffffffffffffff 0xefffffffffffffff ≡ m
    + 2 ^ 256 * (t3 / 2 ^ 64) =
    carries w0 w1 w2 w3 _ _ _ _ t0 t1 t2 t3 (t0 / 2 ^ 64) (t1 / 2 ^ 64) (t2 / 2 ^ 64) (t3 / 2 ^ 64) _ _ _ _ e0 e1 e2 e3
    (cut_word t0) (cut_word t1) (cut_word t2) (cut_word t3) in
    let k : n + words 0xa7ed9ce5a30a2c13 0xeb2106215d086329 0xffffffffffffffff 0xefffffffffffffff ≡ m + 2 ^ 256 *
    (t3 / 2 ^ 64) =
    ap (λ (x : ℕ). x + words 0xa7ed9ce5a30a2c13 0xeb2106215d086329 0xffffffffffffffff 0xefffffffffffffff) (sym v) ∙ s in
    let b : n < 2 ^ 256 = rw (← v) (words_below w0 w1 w2 w3 a.0 a.1 a.2 a.3) in
    let d : m < 2 ^ 256 = words_below _ _ _ _ (word_below t0) (word_below t1) (word_below t2) (word_below t3) in
    let l = less n (words 0xa7ed9ce5a30a2c13 0xeb2106215d086329 0xffffffffffffffff 0xefffffffffffffff) order m
    (t3 / 2 ^ 64) k order_lack b d order_size.1 in
    (λ h. l.0 (eqb-true _ _ h), λ h. eq-eqb _ _ (l.1 h), λ h. l.2 (eqb-true _ _ h))

pub once : (x r : ℕ) → r + order ≡ x → x < 2 * order → (r ≡ x % order) × (r < order)
once x r e h =
    let s : r < order = omega arith in
    let f : r + order * 1 ≡ x = omega arith in
    (sym (ap (λ (v : ℕ). v % order) (sym f) ∙ add-mul-mod_self_left r order 1 ∙ mod-eq_of_lt s), s)

pub not_reached : (x : ℕ) (b : Bool) → (order ≤ x → b ≡ true) → b ≡ false → x < order
not_reached x b g f = elim (cases_lt x order) [ inl k ↦ k | inr k ↦ absurd (false≢true (sym f ∙ g k)) ]

pub no_byte : (bs : List ℕ) → length bs ≡ 64 → (words 0 0 0 0 ≡ little_endian (drop 64 bs) % order)
    × (words 0 0 0 0 < order)
unfolding words
no_byte bs h =
    let k : length bs ≤ 64 = omega arith in
    let e : little_endian (drop 64 bs) ≡ 0 = ap little_endian (drop_of_length-le bs k) in
    (sym (ap (λ (v : ℕ). v % order) e ∙ mod-eq_of_lt order_size.1), order_size.1)

pub more_bytes : (bs : List ℕ) (i n : ℕ) → i < 64 → length bs ≡ 64 → n ≡ little_endian (drop (64 - i) bs) % order →
    (256 * n + get_or bs (63 - i) 0) % order ≡ little_endian (drop (64 - (i + 1)) bs) % order
more_bytes bs i n h l e =
    let k : suc (63 - i) ≡ 64 - i = omega arith in
    let j : 63 - i ≡ 64 - (i + 1) = omega arith in
    let s : little_endian (drop (63 - i) bs) ≡ 256 * little_endian (drop (suc (63 - i)) bs) + get_or bs (63 - i) 0 =
    next_byte bs (63 - i) (omega arith) in
    let t : little_endian (drop (64 - (i + 1)) bs) ≡ 256 * little_endian (drop (64 - i) bs) + get_or bs (63 - i) 0 =
    ap (λ (v : ℕ). little_endian (drop v bs)) (sym j) ∙ s ∙ ap
    (λ (v : ℕ). 256 * little_endian (drop v bs) + get_or bs (63 - i) 0) k in
    ap (λ (v : ℕ). (256 * v + get_or bs (63 - i) 0) % order) e
    ∙ inside 256 (little_endian (drop (64 - i) bs)) (get_or bs (63 - i) 0)
    ∙ ap (λ (v : ℕ). v % order) (sym t)

joined_from : (d0 d1 d2 d3 d4 h1 l1 h2 l2 h3 l3 : ℕ) → d1 ≡ 2 ^ 13 * h1 + l1 → d2 ≡ 2 ^ 26 * h2 + l2 →
    d3 ≡ 2 ^ 39 * h3 + l3 →
    words (d0 + l1 * 2 ^ 51) (h1 + l2 * 2 ^ 38) (h2 + l3 * 2 ^ 25) (h3 + d4 * 2 ^ 12) ≡ limbs d0 d1 d2 d3 d4
unfolding words limbs
joined_from d0 d1 d2 d3 d4 h1 l1 h2 l2 h3 l3 e1 e2 e3 = omega arith

-- the words of five digits
pub joined_digits : (d0 d1 d2 d3 d4 : ℕ) →
    words (d0 + d1 % 2 ^ 13 * 2 ^ 51) (d1 / 2 ^ 13 + d2 % 2 ^ 26 * 2 ^ 38) (d2 / 2 ^ 26 + d3 % 2 ^ 39 * 2 ^ 25)
    (d3 / 2 ^ 39 + d4 * 2 ^ 12)
    ≡ limbs d0 d1 d2 d3 d4
joined_digits d0 d1 d2 d3 d4 =
    joined_from d0 d1 d2 d3 d4 (d1 / 2 ^ 13) (d1 % 2 ^ 13) (d2 / 2 ^ 26) (d2 % 2 ^ 26) (d3 / 2 ^ 39) (d3 % 2 ^ 39)
    (sym (div-add-mod d1 (2 ^ 13))) (sym (div-add-mod d2 (2 ^ 26))) (sym (div-add-mod d3 (2 ^ 39)))

-- a number below 2 ^ 255 with one more bit
pub topped_words : (w0 w1 w2 w3 b : ℕ) → words w0 w1 w2 w3 < 2 ^ 255 →
    words w0 w1 w2 (w3 % 2 ^ 63 + b * 2 ^ 63) ≡ words w0 w1 w2 w3 + 2 ^ 255 * b
unfolding words
topped_words w0 w1 w2 w3 b h =
    let k : w3 < 2 ^ 63 = omega arith in
    let d : w3 % 2 ^ 63 ≡ w3 = mod-eq_of_lt k in
    omega arith

no_carry : (a b o x y m q : ℕ) → x ≡ a → y ≡ b → a < o → b < o → o < 2 ^ 253 → x + y ≡ m + 2 ^ 256 * q → m ≡ a + b
no_carry a b o x y m q ex ey ha hb ho s = omega arith

spread : (c b f : ℕ) → (2 * c + b) * f ≡ 2 * (c * f) + b * f
spread c b f = omega arith

-- the sum of two numbers below L
pub sum_words : (a b a0 a1 a2 a3 b0 b1 b2 b3 t0 t1 t2 t3 : ℕ) → words a0 a1 a2 a3 ≡ a → words b0 b1 b2 b3 ≡ b →
    a < order → b < order →
    t0 ≡ a0 + b0 + 0 → t1 ≡ a1 + b1 + t0 / 2 ^ 64 → t2 ≡ a2 + b2 + t1 / 2 ^ 64 → t3 ≡ a3 + b3 + t2 / 2 ^ 64 →
    words (bit_and t0 (2 ^ 64 - 1)) (bit_and t1 (2 ^ 64 - 1)) (bit_and t2 (2 ^ 64 - 1)) (bit_and t3 (2 ^ 64 - 1)) ≡ a
    + b
sum_words a b a0 a1 a2 a3 b0 b1 b2 b3 t0 t1 t2 t3 va vb ha hb e0 e1 e2 e3 =
    let m : ℕ = words (bit_and t0 (2 ^ 64 - 1)) (bit_and t1 (2 ^ 64 - 1)) (bit_and t2 (2 ^ 64 - 1))
    (bit_and t3 (2 ^ 64 - 1)) in
    let s : words a0 a1 a2 a3 + words b0 b1 b2 b3 ≡ m + 2 ^ 256 * (t3 / 2 ^ 64) =
    carries a0 a1 a2 a3 b0 b1 b2 b3 t0 t1 t2 t3 (t0 / 2 ^ 64) (t1 / 2 ^ 64) (t2 / 2 ^ 64) (t3 / 2 ^ 64) _ _ _ _ e0 e1
    e2 e3
    (cut_word t0) (cut_word t1) (cut_word t2) (cut_word t3) in
    no_carry a b order (words a0 a1 a2 a3) (words b0 b1 b2 b3) m (t3 / 2 ^ 64) va vb ha hb order_size.0 s

-- one more bit of a product, modulo L
product_from : (s f a c d b x y : ℕ) → a ≡ 2 * s → d / 2 ≡ c → d % 2 ≡ b → x ≡ c * f → y ≡ d * f →
    a + y ≡ 2 * (s + x) + b * f
product_from s f a c d b x y u t g ex ey =
    let w : d ≡ 2 * c + b = omega arith in
    let z : d * f ≡ 2 * (c * f) + b * f = ap (λ (n : ℕ). n * f) w ∙ spread c b f in
    omega arith

pub next_product : (r w f i n : ℕ) → i < 64 → n ≡ (r * 2 ^ i + w / 2 ^ (64 - i) * f) % order →
    (2 * n + bit_and (w / 2 ^ (63 - i)) 1 * f) % order ≡ (r * 2 ^ (i + 1) + w / 2 ^ (64 - (i + 1)) * f) % order
next_product r w f i n h e =
    let s : w / 2 ^ (63 - i) / 2 ^ 1 ≡ w / 2 ^ (63 - i + 1) = shr-shr w (63 - i) 1 in
    let k : 63 - i + 1 ≡ 64 - i = omega arith in
    let t : w / 2 ^ (63 - i) / 2 ≡ w / 2 ^ (64 - i) = s ∙ ap (λ (v : ℕ). w / 2 ^ v) k in
    let j : 63 - i ≡ 64 - (i + 1) = omega arith in
    let q : w / 2 ^ (63 - i) ≡ w / 2 ^ (64 - (i + 1)) = ap (λ (v : ℕ). w / 2 ^ v) j in
    let u : r * 2 ^ (i + 1) ≡ 2 * (r * 2 ^ i) = omega (arith, ap (λ (v : ℕ). r * v) (pow-add 2 i 1)) in
    let b : bit_and (w / 2 ^ (63 - i)) 1 ≡ w / 2 ^ (63 - i) % 2 = and_mask (w / 2 ^ (63 - i)) 1 in
    let whole : r * 2 ^ (i + 1) + w / 2 ^ (63 - i) * f ≡ 2 * (r * 2 ^ i + w / 2 ^ (64 - i) * f) + bit_and
    (w / 2 ^ (63 - i)) 1 * f =
    product_from (r * 2 ^ i) f (r * 2 ^ (i + 1)) (w / 2 ^ (64 - i)) (w / 2 ^ (63 - i)) (bit_and (w / 2 ^ (63 - i)) 1)
    _ _ u t (sym b) refl refl in
    ap (λ (v : ℕ). (2 * v + bit_and (w / 2 ^ (63 - i)) 1 * f) % order) e
    ∙ inside 2 (r * 2 ^ i + w / 2 ^ (64 - i) * f) (bit_and (w / 2 ^ (63 - i)) 1 * f)
    ∙ ap (λ (v : ℕ). v % order) (sym whole ∙ ap (λ (v : ℕ). r * 2 ^ (i + 1) + v * f) q)

-- the factor added where the bit is set, and not where it is not
pub with_bit : (n f d b : ℕ) → d ≡ (2 * n + 0) % order → b ≡ 1 → (d + f) % order ≡ (2 * n + b * f) % order
with_bit n f d b e h =
    let k : 2 * n + 0 + f ≡ 2 * n + b * f = omega (arith, ap (λ (v : ℕ). v * f) h) in
    ap (λ (v : ℕ). (v + f) % order) e ∙ mod-add-mod (2 * n + 0) order f ∙ ap (λ (v : ℕ). v % order) k

pub without_bit : (n f d x : ℕ) → d ≡ (2 * n + 0) % order → bit_and x 1 ≢ 1 → d ≡ (2 * n + bit_and x 1 * f) % order
without_bit n f d x e h =
    let z : bit_and x 1 ≡ 0 = omega (arith, and_mask x 1, h) in
    let k : bit_and x 1 * f ≡ 0 = omega (arith, ap (λ (v : ℕ). v * f) z) in
    e ∙ ap (λ (v : ℕ). (2 * n + v) % order) (sym k)

-- a product's bits, none and all
pub no_bit_of_product : (r w f : ℕ) → w < 2 ^ 64 → r < order → r ≡ (r * 2 ^ 0 + w / 2 ^ (64 - 0) * f) % order
no_bit_of_product r w f h g =
    let z : w / 2 ^ (64 - 0) ≡ 0 = omega arith in
    let y : w / 2 ^ (64 - 0) * f ≡ 0 = omega (arith, ap (λ (v : ℕ). v * f) z) in
    let e : r * 2 ^ 0 + w / 2 ^ (64 - 0) * f ≡ r = omega arith in
    sym (ap (λ (v : ℕ). v % order) e ∙ mod-eq_of_lt g)

pub all_bits_of_product : (r w f : ℕ) → (r * 2 ^ 64 + w / 2 ^ (64 - 64) * f) % order ≡ (r * 2 ^ 64 + w * f) % order
all_bits_of_product r w f =
    let e : w / 2 ^ (64 - 64) ≡ w = omega arith in ap (λ (v : ℕ). (r * 2 ^ 64 + v * f) % order) e

four_products : (w0 w1 w2 w3 f p0 p1 p2 p3 : ℕ) → p0 ≡ w0 * f → p1 ≡ w1 * f → p2 ≡ w2 * f → p3 ≡ w3 * f →
    ((p3 * 2 ^ 64 + p2) * 2 ^ 64 + p1) * 2 ^ 64 + p0 ≡ words w0 w1 w2 w3 * f
unfolding words
four_products w0 w1 w2 w3 f p0 p1 p2 p3 e0 e1 e2 e3 = omega arith

one_more : (s x y : ℕ) → ((s % order) * 2 ^ 64 + x) % order ≡ (s * 2 ^ 64 + x) % order
one_more s x y =
    sym (mod-add-mod ((s % order) * 2 ^ 64) order x)
    ∙ ap (λ (v : ℕ). (v + x) % order) (mul-mod_first s (2 ^ 64) order)
    ∙ mod-add-mod (s * 2 ^ 64) order x

pub product_of_words : (w0 w1 w2 w3 f z s3 s2 s1 s0 n : ℕ) → z ≡ 0 → words w0 w1 w2 w3 ≡ n →
    s3 ≡ (z * 2 ^ 64 + w3 * f) % order → s2 ≡ (s3 * 2 ^ 64 + w2 * f) % order → s1 ≡ (s2 * 2 ^ 64 + w1 * f) % order →
    s0 ≡ (s1 * 2 ^ 64 + w0 * f) % order → s0 ≡ (n * f) % order
product_of_words w0 w1 w2 w3 f z s3 s2 s1 s0 n ez en e3 e2 e1 e0 =
    let k : z * 2 ^ 64 + w3 * f ≡ w3 * f = omega arith in
    let d3 : s3 ≡ (w3 * f) % order = e3 ∙ ap (λ (v : ℕ). v % order) k in
    let d2 : s2 ≡ (w3 * f * 2 ^ 64 + w2 * f) % order =
    e2 ∙ ap (λ (v : ℕ). (v * 2 ^ 64 + w2 * f) % order) d3 ∙ one_more (w3 * f) (w2 * f) 0 in
    let d1 : s1 ≡ ((w3 * f * 2 ^ 64 + w2 * f) * 2 ^ 64 + w1 * f) % order =
    e1 ∙ ap (λ (v : ℕ). (v * 2 ^ 64 + w1 * f) % order) d2 ∙ one_more (w3 * f * 2 ^ 64 + w2 * f) (w1 * f) 0 in
    let d0 : s0 ≡ (((w3 * f * 2 ^ 64 + w2 * f) * 2 ^ 64 + w1 * f) * 2 ^ 64 + w0 * f) % order =
    e0 ∙ ap (λ (v : ℕ). (v * 2 ^ 64 + w0 * f) % order) d1 ∙ one_more ((w3 * f * 2 ^ 64 + w2 * f) * 2 ^ 64 + w1 * f)
    (w0 * f) 0 in
    d0 ∙ ap (λ (v : ℕ). v % order) (four_products w0 w1 w2 w3 f _ _ _ _ refl refl refl refl)
    ∙ ap (λ (v : ℕ). (v * f) % order) en

low_254 : (w0 w1 w2 w3 : ℕ) → w0 < 2 ^ 64 → w1 < 2 ^ 64 → w2 < 2 ^ 64 →
    words w0 w1 w2 w3 % 2 ^ 254 ≡ words w0 w1 w2 (w3 % 2 ^ 62)
unfolding words
low_254 w0 w1 w2 w3 h0 h1 h2 = omega arith

by_eight : (w0 w1 w2 w3 : ℕ) → words (w0 / 8 * 8) w1 w2 (w3 + 2 ^ 62) ≡ words w0 w1 w2 w3 / 8 * 8 + 2 ^ 254
unfolding words
by_eight w0 w1 w2 w3 = omega arith

-- the pruned words
pub pruned_words : (w0 w1 w2 w3 : ℕ) → w0 < 2 ^ 64 → w1 < 2 ^ 64 → w2 < 2 ^ 64 →
    words (w0 / 8 * 8) w1 w2 (w3 % 2 ^ 62 + 2 ^ 62) ≡ pruned (words w0 w1 w2 w3)
unfolding pruned
pruned_words w0 w1 w2 w3 h0 h1 h2 =
    by_eight w0 w1 w2 (w3 % 2 ^ 62) ∙ ap (λ (v : ℕ). v / 8 * 8 + 2 ^ 254) (sym (low_254 w0 w1 w2 w3 h0 h1 h2))

pub no_words : words 0 0 0 0 ≡ 0
unfolding words
no_words = refl

-- S = r + k s, whose product is reduced first
pub response : (s k r t z : ℕ) → t ≡ (s * k) % order → z ≡ (t + r) % order → z ≡ (r + k * s) % order
response s k r t z et ez =
    let e : s * k + r ≡ r + k * s = omega arith in
    ez ∙ ap (λ (v : ℕ). (v + r) % order) et ∙ mod-add-mod (s * k) order r ∙ ap (λ (v : ℕ). v % order) e
