-- The bytes of a number of four words.
use Rattle.std.proofs.Common.{◌≡◌, ℕ, zero, suc, ◌+◌, ◌*◌, ◌/◌, ◌^◌, ◌%◌, ◌<◌, List, ◌∷◌, ◌++◌, refl, sym, ap, ◌∙◌}
use Rattle.std.proofs.Common.{arith}
use Rattle.std.proofs.Math.Nat.{pow-suc}
use Rattle.std.proofs.lemmas.List.{append_assoc}
use Rattle.std.specs.Int.{to_le_bytes, w64}
use Rattle.ed25519.specs.Encoding.{to_bytes}
use Rattle.ed25519.specs.Inside.{words}

lowest_from : (a b v x y : ℕ) → y ≡ 256 * x → v ≡ a + y → v % 256 ≡ a % 256
lowest_from a b v x y e f = omega arith

higher_from : (a v x y : ℕ) → y ≡ 256 * x → v ≡ a + y → v / 256 ≡ a / 256 + x
higher_from a v x y e f = omega arith

scaled : (n b : ℕ) → 256 ^ suc n * b ≡ 256 * (256 ^ n * b)
scaled n b = omega (arith, ap (λ (v : ℕ). v * b) (pow-suc 256 n))

smaller : (n a : ℕ) → a < 256 ^ suc n → a / 256 < 256 ^ n
smaller n a h = omega (arith, pow-suc 256 n)

-- the bytes of a number in two parts
pub bytes_of_parts : (n m a b : ℕ) → a < 256 ^ n → to_bytes (n + m) (a + 256 ^ n * b) ≡ to_bytes n a ++ to_bytes m b
unfolding to_bytes
bytes_of_parts zero m a b h =
    let e : zero + m ≡ m = omega arith in
    let f : a + 256 ^ zero * b ≡ b = omega arith in
    rw (e, f) refl
bytes_of_parts (suc n) m a b h =
    let e : suc n + m ≡ suc (n + m) = omega arith in
    let k : 256 ^ suc n * b ≡ 256 * (256 ^ n * b) = scaled n b in
    let low : (a + 256 ^ suc n * b) % 256 ≡ a % 256 = lowest_from a b _ (256 ^ n * b) (256 ^ suc n * b) k refl in
    let high : (a + 256 ^ suc n * b) / 256 ≡ a / 256 + 256 ^ n * b =
    higher_from a _ (256 ^ n * b) (256 ^ suc n * b) k refl in
    ap (λ (v : ℕ). to_bytes v (a + 256 ^ suc n * b)) e
    ∙ ap (λ (v : ℕ). v ∷ to_bytes (n + m) ((a + 256 ^ suc n * b) / 256)) low
    ∙ ap (λ (v : ℕ). a % 256 ∷ to_bytes (n + m) v) high
    ∙ ap (λ (l : List ℕ). a % 256 ∷ l) (bytes_of_parts n m (a / 256) b (smaller n a h))

-- a word's bytes, as its own method has them
pub word_bytes : (w : ℕ) → to_le_bytes w64 w ≡ to_bytes 8 w
unfolding to_bytes
word_bytes w =
    let e2 : w / 256 ^ 2 ≡ w / 256 / 256 = omega arith in
    let e3 : w / 256 ^ 3 ≡ w / 256 / 256 / 256 = omega arith in
    let e4 : w / 256 ^ 4 ≡ w / 256 / 256 / 256 / 256 = omega arith in
    let e5 : w / 256 ^ 5 ≡ w / 256 / 256 / 256 / 256 / 256 = omega arith in
    let e6 : w / 256 ^ 6 ≡ w / 256 / 256 / 256 / 256 / 256 / 256 = omega arith in
    let e7 : w / 256 ^ 7 ≡ w / 256 / 256 / 256 / 256 / 256 / 256 / 256 = omega arith in
    rw (e2, e3, e4, e5, e6, e7) refl

nested : (w0 w1 w2 w3 : ℕ) → words w0 w1 w2 w3 ≡ w0 + 256 ^ 8 * (w1 + 256 ^ 8 * (w2 + 256 ^ 8 * w3))
unfolding words
nested w0 w1 w2 w3 = omega arith

glued : (a b c d a' b' c' d' r s q : List ℕ) → a ≡ a' → b ≡ b' → c ≡ c' → d ≡ d' → r ≡ a' ++ s → s ≡ b' ++ q →
    q ≡ c' ++ d' →
    (a ++ b) ++ (c ++ d) ≡ r
glued a b c d a' b' c' d' r s q ea eb ec ed er es eq = rw (ea, eb, ec, ed, er, es, eq) (append_assoc a' b' (c' ++ d'))

-- the bytes of four words
pub bytes_of_words : (n w0 w1 w2 w3 : ℕ) → words w0 w1 w2 w3 ≡ n → w0 < 2 ^ 64 → w1 < 2 ^ 64 → w2 < 2 ^ 64 →
    (b0 b1 b2 b3 : List ℕ) →
    b0 ≡ to_le_bytes w64 w0 → b1 ≡ to_le_bytes w64 w1 → b2 ≡ to_le_bytes w64 w2 → b3 ≡ to_le_bytes w64 w3 →
    (b0 ++ b1) ++ (b2 ++ b3) ≡ to_bytes 32 n
bytes_of_words n w0 w1 w2 w3 e h0 h1 h2 b0 b1 b2 b3 e0 e1 e2 e3 =
    let g0 : w0 < 256 ^ 8 = omega arith in
    let g1 : w1 < 256 ^ 8 = omega arith in
    let g2 : w2 < 256 ^ 8 = omega arith in
    glued b0 b1 b2 b3 (to_bytes 8 w0) (to_bytes 8 w1) (to_bytes 8 w2) (to_bytes 8 w3) (to_bytes 32 n)
    (to_bytes 24 (w1 + 256 ^ 8 * (w2 + 256 ^ 8 * w3))) (to_bytes 16 (w2 + 256 ^ 8 * w3))
    (e0 ∙ word_bytes w0) (e1 ∙ word_bytes w1) (e2 ∙ word_bytes w2) (e3 ∙ word_bytes w3)
    (ap (to_bytes 32) (sym e ∙ nested w0 w1 w2 w3) ∙ bytes_of_parts 8 24 w0 (w1 + 256 ^ 8 * (w2 + 256 ^ 8 * w3)) g0)
    (bytes_of_parts 8 16 w1 (w2 + 256 ^ 8 * w3) g1) (bytes_of_parts 8 8 w2 w3 g2)
