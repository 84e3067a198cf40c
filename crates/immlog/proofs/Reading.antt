-- Records, read from bytes.
use Rattle.std.proofs.Common.{◌≡◌, ℕ, zero, suc, ◌+◌, ◌-◌, ◌<◌, List, [], ◌∷◌, ◌++◌, length, take, drop, get_or, refl, sym, ◌∙◌, ap, arith, length-append}
use Rattle.std.proofs.lemmas.List.{take-append-drop, take_all, length-drop, length-take-le}
use Rattle.std.specs.Int.{w32, from_be_bytes}
use Rattle.sha2.specs.Sha256.{sha256}
use Rattle.model.specs.Log.{IsLogBlock, body_of}
use Rattle.model.proofs.LogTexts.{length-body_of, ArePartsOf, parts_of}

-- bytes of a list are bytes in its beginnings
pub bytes_below : (bs : List ℕ) (n : ℕ) → ((i : ℕ) → get_or bs i 0 < 256) → (i : ℕ) → get_or (take n bs) i 0 < 256
bytes_below bs zero small i = omega arith
bytes_below [] (suc n) small i = omega arith
bytes_below (b ∷ bs) (suc n) small zero = small 0
bytes_below (b ∷ bs) (suc n) small (suc i) = bytes_below bs n (λ k. small (suc k)) i

-- the bytes with the length and the digest taken off
pub record AreSplit (bytes size digest rest : List ℕ) : Type 0 where
  pub whole : bytes ≡ size ++ (digest ++ rest)
  pub four : length size ≡ 4
  pub long : length digest ≡ 32
  pub size_is : size ≡ take 4 bytes

pub split_of : (bytes size rest1 digest rest2 : List ℕ) → size ≡ take 4 bytes → rest1 ≡ drop 4 bytes → length rest1 + 4 ≡ length bytes → digest ≡ take 32 rest1 → rest2 ≡ drop 32 rest1 → length rest2 + 32 ≡ length rest1 → AreSplit bytes size digest rest2
split_of bytes size rest1 digest rest2 size_is rest1_is len1 digest_is rest2_is len2 =
    let digests : digest ++ rest2 ≡ rest1 = ap (λ (l : List ℕ). l ++ rest2) digest_is ∙ (ap (λ (l : List ℕ). take 32 rest1 ++ l) rest2_is ∙ take-append-drop 32 rest1) in
    let wholes : size ++ rest1 ≡ bytes = ap (λ (l : List ℕ). l ++ rest1) size_is ∙ (ap (λ (l : List ℕ). take 4 bytes ++ l) rest1_is ∙ take-append-drop 4 bytes) in
    record {
      whole = sym wholes ∙ ap (λ (l : List ℕ). size ++ l) (sym digests);
      four = ap length size_is ∙ length-take-le 4 bytes (omega arith);
      long = ap length digest_is ∙ length-take-le 32 rest1 (omega arith);
      size_is = size_is;
    }

pub none_short : (bytes : List ℕ) → length bytes < 36 → (block more : List ℕ) → IsLogBlock block → bytes ≡ body_of block ++ more → ⊥
none_short bytes short block more is_block text =
    let long : length bytes ≡ length (body_of block) + length more = ap length text ∙ length-append (body_of block) more in
    let body : length (body_of block) ≡ 36 + length block = length-body_of block in
    omega arith

pub parts_here : (bytes size digest rest block more : List ℕ) → AreSplit bytes size digest rest → IsLogBlock block → bytes ≡ body_of block ++ more → ArePartsOf block more size digest rest
parts_here bytes size digest rest block more split is_block text =
    parts_of block more size digest rest is_block split.four split.long (sym split.whole ∙ text)

pub none_past : (bytes size digest rest : List ℕ) (n : ℕ) → AreSplit bytes size digest rest → n ≡ from_be_bytes w32 size → length rest < n → (block more : List ℕ) → IsLogBlock block → bytes ≡ body_of block ++ more → ⊥
none_past bytes size digest rest n split n_is past block more is_block text =
    let parts = parts_here bytes size digest rest block more split is_block text in
    let count : n ≡ length block = n_is ∙ parts.count in
    let long : length rest ≡ length block + length more = ap length parts.behind ∙ length-append block more in
    omega arith

take_front : (front more : List ℕ) → take (length front) (front ++ more) ≡ front
take_front [] more = refl
take_front (x ∷ front) more = ap (λ (l : List ℕ). x ∷ l) (take_front front more)

-- where a record begins, its block is what was taken for it
pub block_taken : (bytes size digest rest front block more : List ℕ) (n : ℕ) → AreSplit bytes size digest rest → n ≡ from_be_bytes w32 size → front ≡ take n rest → IsLogBlock block → bytes ≡ body_of block ++ more → (front ≡ block) × (digest ≡ sha256 block)
block_taken bytes size digest rest front block more n split n_is front_is is_block text =
    let parts = parts_here bytes size digest rest block more split is_block text in
    let count : n ≡ length block = n_is ∙ parts.count in
    (front_is ∙ (ap (λ (l : List ℕ). take n l) parts.behind ∙ (ap (λ (k : ℕ). take k (block ++ more)) count ∙ take_front block more)), parts.same)

-- ---- the loop over the records

pub tail_slice : (bytes : List ℕ) (n : ℕ) → take (length bytes - n) (drop n bytes) ≡ drop n bytes
tail_slice bytes n = take_all (length bytes - n) (drop n bytes) (omega (arith, length-drop n bytes))
