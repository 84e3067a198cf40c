-- What a crash leaves is let through.
use Rattle.std.proofs.Common.{◌≡◌, ◌≢◌, ◌⊎◌, inl, inr, ℕ, zero, suc, ◌+◌, ◌<◌, ◌≤◌, List, [], ◌∷◌, ◌++◌, length, take, drop, refl, sym, ◌∙◌, ap, subst, arith, append_assoc, append-nil, length-append, Option}
use Rattle.std.specs.Prelude.{IfSome}
use Rattle.std.specs.Int.{w32, from_be_bytes}
use Rattle.std.proofs.lemmas.List.{take_all, drop_at, length-take-le, take-append-le}
use Rattle.model.specs.Log.{IsLogBlock, body_of, records}
use Rattle.model.proofs.Lists.{all_push}
use Rattle.model.proofs.LogTexts.{length-body_of, records-push}
use Rattle.immlog.specs.Left.{AreZeros, HasRecord, IsShort, IsLeftover, IsLeft, IsLook, IsTorn, staged, IsTornLog}
use Rattle.immlog.specs.declared.look.Look.{Look}
use Rattle.immlog.specs.declared.look.Look.TheVariants as look
use Rattle.immlog.proofs.Looking.{record_tells, length_is, some_weaker, look_of_left}

zeros_both : (xs ys : List ℕ) → AreZeros xs → AreZeros ys → AreZeros (xs ++ ys)
zeros_both [] ys one two = two
zeros_both (x ∷ xs) ys one two = (one.0, zeros_both xs ys one.1 two)

zeros_first : (n : ℕ) (xs : List ℕ) → AreZeros xs → AreZeros (take n xs)
zeros_first zero xs all = tt
zeros_first (suc n) [] all = tt
zeros_first (suc n) (x ∷ xs) all = (all.0, zeros_first n xs all.1)

zeros_last : (m : ℕ) (xs : List ℕ) → AreZeros xs → AreZeros (drop m xs)
zeros_last zero xs all = all
zeros_last (suc m) [] all = tt
zeros_last (suc m) (x ∷ xs) all = zeros_last m xs all.1

-- zeros in the place of bytes, behind which there were only zeros
zeros_drop : (m n : ℕ) (w z : List ℕ) → AreZeros (drop m w) → AreZeros z → AreZeros (drop m (take n w ++ z))
zeros_drop zero n w z all more = zeros_both (take n w) z (zeros_first n w all) more
zeros_drop (suc m) zero w z all more = zeros_last (suc m) z more
zeros_drop (suc m) (suc n) [] z all more = zeros_last (suc m) z more
zeros_drop (suc m) (suc n) (x ∷ w) z all more = zeros_drop m n w z all more

zeros_behind : (m n : ℕ) (w z : List ℕ) → n ≤ m → AreZeros z → AreZeros (drop m (take n w ++ z))
zeros_behind m zero w z within more = zeros_last m z more
zeros_behind zero (suc n) w z within more = absurd (omega arith)
zeros_behind (suc m) (suc n) [] z within more = zeros_last (suc m) z more
zeros_behind (suc m) (suc n) (x ∷ w) z within more = zeros_behind m n w z (omega arith) more

first_first : (k n : ℕ) (w : List ℕ) → k ≤ n → take k (take n w) ≡ take k w
first_first zero n w within = refl
first_first (suc k) zero w within = absurd (omega arith)
first_first (suc k) (suc n) [] within = refl
first_first (suc k) (suc n) (x ∷ w) within = ap (λ (l : List ℕ). x ∷ l) (first_first k n w (omega arith))

-- the length that the first bytes of a record tell
word_of : (bytes block more : List ℕ) → IsLogBlock block → bytes ≡ body_of block ++ more → from_be_bytes w32 (take 4 bytes) ≡ length block
word_of bytes block more is_block text =
    length_is bytes (length block) (record_tells bytes more (record { block = block; size = is_block; text = text }))

less_or : (a b : ℕ) → (a < b) ⊎ (b ≤ a)
less_or zero zero = inr (omega arith)
less_or zero (suc b) = inl (omega arith)
less_or (suc a) zero = inr (omega arith)
less_or (suc a) (suc b) = elim (less_or a b) [ inl l ↦ inl (omega arith) | inr g ↦ inr (omega arith) ]

length_staged : (block : List ℕ) → length (staged block) ≡ 37 + length block
length_staged block =
    let both : length (staged block) ≡ length (body_of block) + 1 = length-append (body_of block) (0 ∷ []) in
    let body : length (body_of block) ≡ 36 + length block = length-body_of block in
    omega arith

four_of : (n : ℕ) (w : List ℕ) → 4 ≤ n → 4 ≤ length w → 4 ≤ length (take n w)
four_of n w enough long = elim (less_or n (length w)) [
  | inl less ↦ (let e : length (take n w) ≡ n = length-take-le n w (omega arith) in omega arith)
  | inr more ↦ (let e : take n w ≡ w = take_all n w more in let f = ap length e in omega arith)
]

pub torn_left : (block torn : List ℕ) → IsLogBlock block → IsTorn (staged block) torn → IsLeftover torn
torn_left block torn is_block left = record {
  short = short_of (less_or left.first 4);
  alone = alone;
}
  where
    short_of : (left.first < 4) ⊎ (4 ≤ left.first) → IsShort torn
    short_of (inl few) =
        let w = is_block.within in
        let t = left.within in
        let s = length_staged block in
        inl (omega arith, subst AreZeros (ap (drop 3) (sym left.text)) (zeros_behind 3 left.first (staged block) left.zeros (omega arith) left.are))
    short_of (inr enough) =
        let s = length_staged block in
        let some : 4 ≤ length (take left.first (staged block)) = four_of left.first (staged block) enough (omega arith) in
        let same : take 4 torn ≡ take 4 (staged block) = ap (take 4) left.text ∙ (take-append-le 4 (take left.first (staged block)) left.zeros some ∙ first_first 4 left.first (staged block) enough) in
        let tells = record_tells (staged block) (0 ∷ []) (record { block = block; size = is_block; text = refl }) in
        let t = left.within in
        inr (length block, record { some = tells.some; within = tells.within; word = same ∙ tells.word }, omega arith)

    whole : (more : List ℕ) → (has : HasRecord torn more) → (4 ≤ left.first) → length has.block ≡ length block
    whole more has enough =
        let long = length_staged block in
        let some : 4 ≤ length (take left.first (staged block)) = four_of left.first (staged block) enough (omega arith) in
        let same : take 4 torn ≡ take 4 (staged block) = ap (take 4) left.text ∙ (take-append-le 4 (take left.first (staged block)) left.zeros some ∙ first_first 4 left.first (staged block) enough) in
        sym (word_of torn has.block more has.size has.text) ∙ (ap (from_be_bytes w32) same ∙ word_of (staged block) block (0 ∷ []) is_block refl)

    alone : (more : List ℕ) → HasRecord torn more → AreZeros more
    alone more has =
        let body : length (body_of has.block) ≡ 36 + length has.block = length-body_of has.block in
        let rest : drop (36 + length has.block) torn ≡ more = ap (drop (36 + length has.block)) has.text ∙ drop_at (body_of has.block) more (36 + length has.block) (omega arith) in
        let all : AreZeros (drop (36 + length has.block) (take left.first (staged block) ++ left.zeros)) = elim (less_or left.first 4) [
          | inl less ↦ zeros_behind (36 + length has.block) left.first (staged block) left.zeros (omega arith) left.are
          | inr enough ↦ zeros_drop (36 + length has.block) left.first (staged block) left.zeros (subst (λ (n : ℕ). AreZeros (drop (36 + n) (staged block))) (sym (whole more has enough)) end_of) left.are
        ] in
        subst AreZeros (ap (drop (36 + length has.block)) (sym left.text) ∙ rest) all
      where
        end_of : AreZeros (drop (36 + length block) (staged block))
        end_of =
            let body : length (body_of block) ≡ 36 + length block = length-body_of block in
            subst AreZeros (sym (drop_at (body_of block) (0 ∷ []) (36 + length block) (omega arith))) (refl, tt)

none_in_nothing : (more : List ℕ) → HasRecord [] more → ⊥
none_in_nothing more has =
    let long : 0 ≡ length (body_of has.block) + length more = ap length has.text ∙ length-append (body_of has.block) more in
    let body : length (body_of has.block) ≡ 36 + length has.block = length-body_of has.block in
    omega arith

pub torn_is_left : (blocks : List (List ℕ)) (block bytes : List ℕ) → IsTornLog blocks block bytes → IsLeft bytes
torn_is_left blocks block bytes log = elim log.left [
  | inl writing ↦ record {
    blocks = blocks;
    rest = 0 ∷ writing.0;
    text = writing.1 ∙ append_assoc (records blocks) (0 ∷ []) writing.0;
    sizes = log.sizes;
    end = (λ is. absurd (omega arith), torn_left block writing.0 log.size writing.2, inl refl);
  }
  | inr opening ↦ at_gate opening.0 opening.1
]
  where
    whole : IsLeftover (staged block)
    whole = torn_left block (staged block) log.size (record {
      first = length (staged block);
      zeros = [];
      are = tt;
      text = sym (append-nil (take (length (staged block)) (staged block)) ∙ take_all (length (staged block)) (staged block) (omega arith));
      within = omega arith;
    })

    shut : (gate : ℕ) → gate ≢ 1 → bytes ≡ records blocks ++ gate ∷ staged block → IsLeft bytes
    shut gate other text = record {
      blocks = blocks;
      rest = gate ∷ staged block;
      text = text;
      sizes = log.sizes;
      end = (other, whole, inr (inr (0 ∷ [], record { block = block; size = log.size; text = refl })));
    }

    at_gate : (gate : ℕ) → bytes ≡ records blocks ++ gate ∷ staged block → IsLeft bytes
    at_gate zero text = shut zero (λ is. absurd (omega arith)) text
    at_gate (suc zero) text = record {
      blocks = blocks ++ block ∷ [];
      rest = 0 ∷ [];
      text = text ∙ sym (records-push blocks block (0 ∷ []));
      sizes = all_push IsLogBlock blocks block log.sizes log.size;
      end = (λ is. absurd (omega arith), record { short = inl (omega arith, tt); alone = λ more has. absurd (none_in_nothing more has) }, inl refl);
    }
    at_gate (suc (suc g)) text = shut (suc (suc g)) (λ is. absurd (omega arith)) text

pub seen_torn : (o : Option (List ℕ)) (seen : Look) → IfSome o (λ bytes. IsLook bytes seen) → IfSome o (λ bytes. (blocks : List (List ℕ)) (block : List ℕ) → IsTornLog blocks block bytes → seen ≡ look.Log)
seen_torn o seen is =
    some_weaker (λ bytes. IsLook bytes seen) (λ bytes. (blocks : List (List ℕ)) (block : List ℕ) → IsTornLog blocks block bytes → seen ≡ look.Log) o
    (λ bytes at blocks block torn. look_of_left bytes seen at (torn_is_left blocks block bytes torn)) is
