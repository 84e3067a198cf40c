-- Where a block stands on a disk that keeps what it holds.
use Rattle.std.proofs.Common.{◌≡◌, ℕ, zero, suc, List, [], ◌∷◌, ◌++◌, length, take, drop, slice_get, None, Some, refl, sym, ◌∙◌, ap, arith, append_assoc, length-append}
use Rattle.std.specs.Int.{w32, to_be_bytes}
use Rattle.sha2.specs.Sha256.{sha256}
use Rattle.model.specs.Log.{body_of, records, at_rest}
use Rattle.model.proofs.LogTexts.{length-body_of, body_of_parts}
use Rattle.immlog.specs.Numbered.{IsSpan, numbered}
use Rattle.immlog.specs.Fetched.{IsThere}
use Rattle.immlog.specs.declared.index.Span.{Span}

-- its record among the others
records_at : (blocks : List (List ℕ)) (n : ℕ) (block : List ℕ) → slice_get blocks n ≡ Some block → records blocks ≡ records (take n blocks) ++ 1 ∷ (body_of block ++ records (drop (suc n) blocks))
records_at [] n block is = absurd (let no : None ≡ Some block = is in cc)
records_at (b ∷ bs) zero block is =
    let same : Some b ≡ Some block = is in
    let here : b ≡ block = cc in
    ap (λ (x : List ℕ). 1 ∷ (body_of x ++ records bs)) here
records_at (b ∷ bs) (suc n) block is =
    ap (λ (l : List ℕ). 1 ∷ (body_of b ++ l)) (records_at bs n block is)
    ∙ ap (λ (l : List ℕ). 1 ∷ l) (sym (append_assoc (body_of b) (records (take n bs)) (1 ∷ (body_of block ++ records (drop (suc n) bs)))))

pub there_of : (blocks : List (List ℕ)) (number : ℕ) (span : Span) (bytes : List ℕ) → bytes ≡ at_rest blocks → (s : IsSpan blocks number span) → IsThere bytes span s.block
there_of blocks number span bytes rest s =
    let size = to_be_bytes w32 (length s.block) in
    let sha = sha256 s.block in
    let first = records (take s.before blocks) in
    let behind = records (drop (suc s.before) blocks) in
    let more = behind ++ 0 ∷ [] in
    let here : bytes ≡ (first ++ 1 ∷ (body_of s.block ++ behind)) ++ 0 ∷ [] = rest ∙ ap (λ (l : List ℕ). l ++ 0 ∷ []) (records_at blocks s.before s.block s.is_block) in
    let flat : bytes ≡ first ++ 1 ∷ (body_of s.block ++ more) = here ∙ (append_assoc first (1 ∷ (body_of s.block ++ behind)) (0 ∷ []) ∙ ap (λ (l : List ℕ). first ++ 1 ∷ l) (append_assoc (body_of s.block) behind (0 ∷ []))) in
    let parts : size ++ (sha ++ (s.block ++ more)) ≡ body_of s.block ++ more = body_of_parts s.block more size sha refl refl in
    record {
      before = first ++ 1 ∷ (size ++ sha);
      after = more;
      text = flat ∙ (ap (λ (l : List ℕ). first ++ 1 ∷ l) (sym parts ∙ sym (append_assoc size sha (s.block ++ more))) ∙ sym (append_assoc first (1 ∷ (size ++ sha)) (s.block ++ more)));
      place =
          let whole = ap length parts in
          let a = length-append size (sha ++ (s.block ++ more)) in
          let b = length-append sha (s.block ++ more) in
          let d = length-append s.block more in
          let e = length-append (body_of s.block) more in
          let f = length-body_of s.block in
          let h = length-append size sha in
          let i = length-append first (1 ∷ (size ++ sha)) in
          let j = s.place in
          omega arith;
      long = s.long;
      digest = s.digest;
    }

-- the block of the number
pub numbered_is : (blocks : List (List ℕ)) (number before : ℕ) (block bytes : List ℕ) → number ≡ suc before → slice_get blocks before ≡ Some block → bytes ≡ block → numbered blocks number ≡ Some bytes
numbered_is blocks number before block bytes number_is is_block same = ap (numbered blocks) number_is ∙ (is_block ∙ ap (λ (b : List ℕ). Some b) (sym same))
