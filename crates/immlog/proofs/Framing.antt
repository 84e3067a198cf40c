-- Records that were found by the lengths that they tell.
use Rattle.std.proofs.Common.{◌≡◌, ℕ, ◌<◌, ◌≤◌, ◌^◌, List, [], ◌∷◌, ◌++◌, length, take, drop, get_or, refl, sym, ◌∙◌, ap, ap₂, subst, arith}
use Rattle.std.proofs.lemmas.List.{take-append-drop}
use Rattle.std.proofs.lemmas.Nat.{be_bytes_4, from_be_bytes-to_be_bytes_4}
use Rattle.std.specs.Int.{w32, to_be_bytes, from_be_bytes}
use Rattle.sha2.specs.Sha256.{sha256}
use Rattle.model.specs.Limits.{block_size_limit}
use Rattle.model.specs.Log.{IsLogBlock, body_of}
use Rattle.model.proofs.LogTexts.{parts_of}
use Rattle.immlog.specs.Frames.{BeginsWithFrame}
use Rattle.immlog.proofs.Reading.{AreSplit, bytes_below}

-- ---- one record by its sizes

pub frame_here : (bytes size digest rest front back : List ℕ) (n : ℕ) → AreSplit bytes size digest rest → ((i : ℕ) → get_or bytes i 0 < 256) → n ≡ from_be_bytes w32 size → front ≡ take n rest → back ≡ drop n rest → length front ≡ n → IsLogBlock front → BeginsWithFrame digest front bytes
frame_here bytes size digest rest front back n split small n_is front_is back_is len is_block =
    let bytes_of_size : (i : ℕ) → get_or size i 0 < 256 = subst (λ (l : List ℕ). (i : ℕ) → get_or l i 0 < 256) (sym split.size_is) (bytes_below bytes 4 small) in
    let spelled : to_be_bytes w32 n ≡ size = be_bytes_4 size n split.four bytes_of_size n_is in
    let whole : front ++ back ≡ rest = ap (λ (l : List ℕ). l ++ back) front_is ∙ (ap (λ (l : List ℕ). take n rest ++ l) back_is ∙ take-append-drop n rest) in
    record {
      more = back;
      size = is_block;
      long = split.long;
      text = split.whole ∙ (ap (λ (l : List ℕ). size ++ (digest ++ l)) (sym whole) ∙ ap (λ (l : List ℕ). l ++ (digest ++ (front ++ back))) (sym spelled ∙ ap (λ (k : ℕ). to_be_bytes w32 k) (sym len)));
    }

-- where a record begins, its digest is that of its block
pub frame_digest : (digest block rest other more : List ℕ) → IsLogBlock block → length digest ≡ 32 → IsLogBlock other → to_be_bytes w32 (length block) ++ (digest ++ (block ++ rest)) ≡ body_of other ++ more → digest ≡ sha256 block
frame_digest digest block rest other more size long other_size text =
    let parts = parts_of other more (to_be_bytes w32 (length block)) digest (block ++ rest) other_size refl long text in
    let count : length block ≡ length other = sym (from_be_bytes-to_be_bytes_4 (length block) (small (length block) size.within)) ∙ parts.count in
    parts.same ∙ ap sha256 (sym (front_same block other rest more count parts.behind))
  where
    small : (n : ℕ) → n ≤ block_size_limit → n < 2 ^ 32
    small n within = omega arith

    front_same : (xs ys s t : List ℕ) → length xs ≡ length ys → xs ++ s ≡ ys ++ t → xs ≡ ys
    front_same [] [] s t len same = refl
    front_same [] (y ∷ ys) s t len same = absurd (omega arith)
    front_same (x ∷ xs) [] s t len same = absurd (omega arith)
    front_same (x ∷ xs) (y ∷ ys) s t len same =
        let head : x ≡ y = cc in
        let tail : xs ++ s ≡ ys ++ t = cc in
        ap₂ (λ (h : ℕ) (l : List ℕ). h ∷ l) head (front_same xs ys s t (omega arith) tail)
