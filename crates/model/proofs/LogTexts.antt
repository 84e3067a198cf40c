-- The records of a log are read in one way alone.
use Rattle.std.proofs.Common.{◌≡◌, ◌⊎◌, inl, inr, ℕ, ◌+◌, ◌<◌, ◌≤◌, ◌^◌, List, [], ◌∷◌, ◌++◌, length, refl, sym, ◌∙◌, ap, subst, arith, append_assoc, length-append}
use Rattle.std.proofs.lemmas.List.{append-nil}
use Rattle.std.proofs.lemmas.Nat.{from_be_bytes-to_be_bytes_4}
use Rattle.std.specs.List.{AllByRecursion}
use Rattle.std.specs.Int.{w32, to_be_bytes, from_be_bytes}
use Rattle.sha2.specs.Sha256.{sha256}
use Rattle.sha2.proofs.Facts256.{length-sha256}
use Rattle.model.specs.Limits.{block_size_limit}
use Rattle.model.specs.Log.{IsLogBlock, body_of, records, IsClosed, Opens, IsDamaged, OpensToBeginning, IsShut, IsHalfOpen, IsLogOf}

-- two lists of one length in front of others
pub same_front : (xs ys s t : List ℕ) → length xs ≡ length ys → xs ++ s ≡ ys ++ t → (xs ≡ ys) × (s ≡ t)
same_front [] [] s t long same = (refl, same)
same_front [] (y ∷ ys) s t long same = absurd (omega arith)
same_front (x ∷ xs) [] s t long same = absurd (omega arith)
same_front (x ∷ xs) (y ∷ ys) s t long same =
    let more : xs ++ s ≡ ys ++ t = cc in
    let shorter : length xs ≡ length ys = omega arith in
    let rest : (xs ≡ ys) × (s ≡ t) = same_front xs ys s t shorter more in
    let head : x ≡ y = cc in
    let front : xs ≡ ys = rest.0 in
    (cc, rest.1)

-- the length of a block, as it is written
unfoldable word : List ℕ → List ℕ
word block = to_be_bytes w32 (length block)

length_word : (block : List ℕ) → length (word block) ≡ 4
unfolding word
length_word block = refl

number_of_word : (block : List ℕ) → IsLogBlock block → from_be_bytes w32 (word block) ≡ length block
unfolding word
number_of_word block size = from_be_bytes-to_be_bytes_4 (length block) (fits_word (length block) size.within)
  where
    fits_word : (n : ℕ) → n ≤ block_size_limit → n < 2 ^ 32
    fits_word n small = omega arith

-- the parts of a record, with what follows
body_parts : (block rest : List ℕ) → body_of block ++ rest ≡ word block ++ (sha256 block ++ (block ++ rest))
unfolding word body_of
body_parts block rest =
    let three : word block ++ sha256 block ++ block ++ rest ≡ word block ++ sha256 block ++ (block ++ rest) = append_assoc (word block ++ sha256 block) block rest in
    three ∙ append_assoc (word block) (sha256 block) (block ++ rest)

pub length-body_of : (block : List ℕ) → length (body_of block) ≡ 36 + length block
unfolding word body_of
length-body_of block =
    let front : length (word block ++ sha256 block) ≡ length (word block) + length (sha256 block) = length-append (word block) (sha256 block) in
    let all : length (word block ++ sha256 block ++ block) ≡ length (word block ++ sha256 block) + length block = length-append (word block ++ sha256 block) block in
    let four : length (word block) ≡ 4 = length_word block in
    let digest : length (sha256 block) ≡ 32 = length-sha256 block in
    all ∙ sum_of (length (word block ++ sha256 block)) (length (word block)) (length (sha256 block)) (length block) front four digest
  where
    sum_of : (n w d b : ℕ) → n ≡ w + d → w ≡ 4 → d ≡ 32 → n + b ≡ 36 + b
    sum_of n w d b is four digest = omega arith

-- a record is of one block alone
pub same_body : (a b s t : List ℕ) → IsLogBlock a → IsLogBlock b → body_of a ++ s ≡ body_of b ++ t → (a ≡ b) × (s ≡ t)
same_body a b s t size_a size_b same =
    let parts : word a ++ (sha256 a ++ (a ++ s)) ≡ word b ++ (sha256 b ++ (b ++ t)) = sym (body_parts a s) ∙ (same ∙ body_parts b t) in
    let words = same_front (word a) (word b) (sha256 a ++ (a ++ s)) (sha256 b ++ (b ++ t)) (length_word a ∙ sym (length_word b)) parts in
    let digests = same_front (sha256 a) (sha256 b) (a ++ s) (b ++ t) (length-sha256 a ∙ sym (length-sha256 b)) words.1 in
    let long : length a ≡ length b = sym (number_of_word a size_a) ∙ (ap (from_be_bytes w32) words.0 ∙ number_of_word b size_b) in
    same_front a b s t long digests.1

-- ---- rows of records

pub records-append : (xs ys : List (List ℕ)) → records (xs ++ ys) ≡ records xs ++ records ys
records-append [] ys = refl
records-append (x ∷ xs) ys =
    ap (λ (l : List ℕ). 1 ∷ (body_of x ++ l)) (records-append xs ys) ∙ ap (λ (l : List ℕ). 1 ∷ l) (sym (append_assoc (body_of x) (records xs) (records ys)))

-- one more record, with what follows
pub records-push : (xs : List (List ℕ)) (block rest : List ℕ) → records (xs ++ block ∷ []) ++ rest ≡ records xs ++ 1 ∷ (body_of block ++ rest)
records-push xs block rest =
    ap (λ (l : List ℕ). l ++ rest) (records-append xs (block ∷ [])) ∙ (append_assoc (records xs) (records (block ∷ [])) rest ∙ ap (λ (l : List ℕ). records xs ++ 1 ∷ (l ++ rest)) (append-nil (body_of block)))

-- no record begins here
abbrev pub NoRecord : List ℕ → Type 0
NoRecord rest = (block more : List ℕ) → IsLogBlock block → rest ≡ 1 ∷ (body_of block ++ more) → ⊥

pub same_records : (xs ys : List (List ℕ)) (e f : List ℕ) → AllByRecursion IsLogBlock xs → AllByRecursion IsLogBlock ys → NoRecord e → NoRecord f → records xs ++ e ≡ records ys ++ f → (xs ≡ ys) × (e ≡ f)
same_records [] [] e f sizes_x sizes_y none_e none_f same = (refl, same)
same_records [] (y ∷ ys) e f sizes_x sizes_y none_e none_f same =
    absurd (none_e y (records ys ++ f) sizes_y.0 (same ∙ ap (λ (l : List ℕ). 1 ∷ l) (append_assoc (body_of y) (records ys) f)))
same_records (x ∷ xs) [] e f sizes_x sizes_y none_e none_f same =
    absurd (none_f x (records xs ++ e) sizes_x.0 (sym same ∙ ap (λ (l : List ℕ). 1 ∷ l) (append_assoc (body_of x) (records xs) e)))
same_records (x ∷ xs) (y ∷ ys) e f sizes_x sizes_y none_e none_f same =
    let tails : body_of x ++ records xs ++ e ≡ body_of y ++ records ys ++ f = cc in
    let bodies : body_of x ++ (records xs ++ e) ≡ body_of y ++ (records ys ++ f) = sym (append_assoc (body_of x) (records xs) e) ∙ (tails ∙ append_assoc (body_of y) (records ys) f) in
    let first = same_body x y (records xs ++ e) (records ys ++ f) sizes_x.0 sizes_y.0 bodies in
    let others = same_records xs ys e f sizes_x.1 sizes_y.1 none_e none_f first.1 in
    let one : x ≡ y = first.0 in
    let rows : xs ≡ ys = others.0 in
    (cc, others.1)

-- no record begins at a closed end, nor at a spoilt one
pub none_closed : (rest : List ℕ) → IsClosed rest → NoRecord rest
none_closed [] closed block more size is = absurd cc
none_closed (gate ∷ rest) closed block more size is = closed cc

pub none_spoilt : (rest : List ℕ) → ((block more : List ℕ) → IsLogBlock block → rest ≡ body_of block ++ more → ⊥) → NoRecord (1 ∷ rest)
none_spoilt rest spoilt block more size is = spoilt block more size cc

-- ---- one way to open

pub same_blocks : (bytes : List ℕ) (xs ys : List (List ℕ)) → Opens bytes xs → Opens bytes ys → xs ≡ ys
same_blocks bytes xs ys one other =
    (same_records xs ys one.rest other.rest one.sizes other.sizes (none_closed one.rest one.closed) (none_closed other.rest other.closed) (sym one.text ∙ other.text)).0

not_open : (rest more : List ℕ) → IsClosed rest → rest ≡ 1 ∷ more → ⊥
not_open [] more closed is = absurd cc
not_open (gate ∷ rest) more closed is = closed cc

pub not_both : (bytes : List ℕ) (xs : List (List ℕ)) (place : ℕ) → Opens bytes xs → IsDamaged bytes place → ⊥
not_both bytes xs place opens damaged =
    let same = same_records xs damaged.blocks opens.rest (1 ∷ damaged.rest) opens.sizes damaged.sizes (none_closed opens.rest opens.closed) (none_spoilt damaged.rest damaged.spoilt) (sym opens.text ∙ damaged.text) in
    not_open opens.rest damaged.rest opens.closed same.1

pub one_place : (bytes : List ℕ) (place other : ℕ) → IsDamaged bytes place → IsDamaged bytes other → place ≡ other
one_place bytes place other one two =
    let same = same_records one.blocks two.blocks (1 ∷ one.rest) (1 ∷ two.rest) one.sizes two.sizes (none_spoilt one.rest one.spoilt) (none_spoilt two.rest two.spoilt) (sym one.text ∙ two.text) in
    one.place_is ∙ (ap (λ (l : List (List ℕ)). length (records l)) same.0 ∙ sym two.place_is)

-- ---- what a crash leaves

pub shut_is_closed : (rest : List ℕ) → IsShut rest → IsClosed rest
shut_is_closed [] shut = tt
shut_is_closed (gate ∷ rest) shut = λ is. let zero_is : gate ≡ 0 = let text : gate ∷ rest ≡ 0 ∷ shut.more = shut.text in cc in absurd (omega arith)

pub half_is_closed : (next : List (List ℕ)) (rest : List ℕ) → IsHalfOpen next rest → IsClosed rest
half_is_closed next [] half = tt
half_is_closed next (gate ∷ rest) half = λ is. half.half (let text : gate ∷ rest ≡ half.gate ∷ (body_of half.block ++ 0 ∷ half.more) = half.text in cc)

pub gate_is_closed : (next : List (List ℕ)) (rest : List ℕ) → IsShut rest ⊎ IsHalfOpen next rest → IsClosed rest
gate_is_closed next rest (inl shut) = shut_is_closed rest shut
gate_is_closed next rest (inr half) = half_is_closed next rest half

pub all_first : (xs ys : List (List ℕ)) → AllByRecursion IsLogBlock (xs ++ ys) → AllByRecursion IsLogBlock xs
all_first [] ys all = tt
all_first (x ∷ xs) ys all = (all.0, all_first xs ys all.1)

pub opens_first : (least : ℕ) (blocks : List (List ℕ)) (bytes : List ℕ) → (log : IsLogOf least blocks bytes) → Opens bytes log.first
opens_first least blocks bytes log = record {
  rest = log.rest;
  text = log.text;
  closed = gate_is_closed log.next log.rest log.gate;
  sizes = all_first log.first log.next (subst (AllByRecursion IsLogBlock) log.begins log.sizes);
}

pub opens_to_beginning : (least : ℕ) (blocks : List (List ℕ)) (bytes : List ℕ) → IsLogOf least blocks bytes → OpensToBeginning least blocks bytes
opens_to_beginning least blocks bytes log = record {
  opened = log.first;
  next = log.next;
  opens = opens_first least blocks bytes log;
  begins = log.begins;
  enough = log.enough;
  sound = λ place damaged. not_both bytes log.first place (opens_first least blocks bytes log) damaged;
}

-- ---- reading a record

-- what the parts of the bytes are where a record begins there
pub record ArePartsOf (block more size digest rest : List ℕ) : Type 0 where
  pub count : from_be_bytes w32 size ≡ length block
  pub same : digest ≡ sha256 block
  pub behind : rest ≡ block ++ more

pub parts_of : (block more size digest rest : List ℕ) → IsLogBlock block → length size ≡ 4 → length digest ≡ 32 → size ++ (digest ++ rest) ≡ body_of block ++ more → ArePartsOf block more size digest rest
parts_of block more size digest rest is_block four long same =
    let parts : size ++ (digest ++ rest) ≡ word block ++ (sha256 block ++ (block ++ more)) = same ∙ body_parts block more in
    let words = same_front size (word block) (digest ++ rest) (sha256 block ++ (block ++ more)) (four ∙ sym (length_word block)) parts in
    let digests = same_front digest (sha256 block) rest (block ++ more) (long ∙ sym (length-sha256 block)) words.1 in
    record {
      count = ap (from_be_bytes w32) words.0 ∙ number_of_word block is_block;
      same = digests.0;
      behind = digests.1;
    }

-- and a record begins where the parts are so
pub body_of_parts : (block more size digest : List ℕ) → size ≡ to_be_bytes w32 (length block) → digest ≡ sha256 block → size ++ (digest ++ (block ++ more)) ≡ body_of block ++ more
unfolding word
body_of_parts block more size digest is_size is_digest =
    ap (λ (l : List ℕ). l ++ (digest ++ (block ++ more))) is_size ∙ (ap (λ (l : List ℕ). word block ++ (l ++ (block ++ more))) is_digest ∙ sym (body_parts block more))
