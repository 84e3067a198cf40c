-- Pieces make a line.
use Rattle.std.proofs.Common.{◌≡◌, ◌≢◌, ℕ, zero, suc, ◌+◌, ◌-◌, ◌<◌, ◌≤◌, Bool, true, false, eqb, List, [], ◌∷◌, ◌++◌, All, Option, None, Some, IfSome, OnSome, cond, length, take, drop, sym, ap, subst, ◌∙◌, arith, append-nil, length-append, length-take-le, take-take, take-append-drop}
use Rattle.std.proofs.lemmas.List.Elements.{All-nil, All-append}
use Rattle.std.specs.Io.{StartsWith, IsEmptyOrEndsWith}
use Rattle.std.specs.Io.KnownBytes.{Keeps, Consumes, IsAtEnd}
use Rattle.std.specs.Io.BufRead.{take_through, drop_through, DropsConsumable, DropsThrough}
use Rattle.std.proofs.KnownBytes.{Consumes-nil, Consumes-kept, Consumes-trans}
use Rattle.std.proofs.Transfers.{starts_with_length, StopsAt-take}
use Rattle.std.proofs.BufReadLemmas.{take_through-append, drop_through-append, take_through-nil, take_through_nonempty, Consumes_through, Consumes_shown, zero_unless_positive}
use Rattle.conversing.specs.declared.lane_line.LaneLine.TheVariants.{Whole, Cut}
use Rattle.conversing.specs.declared.lane_line.Piece.TheVariants as pieces
use Rattle.conversing.specs.Lines.{first_line, ReadsLine, TakesMiddle, TakesEnd, TakesPiece}

-- some bytes have a first line that has some
some_through : (xs : List ℕ) → 0 < length xs → 0 < length (take_through 10 xs)
some_through [] some = some
some_through (x ∷ xs) some = by_test (eqb x 10)
  where
    by_test : (b : Bool) → 0 < length (cond b (x ∷ []) (x ∷ take_through 10 xs))
    by_test true = omega arith
    by_test false = omega arith

-- n bytes at hand that have no line feed but at their end belong to the first line
pub first_line_has : (text shown : List ℕ) (n : ℕ) → StartsWith text shown → n ≤ length shown → All (λ b. b ≢ 10) (take (n - 1) shown) → n ≤ length (first_line text)
first_line_has text shown zero begins within before = omega arith
first_line_has text shown (suc n) begins within before =
    let long = starts_with_length text shown begins in
    let front = take n shown in
    let back = drop n text in
    let same : take n text ≡ front = sym (take-take n (length shown) text (omega arith)) ∙ ap (take n) begins in
    let split : text ≡ front ++ back = sym (take-append-drop n text) ∙ ap (λ (l : List ℕ). l ++ back) same in
    let less : suc n - 1 ≡ n = omega arith in
    let plain : All (λ b. b ≢ 10) front = subst (λ (k : ℕ). All (λ b. b ≢ 10) (take k shown)) less before in
    let whole : first_line text ≡ front ++ take_through 10 back = ap (take_through 10) split ∙ take_through-append 10 front back plain in
    let many : length front ≡ n = length-take-le n shown (omega arith) in
    let more : 0 < length back = omega (arith, ap length split, length-append front back) in
    omega (arith, ap length whole, length-append front (take_through 10 back), some_through back more)

pub too_much_at_hand : (limit : ℕ) (known : Option (List ℕ)) (shown : List ℕ) (n held : ℕ) → IfSome known (λ text. StartsWith text shown) → n ≤ length shown → All (λ b. b ≢ 10) (take (n - 1) shown) → limit < held + n → IfSome known (λ text. limit < held + length (first_line text))
too_much_at_hand limit None shown n held begins within before over = tt
too_much_at_hand limit (Some text) shown n held begins within before over = omega (arith, first_line_has text shown n begins within before)

-- what was read of a line so far: bytes without a line feed
pub record IsBegun (old new : Option (List ℕ)) (held : List ℕ) : Type 0 where
  pub consumed : Consumes old new held
  pub plain : All (λ b. b ≢ 10) held

pub more_held : (a b c : Option (List ℕ)) (held now : List ℕ) → IsBegun a b held → TakesMiddle b c held now → IsBegun a c now
more_held a b c held now begun took =
    let (part, is, consumed, plain) = took in
    subst (IsBegun a c) (sym is) (record { consumed = Consumes-trans a b c held part begun.consumed consumed; plain = All-append (λ b. b ≢ 10) held part begun.plain plain })

-- the piece that ends a line makes it whole
pub line_whole : (a b c : Option (List ℕ)) (held now : List ℕ) → IsBegun a b held → TakesEnd b c held now → IfSome a (λ text. now ≡ first_line text) × DropsThrough a c 10
line_whole a b c held now begun took =
    let (part, is, consumed, stops, ends, end) = took in
    let through = Consumes_through 10 a b c held part begun.consumed begun.plain consumed stops ends end in
    (subst (λ (l : List ℕ). IfSome a (λ text. l ≡ first_line text)) (sym is) through.0, through.1)

pub reads_none : (a c : Option (List ℕ)) (now : List ℕ) → IfSome a (λ text. now ≡ first_line text) → DropsThrough a c 10 → length now ≡ 0 → IfSome a (λ text. text ≡ []) × DropsThrough a c 10
reads_none None c now is drops none = (tt, drops)
reads_none (Some text) c now is drops none = (take_through-nil 10 text (sym (ap length is) ∙ none), drops)

pub reads_whole : (limit : ℕ) (a c : Option (List ℕ)) (now : List ℕ) → IfSome a (λ text. now ≡ first_line text) → DropsThrough a c 10 → 0 < length now → length now ≤ limit → ReadsLine limit (Some Whole) a c now
reads_whole limit None c now is drops some few = (tt, drops)
reads_whole limit (Some text) c now is drops some few = ((take_through_nonempty 10 text (subst (λ (l : List ℕ). 0 < length l) is some), is, few), drops)

-- a line of which too much was at hand is passed over
pub reads_cut : (limit : ℕ) (a b c d : Option (List ℕ)) (held now : List ℕ) → IsBegun a b held → TakesPiece limit pieces.TooMuch b c held now → DropsThrough c d 10 → ReadsLine limit (Some Cut) a d now
reads_cut limit None b c d held now begun took drops = (tt, tt)
reads_cut limit (Some x) None c d held now begun took drops = absurd begun.consumed
reads_cut limit (Some x) (Some y) None d held now begun took drops = absurd took.1
reads_cut limit (Some x) (Some y) (Some z) d held now begun took drops =
    let through = ap (take_through 10) begun.consumed ∙ take_through-append 10 held y begun.plain in
    let after = ap (drop_through 10) begun.consumed ∙ drop_through-append 10 held y begun.plain in
    let same : z ≡ y = took.1 in (
      omega (arith, took.2, ap length through, length-append held (take_through 10 y)),
      drops ∙ ap (λ (l : List ℕ). Some (drop_through 10 l)) same ∙ ap Some (sym after),
    )

-- nothing was taken, and there was no line feed in that
pub nothing_taken : (a b : Option (List ℕ)) (held : List ℕ) → Keeps a b → TakesMiddle a b held held
nothing_taken a b held kept = ([], sym (append-nil held), Consumes-kept a a b [] (Consumes-nil a) kept, All-nil (λ b. b ≢ 10))

-- what a reader showed, and took up to a count
module _ (a b c : Option (List ℕ)) (limit : Option ℕ) (shown : List ℕ) (n : ℕ) (within : n ≤ length shown)
    (front : IfSome a (λ xs. StartsWith xs shown)) (end : IfSome a (λ xs. length shown ≡ 0 → xs ≡ [])) (kept : Keeps a b)
    (fits : IfSome a (λ _. IfSome limit (λ k. length shown ≤ k))) (drops : DropsConsumable b c limit n) where
  moved : Consumes a c (take n shown) × (length shown ≡ 0 → OnSome a (IsAtEnd c))
  moved = Consumes_shown a b c limit shown n within front end kept fits drops

  pub middle_taken : (held now : List ℕ) → now ≡ held ++ take n shown → All (λ b. b ≢ 10) (take n shown) → TakesMiddle a c held now
  middle_taken held now is plain = (take n shown, is, moved.0, plain)

  pub end_taken : (held now : List ℕ) → now ≡ held ++ take n shown → (0 < length shown → 0 < n) → All (λ b. b ≢ 10) (take (n - 1) shown) → IsEmptyOrEndsWith (take n shown) 10 → TakesEnd a c held now
  end_taken held now is some before ends =
      (take n shown, is, moved.0, StopsAt-take shown 10 n within before, ends, λ none. moved.1 (zero_unless_positive (length shown) n some (sym (length-take-le n shown within) ∙ none)))
