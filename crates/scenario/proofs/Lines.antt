-- The first line of a text, and lines that print one after the other.
use Rattle.std.proofs.Common.{◌≡◌, ◌≢◌, ℕ, ◌+◌, Bool, true, false, cond, nat_eq, List, [], ◌∷◌, ◌++◌, length, refl, sym, ◌∙◌, ap, subst, append_assoc, append-nil, length-append, arith}
use Rattle.std.proofs.lemmas.Bool.Decides.{nat_tests}
use Rattle.std.specs.List.{concat, onto_first}
use Rattle.std.specs.Io.{StopsAt}
use Rattle.std.specs.Io.BufRead.{take_through, drop_through}
use Rattle.std.proofs.Transfers.{StopsAt-append}
use Rattle.std.proofs.lemmas.List.Elements.{All-nil, All-cons}
use Rattle.model.specs.Ledger.{Network}
use Rattle.model.specs.History.{Entry}
use Rattle.script.specs.Text.{lines_of}
use Rattle.scenario.specs.Run.{Scene, Obeys, Prints}

is_ten : (x : ℕ) → nat_eq x 10 ≡ true → x ≡ 10
is_ten x h = grind (arith, nat_tests)

-- a text that isn't empty begins with a line that isn't
one_line : (x : ℕ) (xs : List ℕ) (b : Bool) → nat_eq x 10 ≡ b → (xs ≢ [] → lines_of xs ≡ take_through 10 xs ∷ lines_of (drop_through 10 xs))
    → cond b ((10 ∷ []) ∷ lines_of xs) (onto_first x (lines_of xs)) ≡ cond b (x ∷ []) (x ∷ take_through 10 xs) ∷ lines_of (cond b xs (drop_through 10 xs))
one_line x xs true is next = let same : x ≡ 10 = is_ten x is in rw same refl
one_line x [] false is next = refl
one_line x (y ∷ ys) false is next = let filled : (y ∷ ys) ≢ [] = λ e. cc in rw (next filled) refl

pub first_line : (xs : List ℕ) → xs ≢ [] → lines_of xs ≡ take_through 10 xs ∷ lines_of (drop_through 10 xs)
first_line [] filled = absurd (filled refl)
first_line (x ∷ xs) filled = one_line x xs (nat_eq x 10) refl (λ more. first_line xs more)

-- nothing is the first line of no text alone
no_bit : (x : ℕ) (xs : List ℕ) (b : Bool) → cond b (x ∷ []) (x ∷ take_through 10 xs) ≡ [] → ⊥
no_bit x xs true e = cc
no_bit x xs false e = cc

pub no_line : (xs : List ℕ) → take_through 10 xs ≡ [] → xs ≡ []
no_line [] e = refl
no_line (x ∷ xs) e = absurd (no_bit x xs (nat_eq x 10) e)

-- a text is its first line and the rest
rest_bit : (x : ℕ) (xs : List ℕ) (b : Bool) → xs ≡ take_through 10 xs ++ drop_through 10 xs → x ∷ xs ≡ cond b (x ∷ []) (x ∷ take_through 10 xs) ++ cond b xs (drop_through 10 xs)
rest_bit x xs true e = refl
rest_bit x xs false e = ap (λ (l : List ℕ). x ∷ l) e

-- no line feed is in a line, but as its last byte
without_last : (x : ℕ) (xs : List ℕ) → x ≢ 10 → StopsAt xs 10 → StopsAt (x ∷ xs) 10
without_last x xs other stops = StopsAt-append (x ∷ []) xs 10 (All-cons (λ y. y ≢ 10) x [] other (All-nil (λ y. y ≢ 10))) stops

stops_bit : (x : ℕ) (xs : List ℕ) (b : Bool) → nat_eq x 10 ≡ b → StopsAt (take_through 10 xs) 10 → StopsAt (cond b (x ∷ []) (x ∷ take_through 10 xs)) 10
stops_bit x xs true is stops = All-nil (λ y. y ≢ 10)
stops_bit x xs false is stops = without_last x (take_through 10 xs) (λ e. let bad : nat_eq x 10 ≡ true = grind (arith, nat_tests) in absurd cc) stops

pub line_stops : (xs : List ℕ) → StopsAt (take_through 10 xs) 10
line_stops [] = All-nil (λ y. y ≢ 10)
line_stops (x ∷ xs) = stops_bit x xs (nat_eq x 10) refl (line_stops xs)

pub line_and_rest : (xs : List ℕ) → xs ≡ take_through 10 xs ++ drop_through 10 xs
line_and_rest [] = refl
line_and_rest (x ∷ xs) = rest_bit x xs (nat_eq x 10) (line_and_rest xs)

-- no line is read yet
at_start : (network : Network) (explain : Bool) (number before : ℕ) (s t : Scene) (line first : List ℕ) (entries : List Entry) (u : Scene) → t ≡ s → Obeys network explain (number + 0) (before + 0) t line first entries u → Obeys network explain number before s line first entries u
at_start network explain number before s t line first entries u same obeys =
    let there : Obeys network explain (number + 0) (before + 0) s line first entries u = subst (λ (x : Scene). Obeys network explain (number + 0) (before + 0) x line first entries u) same obeys in
    let counted : Obeys network explain number (before + 0) s line first entries u = subst (λ (n : ℕ). Obeys network explain n (before + 0) s line first entries u) (omega arith) there in
    subst (λ (n : ℕ). Obeys network explain number n s line first entries u) (omega arith) counted

-- bytes before the last line, counted with those of the first
size_of_first : (before : ℕ) (l : List ℕ) (ls : List (List ℕ)) → before + length (concat (l ∷ ls)) ≡ (before + length l) + length (concat ls)
size_of_first before l ls = omega (arith, length-append l (concat ls))

-- one more line
pub prints_more : (network : Network) (explain : Bool) (number before : ℕ) (s : Scene) (lines : List (List ℕ)) (out : List ℕ) (history : List Entry) (t : Scene) (line first : List ℕ) (entries : List Entry) (u : Scene) → Prints network explain number before s lines out history t
    → Obeys network explain (number + length lines) (before + length (concat lines)) t line first entries u → Prints network explain number before s (lines ++ line ∷ []) (out ++ first) (history ++ entries) u
prints_more network explain number before s [] out history t line first entries u (empty, none, same) obeys =
    (first, [], entries, [], u, at_start network explain number before s t line first entries u same obeys, (refl, refl, refl), ap (λ (l : List ℕ). l ++ first) empty ∙ sym (append-nil first), ap (λ (l : List Entry). l ++ entries) none ∙ sym (append-nil entries))
prints_more network explain number before s (l ∷ ls) out history t line first entries u (one, rest, told, later, mid, obeys_one, prints, is, all) obeys =
    let sized : Obeys network explain (number + length (l ∷ ls)) ((before + length l) + length (concat ls)) t line first entries u = subst (λ (n : ℕ). Obeys network explain (number + length (l ∷ ls)) n t line first entries u) (size_of_first before l ls) obeys in
    let after : Obeys network explain ((number + 1) + length ls) ((before + length l) + length (concat ls)) t line first entries u = subst (λ (n : ℕ). Obeys network explain n ((before + length l) + length (concat ls)) t line first entries u) (omega arith) sized in (
      one,
      rest ++ first,
      told,
      later ++ entries,
      mid,
      obeys_one,
      prints_more network explain (number + 1) (before + length l) mid ls rest later t line first entries u prints after,
      ap (λ (l : List ℕ). l ++ first) is ∙ append_assoc one rest first,
      ap (λ (l : List Entry). l ++ entries) all ∙ append_assoc told later entries,
    )
