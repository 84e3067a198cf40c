-- The words of a line, one after the other.
use Rattle.std.proofs.Common.{◌≡◌, ℕ, ◌+◌, ◌-◌, Bool, true, false, cond, not, List, [], ◌∷◌, length, take, drop}
use Rattle.std.proofs.Common.{Bor, Option, Some, None, is_some, option_map, refl, sym, ◌∙◌, ap, subst, arith}
use Rattle.std.specs.Prelude.{◌==◌, nat_lt}
use Rattle.std.specs.List.{All, position, position_or_len, before_first, onto_first}
use Rattle.std.proofs.lemmas.Grind.{common_steps}
use Rattle.std.proofs.lemmas.Bool.{ltb-true, ltb-false}
use Rattle.std.proofs.lemmas.List.{take_all, length-drop}
use Rattle.std.proofs.lemmas.List.Sums.{fails_before_first}
use Rattle.std.proofs.lemmas.List.Splits.{slice_split_first, slice_split_none}
use Rattle.std.proofs.lemmas.Option.{same_Some}
use Rattle.script.specs.Text.{words_of, first_word}
use Rattle.script.specs.WordsView.{words_in, has_no_words}

taken : (b : Bool) (n i : ℕ) → cond b (Some n) None ≡ Some i → (b ≡ true) × (n ≡ i)
taken true n i is = (refl, cc)
taken false n i is = cc

not_taken : (b : Bool) (n : ℕ) → cond b (Some n) None ≡ None → b ≡ false
not_taken true n is = cc
not_taken false n is = refl

-- the words where there is a space: those before it, and those after it
pub words_at : (content : List ℕ) (i : ℕ) → position (λ b. b == 32) content ≡ Some i → words_of content ≡ take i content ∷ words_of (drop (i + 1) content)
words_at content i is =
    let found = taken (nat_lt (position_or_len (λ b. b == 32) content) (length content)) (position_or_len (λ b. b == 32) content) i is in
    let first = slice_split_first (λ b. b == 32) content 0 (ltb-true _ _ found.0) in
    first ∙ ap (λ (n : ℕ). take n content ∷ words_of (drop (n + 1) content)) found.1

-- where there is none the line is one word
pub word_alone : (content : List ℕ) → position (λ b. b == 32) content ≡ None → words_of content ≡ content ∷ []
word_alone content is =
    let past = ltb-false (position_or_len (λ b. b == 32) content) (length content) (not_taken (nat_lt (position_or_len (λ b. b == 32) content) (length content)) (position_or_len (λ b. b == 32) content) is) in
    let front : All (λ x. (x == 32) ≡ false) (before_first (λ b. b == 32) content) = λ k e m. let k' = fails_before_first (λ b. b == 32) content k e (grind (arith, common_steps)) in grind (arith, common_steps) in
    let all : before_first (λ b. b == 32) content ≡ content = take_all (position_or_len (λ b. b == 32) content) content past in
    slice_split_none (λ b. b == 32) content (subst (λ (bs : List ℕ). All (λ x. (x == 32) ≡ false) bs) all front)

-- what is left after the first word and its space
pub words_after : (content : List ℕ) (i : ℕ) → position (λ b. b == 32) content ≡ Some i → words_of (take (length content - (i + 1)) (drop (i + 1) content)) ≡ drop 1 (words_of content)
words_after content i is =
    let all : take (length content - (i + 1)) (drop (i + 1) content) ≡ drop (i + 1) content = take_all (length content - (i + 1)) (drop (i + 1) content) (omega (arith, length-drop (i + 1) content)) in
    ap words_of all ∙ ap (drop 1) (sym (words_at content i is))

-- ---- a line's words, from those that were read

-- a word that was read stands before those that are left
pub read : (ws us : List (List ℕ)) (o : Option (Bor (List ℕ))) (w : Bor (List ℕ))
    → option_map (λ w. w.now) o ≡ first_word ws → us ≡ drop 1 ws → o ≡ Some w → ws ≡ w.now ∷ us
read [] us o w first rest is = let none : Some w.now ≡ None = sym (ap (option_map (λ w. w.now)) is) ∙ first in cc
read (v ∷ ws) us o w first rest is =
    let same : w.now ≡ v = same_Some w.now v (sym (ap (option_map (λ w. w.now)) is) ∙ first) in
    cc

-- where there was none to read none was left
pub at_end : (ws : List (List ℕ)) (o : Option (Bor (List ℕ)))
    → option_map (λ w. w.now) o ≡ first_word ws → o ≡ None → ws ≡ []
at_end [] o first is = refl
at_end (v ∷ ws) o first is = let some : None ≡ Some v = sym (ap (option_map (λ w. w.now)) is) ∙ first in cc

some_left : (space : Bool) (b : ℕ) (ws : List (List ℕ)) → has_no_words (cond space ([] ∷ ws) (onto_first b ws)) ≡ false
some_left true b ws = refl
some_left false b [] = refl
some_left false b (w ∷ ws) = refl

-- a line has a word, even an empty one
pub has_word : (content : List ℕ) → has_no_words (words_of content) ≡ false
has_word [] = refl
has_word (b ∷ bs) = some_left (b == 32) b (words_of bs)

-- a reader has words left as long as it has text left
pub none_left : (rest : Option (Bor (List ℕ))) (none : Bool) → is_some rest ≡ not none
    → none ≡ has_no_words (words_in (option_map (λ r. r.now) rest))
none_left None true is = refl
none_left None false is = is
none_left (Some content) true is = is ∙ sym (has_word content.now)
none_left (Some content) false is = sym (has_word content.now)

pub no_words : (ws : List (List ℕ)) → has_no_words ws ≡ true → ws ≡ []
no_words [] none = refl
no_words (w ∷ ws) none = cc

-- ---- a word that is read as a name

pub is_named : (b : Bool) (word name : List ℕ) → Some name ≡ cond b (Some word) None → (b ≡ true) × (name ≡ word)
is_named true word name is = (refl, same_Some name word is)
is_named false word name is = cc

pub not_named : (b : Bool) (word : List ℕ) → None ≡ cond b (Some word) None → b ≡ false
not_named true word none = cc
not_named false word none = refl

-- ---- words that are all read so

pub are_all : (b : Bool) (words same : List (List ℕ)) → Some same ≡ cond b (Some words) None → (b ≡ true) × (same ≡ words)
are_all true words same is = (refl, same_Some same words is)
are_all false words same is = cc

pub not_all : (b : Bool) (words : List (List ℕ)) → None ≡ cond b (Some words) None → b ≡ false
not_all true words none = cc
not_all false words none = refl
