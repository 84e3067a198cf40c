-- No text of a pair begins another's: the texts of pairs, one after the other, are those of these pairs alone.
use Rattle.std.proofs.Common.{◌≡◌, ℕ, List, [], ◌∷◌, ◌++◌, length, refl, sym, ap, ap₂, ◌∙◌, append_assoc, append-nil, arith}
use Rattle.std.specs.List.{AllByRecursion}
use Rattle.std.proofs.lemmas.List.{length-append}
use Rattle.model.specs.Transaction.{Input, Output, item_of_input, item_of_output}
use Rattle.model.proofs.ItemTexts.{items_apart}
use Rattle.model.proofs.Members.{two_are}
use Rattle.model.proofs.TransactionTexts.{same_input, same_output}
use Rattle.snapshot.specs.Snapshot.{item_of_pair, pair_text, texts_of, IsPair, AreParts}
use Rattle.snapshot.proofs.Filling.{Pairs, pair_some}

-- the same pair, and the same bytes after it
pub pairs_apart : (p q : Input × Output) (x y : List ℕ) → IsPair p → IsPair q → pair_text p ++ x ≡ pair_text q ++ y → (p ≡ q) × (x ≡ y)
unfolding pair_text
pairs_apart p q x y is also e =
    let items = items_apart (item_of_pair p) (item_of_pair q) x y is.has_text also.has_text e in
    let two = two_are (item_of_input p.0) (item_of_output p.1) (item_of_input q.0) (item_of_output q.1) items.0 in
    let input = same_input p.0 q.0 is.input also.input two.0 in
    let output = same_output p.1 q.1 is.output also.output two.1 in
    ((λ i. (input i, output i)), items.1)

-- pairs whose texts stand in front of those of others are the first of these
pub record Begins (xs ys : Pairs) (rest : List ℕ) : Type 0 where
  pub more : Pairs
  pub split : ys ≡ xs ++ more
  pub rest_is : rest ≡ texts_of more
  pub each : AllByRecursion IsPair more

no_pair : (x : Input × Output) (t : List ℕ) → pair_text x ++ t ≡ [] → ⊥
no_pair x t e =
    let size = ap length e in
    let long = length-append (pair_text x) t in
    let some = pair_some x in
    omega (arith, size, long, some)

pub texts_begin : (xs ys : Pairs) (rest : List ℕ) → AllByRecursion IsPair xs → AllByRecursion IsPair ys → texts_of xs ++ rest ≡ texts_of ys → Begins xs ys rest
texts_begin [] ys rest are also e = record { more = ys; split = refl; rest_is = e; each = also }
texts_begin (x ∷ xs) [] rest are also e = absurd (no_pair x (texts_of xs ++ rest) (sym (append_assoc (pair_text x) (texts_of xs) rest) ∙ e))
texts_begin (x ∷ xs) (y ∷ ys) rest are also e =
    let two = pairs_apart x y (texts_of xs ++ rest) (texts_of ys) are.0 also.0 (sym (append_assoc (pair_text x) (texts_of xs) rest) ∙ e) in
    let later = texts_begin xs ys rest are.1 also.1 two.1 in
    record { more = later.more; split = (λ i. sym two.0 i ∷ later.split i); rest_is = later.rest_is; each = later.each }

-- none are left
no_texts : (xs : Pairs) → [] ≡ texts_of xs → xs ≡ []
no_texts [] e = refl
no_texts (x ∷ xs) e = absurd (no_pair x (texts_of xs) (sym e))

-- equal texts are those of the same pairs
pub texts_apart : (xs ys : Pairs) → AllByRecursion IsPair xs → AllByRecursion IsPair ys → texts_of xs ≡ texts_of ys → xs ≡ ys
texts_apart xs ys are also e =
    let begins = texts_begin xs ys [] are also (append-nil (texts_of xs) ∙ e) in
    sym (append-nil xs) ∙ ap (λ (ps : Pairs). xs ++ ps) (sym (no_texts begins.more begins.rest_is)) ∙ sym begins.split

-- parts are those of the same outputs alone
pub outputs_once : (parts : List (List ℕ)) (a b : Pairs) → AreParts a parts → AreParts b parts → a ≡ b
outputs_once [] a b one too = one ∙ sym too
outputs_once (part ∷ parts) a b one too =
    let here = texts_apart one.1.here too.1.here one.1.each too.1.each (sym one.1.text ∙ too.1.text) in
    let later = outputs_once parts one.0 too.0 one.2 too.2 in
    one.1.split ∙ ap₂ ◌++◌ here later ∙ sym too.1.split
