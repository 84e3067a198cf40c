-- Keys whose texts rise differ.
use Rattle.std.proofs.Common.{◌≡◌, ◌≢◌, ℕ, List, [], ◌∷◌, map, sym, ap, subst, ◌∙◌}
use Rattle.std.specs.List.{AllByRecursion}
use Rattle.std.specs.Ordering.{nat_cmp, ordering_reverse}
use Rattle.std.specs.declared.cmp.Ordering.TheVariants.{Less}
use Rattle.std.specs.Cmp.Lexicographic.{slice_cmp}
use Rattle.std.proofs.lemmas.Cmp.{nat_list_cmp_total}
use Rattle.model.specs.Cbor.{Item, Bytes, text_of, pairs_of, IsBeforeFirst, PairsHaveRisingKeys}

-- no text stands before itself
not_before_itself : (text : List ℕ) → slice_cmp nat_cmp text text ≡ Less → ⊥
not_before_itself text h =
    let turned : Less ≡ ordering_reverse Less = sym h ∙ nat_list_cmp_total.antisymm text text ∙ ap ordering_reverse h in
    cc

-- keys that stand one before the other are not the same
pub keys_differ : (a b : List ℕ) → slice_cmp nat_cmp (text_of (Bytes a)) (text_of (Bytes b)) ≡ Less → b ≢ a
keys_differ a b h = λ same. not_before_itself (text_of (Bytes a)) (subst (λ (k : List ℕ). slice_cmp nat_cmp (text_of (Bytes a)) (text_of (Bytes k)) ≡ Less) same h)

module _ {E : Type 0} (pair : E → Item × Item) where
  -- what stands before the first of two entries stands before the next
  before_next : (k : Item) (e : E) (es : List E) → slice_cmp nat_cmp (text_of k) (text_of (pair e).0) ≡ Less → IsBeforeFirst (pair e).0 (pairs_of (map pair es)) → IsBeforeFirst k (pairs_of (map pair es))
  before_next k e [] h first = tt
  before_next k e (x ∷ xs) h first = nat_list_cmp_total.trans (text_of k) (text_of (pair e).0) (text_of (pair x).0) h first

  -- a key before the first of entries that rise stands before each of them
  pub before_all : (k : Item) (es : List E) → IsBeforeFirst k (pairs_of (map pair es)) → PairsHaveRisingKeys (pairs_of (map pair es)) → AllByRecursion (λ e. slice_cmp nat_cmp (text_of k) (text_of (pair e).0) ≡ Less) es
  before_all k [] h rising = tt
  before_all k (e ∷ es) h rising = (h, before_all k es (before_next k e es h rising.2) rising.3)
