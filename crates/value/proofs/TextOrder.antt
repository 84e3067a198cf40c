-- The order of the texts of byte strings: shorter strings first, then by their bytes. It holds below 256 bytes, where
-- the length stands in the first byte or the second.
use Rattle.std.proofs.Common.{◌≡◌, ℕ, ◌+◌, ◌<◌, ◌≤◌, List, [], ◌∷◌, ◌++◌, length, refl, sym, ap, ◌∙◌, arith, inl, inr}
use Rattle.std.specs.Ordering.{nat_cmp, ordering_then, ordering_reverse}
use Rattle.std.specs.declared.cmp.Ordering.{Ordering}
use Rattle.std.specs.declared.cmp.Ordering.TheVariants.{Less}
use Rattle.std.specs.Cmp.Lexicographic.{slice_cmp}
use Rattle.std.specs.Cmp.{nat_cmp_is}
use Rattle.std.proofs.lemmas.Bool.{cases_lt, lt-ltb, le-ltb}
use Rattle.std.proofs.lemmas.Cmp.{nat_cmp_total, nat_list_cmp_total, tied_itself, ranked, by_ranked}
use Rattle.model.specs.Cbor.{Bytes, head, text_of}
use Rattle.value.specs.Order.{name_cmp}

nat_less : (m n : ℕ) → m < n → nat_cmp m n ≡ Less
nat_less m n lt = sym (nat_cmp_is m n Less lt)

-- a beginning that two lists share does not order them
shared_front : (h s t : List ℕ) → slice_cmp nat_cmp (h ++ s) (h ++ t) ≡ slice_cmp nat_cmp s t
shared_front [] s t = refl
shared_front (x ∷ h) s t =
    ap (λ (o : Ordering). ordering_then o (slice_cmp nat_cmp (h ++ s) (h ++ t))) (tied_itself nat_cmp_total x) ∙ shared_front h s t

-- a lesser first byte decides
lesser_first : (m n : ℕ) (s t : List ℕ) → m < n → slice_cmp nat_cmp (m ∷ s) (n ∷ t) ≡ Less
lesser_first m n s t lt = ap (λ (o : Ordering). ordering_then o (slice_cmp nat_cmp s t)) (nat_less m n lt)

head_in_1 : (n : ℕ) → n < 24 → head 2 n ≡ (64 + n) ∷ []
unfolding head
head_in_1 n lt = rw (lt-ltb n 24 lt) refl

head_in_2 : (n : ℕ) → 24 ≤ n → n < 256 → head 2 n ≡ 88 ∷ n ∷ []
unfolding head
head_in_2 n le lt = rw (le-ltb n 24 le, lt-ltb n 256 lt) refl

-- a lesser length's head stands first, whatever follows
shorter_first : (m n : ℕ) (s t : List ℕ) → m < n → n < 256 → slice_cmp nat_cmp (head 2 m ++ s) (head 2 n ++ t) ≡ Less
shorter_first m n s t lt small =
    elim (cases_lt n 24) [
      | inl low ↦ rw (head_in_1 m (omega arith), head_in_1 n low) (lesser_first (64 + m) (64 + n) s t (omega arith))
      | inr high ↦ elim (cases_lt m 24) [
        | inl low ↦ rw (head_in_1 m low, head_in_2 n high small) (lesser_first (64 + m) 88 s (n ∷ t) (omega arith))
        | inr both ↦ rw (head_in_2 m both (omega arith), head_in_2 n high small) (lesser_first m n s t lt)
      ]
    ]

-- texts of byte strings stand as the strings do, shorter ones first
pub text_order : (a b : List ℕ) → length a < 256 → length b < 256 → slice_cmp nat_cmp (text_of (Bytes a)) (text_of (Bytes b)) ≡ name_cmp a b
text_order a b la lb =
    by_ranked (length a < length b) (length a ≡ length b) (length b < length a) (nat_cmp (length a) (length b)) (ranked (length a) (length b) (nat_cmp (length a) (length b)) refl)
    (λ o lt. shorter_first (length a) (length b) a b lt lb ∙ sym (ap (λ (r : Ordering). ordering_then r (slice_cmp nat_cmp a b)) o))
    (λ o same. ap (λ (n : ℕ). slice_cmp nat_cmp (head 2 n ++ a) (head 2 (length b) ++ b)) same ∙ shared_front (head 2 (length b)) a b ∙ sym (ap (λ (r : Ordering). ordering_then r (slice_cmp nat_cmp a b)) o))
    (λ o gt. nat_list_cmp_total.antisymm (text_of (Bytes a)) (text_of (Bytes b)) ∙ ap ordering_reverse (shorter_first (length b) (length a) b a gt la) ∙ sym (ap (λ (r : Ordering). ordering_then r (slice_cmp nat_cmp a b)) o))

-- byte strings of one length stand by their bytes
pub same_length_order : (a b : List ℕ) → length a ≡ length b → name_cmp a b ≡ slice_cmp nat_cmp a b
same_length_order a b same =
    ap (λ (r : Ordering). ordering_then r (slice_cmp nat_cmp a b)) (ap (nat_cmp (length a)) (sym same) ∙ tied_itself nat_cmp_total (length a))
