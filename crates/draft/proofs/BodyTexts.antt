-- Where the text of its body stands in that of a transaction without witnesses.
use Rattle.std.proofs.Common.{◌≡◌, ℕ, ◌+◌, List, [], ◌∷◌, ◌++◌, length, take, remove, refl, ap, ◌∙◌, arith}
use Rattle.std.proofs.lemmas.List.{length-append}
use Rattle.std.proofs.lemmas.List.Sorted.{length_permutation}
use Rattle.std.specs.List.Sorted.{IsPermutation}
use Rattle.std.proofs.Math.Seq.{take-append_seam}
use Rattle.model.specs.Cbor.{text_of, head}
use Rattle.model.specs.Transaction.{Transaction, item_of_body, item_of_transaction, item_of_witnesses}
use Rattle.tx.specs.Parts.{IsTxOf, Parts}
use Rattle.draft.specs.UnsignedView.{HasNoWitnesses}

-- what is none in another order is none
none_left : {X : Type 0} (xs : List X) → IsPermutation [] xs → xs ≡ []
none_left [] h = refl
none_left (x ∷ xs) h = let long = length_permutation [] (x ∷ xs) h in absurd (omega (arith, long))

-- a transaction of no signatures and no scripts
pub no_witnesses : (tx : Transaction) (p : Parts) → p.signatures ≡ [] → p.scripts ≡ [] → IsTxOf tx p → HasNoWitnesses tx
no_witnesses tx p signatures scripts of = record {
  signatures = none_left tx.signatures (rw signatures at of.signatures);
  scripts = none_left tx.scripts (rw scripts at of.scripts);
}

bare_text : (tx : Transaction) → HasNoWitnesses tx → text_of (item_of_transaction tx) ≡ (131 ∷ text_of (item_of_body tx)) ++ 160 ∷ 246 ∷ []
unfolding head
bare_text tx none =
    let witnesses : text_of (item_of_witnesses tx) ≡ 160 ∷ [] = λ i. text_of (item_of_witnesses (record tx { signatures = none.signatures i; scripts = none.scripts i })) in
    ap (λ (w : List ℕ). 131 ∷ (text_of (item_of_body tx) ++ (w ++ 246 ∷ []))) witnesses

-- it has three bytes more
pub bare_long : (tx : Transaction) → HasNoWitnesses tx → length (text_of (item_of_transaction tx)) ≡ length (text_of (item_of_body tx)) + 3
bare_long tx none =
    let long = ap length (bare_text tx none) in
    let parts = length-append (131 ∷ text_of (item_of_body tx)) (160 ∷ 246 ∷ []) in
    omega (arith, long, parts)

-- without the last two and the first it is the body's
pub body_left : (tx : Transaction) (n : ℕ) → HasNoWitnesses tx → n ≡ length (text_of (item_of_body tx)) + 1 → remove (take n (text_of (item_of_transaction tx))) 0 ≡ text_of (item_of_body tx)
body_left tx n none is =
    let whole : n ≡ length (131 ∷ text_of (item_of_body tx)) = omega (arith, is) in
    ap (λ (t : List ℕ). remove (take n t) 0) (bare_text tx none) ∙ ap (λ (m : ℕ). remove (take m ((131 ∷ text_of (item_of_body tx)) ++ 160 ∷ 246 ∷ [])) 0) whole
    ∙ ap (λ (t : List ℕ). remove t 0) (take-append_seam (131 ∷ text_of (item_of_body tx)) (160 ∷ 246 ∷ []))
