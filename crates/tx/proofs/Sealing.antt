-- The identifier and the size of a transaction, from its text as it was written.
use Rattle.std.proofs.Common.{◌≡◌, ℕ, List, [], ◌++◌, length, drop, sym, ap, ◌∙◌, arith}
use Rattle.std.proofs.lemmas.List.{drop_at, length-append}
use Rattle.sha2.specs.Sha256.{sha256}
use Rattle.model.specs.Cbor.{head, text_of}
use Rattle.model.specs.Transaction.{Transaction, item_of_body, item_of_witnesses, transaction_id_of, size_of}

-- the body's text, behind the head of the array
pub sealed_id : (t : Transaction) (headed bodied written hash : List ℕ) (start : ℕ) → start ≡ length headed → bodied ≡ headed ++ text_of (item_of_body t) → written ≡ drop start bodied → hash ≡ sha256 written → hash ≡ transaction_id_of t
unfolding transaction_id_of
sealed_id t headed bodied written hash start begins body behind hashed =
    hashed ∙ ap sha256 (behind ∙ ap (drop start) body ∙ drop_at headed (text_of (item_of_body t)) start (sym begins))

-- all of it
pub sealed_size : (t : Transaction) (none headed bodied witnessed whole : List ℕ) (count : ℕ) → none ≡ [] → headed ≡ none ++ head 4 3 → bodied ≡ headed ++ text_of (item_of_body t) → witnessed ≡ bodied ++ text_of (item_of_witnesses t) → whole ≡ witnessed ++ head 7 22 → count ≡ length whole
    → count ≡ size_of t
unfolding size_of
sealed_size t none headed bodied witnessed whole count empty array body witnesses null counted =
    let b = text_of (item_of_body t) in
    let w = text_of (item_of_witnesses t) in
    let n = head 7 22 in
    omega (
      arith,
      counted,
      ap length null ∙ length-append witnessed n,
      ap length witnesses ∙ length-append bodied w,
      ap length body ∙ length-append headed b,
      ap length array ∙ length-append none (head 4 3),
      ap length empty,
      length-append (head 4 3) (b ++ (w ++ (n ++ []))),
      length-append b (w ++ (n ++ [])),
      length-append w (n ++ []),
      length-append n [],
    )
