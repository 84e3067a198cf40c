-- Transactions that are taken into a body one after the other.
use Rattle.std.proofs.Common.{◌≡◌, ℕ, suc, ◌+◌, ◌^◌, ◌<◌, ◌≤◌, Bool, true, false, List, [], ◌∷◌, ◌++◌, length, map, Option, Some, None, inl, inr, refl, sym, ap, ◌∙◌, is_some, arith, append-nil, append_assoc}
use Rattle.std.specs.Prelude.{◌&&◌, nat_le, if◌then◌else◌, Result, Ok, Err, OnOk}
use Rattle.std.specs.Arc.{arc_value}
use Rattle.std.specs.declared.alloc.Global.{Global}
use Rattle.std.specs.declared.sync.Arc.{Arc}
use Rattle.std.proofs.lemmas.List.{length-append}
use Rattle.std.proofs.lemmas.Bool.{cases_lt, leb-true, le-leb}
use Rattle.model.specs.Cbor.{head, text_of, items_of, items_count, nesting, items_nesting}
use Rattle.model.specs.Transaction.{Transaction, item_of_transaction, size_of}
use Rattle.model.specs.Block.{item_of_transactions}
use Rattle.model.specs.Signature.{Verifies}
use Rattle.model.specs.Utxo.{Utxo, utxo_after}
use Rattle.model.specs.Rules.{Params, Reason, reason_against}
use Rattle.model.specs.Mempool.{nests_in_a_block, fits_in_a_block, picked}
use Rattle.model.proofs.Lists.{all_push}
use Rattle.cbor.proofs.ForCallers.{items_counted}
use Rattle.mempool.specs.Contents.{Waiting}
use Rattle.mempool.specs.Calls.{with_tx}
use Rattle.mempool.specs.Picking.{IsSpelled, texts_of, AreMeasured, IsRoomFor, offered}

-- what holds where a call went well gives what another says of it
pub on_ok : {X E : Type 0} (result : Result X E) (P Q : Type 0) → OnOk result P → (P → Q) → OnOk result Q
on_ok (Ok x) P Q p so = so p
on_ok (Err e) P Q p so = tt

-- ---- one text more

texts_push : (xs : List Transaction) (t : Transaction) → texts_of (xs ++ t ∷ []) ≡ texts_of xs ++ text_of (item_of_transaction t)
texts_push [] t = append-nil (text_of (item_of_transaction t))
texts_push (x ∷ xs) t = ap (λ (bs : List ℕ). text_of (item_of_transaction x) ++ bs) (texts_push xs t) ∙ sym (append_assoc (text_of (item_of_transaction x)) (texts_of xs) (text_of (item_of_transaction t)))

-- how long the texts are with it
texts_length : (xs : List Transaction) (t : Transaction) → length (texts_of (xs ++ t ∷ [])) ≡ length (texts_of xs) + size_of t
unfolding size_of
texts_length xs t = ap length (texts_push xs t) ∙ length-append (texts_of xs) (text_of (item_of_transaction t))

nests_push : (xs : List Transaction) (t : Transaction) → items_nesting (items_of (map item_of_transaction xs)) ≤ 62 → nesting (item_of_transaction t) ≤ 62 → items_nesting (items_of (map item_of_transaction (xs ++ t ∷ []))) ≤ 62
nests_push [] t all one = omega arith
nests_push (x ∷ xs) t all one = let rest = nests_push xs t (omega arith) one in omega arith

nests_last : (xs : List Transaction) (t : Transaction) → nesting (item_of_transaction t) ≤ items_nesting (items_of (map item_of_transaction (xs ++ t ∷ [])))
nests_last [] t = omega arith
nests_last (x ∷ xs) t = let rest = nests_last xs t in omega arith

-- how long the text of a body is
pub body_length : (ts : List Transaction) → length (text_of (item_of_transactions ts)) ≡ length (head 4 (length ts)) + length (texts_of ts)
body_length ts =
    length-append (head 4 (items_count (items_of (map item_of_transaction ts)))) (texts_of ts)
    ∙ ap (λ (n : ℕ). length (head 4 n) + length (texts_of ts)) (items_counted item_of_transaction ts)

-- ---- whether there is room

both : (a b x y : Bool) → a ≡ x → b ≡ y → (a && b) ≡ (x && y)
both a b x y p q = cc

no_second : (a : Bool) → (a && false) ≡ false
no_second true = refl
no_second false = refl

pub le_false : (a b : ℕ) → b < a → nat_le a b ≡ false
le_false a b above = elim (nat_le a b) as (λ v. nat_le a b ≡ v → v ≡ false) [ true ↦ λ e. absurd (let le = leb-true a b e in omega arith) | false ↦ λ e. refl ] refl

same_test : (a b c d : ℕ) → (a ≤ b → c ≤ d) → (c ≤ d → a ≤ b) → nat_le a b ≡ nat_le c d
same_test a b c d to back =
    elim (cases_lt b a) [
      | inl above ↦ le_false a b above ∙ sym (elim (cases_lt d c) [ inl over ↦ le_false c d over | inr le ↦ absurd (let x = back le in omega arith) ])
      | inr le ↦ le-leb a b le ∙ sym (le-leb c d (to le))
    ]

module _ (txs : List Transaction) (size : ℕ) (are : AreMeasured txs size) (t : Transaction) (head_size tx_size deep : ℕ)
    (head_is : length (head 4 (length txs + 1)) ≡ head_size) (size_is : tx_size ≡ size_of t) (deep_is : deep ≡ nesting (item_of_transaction t)) where
  longer : length (txs ++ t ∷ []) ≡ length txs + 1
  longer = omega (arith, length-append txs (t ∷ []))

  body_is : length (text_of (item_of_transactions (txs ++ t ∷ []))) ≡ head_size + (size + tx_size)
  body_is =
      body_length (txs ++ t ∷ []) ∙ (ap (λ (n : ℕ). length (head 4 n) + length (texts_of (txs ++ t ∷ []))) longer
      ∙ (let together = are.together in omega (arith, head_is, texts_length txs t, size_is, together)))

  nests_is : nests_in_a_block (txs ++ t ∷ []) ≡ nat_le deep 62
  nests_is =
      let n = items_nesting (items_of (map item_of_transaction (txs ++ t ∷ []))) in
      same_test (suc (suc n)) 64 deep 62
      (λ within. let last = nests_last txs t in omega (arith, deep_is))
      (λ within. let all = nests_push txs t are.nests (omega (arith, deep_is)) in omega arith)

  -- where the body isn't too big, the depth decides
  pub has_room : (params : Params) → head_size + (size + tx_size) ≤ params.max_body_size → nat_le deep 62 ≡ fits_in_a_block params (txs ++ t ∷ [])
  has_room params within =
      sym (both (nests_in_a_block (txs ++ t ∷ [])) (nat_le (length (text_of (item_of_transactions (txs ++ t ∷ [])))) params.max_body_size) (nat_le deep 62) true nests_is (le-leb (length (text_of (item_of_transactions (txs ++ t ∷ [])))) params.max_body_size (omega (arith, body_is)))
      ∙ with_true (nat_le deep 62))
    where
      with_true : (b : Bool) → (b && true) ≡ b
      with_true true = refl
      with_true false = refl

  pub no_room : (params : Params) → params.max_body_size < head_size + (size + tx_size) → false ≡ fits_in_a_block params (txs ++ t ∷ [])
  no_room params above =
      sym (ap (λ (b : Bool). nests_in_a_block (txs ++ t ∷ []) && b) (le_false (length (text_of (item_of_transactions (txs ++ t ∷ [])))) params.max_body_size (omega (arith, body_is)))
      ∙ no_second (nests_in_a_block (txs ++ t ∷ [])))

  pub room_for : IsSpelled t → head_size + (size + tx_size) < 2 ^ 64 → deep ≤ 62 → IsRoomFor txs t
  room_for spelled few within = record { spelled = spelled; few = let together = are.together in omega (arith, texts_length txs t, size_is, together); nests = omega (arith, deep_is) }

-- ---- one is taken

pub none_measured : AreMeasured [] 0
none_measured = record { together = refl; nests = omega arith; spelled = tt }

pub one_measured : (txs : List Transaction) (size : ℕ) (t : Transaction) (tx_size : ℕ) → AreMeasured txs size → IsRoomFor txs t → tx_size ≡ size_of t → AreMeasured (txs ++ t ∷ []) (size + tx_size)
one_measured txs size t tx_size are room is = record {
  together = let together = are.together in omega (arith, texts_length txs t, together, is);
  nests = nests_push txs t are.nests room.nests;
  spelled = all_push IsSpelled txs t are.spelled room.spelled;
}

-- the two sizes can be added
pub few_enough : (txs : List Transaction) (size : ℕ) (t : Transaction) (tx_size : ℕ) → AreMeasured txs size → IsRoomFor txs t → tx_size ≡ size_of t → size + tx_size < 2 ^ 64
few_enough txs size t tx_size are room is = let together = are.together in let few = room.few in omega (arith, texts_length txs t, is)

-- ---- offers

module _ (verifies : Verifies) (params : Params) (slot : ℕ) where
  offer_step : (r : Option Reason) (room : Bool) (w : Waiting) (t : Transaction) → reason_against verifies params w.unspent slot t ≡ r → fits_in_a_block params (w.txs ++ t ∷ []) ≡ room
      → offered verifies params slot w t ≡ (if is_some r then w else (if room then with_tx w t else w))
  offer_step r room w t e f =
      ap (λ (o : Option Reason). if is_some o then w else (if fits_in_a_block params (w.txs ++ t ∷ []) then with_tx w t else w)) e
      ∙ ap (λ (b : Bool). if is_some r then w else (if b then with_tx w t else w)) f

  pub offer_taken : (w : Waiting) (t : Transaction) → reason_against verifies params w.unspent slot t ≡ None → fits_in_a_block params (w.txs ++ t ∷ []) ≡ true → offered verifies params slot w t ≡ with_tx w t
  offer_taken w t e f = offer_step None true w t e f

  pub offer_refused : (r : Reason) (w : Waiting) (t : Transaction) → reason_against verifies params w.unspent slot t ≡ Some r → offered verifies params slot w t ≡ w
  offer_refused r w t e = offer_step (Some r) (fits_in_a_block params (w.txs ++ t ∷ [])) w t e refl

  pub offer_no_room : (w : Waiting) (t : Transaction) → fits_in_a_block params (w.txs ++ t ∷ []) ≡ false → offered verifies params slot w t ≡ w
  offer_no_room w t f = offer_step (reason_against verifies params w.unspent slot t) false w t refl f ∙ either (is_some (reason_against verifies params w.unspent slot t))
    where
      either : (b : Bool) → (if b then w else w) ≡ w
      either true = refl
      either false = refl

  abbrev Shared : Type 0
  Shared = Arc Transaction Global

  -- what is taken of all is what is taken of the rest after what was taken
  pub record IsPartPicked (utxo : Utxo) (all : List Transaction) (w : Waiting) (rest : List Shared) : Type 0 where
    pub txs : picked verifies params slot utxo [] all ≡ picked verifies params slot w.unspent w.txs (map arc_value rest)

  pub none_picked : (utxo : Utxo) (all : List Transaction) (w : Waiting) (rest : List Shared) → w ≡ record { txs = []; unspent = utxo } → map arc_value rest ≡ all → IsPartPicked utxo all w rest
  none_picked utxo all w rest is are =
      record { txs = ap (λ (ts : List Transaction). picked verifies params slot utxo [] ts) (sym are) ∙ ap (λ (v : Waiting). picked verifies params slot v.unspent v.txs (map arc_value rest)) (sym is) }

  pick_is : (w : Waiting) (t : Transaction) (ts : List Transaction) → picked verifies params slot w.unspent w.txs (t ∷ ts) ≡ picked verifies params slot (offered verifies params slot w t).unspent (offered verifies params slot w t).txs ts
  pick_is w t ts = by (is_some (reason_against verifies params w.unspent slot t)) (fits_in_a_block params (w.txs ++ t ∷ []))
    where
      by : (b c : Bool) → (if b then picked verifies params slot w.unspent w.txs ts else (if c then picked verifies params slot (utxo_after w.unspent t) (w.txs ++ t ∷ []) ts else picked verifies params slot w.unspent w.txs ts))
          ≡ picked verifies params slot (if b then w else (if c then with_tx w t else w)).unspent (if b then w else (if c then with_tx w t else w)).txs ts
      by true c = refl
      by false true = refl
      by false false = refl

  pub more_picked : (utxo : Utxo) (all : List Transaction) (w after : Waiting) (tx : Shared) (rest left : List Shared)
      → left ≡ tx ∷ rest → IsPartPicked utxo all w left → after ≡ offered verifies params slot w (arc_value tx) → IsPartPicked utxo all after rest
  more_picked utxo all w after tx rest left is part e = record {
    txs = part.txs ∙ (ap (λ (xs : List Shared). picked verifies params slot w.unspent w.txs (map arc_value xs)) is
        ∙ (pick_is w (arc_value tx) (map arc_value rest) ∙ ap (λ (v : Waiting). picked verifies params slot v.unspent v.txs (map arc_value rest)) (sym e)));
  }

  pub all_picked : (utxo : Utxo) (all : List Transaction) (w : Waiting) (rest : List Shared) → rest ≡ [] → IsPartPicked utxo all w rest → w.txs ≡ picked verifies params slot utxo [] all
  all_picked utxo all w rest none part = sym (part.txs ∙ ap (λ (xs : List Shared). picked verifies params slot w.unspent w.txs (map arc_value xs)) none)
