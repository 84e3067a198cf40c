-- A transaction has one detail at most.
use Rattle.std.proofs.Common.{◌≡◌, ℕ, zero, suc, ◌<◌, ℤ, Bool, true, false, ◌⊎◌, inl, inr, List, [], ◌∷◌, take, Option, Some, None, refl, sym, ap, ap₂, subst, ◌∙◌, arith}
use Rattle.std.specs.Prelude.{slice_get}
use Rattle.std.specs.List.{list_all}
use Rattle.std.specs.Ordering.{nat_cmp, ordering_then, ordering_reverse}
use Rattle.std.specs.declared.cmp.Ordering.{Ordering}
use Rattle.std.specs.declared.cmp.Ordering.TheVariants.{Less, Equal, Greater}
use Rattle.std.specs.Cmp.{IsTotalOrder}
use Rattle.std.specs.Cmp.Lexicographic.{slice_cmp}
use Rattle.std.specs.FinMap.{nat_cmp-IsAntisymmetric, slice_cmp-IsAntisymmetric}
use Rattle.std.proofs.lemmas.Bool.{and_parts, cases_lt}
use Rattle.std.proofs.lemmas.Cmp.{nat_list_cmp_total}
use Rattle.model.specs.Signature.{Verifies}
use Rattle.model.specs.Value.{Asset, Ada, Named}
use Rattle.model.specs.Script.{script_hash_of}
use Rattle.model.specs.Transaction.{Input, Output, KeyWitness, Transaction}
use Rattle.model.specs.Utxo.{Utxo, new_pairs}
use Rattle.model.specs.Balance.{consumed, produced}
use Rattle.model.specs.Rules as rules
use Rattle.model.specs.Rules.{Params, Reason, reason_against}
use Rattle.model.specs.Explaining.{Detail, OutsideInterval, NoInputs, TooBig, FeeTooSmall, MissingInput}
use Rattle.model.specs.Explaining.{OutputTooSmall, WrongNetwork, NotBalanced, OutputExists, BadSignature}
use Rattle.model.specs.Explaining.{MissingKeyWitness, MissingScript, ExtraScript, ScriptFails}
use Rattle.model.specs.Explaining.{reason_of_detail, name_cmp, asset_cmp, IsFailingAt, IsFirstFailing, IsFirstUnbalanced, SaysSo, IsDetail, Explains}
use Rattle.utxo_rules.proofs.Unbalanced.{names_total}

-- ---- one that is the first to fail

module _ {X : Type 0} (test : X → Bool) where
  passes_inside : (xs : List X) (i j : ℕ) (x : X) → slice_get xs i ≡ Some x → i < j → list_all test (take j xs) ≡ true → test x ≡ true
  passes_inside [] i j x is lt all = absurd cc
  passes_inside (y ∷ ys) i zero x is lt all = absurd (omega (arith, lt))
  passes_inside (y ∷ ys) zero (suc j) x is lt all =
      let same : y ≡ x = cc in
      ap test (sym same) ∙ (and_parts (test y) (list_all test (take j ys)) all).0
  passes_inside (y ∷ ys) (suc i) (suc j) x is lt all = passes_inside ys i j x is (omega (arith, lt)) (and_parts (test y) (list_all test (take j ys)) all).1

  not_before : (xs : List X) (i j : ℕ) (x y : X) → IsFailingAt test xs i x → IsFailingAt test xs j y → i < j → ⊥
  not_before xs i j x y at other lt = let both : true ≡ false = sym (passes_inside xs i j x at.there lt other.first) ∙ at.fails in cc

  one_place : (xs : List X) (i j : ℕ) (x y : X) → IsFailingAt test xs i x → IsFailingAt test xs j y → i ≡ j
  one_place xs i j x y at other = elim (cases_lt i j) [
    | inl lt ↦ absurd (not_before xs i j x y at other lt)
    | inr le ↦ elim (cases_lt j i) [
      | inl lt ↦ absurd (not_before xs j i y x other at lt)
      | inr also ↦ omega (arith, le, also)
    ]
  ]

  one_member : (xs : List X) (i j : ℕ) (x y : X) → IsFailingAt test xs i x → IsFailingAt test xs j y → x ≡ y
  one_member xs i j x y at other =
      let same = one_place xs i j x y at other in
      let both : Some x ≡ Some y = sym at.there ∙ ap (slice_get xs) same ∙ other.there in
      cc

  one_first : (xs : List X) (x y : X) → IsFirstFailing test xs x → IsFirstFailing test xs y → x ≡ y
  one_first xs x y first other = one_member xs first.0 other.0 x y first.1 other.1

-- ---- one asset that is the first out of balance

-- one comes before the other, or they tie
either_way : {K : Type 0} (R : K → K → Ordering) → IsTotalOrder R → (a b : K) → (R a b ≡ Less) ⊎ ((R b a ≡ Less) ⊎ (R a b ≡ Equal))
either_way R total a b = by_order (R a b) refl
  where
    by_order : (r : Ordering) → R a b ≡ r → (R a b ≡ Less) ⊎ ((R b a ≡ Less) ⊎ (R a b ≡ Equal))
    by_order Less is = inl is
    by_order Equal is = inr (inr is)
    by_order Greater is = inr (inl (IsTotalOrder.antisymm total b a ∙ ap ordering_reverse is))

both_equal : (r s : Ordering) → ordering_then r s ≡ Equal → (r ≡ Equal) × (s ≡ Equal)
both_equal Less s e = absurd cc
both_equal Equal s e = (refl, e)
both_equal Greater s e = absurd cc

names_same : (a b : List ℕ) → name_cmp a b ≡ Equal → a ≡ b
names_same a b e = slice_cmp-IsAntisymmetric nat_cmp-IsAntisymmetric a b (both_equal _ _ e).1

asset_ways : (a b : Asset) → (asset_cmp a b ≡ Less) ⊎ ((asset_cmp b a ≡ Less) ⊎ (a ≡ b))
asset_ways Ada Ada = inr (inr refl)
asset_ways Ada (Named policy name) = inl refl
asset_ways (Named policy name) Ada = inr (inl refl)
asset_ways (Named p n) (Named q m) = elim (either_way (slice_cmp nat_cmp) nat_list_cmp_total p q) [
  | inl less ↦ inl (ap (λ (o : Ordering). ordering_then o (name_cmp n m)) less)
  | inr others ↦ elim others [
    | inl less ↦ inr (inl (ap (λ (o : Ordering). ordering_then o (name_cmp m n)) less))
    | inr tie ↦
        let policies : p ≡ q = slice_cmp-IsAntisymmetric nat_cmp-IsAntisymmetric p q tie in
        elim (either_way name_cmp names_total n m) [
          | inl less ↦ inl (ap (λ (o : Ordering). ordering_then o (name_cmp n m)) tie ∙ less)
          | inr names ↦ elim names [
            | inl less ↦
                let back : slice_cmp nat_cmp q p ≡ Equal = IsTotalOrder.antisymm nat_list_cmp_total q p ∙ ap ordering_reverse tie in
                inr (inl (ap (λ (o : Ordering). ordering_then o (name_cmp m n)) back ∙ less))
            | inr same ↦ inr (inr (ap₂ Named policies (names_same n m same)))
          ]
        ]
  ]
]

one_asset : (utxo : Utxo) (t : Transaction) (a b : Asset) → IsFirstUnbalanced utxo t a → IsFirstUnbalanced utxo t b → a ≡ b
one_asset utxo t a b first other = elim (asset_ways a b) [
  | inl less ↦ absurd (first.differs (other.first a less))
  | inr others ↦ elim others [ inl less ↦ absurd (other.differs (first.first b less)) | inr same ↦ same ]
]

-- ---- one detail

-- what the detail of a reason has beside it
abbrev Parts : Reason → Type 0
Parts rules.OutsideInterval = ℕ × Option ℕ × Option ℕ
Parts rules.NoInputs = Unit {0}
Parts rules.TooBig = ℕ × ℕ
Parts rules.FeeTooSmall = ℕ × ℕ
Parts rules.MissingInput = Input
Parts rules.OutputTooSmall = ℕ × ℕ × ℕ
Parts rules.WrongNetwork = ℕ
Parts rules.NotBalanced = Asset × ℤ × ℤ
Parts rules.OutputExists = ℕ
Parts rules.BadSignature = List ℕ
Parts rules.MissingKeyWitness = List ℕ
Parts rules.MissingScript = List ℕ
Parts rules.ExtraScript = List ℕ
Parts rules.ScriptFails = List ℕ

abbrev make : (r : Reason) → Parts r → Detail
make rules.OutsideInterval p = OutsideInterval p.0 p.1 p.2
make rules.NoInputs p = NoInputs
make rules.TooBig p = TooBig p.0 p.1
make rules.FeeTooSmall p = FeeTooSmall p.0 p.1
make rules.MissingInput p = MissingInput p
make rules.OutputTooSmall p = OutputTooSmall p.0 p.1 p.2
make rules.WrongNetwork p = WrongNetwork p
make rules.NotBalanced p = NotBalanced p.0 p.1 p.2
make rules.OutputExists p = OutputExists p
make rules.BadSignature p = BadSignature p
make rules.MissingKeyWitness p = MissingKeyWitness p
make rules.MissingScript p = MissingScript p
make rules.ExtraScript p = ExtraScript p
make rules.ScriptFails p = ScriptFails p

parts_of : (d : Detail) → (p : Parts (reason_of_detail d)) × (make (reason_of_detail d) p ≡ d)
parts_of (OutsideInterval slot start end) = ((slot, start, end), refl)
parts_of NoInputs = (tt, refl)
parts_of (TooBig size most) = ((size, most), refl)
parts_of (FeeTooSmall fee least) = ((fee, least), refl)
parts_of (MissingInput input) = (input, refl)
parts_of (OutputTooSmall index coin least) = ((index, coin, least), refl)
parts_of (WrongNetwork index) = (index, refl)
parts_of (NotBalanced asset sum_in sum_out) = ((asset, sum_in, sum_out), refl)
parts_of (OutputExists index) = (index, refl)
parts_of (BadSignature key) = (key, refl)
parts_of (MissingKeyWitness hash) = (hash, refl)
parts_of (MissingScript hash) = (hash, refl)
parts_of (ExtraScript hash) = (hash, refl)
parts_of (ScriptFails hash) = (hash, refl)

module _ (verifies : Verifies) (params : Params) (utxo : Utxo) (slot : ℕ) (t : Transaction) where
  abbrev So : Detail → Type 0
  So d = SaysSo verifies params utxo slot t d

  one_of : (r : Reason) (p q : Parts r) → So (make r p) → So (make r q) → make r p ≡ make r q
  one_of rules.OutsideInterval p q a b =
      ap (λ (n : ℕ). OutsideInterval n p.1 p.2) (a.0 ∙ sym b.0) ∙ ap (λ (n : Option ℕ). OutsideInterval q.0 n p.2) (a.1 ∙ sym b.1) ∙ ap (OutsideInterval q.0 q.1) (a.2 ∙ sym b.2)
  one_of rules.NoInputs p q a b = refl
  one_of rules.TooBig p q a b = ap₂ TooBig (a.0 ∙ sym b.0) (a.1 ∙ sym b.1)
  one_of rules.FeeTooSmall p q a b = ap₂ FeeTooSmall (a.0 ∙ sym b.0) (a.1 ∙ sym b.1)
  one_of rules.MissingInput p q a b = ap MissingInput (one_first _ t.inputs p q a b)
  one_of rules.OutputTooSmall p q a b =
      let index = one_place _ t.outputs p.0 q.0 a.0 b.0 a.1 b.1 in
      let output = one_member _ t.outputs p.0 q.0 a.0 b.0 a.1 b.1 in
      ap (λ (n : ℕ). OutputTooSmall n p.1 p.2) index
      ∙ ap (λ (n : ℕ). OutputTooSmall q.0 n p.2) (a.2 ∙ ap (λ (o : Output). o.value.coin) output ∙ sym b.2)
      ∙ ap (OutputTooSmall q.0 q.1) (a.3 ∙ ap (rules.least_coin (rules.era_at params slot)) output ∙ sym b.3)
  one_of rules.WrongNetwork p q a b = ap WrongNetwork (one_place _ t.outputs p q a.0 b.0 a.1 b.1)
  one_of rules.NotBalanced p q a b =
      let asset = one_asset utxo t p.0 q.0 a.0 b.0 in
      ap (λ (x : Asset). NotBalanced x p.1 p.2) asset
      ∙ ap (λ (z : ℤ). NotBalanced q.0 z p.2) (a.1 ∙ ap (consumed utxo t) asset ∙ sym b.1)
      ∙ ap (NotBalanced q.0 q.1) (a.2 ∙ ap (produced t) asset ∙ sym b.2)
  one_of rules.OutputExists p q a b = ap OutputExists (one_place _ (new_pairs t) p q a.0 b.0 a.1 b.1)
  one_of rules.BadSignature p q a b = ap BadSignature (a.2 ∙ ap (λ (w : KeyWitness). w.key) (one_first _ t.signatures a.0 b.0 a.1 b.1) ∙ sym b.2)
  one_of rules.MissingKeyWitness p q a b = ap MissingKeyWitness (one_first _ (rules.keys_needed utxo t) p q a b)
  one_of rules.MissingScript p q a b = ap MissingScript (one_first _ (rules.scripts_needed utxo t) p q a b)
  one_of rules.ExtraScript p q a b = ap ExtraScript (one_first _ (rules.scripts_of t) p q a b)
  one_of rules.ScriptFails p q a b = ap ScriptFails (a.2 ∙ ap script_hash_of (one_first _ t.scripts a.0 b.0 a.1 b.1) ∙ sym b.2)

  of_reason : (e : Detail) → So e → (r : Reason) → reason_of_detail e ≡ r → (p : Parts r) → So (make r p) → make r p ≡ e
  of_reason e so r is =
      let made = (parts_of e).1 in
      subst (λ (x : Reason). (p : Parts x) → So (make x p) → make x p ≡ e) is
      (λ p says. one_of (reason_of_detail e) p (parts_of e).0 says (subst So (sym made) so) ∙ made)

  pub one_detail : (d e : Detail) → IsDetail verifies params utxo slot t d → IsDetail verifies params utxo slot t e → d ≡ e
  one_detail d e of_d of_e =
      let both : Some (reason_of_detail e) ≡ Some (reason_of_detail d) = sym of_e.reason ∙ of_d.reason in
      let same : reason_of_detail e ≡ reason_of_detail d = cc in
      let made = (parts_of d).1 in
      sym made ∙ of_reason e of_e.so (reason_of_detail d) same (parts_of d).0 (subst So (sym made) of_d.so)

  pub only_told : (told : Option Detail) → Explains verifies params utxo slot t told → (detail : Detail) → IsDetail verifies params utxo slot t detail → told ≡ Some detail
  only_told None none detail is = absurd (let both : None ≡ Some (reason_of_detail detail) = sym none ∙ is.reason in cc)
  only_told (Some d) of_d detail is = ap (λ (x : Detail). Some x) (one_detail d detail of_d is)
