-- How a loop gathers what each of a list stands for, and what outputs bring that are spent.
use Rattle.std.proofs.Common.{◌≡◌, ℕ, ◌+◌, ◌<◌, ◌≤◌, ◌+ℤ◌, List, [], ◌∷◌, ◌++◌, length, drop, get_or, map, sym, ap, ◌∙◌, append-nil, append_assoc, arith}
use Rattle.std.specs.Prelude.{Option, Some, None, option_to_list, flat_map}
use Rattle.std.proofs.lemmas.List.{drop_all}
use Rattle.std.proofs.lemmas.Int.{ints}
use Rattle.cbor.proofs.ForCallers.{drop_here}
use Rattle.model.specs.Value.{Asset}
use Rattle.model.specs.Transaction.{Output}
use Rattle.model.specs.Utxo.{Utxo, output_at, outputs_at, sum_of}
use Rattle.model.specs.Rules.{key_hashes_in, script_hashes_in}
use Rattle.tx.specs.View.{input_of}
use Rattle.tx.specs.declared.input.Input.{Input as CodeInput}
use Rattle.value.specs.Totals.{total_of}
use Rattle.utxo_rules.specs.declared.spent.Spent.{Spent}
use Rattle.utxo_rules.specs.Spent.{IsSpent, IsOneMore}

module _ {A B : Type 0} (view : A → B) where
  -- what was there and is gathered, and what is still to be gathered, are the whole
  abbrev pub IsGathered : (start done : List B) → List A → ℕ → Type 0
  IsGathered start done xs i = done ++ map view (drop i xs) ≡ start ++ map view xs

  pub one_gathered : (start done new : List B) (xs : List A) (i : ℕ) (x : A) (y : B) → i < length xs → x ≡ get_or xs i x → y ≡ view x → new ≡ done ++ y ∷ [] → IsGathered start done xs i → IsGathered start new xs (i + 1)
  one_gathered start done new xs i x y lt is same pushed part =
      let rest = map view (drop (i + 1) xs) in
      ap (λ (ys : List B). ys ++ rest) pushed ∙ append_assoc done (y ∷ []) rest ∙ ap (λ (b : B). done ++ (b ∷ rest)) same
      ∙ ap (λ (ys : List A). done ++ map view ys) (sym (drop_here xs i x lt is)) ∙ part

  pub all_gathered : (start done : List B) (xs : List A) (i : ℕ) → length xs ≤ i → IsGathered start done xs i → done ≡ start ++ map view xs
  all_gathered start done xs i le part = sym (append-nil done) ∙ ap (λ (ys : List A). done ++ map view ys) (sym (drop_all i xs le)) ∙ part

-- what was added and what is still to be added are what all of these outputs bring
pub record IsGathering (spent : Spent) (left all : List Output) : Type 0 where
  pub sums : (asset : Asset) → total_of spent.totals asset +ℤ sum_of asset left ≡ sum_of asset all
  pub counted : spent.totals.values + length left ≡ length all
  pub keys : spent.keys.items ++ flat_map (λ o. key_hashes_in o.address.payment) left ≡ flat_map (λ o. key_hashes_in o.address.payment) all
  pub scripts : spent.scripts.items ++ flat_map (λ o. script_hashes_in o.address.payment) left ≡ flat_map (λ o. script_hashes_in o.address.payment) all

pub from_nothing : (spent : Spent) (all : List Output) → IsSpent spent [] → IsGathering spent all all
from_nothing spent all nothing = record {
  sums = λ asset. let none = nothing.sums asset in rw none (omega (arith, ints));
  counted = let none = nothing.counted in omega (arith, none);
  keys = ap (λ hashes. hashes ++ flat_map (λ o. key_hashes_in o.address.payment) all) nothing.keys;
  scripts = ap (λ hashes. hashes ++ flat_map (λ o. script_hashes_in o.address.payment) all) nothing.scripts;
}

pub one_more : (old new : Spent) (o : Output) (left all : List Output) → IsOneMore old new o → IsGathering old (o ∷ left) all → IsGathering new left all
one_more old new o left all added part = record {
  sums = λ asset. let more = added.sums asset in let before = part.sums asset in rw more (omega (arith, ints, before));
  counted = let more = added.counted in let before = part.counted in omega (arith, more, before);
  keys =
      let rest = flat_map (λ (x : Output). key_hashes_in x.address.payment) left in
      ap (λ hashes. hashes ++ rest) added.keys ∙ append_assoc old.keys.items (key_hashes_in o.address.payment) rest ∙ part.keys;
  scripts =
      let rest = flat_map (λ (x : Output). script_hashes_in x.address.payment) left in
      ap (λ hashes. hashes ++ rest) added.scripts ∙ append_assoc old.scripts.items (script_hashes_in o.address.payment) rest ∙ part.scripts;
}

pub all_there : (spent : Spent) (all : List Output) → IsGathering spent [] all → IsSpent spent all
all_there spent all part = record {
  sums = λ asset. let whole = part.sums asset in sym (omega (arith, ints)) ∙ whole;
  counted = let whole = part.counted in omega (arith, whole);
  keys = sym (append-nil spent.keys.items) ∙ part.keys;
  scripts = sym (append-nil spent.scripts.items) ∙ part.scripts;
}

-- ---- over the inputs

module _ (utxo : Utxo) where
  -- what the inputs from this one on spend
  abbrev pub left_from : List CodeInput → ℕ → List Output
  left_from inputs i = outputs_at utxo (map input_of (drop i inputs))

  abbrev pub IsPartSpent : Spent → List CodeInput → ℕ → Type 0
  IsPartSpent spent inputs i = IsGathering spent (left_from inputs i) (left_from inputs 0)

  pub left_here : (inputs : List CodeInput) (i : ℕ) (x : CodeInput) (found : Option Output) → i < length inputs → x ≡ get_or inputs i x → output_at utxo (input_of x) ≡ found → left_from inputs i ≡ option_to_list found ++ left_from inputs (i + 1)
  left_here inputs i x found lt is at =
      ap (λ (xs : List CodeInput). outputs_at utxo (map input_of xs)) (drop_here inputs i x lt is)
      ∙ ap (λ (o : Option Output). option_to_list o ++ left_from inputs (i + 1)) at

  pub spent_more : (old new : Spent) (o : Output) (inputs : List CodeInput) (i : ℕ) (x : CodeInput) → i < length inputs → x ≡ get_or inputs i x → output_at utxo (input_of x) ≡ Some o → IsOneMore old new o → IsPartSpent old inputs i → IsPartSpent new inputs (i + 1)
  spent_more old new o inputs i x lt is at added part =
      one_more old new o (left_from inputs (i + 1)) (left_from inputs 0) added (rw (← left_here inputs i x (Some o) lt is at) part)

  pub spent_none : (spent : Spent) (inputs : List CodeInput) (i : ℕ) (x : CodeInput) → i < length inputs → x ≡ get_or inputs i x → output_at utxo (input_of x) ≡ None → IsPartSpent spent inputs i → IsPartSpent spent inputs (i + 1)
  spent_none spent inputs i x lt is at part = rw (← left_here inputs i x None lt is at) part

  pub all_spent : (spent : Spent) (inputs : List CodeInput) (i : ℕ) → length inputs ≤ i → IsPartSpent spent inputs i → IsSpent spent (outputs_at utxo (map input_of inputs))
  all_spent spent inputs i le part = all_there spent (left_from inputs 0) (rw (← ap (λ (xs : List CodeInput). outputs_at utxo (map input_of xs)) (drop_all i inputs le)) part)

  -- no more are spent than there are inputs
  at_most_one : (found : Option Output) → length (option_to_list found) ≤ 1
  at_most_one None = omega arith
  at_most_one (Some o) = omega arith
