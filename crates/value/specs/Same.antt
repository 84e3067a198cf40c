-- What `==` asks of values and of what is minted: whether they have one text. That is an equivalence.
use Rattle.std.specs.Prelude.{Bool, bytes_eq}
use Rattle.std.specs.Cmp.{IsPartialEquivalence, on_per, partial_equiv_from_equiv}
use Rattle.std.proofs.lemmas.Cmp.{nat_list_eq_equiv}
use Rattle.model.specs.Cbor.{text_of}
use Rattle.model.specs.Value.{Value, Mint, item_of_value, item_of_number, item_of_assets}

-- two values have one text
abbrev pub value_eq : Value → Value → Bool
value_eq a b = bytes_eq (text_of (item_of_value a)) (text_of (item_of_value b))

pub same_value_laws : IsPartialEquivalence value_eq
same_value_laws =
    on_per (λ (v : Value). text_of (item_of_value v)) (partial_equiv_from_equiv nat_list_eq_equiv)

-- two mints have one text
abbrev pub mint_eq : Mint → Mint → Bool
mint_eq a b = bytes_eq (text_of (item_of_assets item_of_number a)) (text_of (item_of_assets item_of_number b))

pub same_mint_laws : IsPartialEquivalence mint_eq
same_mint_laws =
    on_per (λ (m : Mint). text_of (item_of_assets item_of_number m)) (partial_equiv_from_equiv nat_list_eq_equiv)
