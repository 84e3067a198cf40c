-- What a reader has read of a state's text.
use Rattle.std.specs.Prelude.{◌≡◌, ℕ, ◌+◌, ◌≤◌, List, [], ◌∷◌, length, map, Option, Some, None, refl}
use Rattle.std.specs.Coded.{Coded, code_by, coded×, coded_ℕ, coded_list, coded_option}
use Rattle.std.specs.FinMap as finite
use Rattle.model.specs.Cbor.{Spells}
use Rattle.model.specs.Transaction.{Input, Output}
use Rattle.model.specs.Utxo.{Utxo, coin_of}
use Rattle.model.specs.Codes.{coded_input, coded_output, coded_tip}
use Rattle.snapshot.specs.Snapshot.{Front, part_limit, item_of_front, IsFront, AreParts}

-- How much lovelace there is, and the digest of the network; what the first part said, once it was read; the outputs so
-- far; and how many bytes the last part with outputs had. Before the first of these that is the limit, so that nothing
-- is asked of it.
pub record Begun : Type 0 where
  pub supply : ℕ
  pub digest : List ℕ
  pub front : Option Front
  pub utxo : Utxo
  pub size : ℕ

abbrev pub coded_front : Coded Front
coded_front =
    code_by _ (coded× coded_tip (coded× coded_ℕ (coded× (coded_list coded_ℕ) coded_ℕ)))
    (λ h. (h.tip, (h.fees, (h.digest, h.count))))
    (λ p. record { tip = p.0; fees = p.1.0; digest = p.1.1.0; count = p.1.1.1 })
    (λ _. refl)

abbrev pub coded_begun : Coded Begun
coded_begun =
    code_by _
    (coded× coded_ℕ (coded× (coded_list coded_ℕ)
    (coded× (coded_option coded_front) (coded× (finite.code coded_input coded_output) coded_ℕ))))
    (λ b. (b.supply, (b.digest, (b.front, (b.utxo, b.size)))))
    (λ p. record { supply = p.0; digest = p.1.0; front = p.1.1.0; utxo = p.1.1.1.0; size = p.1.1.1.1 })
    (λ _. refl)

-- the lovelace that these outputs hold
abbrev pub coin_in : List (Input × Output) → ℕ
coin_in pairs = coin_of (map (λ p. p.1) pairs)

-- how many bytes the last of these parts has, or the limit where there is none
abbrev pub last_size : (parts : List (List ℕ)) → ℕ
last_size [] = part_limit
last_size (part ∷ []) = length part
last_size (part ∷ next ∷ parts) = last_size (next ∷ parts)

-- A first part that said this was read, with the digest of the network, and these parts after it, all of whose outputs
-- are kept; neither more outputs than announced, nor more lovelace than there is.
pub record IsReadTo (b : Begun) (h : Front) (first : List ℕ) (others : List (List ℕ)) : Type 0 where
  pub front : b.front ≡ Some h
  pub is_front : IsFront h
  pub digest : h.digest ≡ b.digest
  pub spelled : Spells (item_of_front h) first
  pub outputs : AreParts (finite.entries b.utxo) others
  pub size : b.size ≡ last_size others
  pub counted : length (finite.entries b.utxo) ≤ h.count
  pub within : coin_in (finite.entries b.utxo) + h.fees ≤ b.supply

-- nothing was read
pub record IsNew (b : Begun) : Type 0 where
  pub front : b.front ≡ None
  pub outputs : finite.entries b.utxo ≡ []
  pub size : b.size ≡ part_limit

-- these parts were read
abbrev pub HasRead : Begun → (parts : List (List ℕ)) → Type 0
HasRead b [] = IsNew b
HasRead b (first ∷ others) = (h : Front) × IsReadTo b h first others
