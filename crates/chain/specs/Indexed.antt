-- The hashes of the first blocks of a chain, under which their numbers are found.
use Rattle.std.specs.Prelude.{ℕ, List, map, take, refl}
use Rattle.std.specs.Coded.{Coded, code_by, coded×, coded_list, coded_ℕ}
use Rattle.model.specs.Block.{Block, block_hash_of}

-- the hashes, that of the first block first, and how many there is memory for
pub record Indexed : Type 0 where
  pub hashes : List (List ℕ)
  pub room : ℕ

-- the code of an index: its fields
abbrev pub coded_indexed : Coded Indexed
coded_indexed =
    code_by (List (List ℕ) × ℕ) (coded× (coded_list (coded_list coded_ℕ)) coded_ℕ) (λ x. (x.hashes, x.room))
    (λ p. record { hashes = p.0; room = p.1 }) (λ _. refl)

-- the hashes of the first `count` blocks of a chain
abbrev pub first_hashes : ℕ → List Block → List (List ℕ)
first_hashes count chain = map block_hash_of (take count chain)
