-- The first fault of a block except for its transactions.
use Rattle.std.proofs.Common.{◌≡◌, ◌≢◌, ℕ, ◌+◌, ◌<◌, ◌≤◌, arith, Some}
use Rattle.model.specs.Signature.{Verifies}
use Rattle.model.specs.Rules.{Reason}
use Rattle.model.specs.Block.{Block, body_size_of}
use Rattle.model.specs.Applying.{LedgerState, BlockFault, WrongNumber, WrongPrev, SlotNotRising, BodyTooBig, TxFault, fault_number, HasFault, IsFirstFault}
use Rattle.model.specs.Ledger.{first_refused}
use Rattle.ledger.specs.Judgement.{Fits}

module _ (verifies : Verifies) (s : LedgerState) (b : Block) where
  abbrev IsNext : Type 0
  IsNext = b.header.number ≡ s.tip.number + 1

  abbrev IsAfter : Type 0
  IsAfter = b.header.previous ≡ s.tip.hash

  abbrev Rises : Type 0
  Rises = s.tip.slot < b.header.slot

  abbrev IsSmall : Type 0
  IsSmall = body_size_of b ≤ s.params.max_body_size

  -- no fault of a lower number applies
  none_before : (n : ℕ) → n ≤ 5 → (1 < n → IsNext) → (2 < n → IsAfter) → (3 < n → Rises) → (4 < n → IsSmall) → (other : BlockFault) → fault_number other < n → HasFault verifies s b other → ⊥
  none_before n le number previous slot size WrongNumber lt has = has (number lt)
  none_before n le number previous slot size WrongPrev lt has = has (previous lt)
  none_before n le number previous slot size SlotNotRising lt has = let rises = slot lt in omega (arith, rises, has)
  none_before n le number previous slot size BodyTooBig lt has = let small = size lt in omega (arith, small, has)
  none_before n le number previous slot size (TxFault index reason) lt has = omega (arith, lt, le)

  pub first_number : b.header.number ≢ s.tip.number + 1 → IsFirstFault verifies s b WrongNumber
  first_number has = record {
    applies = has;
    first = none_before 1 (omega arith) (λ lt. absurd (omega (arith, lt))) (λ lt. absurd (omega (arith, lt))) (λ lt. absurd (omega (arith, lt))) (λ lt. absurd (omega (arith, lt)));
  }

  pub first_previous : IsNext → b.header.previous ≢ s.tip.hash → IsFirstFault verifies s b WrongPrev
  first_previous number has = record {
    applies = has;
    first = none_before 2 (omega arith) (λ lt. number) (λ lt. absurd (omega (arith, lt))) (λ lt. absurd (omega (arith, lt))) (λ lt. absurd (omega (arith, lt)));
  }

  pub first_slot : IsNext → IsAfter → b.header.slot ≤ s.tip.slot → IsFirstFault verifies s b SlotNotRising
  first_slot number previous has = record {
    applies = has;
    first = none_before 3 (omega arith) (λ lt. number) (λ lt. previous) (λ lt. absurd (omega (arith, lt))) (λ lt. absurd (omega (arith, lt)));
  }

  pub first_size : IsNext → IsAfter → Rises → s.params.max_body_size < body_size_of b → IsFirstFault verifies s b BodyTooBig
  first_size number previous slot has = record {
    applies = has;
    first = none_before 4 (omega arith) (λ lt. number) (λ lt. previous) (λ lt. slot) (λ lt. absurd (omega (arith, lt)));
  }

  -- a block that fits has no fault of a number below 5
  pub none_of_four : Fits s b → (other : BlockFault) → fault_number other < 5 → HasFault verifies s b other → ⊥
  none_of_four fits = none_before 5 (omega arith) (λ lt. fits.follows.number) (λ lt. fits.follows.previous) (λ lt. fits.follows.slot) (λ lt. fits.size)

  pub first_transaction : Fits s b → (index : ℕ) (reason : Reason) → first_refused verifies s.params b.header.slot s.ledger 0 b.transactions ≡ Some (index, reason) → IsFirstFault verifies s b (TxFault index reason)
  first_transaction fits index reason told = record { applies = told; first = none_of_four fits }
