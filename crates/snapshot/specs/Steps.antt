-- Reading a part with outputs step by step.
use Rattle.std.specs.Prelude.{◌≡◌, ◌≢◌, ℕ, ◌+◌, ◌≤◌, ◌<◌, List, [], ◌∷◌, ◌++◌, length}
use Rattle.std.specs.List.{AllByRecursion}
use Rattle.model.specs.Transaction.{Input, Output}
use Rattle.snapshot.specs.Snapshot.{Front, pair_text, texts_of, IsPair}
use Rattle.snapshot.specs.Begun.{coin_in}
use Rattle.snapshot.specs.Rising.{IsNotAfter}
use Rattle.snapshot.specs.Faults.{BeginsWithNone, HasStray, ComesTo}
use Rattle.snapshot.specs.declared.fault.SnapshotFault.{SnapshotFault}
use Rattle.snapshot.specs.declared.fault.SnapshotFault.TheVariants as faults

-- the bytes begin with the text of this pair, and these are left
pub record BeginsWithPair (pair : Input × Output) (bytes rest : List ℕ) : Type 0 where
  pub text : bytes ≡ pair_text pair ++ rest
  pub is_pair : IsPair pair

-- they begin with that of a pair of which something holds
pub record BeginsWithSuch (bytes : List ℕ) (P : Input × Output → Type 0) : Type 0 where
  pub pair : Input × Output
  pub rest : List ℕ
  pub begins : BeginsWithPair pair bytes rest
  pub holds : P pair

-- the first pair's text has this many bytes
abbrev pub HasFirstSize : List ℕ → (size : ℕ) → Type 0
HasFirstSize bytes size = BeginsWithSuch bytes (λ pair. size ≡ length (pair_text pair))

-- no pair stands first, or memory ran out
abbrev pub IsNoPair : List ℕ → SnapshotFault → Type 0
IsNoPair bytes faults.NotAPart = BeginsWithNone bytes
IsNoPair bytes faults.OutOfMemory = Unit {0}
IsNoPair bytes faults.OtherNetwork = ⊥
IsNoPair bytes faults.RoomLeft = ⊥
IsNoPair bytes faults.WrongOrder = ⊥
IsNoPair bytes faults.TooMany = ⊥
IsNoPair bytes faults.CoinsOverSupply = ⊥
IsNoPair bytes faults.Unfinished = ⊥
IsNoPair bytes faults.CoinsMissing = ⊥

-- the output that stands first was put after the others, of which there are not too many, nor too much lovelace
pub record IsOneRead (h : Front) (supply : ℕ) (before now : List (Input × Output)) (bytes rest : List ℕ)
    : Type 0 where
  pub pair : Input × Output
  pub begins : BeginsWithPair pair bytes rest
  pub now_is : now ≡ before ++ pair ∷ []
  pub counted : length now ≤ h.count
  pub within : coin_in now + h.fees ≤ supply

-- why it wasn't
abbrev pub IsOneFault : Front → (supply : ℕ) → (before : List (Input × Output)) → List ℕ → SnapshotFault → Type 0
IsOneFault h supply before bytes faults.NotAPart = BeginsWithNone bytes
IsOneFault h supply before bytes faults.WrongOrder = BeginsWithSuch bytes (λ pair. IsNotAfter before pair.0)
IsOneFault h supply before bytes faults.TooMany = BeginsWithSuch bytes (λ pair. h.count ≤ length before)
IsOneFault h supply before bytes faults.CoinsOverSupply =
    BeginsWithSuch bytes (λ pair. supply < coin_in (before ++ pair ∷ []) + h.fees)
IsOneFault h supply before bytes faults.OutOfMemory = Unit {0}
IsOneFault h supply before bytes faults.OtherNetwork = ⊥
IsOneFault h supply before bytes faults.RoomLeft = ⊥
IsOneFault h supply before bytes faults.Unfinished = ⊥
IsOneFault h supply before bytes faults.CoinsMissing = ⊥

-- these outputs of a part were put after those before it, and the rest of the part is left
pub record IsRead (h : Front) (supply : ℕ) (before now : List (Input × Output)) (part rest : List ℕ) : Type 0 where
  pub here : List (Input × Output)
  pub now_is : now ≡ before ++ here
  pub text : part ≡ texts_of here ++ rest
  pub each : AllByRecursion IsPair here
  pub counted : here ≢ [] → length now ≤ h.count
  pub within : here ≢ [] → coin_in now + h.fees ≤ supply

-- why they weren't
abbrev pub IsOutputsFault : Front → (supply : ℕ) → (before : List (Input × Output)) → (part : List ℕ) → SnapshotFault
    → Type 0
IsOutputsFault h supply before part faults.NotAPart = HasStray part
IsOutputsFault h supply before part faults.WrongOrder = ComesTo part (λ here next. IsNotAfter (before ++ here) next.0)
IsOutputsFault h supply before part faults.TooMany = ComesTo part (λ here next. h.count ≤ length (before ++ here))
IsOutputsFault h supply before part faults.CoinsOverSupply =
    ComesTo part (λ here next. supply < coin_in ((before ++ here) ++ next ∷ []) + h.fees)
IsOutputsFault h supply before part faults.OutOfMemory = Unit {0}
IsOutputsFault h supply before part faults.OtherNetwork = ⊥
IsOutputsFault h supply before part faults.RoomLeft = ⊥
IsOutputsFault h supply before part faults.Unfinished = ⊥
IsOutputsFault h supply before part faults.CoinsMissing = ⊥
