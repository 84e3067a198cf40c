-- When each fault of a reader comes.
use Rattle.std.specs.Prelude.{◌≡◌, ◌≢◌, ◌⊎◌, ℕ, ◌+◌, ◌≤◌, ◌<◌, List, [], ◌∷◌, ◌++◌, length, Option, Some, None}
use Rattle.std.specs.List.{AllByRecursion}
use Rattle.std.specs.FinMap as finite
use Rattle.model.specs.Cbor.{Spells}
use Rattle.model.specs.Transaction.{Input, Output}
use Rattle.snapshot.specs.Snapshot.{Front, Snapshot, part_limit, item_of_front, pair_text, texts_of, IsFront}
use Rattle.snapshot.specs.Snapshot.{IsPair, SpellsSnapshot, HoldsSupply}
use Rattle.snapshot.specs.Begun.{Begun, coin_in, HasRead}
use Rattle.snapshot.specs.Rising.{IsNotAfter}
use Rattle.snapshot.specs.declared.fault.SnapshotFault.{SnapshotFault}
use Rattle.snapshot.specs.declared.fault.SnapshotFault.TheVariants as faults

-- ---- the first part

-- it spells this, as no other bytes do
pub record SaysFront (part : List ℕ) (h : Front) : Type 0 where
  pub is_front : IsFront h
  pub spelled : Spells (item_of_front h) part

-- it says that the fees are more than the lovelace that there is
pub record HasFeesOver (supply : ℕ) (part : List ℕ) : Type 0 where
  pub front : Front
  pub says : SaysFront part front
  pub over : supply < front.fees

-- it has another digest than the network
pub record HasOtherDigest (digest : List ℕ) (part : List ℕ) : Type 0 where
  pub front : Front
  pub says : SaysFront part front
  pub other : front.digest ≢ digest

-- it is the first part of no state's text, or that of a state of another network, or its fees are over the supply
abbrev pub IsFirstFault : (supply : ℕ) → (digest : List ℕ) → (part : List ℕ) → SnapshotFault → Type 0
IsFirstFault supply digest part faults.NotAPart = (h : Front) → SaysFront part h → ⊥
IsFirstFault supply digest part faults.OtherNetwork = HasOtherDigest digest part
IsFirstFault supply digest part faults.CoinsOverSupply = HasFeesOver supply part
IsFirstFault supply digest part faults.RoomLeft = ⊥
IsFirstFault supply digest part faults.WrongOrder = ⊥
IsFirstFault supply digest part faults.TooMany = ⊥
IsFirstFault supply digest part faults.Unfinished = ⊥
IsFirstFault supply digest part faults.CoinsMissing = ⊥
IsFirstFault supply digest part faults.OutOfMemory = ⊥

-- ---- the other parts

-- the bytes begin with the text of no pair
abbrev pub BeginsWithNone : List ℕ → Type 0
BeginsWithNone bytes = (pair : Input × Output) (rest : List ℕ) → IsPair pair → bytes ≡ pair_text pair ++ rest → ⊥

-- the texts of pairs stand first, or of none, and then something else
pub record HasStray (part : List ℕ) : Type 0 where
  pub here : List (Input × Output)
  pub rest : List ℕ
  pub text : part ≡ texts_of here ++ rest
  pub each : AllByRecursion IsPair here
  pub stray : rest ≢ []
  pub none : BeginsWithNone rest

-- it has no pair, too many bytes, or something that is no pair's text
abbrev pub IsNoPart : List ℕ → Type 0
IsNoPart part = (part ≡ []) ⊎ ((part_limit < length part) ⊎ HasStray part)

-- the texts of these pairs stand first, and then that of this one
pub record Reaches (part : List ℕ) (here : List (Input × Output)) (next : Input × Output) : Type 0 where
  pub rest : List ℕ
  pub text : part ≡ texts_of here ++ (pair_text next ++ rest)
  pub each : AllByRecursion IsPair here
  pub is_pair : IsPair next

-- the part before had room for the first pair
pub record HadRoom (size : ℕ) (part : List ℕ) : Type 0 where
  pub first : Input × Output
  pub reaches : Reaches part [] first
  pub room : size + length (pair_text first) ≤ part_limit

-- of outputs that come after these, there is one of which something holds
pub record ComesTo (part : List ℕ) (P : (here : List (Input × Output)) → (next : Input × Output) → Type 0)
    : Type 0 where
  pub here : List (Input × Output)
  pub next : Input × Output
  pub reaches : Reaches part here next
  pub holds : P here next

-- what is wrong with a part that comes after these outputs, where the first part said this, there is so much lovelace,
-- and the last part with outputs had so many bytes
abbrev pub IsLaterFault : (supply size : ℕ) → Front → (pairs : List (Input × Output)) → (part : List ℕ) → SnapshotFault
    → Type 0
IsLaterFault supply size h pairs part faults.NotAPart = IsNoPart part
IsLaterFault supply size h pairs part faults.OtherNetwork = ⊥
IsLaterFault supply size h pairs part faults.RoomLeft = HadRoom size part
-- an output doesn't come after the one before it
IsLaterFault supply size h pairs part faults.WrongOrder = ComesTo part (λ here next. IsNotAfter (pairs ++ here) next.0)
-- all outputs that were announced come before it
IsLaterFault supply size h pairs part faults.TooMany = ComesTo part (λ here next. h.count ≤ length (pairs ++ here))
-- with it there is too much lovelace
IsLaterFault supply size h pairs part faults.CoinsOverSupply =
    ComesTo part (λ here next. supply < coin_in ((pairs ++ here) ++ next ∷ []) + h.fees)
IsLaterFault supply size h pairs part faults.Unfinished = ⊥
IsLaterFault supply size h pairs part faults.CoinsMissing = ⊥
IsLaterFault supply size h pairs part faults.OutOfMemory = Unit {0}

abbrev pub IsFaultAfter : Option Front → Begun → (part : List ℕ) → SnapshotFault → Type 0
IsFaultAfter None b part fault = IsFirstFault b.supply b.digest part fault
IsFaultAfter (Some h) b part fault = IsLaterFault b.supply b.size h (finite.entries b.utxo) part fault

-- WHY A PART IS REFUSED
-- after what was read
abbrev pub IsPartFault : Begun → (part : List ℕ) → SnapshotFault → Type 0
IsPartFault b part fault = IsFaultAfter b.front b part fault

-- ---- the end

-- no first part was read, or it announced more outputs
abbrev pub IsUnfinished : Option Front → (count : ℕ) → Type 0
IsUnfinished None count = Unit {0}
IsUnfinished (Some h) count = count < h.count

-- the outputs and the fees hold less lovelace than there is
pub record IsMissingCoins (b : Begun) : Type 0 where
  pub front : Front
  pub read : b.front ≡ Some front
  pub missing : coin_in (finite.entries b.utxo) + front.fees < b.supply

-- WHY WHAT WAS READ IS NO STATE
abbrev pub IsEndFault : Begun → SnapshotFault → Type 0
IsEndFault b faults.Unfinished = IsUnfinished b.front (finite.len b.utxo)
IsEndFault b faults.CoinsMissing = IsMissingCoins b
IsEndFault b faults.NotAPart = ⊥
IsEndFault b faults.OtherNetwork = ⊥
IsEndFault b faults.RoomLeft = ⊥
IsEndFault b faults.WrongOrder = ⊥
IsEndFault b faults.TooMany = ⊥
IsEndFault b faults.CoinsOverSupply = ⊥
IsEndFault b faults.OutOfMemory = ⊥

-- ---- what follows from a fault

-- a fact that holds unless memory ran out
abbrev pub UnlessOutOfMemory : SnapshotFault → Type 0 → Type 0
UnlessOutOfMemory faults.NotAPart P = P
UnlessOutOfMemory faults.OtherNetwork P = P
UnlessOutOfMemory faults.RoomLeft P = P
UnlessOutOfMemory faults.WrongOrder P = P
UnlessOutOfMemory faults.TooMany P = P
UnlessOutOfMemory faults.CoinsOverSupply P = P
UnlessOutOfMemory faults.Unfinished P = P
UnlessOutOfMemory faults.CoinsMissing P = P
UnlessOutOfMemory faults.OutOfMemory P = Unit {0}

-- the state is one of the network: it has its digest, and holds the supply
pub record IsOfNetwork (b : Begun) (s : Snapshot) : Type 0 where
  pub digest : s.digest ≡ b.digest
  pub supply : HoldsSupply b.supply s

-- with this part after those that were read no text of a state of the network begins
abbrev pub BeginsNoText : Begun → (part : List ℕ) → Type 0
BeginsNoText b part =
    (read more : List (List ℕ)) (s : Snapshot) → HasRead b read → SpellsSnapshot s (read ++ part ∷ more)
    → IsOfNetwork b s → ⊥

-- the parts that were read are the text of no state of the network
abbrev pub IsNoText : Begun → Type 0
IsNoText b = (read : List (List ℕ)) (s : Snapshot) → HasRead b read → SpellsSnapshot s read → IsOfNetwork b s → ⊥
