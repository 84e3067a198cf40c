-- What a simulation prints, and how it ends.
use Rattle.std.specs.Prelude.{◌≡◌, ◌⊎◌, ℕ, ◌+◌, ◌-◌, ◌^◌, Bool, List, [], ◌∷◌, ◌++◌, Option, Some, codes, decimal, min}
use Rattle.std.specs.Prelude.{sum, if◌then◌else◌}
use Rattle.inbox.specs.Arrivals.{peers}
use Rattle.script.specs.Names.{AllNames}
use Rattle.scenario.specs.declared.fault.ScenarioFault.{ScenarioFault}
use Rattle.scenario.specs.declared.fault.ScenarioFault.TheVariants.{OutOfMemory, WriteFailed}
use Rattle.scenario.specs.SendRun.{Sent, SendsAll, SendsBy}
use Rattle.reception.specs.declared.keeper.WhenFull.{WhenFull}
use Rattle.reception.specs.declared.keeper.WhenFull.TheVariants.{Refuse, Discard}
use Rattle.simulation.specs.declared.summary.Summary.{Summary}

-- ---- what it prints

-- how many there are together, as far as 64 bits go
abbrev pub total_of : List ℕ → ℕ
total_of counts = min (sum counts) (2 ^ 64 - 1)

-- a word and a number
abbrev pub number_line : List ℕ → ℕ → List ℕ
number_line word number = word ++ codes " " ++ decimal number ++ 10 ∷ []

-- how many arrivals of the peer of this number stand in the journal
abbrev pub peer_line : (number count : ℕ) → List ℕ
peer_line number count = codes "peer " ++ decimal number ++ codes " " ++ decimal count ++ 10 ∷ []

-- the same of each peer, from this number on
abbrev pub peer_lines : (number : ℕ) → List ℕ → List ℕ
peer_lines number [] = []
peer_lines number (count ∷ counts) = peer_line number count ++ peer_lines (number + 1) counts

-- whether heights fell
abbrev pub heights_line : Bool → List ℕ
heights_line fell = if fell then codes "heights bad" ++ 10 ∷ [] else codes "heights ok" ++ 10 ∷ []

-- how long the chain is that each follower was told
abbrev pub follower_lines : List ℕ → List ℕ
follower_lines [] = []
follower_lines (told ∷ rest) = number_line (codes "follower") told ++ follower_lines rest

-- how many blocks were discarded, where such are discarded
abbrev pub discarded_line : WhenFull → ℕ → List ℕ
discarded_line Refuse many = []
discarded_line Discard many = number_line (codes "discarded") many

-- the height that the first client read last, the arrivals together and of each peer, how many blocks were discarded,
-- whether heights fell, and what each client's follower was told
abbrev pub summary_text : WhenFull → Summary → List ℕ
summary_text when_full s =
    number_line (codes "height") s.height
    ++ (number_line (codes "arrivals") (total_of s.arrivals)
    ++ (peer_lines 1 s.arrivals
    ++ (discarded_line when_full s.discarded ++ (heights_line s.fell ++ follower_lines s.told.items))))

-- ---- how it ends, where these names are bound at first

-- the script has no fault: each of its lines sends something, defines something or says nothing, and no transaction is
-- left without its end
abbrev pub IsFaultless : AllNames → (text : List ℕ) → Type 0
IsFaultless names text = (sent : List Sent) × SendsAll peers names text sent

-- Why it prints nothing, or not all: the script isn't read to its end without a fault; or it is, and memory ran out
-- then, or it couldn't be written.
abbrev pub IsSimFault : AllNames → (text : List ℕ) → (remaining : Option (List ℕ)) → ScenarioFault → Type 0
IsSimFault names text remaining why = SendsBy peers names text remaining why
    ⊎ (((why ≡ OutOfMemory) ⊎ (why ≡ WriteFailed)) × IsFaultless names text × (remaining ≡ Some []))
