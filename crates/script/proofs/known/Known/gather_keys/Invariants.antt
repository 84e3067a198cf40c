use Rattle.std.proofs.Common.{◌≡◌, length, ◌++◌, List, map, option_map}
use Rattle.model.specs.Transaction.{Address}
use Rattle.script.specs.KnownView.{AreKnown}
use Rattle.script.specs.Meaning.{key_addresses}
use Rattle.script.specs.Names.{AllNames, Named}
use Rattle.script.specs.RequestView.{key_address_of}
use Rattle.script.specs.WordsView.{words_left}
use Rattle.script.proofs.known.Known.gather_keys.Given as goal

-- those so far are gathered
abbrev pub invariant-loop-name : goal.invariant-loop-name
invariant-loop-name l = (names : AllNames) → AreKnown l.self names → key_addresses names (words_left l.keys.words)
    ≡ option_map (λ (rest : List (Named Address)). map key_address_of l.gathered.items ++ rest) (key_addresses names (words_left l.left.words))

abbrev pub decreases-loop-name : goal.decreases-loop-name
decreases-loop-name l = length (words_left l.left.words)
