use Rattle.std.proofs.Common.{◌≡◌, length, is_some}
use Rattle.script.specs.KnownView.{AreKnown}
use Rattle.script.specs.Meaning.{key_addresses}
use Rattle.script.specs.Names.{AllNames}
use Rattle.script.specs.WordsView.{words_left}
use Rattle.script.proofs.known.Known.knows_keys.Given as goal

-- the keys so far are known
abbrev pub invariant-loop-name : goal.invariant-loop-name
invariant-loop-name l = (names : AllNames) → AreKnown l.self names → is_some (key_addresses names (words_left l.keys.words)) ≡ is_some (key_addresses names (words_left l.left.words))

abbrev pub decreases-loop-name : goal.decreases-loop-name
decreases-loop-name l = length (words_left l.left.words)
