use Rattle.std.proofs.Common.{◌≡◌, length, is_some}
use Rattle.script.specs.KnownView.{AreKnown}
use Rattle.script.specs.Meaning.{txs_named}
use Rattle.script.specs.Names.{AllNames}
use Rattle.script.specs.WordsView.{words_left}
use Rattle.script.proofs.known.Known.knows_txs.Given as goal

-- the transactions so far are known
abbrev pub invariant-loop-name : goal.invariant-loop-name
invariant-loop-name l = (all : AllNames) → AreKnown l.self all → is_some (txs_named all (words_left l.names.words)) ≡ is_some (txs_named all (words_left l.left.words))

abbrev pub decreases-loop-name : goal.decreases-loop-name
decreases-loop-name l = length (words_left l.left.words)
