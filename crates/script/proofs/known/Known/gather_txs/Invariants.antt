use Rattle.std.proofs.Common.{◌≡◌, IsTrue, length, ◌++◌, List, option_map}
use Rattle.model.specs.Transaction.{Transaction}
use Rattle.script.specs.KnownView.{AreKnown}
use Rattle.script.specs.Meaning.{are_some, txs_named}
use Rattle.script.specs.Names.{AllNames}
use Rattle.script.specs.WordsView.{words_left}
use Rattle.script.proofs.known.Known.gather_txs.Given as goal

-- those so far are gathered, and what is left is left of some
abbrev pub invariant-loop-name : goal.invariant-loop-name
invariant-loop-name l = ((all : AllNames) → AreKnown l.self all → txs_named all (words_left l.names.words)
    ≡ option_map (λ (rest : List Transaction). l.gathered.items ++ rest) (txs_named all (words_left l.left.words)))
    × (IsTrue (are_some (words_left l.left.words)) → IsTrue (are_some (words_left l.names.words)))

abbrev pub decreases-loop-name : goal.decreases-loop-name
decreases-loop-name l = length (words_left l.left.words)
