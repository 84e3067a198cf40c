use Rattle.std.proofs.Common.{◌≡◌, ◌++◌, ℕ, List, map, take}
use Rattle.script.specs.RequestView.{key_address_of}
use Rattle.scenario.specs.Indexes.{AreBalancesText}
use Rattle.scenario.proofs.key_index.KeyIndex.print.Given as goal

-- what the keys so far have is behind what there was
abbrev pub invariant-loop-key : goal.invariant-loop-key
invariant-loop-key l = (text : List ℕ) × AreBalancesText l.self.index.last.tables.outputs (map key_address_of (take l.key-index l.key-items)) text
    × (l.line.items ≡ l.fn.line.items ++ text)
