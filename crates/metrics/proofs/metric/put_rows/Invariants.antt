-- What was appended, and the lines of the rows that are still to come, are the whole.
use Rattle.std.proofs.Common.{◌≡◌, ◌++◌, drop, map}
use Rattle.std.specs.Prelude.{flat_map, string_bytes}
use Rattle.metrics.specs.Format.{metric_lines}
use Rattle.metrics.specs.View.{metric_of}
use Rattle.metrics.proofs.metric.put_rows.Given as goal

abbrev pub invariant-loop-row : goal.invariant-loop-row
invariant-loop-row l =
    string_bytes l.out ++ flat_map metric_lines (map metric_of (drop l.row-index l.rows))
    ≡ string_bytes l.initial.out ++ flat_map metric_lines (map metric_of l.rows)
