-- What a row of the code's tables stands for.
use Rattle.std.specs.Prelude.{[], ◌∷◌}
use Rattle.metrics.specs.declared.metric.Row.{Row}
use Rattle.metrics.specs.Format.{Metric, sample}

abbrev pub metric_of : Row → Metric
metric_of row =
    record { name = row.name.now; kind = row.kind; help = row.help.now; samples = sample [] row.value ∷ [] }
