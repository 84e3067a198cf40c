use Rattle.std.proofs.Common.{refl, subst, ℕ, Option, Some, sym}
use Rattle.std.specs.Prelude.{string_bytes, flat_map}
use Rattle.metrics.specs.Format.{metric_lines}
use Rattle.metrics.specs.Metrics.{resident}
use Rattle.metrics.proofs.Appended.{Puts, same_lines, same_next}
use Rattle.metrics.proofs.tables.put_resident.Goals as goal

pub returns-in-Some : goal.returns-in-Some
returns-in-Some c =
    let old = string_bytes c.args.out.now in
    let new = string_bytes c.put_rows.new.out in
    let r = c.put_rows.result in
    let rows = same_next _ _ _ _ c.gauge.ensures refl in
    let put = same_lines r old new _ (resident (Some c.in-Some.bytes)) rows c.put_rows.ensures in
    subst (λ (o : Option ℕ). Puts r old new (flat_map metric_lines (resident o))) (sym c.in-Some.is) put
