use Rattle.std.proofs.Common.{refl}
use Rattle.std.specs.Prelude.{string_bytes}
use Rattle.metrics.specs.Metrics.{chain}
use Rattle.metrics.proofs.Appended.{same_lines, same_next}
use Rattle.metrics.proofs.tables.put_chain.Goals as goal

pub returns : goal.returns
returns c =
    let old = string_bytes c.args.out.now in
    let new = string_bytes c.put_rows.new.out in
    same_lines c.put_rows.result old new _ (chain c.args.figures.now)
    (same_next _ _ _ _ c.gauge.ensures
    (same_next _ _ _ _ c.gauge-2.ensures
    (same_next _ _ _ _ c.gauge-3.ensures
    (same_next _ _ _ _ c.gauge-4.ensures
    (same_next _ _ _ _ c.gauge-5.ensures
    (same_next _ _ _ _ c.gauge-6.ensures refl))))))
    c.put_rows.ensures
