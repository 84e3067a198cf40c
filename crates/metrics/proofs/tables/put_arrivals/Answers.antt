use Rattle.std.proofs.Common.{◌≡◌, ℕ, List, [], ◌∷◌, ◌++◌, refl, ap, ◌∙◌, codes}
use Rattle.std.specs.Prelude.{string_bytes, flat_map}
use Rattle.metrics.specs.Format.{Metric, counter, metric_lines}
use Rattle.metrics.specs.Metrics.{arrived, refused}
use Rattle.metrics.proofs.Appended.{two_on, more_lines, same_lines, same_next}
use Rattle.metrics.proofs.tables.put_arrivals.Goals as goal

pub returns : goal.returns
returns c =
    let f = c.args.figures.now in
    let r = c.put_rows-2.result in
    let l0 = string_bytes c.args.out.now in
    let l1 = string_bytes c.put_rows.new.out in
    let l2 = string_bytes c.put_refusals.new.out in
    let l3 = string_bytes c.put_rows-2.new.out in
    let counted : ℕ → Metric = λ n. counter (codes "chaindb_arrivals_total") (codes "Arrivals from peers.") n in
    let kept : Metric = counter (codes "chaindb_arrivals_kept_total") (codes "Arrivals that were kept.") f.kept in
    let help : List ℕ = codes "Blocks that were discarded to make places free." in
    let discarded : Metric = counter (codes "chaindb_discarded_total") help f.discarded in
    let sum_is = c.sum_counter.ensures ∙ ap counted c.arrived.ensures in
    let rows = same_next _ _ _ _ sum_is (same_next _ _ [] [] c.counter.ensures refl) in
    let first : l1 ≡ l0 ++ flat_map metric_lines (counted (arrived f) ∷ kept ∷ []) =
    c.in_ok-put_rows.ensures ∙ ap (λ (ms : List Metric). l0 ++ flat_map metric_lines ms) rows in
    more_lines r l0 l1 l3 (counted (arrived f) ∷ kept ∷ []) (refused f ∷ discarded ∷ []) first
    (two_on r l1 l2 l3 (metric_lines (refused f)) (flat_map metric_lines (discarded ∷ [])) c.in_ok-put_refusals.ensures
    (same_lines r l2 l3 _ (discarded ∷ []) (same_next _ _ _ _ c.counter-2.ensures refl) c.put_rows-2.ensures))
