use Rattle.std.proofs.Common.{List, ℕ, subst}
use Rattle.std.specs.Prelude.{OnOk, string_bytes}
use Rattle.std.specs.Io.KnownBytes.{Appends}
use Rattle.listing.proofs.Listed.{part_printed}
use Rattle.listing.proofs.records.print_record.Goals as goal

pub returns-clause-ok : goal.returns-clause-ok
returns-clause-ok g c =
    let old = g.W.Write.contents c.args.out.now in
    let mid = g.W.Write.contents c.print.new.out in
    let new = g.W.Write.contents c.print-2.new.out in
    part_printed c.print-2.result c.args.form c.args.number c.args.place c.args.block.now (string_bytes c.in-Ok.text) old mid new c.in-Ok.ensures
    (subst (Appends old mid) c.lead_of.ensures c.in_ok-print.ensures.ok)
    (subst (λ (l : List ℕ). OnOk c.print-2.result (Appends mid new l)) c.as_bytes.ensures.value c.print-2.ensures.ok)
