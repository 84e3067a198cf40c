use Rattle.std.proofs.Common.{◌≡◌, ap, ◌∙◌}
use Rattle.std.specs.FinMap as finite
use Rattle.watching.specs.Histories.{Inclusions}
use Rattle.watching.specs.Changes.{Change, InclusionOf, put_back}
use Rattle.watching.specs.Advances.{with_inclusions}
use Rattle.watching.specs.View.{tables_of}
use Rattle.watching.proofs.Owning.{owners_total, owners_same}
use Rattle.watching.proofs.Changing.{placing_undone, one_more}
use Rattle.watching.proofs.advance.Advance.include.Goals as goal

pub returns : goal.returns
returns c =
    let k = tables_of c.args.self.tables in
    let m = c.args.entry.now.inclusion in
    let id = c.args.entry.now.id in
    let change : Change = InclusionOf id c.get-before.result in
    let is : with_inclusions c.insert.new.self k ≡ with_inclusions (finite.insert k.inclusions id m) k = ap (λ (ms : Inclusions). with_inclusions ms k) c.in_ok-insert.ensures in
    record {
      now = is;
      back = one_more c.args.self.changes.items c.push.new.self.items change k (with_inclusions c.insert.new.self k) c.in_ok-push.ensures.items
          (ap (put_back change) is ∙ ap (λ (ms : Inclusions). with_inclusions ms k) (placing_undone owners_total owners_same k.inclusions id m c.get-before.result c.get-before.ensures));
    }
