use Rattle.std.proofs.Common.{sym}
use Rattle.watching.specs.Which.{watched_among}
use Rattle.watching.proofs.Owning.{ok_as}
use Rattle.watching.proofs.Narrowing.{all_are_watched}
use Rattle.watching.proofs.index.Index.from_outputs.Goals as goal

pub returns-then-is_all : goal.returns-then-is_all
returns-then-is_all c =
    let u = c.args.outputs.now in
    ok_as c.of_all.result u (watched_among c.args.which.now u) (all_are_watched c.args.which.now u (sym c.if-is_all.ensures)) c.of_all.ensures
