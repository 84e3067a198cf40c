use Rattle.std.proofs.Common.{◌≡◌, length, take, drop, Option, Some, None, refl, ap, ◌∙◌, arith, length-drop}
use Rattle.std.specs.Option.{IfNone}
use Rattle.block.specs.View.{tip_of}
use Rattle.ident.specs.PointView.{point_of}
use Rattle.model.proofs.Results.{if_err}
use Rattle.watching.specs.Changes.{before_blocks}
use Rattle.watching.specs.View.{tables_of}
use Rattle.watching.specs.Faults.{IsBackFault}
use Rattle.watching.specs.declared.watch_fault.WatchFault.TheVariants.{OutOfMemory}
use Rattle.watching.proofs.Stepping.{kept_there, kept_nowhere, rolled_there, less_watched}
use Rattle.watching.proofs.Following.{rolled_to}
use Rattle.watching.proofs.watch.Watch.roll_back.Goals as goal

no_answer : {X : Type 0} (r : Option X) (P : Type 0) → ((x : X) → r ≡ Some x → ⊥) → IfNone r P → P
no_answer None P not p = p
no_answer (Some x) P not p = absurd (not x refl)

pub returns-in_default-clause-fault : goal.returns-in_default-clause-fault
returns-in_default-clause-fault c =
    let inside = c.self.inside in
    kept_nowhere inside.k inside.which (tip_of inside.tip) (tables_of inside.tables) inside.differences (point_of c.args.point.now) c.args.self.now c.self.view_is (no_answer c.find.result _ c.in_default.not-Some c.find.ensures.none)

pub returns-in_err-try_clone-clause-fault : goal.returns-in_err-try_clone-clause-fault
returns-in_err-try_clone-clause-fault c =
    let inside = c.self.inside in
    let found = c.in-Some.ensures in
    if_err c.from_residual.result OutOfMemory (IsBackFault c.args.self.now (point_of c.args.point.now)) c.from_residual.ensures.1
    (kept_there c.in-Some.back inside.k inside.which (tip_of inside.tip) (tip_of c.in-Some.tip) (tables_of inside.tables) inside.differences (point_of c.args.point.now) c.args.self.now c.self.view_is found.within found.tip found.ends)

pub returns-in_err-self-inside-clause-fault : goal.returns-in_err-self-inside-clause-fault
returns-in_err-self-inside-clause-fault c =
    let inside = c.self.inside in
    let found = c.in-Some.ensures in
    if_err c.from_residual-in_err-self-inside.result OutOfMemory (IsBackFault c.args.self.now (point_of c.args.point.now)) c.from_residual-in_err-self-inside.ensures.1
    (kept_there c.in-Some.back inside.k inside.which (tip_of inside.tip) (tip_of c.in-Some.tip) (tables_of inside.tables) inside.differences (point_of c.args.point.now) c.args.self.now c.self.view_is found.within found.tip found.ends)

pub returns-clause-ok : goal.returns-clause-ok
returns-clause-ok c =
    let inside = c.self.inside in
    let found = c.in-Some.ensures in
    let are = c.in_ok-self-inside.ensures ∙ ap (before_blocks (take c.in-Some.back inside.differences)) c.in_ok-try_clone.ensures in
    rolled_there c.in-Some.back inside.k inside.which (tip_of inside.tip) (tip_of c.in-Some.tip) (tables_of inside.tables) (tables_of c.in_ok-self-inside.field-0) inside.differences c.drop_newest.new.differences (point_of c.args.point.now) c.args.self.now
    c.self.view_is found.within found.tip are c.drop_newest.ensures found.ends

pub returns-clause-chain : goal.returns-clause-chain
returns-clause-chain c = λ granted past since of.
    let inside = c.self.inside in
    let found = c.in-Some.ensures in
    let are = c.in_ok-self-inside.ensures ∙ ap (before_blocks (take c.in-Some.back inside.differences)) c.in_ok-try_clone.ensures in
    rolled_to granted past since c.args.self.now _ (point_of c.args.point.now)
    (rolled_there c.in-Some.back inside.k inside.which (tip_of inside.tip) (tip_of c.in-Some.tip) (tables_of inside.tables) (tables_of c.in_ok-self-inside.field-0) inside.differences c.drop_newest.new.differences (point_of c.args.point.now) c.args.self.now
    c.self.view_is found.within found.tip are c.drop_newest.ensures found.ends) of

pub invariant_of-self : goal.invariant_of-self
invariant_of-self c =
    let inside = c.self.inside in
    let back = c.in-Some.back in
    let left = c.drop_newest.new.differences in
    let are = c.in_ok-self-inside.ensures ∙ ap (before_blocks (take back inside.differences)) c.in_ok-try_clone.ensures in
    let long : length left ≡ length (drop back inside.differences) = ap length c.drop_newest.ensures in
    let bounded = c.self.invariant.bounded in
    record {
      bounded = omega (arith, long, bounded, length-drop back inside.differences);
      watched = less_watched inside.which back (tables_of inside.tables) (tables_of c.in_ok-self-inside.field-0) inside.differences left are c.drop_newest.ensures c.self.invariant.watched;
    }
