use Rattle.std.proofs.Common.{◌≡◌, true, Some, subst}
use Rattle.immlog.specs.Fetched.{IsFetched}
use Rattle.immlog.specs.Index.{blocks_in}
use Rattle.immlog.specs.Numbered.{numbered}
use Rattle.immlog.specs.OpenLog.{OpenLog}
use Rattle.immlog.proofs.Again.{numbered_is, there_of}
use Rattle.immlog.proofs.log.Log.block.Goals as goal

pub returns-in-Ok-None-clause-damaged : goal.returns-in-Ok-None-clause-damaged
returns-in-Ok-None-clause-damaged g c = λ told is. (
  cc,
  subst (λ (log : OpenLog g.row.D.Denot). g.D.Disk.keeps ≡ true → ⊥) c.self.view_is (λ keeps.
      let a = c.self.inside in
      let resting = c.self.invariant.resting c.if-self.false in
      let there = there_of (blocks_in a.index) c.args.number c.in-Some.span (g.D.Disk.reads a.disk) resting.rest c.in-Some.ensures in
      subst (IsFetched c.in-Some.ensures.block) c.in-Ok-None.field-0-is (c.in-Ok-None.ensures.exact c.in-Some.ensures.block keeps there)),
)

pub returns-in-Ok-Some-clause-exact : goal.returns-in-Ok-Some-clause-exact
returns-in-Ok-Some-clause-exact g c =
    subst (λ (log : OpenLog g.row.D.Denot). g.D.Disk.keeps ≡ true → numbered log.blocks c.args.number ≡ Some c.in-Ok-Some.bytes.items) c.self.view_is (λ keeps.
    let a = c.self.inside in
    let s = c.in-Some.ensures in
    let resting = c.self.invariant.resting c.if-self.false in
    let there = there_of (blocks_in a.index) c.args.number c.in-Some.span (g.D.Disk.reads a.disk) resting.rest s in
    let same = subst (IsFetched s.block) c.in-Ok-Some.field-0-is (c.in-Ok-Some.ensures.exact s.block keeps there) in
    numbered_is (blocks_in a.index) c.args.number s.before s.block c.in-Ok-Some.bytes.items s.number_is s.is_block same)
