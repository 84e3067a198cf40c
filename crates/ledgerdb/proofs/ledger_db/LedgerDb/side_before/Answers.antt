use Rattle.std.proofs.Common.{◌≡◌, true, false, List, [], ◌∷◌, ◌++◌, Contains, sym, ap, subst, ◌∙◌, append_assoc, append-nil}
use Rattle.std.specs.List.{AllByRecursion}
use Rattle.std.proofs.lemmas.List.Elements.{Contains-append_right}
use Rattle.model.specs.Chain.{Follows}
use Rattle.model.specs.Applying.{LedgerState}
use Rattle.model.proofs.Lists.{all_push, contains_first}
use Rattle.ledgerdb.specs.Values.{Database}
use Rattle.ledgerdb.proofs.ledger_db.LedgerDb.side_before.Goals as goal

pub loop-side-init : goal.loop-side-init
loop-side-init c = ([], c.iter-rest.ensures.rest ∙ ap (λ (db : Database). db.sides) c.self.view_is, tt)

pub returns-then-precedes : goal.returns-then-precedes
returns-then-precedes c =
    let passed = c.loop-side.invariant in
    let side = c.in-Some.side.now in
    let left = c.next.new.self in
    let whole : passed.0 ++ side ∷ left ≡ c.args.self.now.sides = ap (λ (ss : List LedgerState). passed.0 ++ ss) (sym c.in-Some.ensures.steps) ∙ passed.1 in
    (subst (λ (ss : List LedgerState). Contains ss side) whole (Contains-append_right passed.0 (side ∷ left) side (contains_first side left)), c.precedes.ensures.0 c.if-precedes.true)

pub loop-side-preserved : goal.loop-side-preserved
loop-side-preserved c =
    let passed = c.loop-side.invariant in
    let side = c.in-Some.side.now in
    let left = c.next.new.self in
    let whole : passed.0 ++ side ∷ left ≡ c.args.self.now.sides = ap (λ (ss : List LedgerState). passed.0 ++ ss) (sym c.in-Some.ensures.steps) ∙ passed.1 in (
      passed.0 ++ side ∷ [],
      append_assoc passed.0 (side ∷ []) left ∙ whole,
      all_push (λ (s : LedgerState). Follows s.tip c.args.block.now → ⊥) passed.0 side passed.2 (λ follows. let e : false ≡ true = sym c.if-precedes.false ∙ c.precedes.ensures.1 follows in cc),
    )

pub returns : goal.returns
returns c =
    let passed = c.loop-side.invariant in
    let whole : passed.0 ≡ c.args.self.now.sides = sym (append-nil passed.0) ∙ (ap (λ (ss : List LedgerState). passed.0 ++ ss) (sym c.in_default.ensures.steps.0) ∙ passed.1) in
    subst (AllByRecursion (λ (s : LedgerState). Follows s.tip c.args.block.now → ⊥)) whole passed.2
