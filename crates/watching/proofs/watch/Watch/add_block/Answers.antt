use Rattle.std.proofs.Common.{◌≡◌, List, refl, sym, ap, subst, ◌∙◌}
use Rattle.block.specs.View.{tip_of}
use Rattle.model.specs.Block.{Header, Block}
use Rattle.model.specs.Transaction.{Transaction}
use Rattle.model.specs.Chain.{tip_at, Follows}
use Rattle.watching.specs.Which.{Which, AreWatched}
use Rattle.watching.specs.Chains.{Watched, Tables, tables_after_all}
use Rattle.watching.specs.Changes.{Change, Difference, all_put_back}
use Rattle.watching.specs.View.{tables_of}
use Rattle.watching.proofs.Stepping.{block_on, newest_watched, more_watched}
use Rattle.watching.proofs.Advancing.{block_watched}
use Rattle.watching.proofs.Following.{block_added}
use Rattle.watching.proofs.watch.Watch.add_block.Given.{Over}
use Rattle.watching.proofs.watch.Watch.add_block.Goals as goal

pub apply_all-requires : goal.apply_all-requires
apply_all-requires g c =
    let inside = c.self.inside in
    let from : tables_of c.new-advance.result.tables ≡ tables_of inside.tables = c.new-advance.ensures.tables ∙ c.in_ok-try_clone.ensures in
    subst (λ (k : Tables). AreWatched inside.which k.outputs) (sym from) (newest_watched inside.which (tables_of inside.tables) inside.differences c.self.invariant.watched)

-- what was kept before is what undoing gives, and what is kept now
record IsOn (which : Which) (old made : Tables) (changes : List Change) (b : Block) : Type 0 where
  after : made ≡ tables_after_all which b.header 0 old b.transactions
  back : all_put_back changes made ≡ old

is_on : (g : Over) → (c : goal.After-self-1 g) → IsOn c.self.inside.which (tables_of c.self.inside.tables) (tables_of c.in_ok-tables.field-0.tables) c.in_ok-tables.field-0.changes.items c.args.block.now
is_on g c =
    let inside = c.self.inside in
    let which = inside.which in
    let b = c.args.block.now in
    let from : tables_of c.new-advance.result.tables ≡ tables_of inside.tables = c.new-advance.ensures.tables ∙ c.in_ok-try_clone.ensures in
    record {
      after = c.in_ok-tables.ensures.now ∙ ap (λ (h : Header). tables_after_all which h 0 (tables_of c.new-advance.result.tables) c.transactions.result.now) c.header.ensures
          ∙ ap (λ (ts : List Transaction). tables_after_all which b.header 0 (tables_of c.new-advance.result.tables) ts) c.transactions.ensures.transactions
          ∙ ap (λ (k : Tables). tables_after_all which b.header 0 k b.transactions) from;
      back = c.in_ok-tables.ensures.back ∙ ap (λ (cs : List Change). all_put_back cs (tables_of c.new-advance.result.tables)) c.new-advance.ensures.changes ∙ from;
    }

pub invariant_of-self-2 : goal.invariant_of-self-2
invariant_of-self-2 g c =
    let inside = c.self.inside in
    let which = inside.which in
    let old = tables_of inside.tables in
    let made = tables_of c.in_ok-tables.field-0.tables in
    let b = c.args.block.now in
    let s : Difference = record { tip = tip_of inside.tip; changes = c.in_ok-tables.field-0.changes.items } in
    let on = is_on g c in
    let before = c.self.invariant.watched in
    let now : AreWatched which made.outputs =
    subst (λ (k : Tables). AreWatched which k.outputs) (sym on.after) (block_watched which b.header 0 old b.transactions (newest_watched which old inside.differences before)) in
    record {
      bounded = c.in_ok-push_newest.ensures.few;
      watched = more_watched which inside.k old made s inside.differences c.push_newest.new.differences on.back c.in_ok-push_newest.ensures.ok now before;
    }

pub returns-clause-ok : goal.returns-clause-ok
returns-clause-ok g c =
    let inside = c.self.inside in
    let on = is_on g c in
    block_on inside.k inside.which (tip_of inside.tip) (tip_of c.at-self-inside.result) (tables_of inside.tables) (tables_of c.in_ok-tables.field-0.tables) c.in_ok-tables.field-0.changes.items inside.differences
    c.push_newest.new.differences c.args.block.now c.args.self.now c.self.view_is (c.at-self-inside.ensures ∙ ap tip_at c.block-2.ensures) on.after on.back c.in_ok-push_newest.ensures.ok

follows : (g : Over) → (c : goal.After-self-1 g) → Follows c.args.self.now.last.tip c.args.block.now
follows g c = subst (λ (w : Watched). Follows w.last.tip c.args.block.now) c.self.view_is (subst (Follows (tip_of c.self.inside.tip)) c.block.ensures (c.if-not-precedes.ensures.0 refl))

pub returns-clause-chain : goal.returns-clause-chain
returns-clause-chain g c = λ granted past since of.
    block_added granted past since c.args.self.now _ c.args.block.now (returns-clause-ok g c) (follows g c) of

pub returns-clause-taken : goal.returns-clause-taken
returns-clause-taken g c = λ bytes spells. (c.args.block.now, spells, follows g c, returns-clause-ok g c)
