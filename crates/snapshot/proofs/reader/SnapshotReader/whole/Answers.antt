use Rattle.std.proofs.Common.{◌≡◌, ◌+◌, ◌<◌, Option, option_map, sym, ap, subst, ◌∙◌, arith}
use Rattle.std.specs.FinMap as finite
use Rattle.snapshot.specs.Begun.{Begun, coin_in}
use Rattle.snapshot.specs.View.{front_view}
use Rattle.snapshot.specs.Faults.{IsUnfinished}
use Rattle.snapshot.specs.ReaderView.{FitBehind}
use Rattle.snapshot.specs.declared.front.Front.{Front}
use Rattle.snapshot.proofs.FrontTexts.{fails_if}
use Rattle.snapshot.proofs.Ending.{less_of}
use Rattle.snapshot.proofs.reader.SnapshotReader.whole.Goals as goal

pub returns-then-len-front-clause-fault : goal.returns-then-len-front-clause-fault
returns-then-len-front-clause-fault c =
    let fit : FitBehind c.self.inside.supply c.self.inside.digest.bytes (front_view c.in-Some.front) c.self.inside.outputs = rw c.in-Some.is at c.self.invariant in
    let counted = fit.counted in
    let some = finite.len-entries c.self.inside.outputs in
    let less : finite.len c.self.inside.outputs < c.in-Some.front.count = less_of _ _ (omega (arith, counted, some)) (λ same. c.if-len-front.true (c.len.ensures ∙ same)) in
    subst (λ (b : Begun). IsUnfinished b.front (finite.len b.utxo)) c.self.view_is
    (subst (λ (o : Option Front). IsUnfinished (option_map front_view o) (finite.len c.self.inside.outputs)) (sym c.in-Some.is) less)

pub returns-then-not-is_supply-clause-fault : goal.returns-then-not-is_supply-clause-fault
returns-then-not-is_supply-clause-fault c =
    let fit : FitBehind c.self.inside.supply c.self.inside.digest.bytes (front_view c.in-Some.front) c.self.inside.outputs = rw c.in-Some.is at c.self.invariant in
    let differs = fails_if c.is_supply.result _ c.is_supply.ensures c.if-not-is_supply.true in
    let within = fit.within in
    let short : coin_in (finite.entries c.self.inside.outputs) + c.in-Some.front.fees < c.self.inside.supply = less_of _ _ within (λ same. differs (omega (arith, same, c.coin.ensures))) in
    let coins : coin_in (finite.entries c.self.inside.outputs) ≡ coin_in (finite.entries c.args.self.now.utxo) = ap (λ (b : Begun). coin_in (finite.entries b.utxo)) c.self.view_is in
    let supply : c.self.inside.supply ≡ c.args.self.now.supply = ap (λ (b : Begun). b.supply) c.self.view_is in
    record {
      front = front_view c.in-Some.front;
      read = ap (λ (b : Begun). b.front) (sym c.self.view_is) ∙ ap (option_map front_view) c.in-Some.is;
      missing = omega (arith, short, coins, supply);
    }
