use Rattle.std.proofs.Common.{◌≡◌, true, false, refl, sym, ap, subst, ◌∙◌, inl, inr, take, length, arith}
use Rattle.std.proofs.lemmas.Bool.{cases_lt}
use Rattle.model.specs.Chain.{Tip, genesis_tip, tip_after, Follows}
use Rattle.chain.specs.Chained.{chain_of}
use Rattle.chain_core.proofs.InMemory.{none_gone}
use Rattle.chain_core.proofs.WaysBack.{kept_number}
use Rattle.chain_core.proofs.why.kept_before.Goals as goal

pub returns-then-precedes : goal.returns-then-precedes
returns-then-precedes g c = (
  elim (cases_lt (length (chain_of c.args.chain.now)) c.saturating_sub-keep.result) [
    | inl past ↦ absurd (let none = c.in-Some.ensures.none.1 (omega (arith, past), inr past) in cc)
    | inr within ↦ within
  ],
  subst (λ (t : Tip). Follows t c.args.block.now) c.in-Some.ensures.tip (c.if-precedes.ensures.0 refl),
)

pub returns-else-precedes : goal.returns-else-precedes
returns-else-precedes g c = λ none linked keep within follows.
    let chain = chain_of c.args.chain.now in
    let at : keep ≡ c.saturating_sub-keep.result = kept_number chain keep c.args.block.now c.saturating_sub-keep.result linked within follows (let n = c.number.ensures in let less = c.saturating_sub-keep.ensures in omega arith) in
    let e : false ≡ true = c.if-precedes.ensures.1 (subst (λ (t : Tip). Follows t c.args.block.now) (ap (λ n. tip_after genesis_tip (take n chain)) at ∙ sym c.in-Some.ensures.tip) follows) in cc

pub returns-in_default : goal.returns-in_default
returns-in_default g c = λ none linked keep within follows.
    let chain = chain_of c.args.chain.now in
    let at : keep ≡ c.saturating_sub-keep.result = kept_number chain keep c.args.block.now c.saturating_sub-keep.result linked within follows (let n = c.number.ensures in let less = c.saturating_sub-keep.ensures in omega arith) in
    let which = c.in_default.ensures.none.0 refl in
    let e = none_gone c.args.chain.now none in
    elim which.1 [
      | inl gone ↦ let some = which.0 in omega (arith, e, some, gone)
      | inr past ↦ omega (arith, past, at, within)
    ]
