use Rattle.std.proofs.Common.{◌≡◌, ℕ, List, ap, ◌∙◌}
use Rattle.std.specs.List.{AllZip}
use Rattle.rayon.proofs.ListFacts.{IfOk-then}
use Rattle.rayon.proofs.ToStd.{slice-AllZip}
use Rattle.sha2.specs.Sha256.{sha256}
use Rattle.immlog.specs.declared.frames.Frame.{Frame}
use Rattle.immlog.proofs.Turns.{digests_are}
use Rattle.immlog.proofs.frames.digests_of.Goals as goal

pub returns : goal.returns
returns g c =
    let slice = ap (λ it. it.base.slice.now) c.map.ensures.base ∙ (ap (λ it. it.slice.now) c.with_min_len.ensures.base ∙ c.par_iter.ensures) in
    IfOk-then c.collect.result _ _ c.collect.ensures (λ v h.
    let chain = h.1 in
    let zipped : AllZip (λ (x : Frame) (y : List ℕ). y ≡ sha256 x.block.now) c.args.frames.now v.items = rw h.2 (slice-AllZip chain.0 c.args.frames.now (chain.1 ∙ slice) (λ x y. y ≡ sha256 x.block.now) h.0 chain.2) in
    digests_are c.args.frames.now v.items zipped)
