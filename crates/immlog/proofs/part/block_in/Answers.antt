use Rattle.std.proofs.Common.{◌-◌, ℕ, List, length, take, drop, ap, ◌∙◌, arith}
use Rattle.std.proofs.lemmas.List.{take_all}
use Rattle.model.specs.Log.{body_of}
use Rattle.model.proofs.LogTexts.{length-body_of}
use Rattle.immlog.proofs.Looking.{behind_head}
use Rattle.immlog.proofs.part.block_in.Goals as goal

pub returns : goal.returns
returns c = λ block held.
    ap (λ (l : List ℕ). take (length l - 36) (drop 36 l)) held
    ∙ (ap (take (length (body_of block) - 36)) (behind_head block) ∙ take_all (length (body_of block) - 36) block (omega (arith, length-body_of block)))
