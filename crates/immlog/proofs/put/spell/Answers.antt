use Rattle.std.proofs.Common.{rules, ◌≡◌, ◌++◌, ◌∷◌, [], length, sym, ◌∙◌, append_assoc}
use Rattle.std.specs.Int.{w32, to_be_bytes}
use Rattle.sha2.specs.Sha256.{sha256}
use Rattle.immlog.proofs.Crashes.{body_split}
use Rattle.immlog.proofs.put.spell.Goals as goal

pub returns : goal.returns
returns c =
    let block = c.args.block.now in
    let len : c.copy_from_slice.new.self ≡ to_be_bytes w32 (length block) = search rules in
    let digest : c.copy_from_slice-2.new.self ≡ sha256 block = search (rules, c.requires.digest) in
    let text : c.copy_from_slice-3.new.self ≡ block = search rules in
    let gate : c.copy_from_slice-4.new.self ≡ 0 ∷ [] = search rules in
    (λ i. len i ++ (digest i ++ (text i ++ gate i)))
    ∙ sym (body_split block (0 ∷ []) ∙ append_assoc (to_be_bytes w32 (length block)) (sha256 block) (block ++ 0 ∷ []))
