use Rattle.std.proofs.Common.{◌≡◌, ℕ, ◌∷◌, [], length, sym, ap, ◌∙◌, subst}
use Rattle.atomic_table.specs.Table.{opening}
use Rattle.shared.specs.Heights.{first_view, IsKept}
use Rattle.shared.specs.Starts.{network_from, start_of}
use Rattle.shared.proofs.Calls.{nothing_legal}
use Rattle.shared.proofs.Moves.{begins}
use Rattle.shared.proofs.opened.Opened.on.Goals as goal

pub of_words-requires : goal.of_words-requires
of_words-requires g c =
    let start = start_of c.args.core in
    let height : c.height-height.result ≡ length c.args.core.opened = c.height-height.ensures ∙ ap (λ h. length h.chain) c.requires.new in
    subst (λ (n : ℕ). IsKept g.S.SigScheme.verifies start (opening (n ∷ []) [] (first_view start))) (sym height)
    (begins g.S.SigScheme.verifies start (nothing_legal (network_from start g.S.SigScheme.verifies)))
