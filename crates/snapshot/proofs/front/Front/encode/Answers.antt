use Rattle.std.proofs.Common.{ℕ, List, ◌++◌, ap, ◌∙◌}
use Rattle.model.specs.Cbor.{text_of}
use Rattle.snapshot.specs.Snapshot.{item_of_front}
use Rattle.snapshot.specs.View.{front_view}
use Rattle.snapshot.proofs.front.Front.encode.Goals as goal

pub returns : goal.returns
returns c =
    let text = text_of (item_of_front (front_view c.args.self.now)) in
    record { has_text = c.in_ok-write.ensures.has_text; spelled = c.in_ok-write.ensures.ok ∙ ap (λ (t : List ℕ). t ++ text) c.new-part.ensures.items }
