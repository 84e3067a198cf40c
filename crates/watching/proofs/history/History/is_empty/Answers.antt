use Rattle.std.proofs.Common.{◌≡◌, length, sym, ap, ◌∙◌}
use Rattle.std.specs.FinMap as finite
use Rattle.std.proofs.lemmas.List.{nil_from_length}
use Rattle.persistent_map.proofs.ForCallers.{len_of}
use Rattle.watching.specs.Histories.{inclusion_cmp, History}
use Rattle.watching.proofs.history.History.is_empty.Goals as goal

pub returns : goal.returns
returns c =
    let es = c.self.inside.map in
    let nothing = c.is_empty.ensures.empty in
    let long : length es ≡ finite.len c.args.self.now = len_of inclusion_cmp es c.is_empty.ensures.rise ∙ ap (λ (h : History). finite.len h) c.self.view_is in (
      (λ yes. sym long ∙ ap length (nothing.0 yes)),
      (λ none. nothing.1 (nil_from_length es (long ∙ none))),
    )
