use Rattle.std.proofs.Common.{map, subst, sym}
use Rattle.value.specs.View.{asset_of}
use Rattle.draft.specs.Draft.{is_at_fault}
use Rattle.draft.specs.Refusal.{IsFaultRefusal}
use Rattle.draft.proofs.Assets.{told_right, sound_if}
use Rattle.draft.proofs.values.value_with.Goals as goal

pub returns-in-Ok-clause-sound : goal.returns-in-Ok-clause-sound
returns-in-Ok-clause-sound c =
    let spelled = c.nesting-nesting.ensures.spelled in
    sound_if c.in-Ok.value c.args.coin (map asset_of c.args.assets.items) spelled.is_value spelled.spelled.has_text c.in-Ok.ensures.made

pub returns-in-Err-clause-refused : goal.returns-in-Err-clause-refused
returns-in-Err-clause-refused c =
    subst (IsFaultRefusal (is_at_fault (map asset_of c.args.assets.items))) (sym c.as_draft_fault.ensures) (told_right (map asset_of c.args.assets.items) c.in-Err.fault c.in-Err.ensures.fault)
