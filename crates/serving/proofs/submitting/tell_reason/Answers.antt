use Rattle.std.proofs.Common.{◌≡◌, refl}
use Rattle.model.specs.Rules.{reason_number}
use Rattle.model.specs.Explaining.{reason_of_detail}
use Rattle.utxo_rules.specs.DetailView.{detail_of}
use Rattle.utxo_rules.specs.Sentences.{detail_text}
use Rattle.utxo_rules.specs.Texts.{reason_name}
use Rattle.conversing.specs.declared.outcome.Reason.{Reason}
use Rattle.conversing.specs.declared.found.Found.TheVariants.{Unacceptable}
use Rattle.conversing.specs.declared.outcome.Outcome.TheVariants.{Answered}
use Rattle.serving.proofs.Telling.{replied, same_words}
use Rattle.serving.proofs.submitting.tell_reason.Goals as goal

pub returns-in-Ok : goal.returns-in-Ok
returns-in-Ok c =
    let told : Reason = record { number = c.from.result; name = c.name.result; sentence = c.as_str.result } in
    let detail = detail_of c.args.detail.now in
    let number : told.number ≡ reason_number (reason_of_detail detail) = cc in
    let name : told.name.now ≡ reason_name (reason_of_detail detail) = cc in
    let sentence : told.sentence.now ≡ detail_text detail = cc (c.in-Ok.ensures.ok) in
    replied (Answered (Unacceptable told)) (told, refl, same_words number name sentence) tt c.tell.ensures
