use Rattle.model.proofs.ScriptTexts.{one_script, scripts_apart}
use Rattle.model.proofs.texts.one_text_of_scripts.Goals as goal

pub returns-clause-one : goal.returns-clause-one
returns-clause-one c = one_script

pub returns-clause-apart : goal.returns-clause-apart
returns-clause-apart c = scripts_apart
