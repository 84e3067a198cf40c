use Rattle.utxo_rules.proofs.detail.DetailDisplay.fmt.Goals as goal

pub returns-in-OutsideInterval-clause-writes : goal.returns-in-OutsideInterval-clause-writes
returns-in-OutsideInterval-clause-writes g c = λ p ok. rw c.in-OutsideInterval.is (c.write.ensures.writes p ok)

pub returns-in-TooBig-clause-writes : goal.returns-in-TooBig-clause-writes
returns-in-TooBig-clause-writes g c = λ p ok. rw c.in-TooBig.is (c.write-in-TooBig.ensures.writes p ok)

pub returns-in-MissingInput-clause-writes : goal.returns-in-MissingInput-clause-writes
returns-in-MissingInput-clause-writes g c = λ p ok. rw c.in-MissingInput.is (c.write-in-MissingInput.ensures.writes p ok)

pub returns-in-OutputTooSmall-clause-writes : goal.returns-in-OutputTooSmall-clause-writes
returns-in-OutputTooSmall-clause-writes g c = λ p ok. rw c.in-OutputTooSmall.is (c.write-in-OutputTooSmall.ensures.writes p ok)

pub returns-in-NotBalanced-clause-writes : goal.returns-in-NotBalanced-clause-writes
returns-in-NotBalanced-clause-writes g c = λ p ok. rw c.in-NotBalanced.is (c.write-in-NotBalanced.ensures.writes p ok)

pub returns-in-MissingKeyWitness-clause-writes : goal.returns-in-MissingKeyWitness-clause-writes
returns-in-MissingKeyWitness-clause-writes g c = λ p ok. rw c.in-MissingKeyWitness.is (c.write-in-MissingKeyWitness.ensures.writes p ok)

pub returns-in-MissingScript-clause-writes : goal.returns-in-MissingScript-clause-writes
returns-in-MissingScript-clause-writes g c = λ p ok. rw c.in-MissingScript.is (c.write-in-MissingScript.ensures.writes p ok)

pub returns-in-ExtraScript-clause-writes : goal.returns-in-ExtraScript-clause-writes
returns-in-ExtraScript-clause-writes g c = λ p ok. rw c.in-ExtraScript.is (c.write-in-ExtraScript.ensures.writes p ok)

pub returns-in-ScriptFails-clause-writes : goal.returns-in-ScriptFails-clause-writes
returns-in-ScriptFails-clause-writes g c = λ p ok. rw c.in-ScriptFails.is (c.write-in-ScriptFails.ensures.writes p ok)
