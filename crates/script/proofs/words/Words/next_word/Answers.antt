use Rattle.std.proofs.Common.{sym, ap, ◌∙◌, drop}
use Rattle.script.specs.Text.{first_word}
use Rattle.script.proofs.WordLists.{words_at, words_after, word_alone}
use Rattle.script.proofs.words.Words.next_word.Goals as goal

pub returns-in-Some-clause-word : goal.returns-in-Some-clause-word
returns-in-Some-clause-word c = rw c.in_ok-content.was (ap first_word (sym (words_at c.in_ok-content.content.now c.in-Some.at (sym c.first_space.ensures ∙ c.in-Some.is))))

pub returns-in-Some-clause-rest : goal.returns-in-Some-clause-rest
returns-in-Some-clause-rest c = rw c.in_ok-content.was (words_after c.in_ok-content.content.now c.in-Some.at (sym c.first_space.ensures ∙ c.in-Some.is))

pub returns-in-None-clause-word : goal.returns-in-None-clause-word
returns-in-None-clause-word c = rw c.in_ok-content.was (ap first_word (sym (word_alone c.in_ok-content.content.now (sym c.first_space.ensures ∙ c.in-None.is))))

pub returns-in-None-clause-rest : goal.returns-in-None-clause-rest
returns-in-None-clause-rest c = rw c.in_ok-content.was (ap (drop 1) (sym (word_alone c.in_ok-content.content.now (sym c.first_space.ensures ∙ c.in-None.is))))
