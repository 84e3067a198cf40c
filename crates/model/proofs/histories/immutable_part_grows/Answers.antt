use Rattle.model.proofs.Chains.{begins_with_whole, begins_earlier, older_candidate}
use Rattle.model.proofs.LegalHistories.{run_goes_on}
use Rattle.model.specs.Chain.{immutable_part}
use Rattle.model.proofs.histories.immutable_part_grows.Goals as goal

pub returns-clause-begins : goal.returns-clause-begins
returns-clause-begins c = λ network s later t run. (run_goes_on network s later t run).begins

pub returns-clause-grows : goal.returns-clause-grows
returns-clause-grows c = λ network s later t run.
    let on = run_goes_on network s later t run in
    begins_earlier network s.chain t.chain (immutable_part network t.chain) on.not_shorter on.begins (begins_with_whole (immutable_part network t.chain))

pub returns-clause-candidates : goal.returns-clause-candidates
returns-clause-candidates c = λ network s later t kept candidate run through.
    let on = run_goes_on network s later t run in
    older_candidate network kept s.chain t.chain candidate on.not_shorter on.begins through
