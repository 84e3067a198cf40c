use Rattle.std.proofs.Common.{◌≡◌, ℕ, List, [], ◌++◌, length, refl, sym, ap, subst, ◌∙◌, Vec}
use Rattle.std.specs.declared.alloc.Global.{Global}
use Rattle.model.specs.Disk.{Leaves, LeavesSince}
use Rattle.shared.specs.Starts.{network_from}
use Rattle.model.specs.Log.{OpensToBeginning, IsLogOf}
use Rattle.immlog.specs.Views.{lists_of}
use Rattle.shared.specs.Copies.{AreImmutableAfter}
use Rattle.flushing.proofs.OnLogs.{left_as_it_was}
use Rattle.flushing.proofs.Beside.{all_after, begin_still, begin_on, ok_weaker}
use Rattle.flushing.proofs.sharing.flush_shared.Goals as goal

pub returns-in-Ok-clause-all : goal.returns-in-Ok-clause-all
returns-in-Ok-clause-all g c =
    let row : (all : List (List ℕ)) → AreImmutableAfter (network_from g.B.Room.start g.S.SigScheme.verifies) c.copy.new.caller.seen all → c.args.log.now.blocks ++ lists_of c.deref.result.now ≡ all =
    λ all are. ap (λ (ts : List (Vec ℕ Global)). c.args.log.now.blocks ++ lists_of ts) c.deref.ensures.value
    ∙ all_after (network_from g.B.Room.start g.S.SigScheme.verifies) c.copy.ensures.opens c.args.caller.now.seen c.copy.new.caller.seen c.args.log.now.blocks (lists_of c.in-Ok.texts.items) all c.durable.result c.in-Ok.ensures.look.1.seen c.requires c.durable.ensures.count c.in-Ok.ensures.copies are in
    let network = network_from g.B.Room.start g.S.SigScheme.verifies in
    let copied = c.in-Ok.ensures.copies in
    ok_weaker c.append.result (c.append.new.self.blocks ≡ c.args.log.now.blocks ++ lists_of c.deref.result.now) (AreImmutableAfter network c.copy.new.caller.seen c.append.new.self.blocks)
    (λ is. subst (AreImmutableAfter network c.copy.new.caller.seen) (sym (is ∙ row copied.texts copied.are)) copied.are) c.append.ensures.all

pub returns-in-Ok-clause-begins : goal.returns-in-Ok-clause-begins
returns-in-Ok-clause-begins g c =
    let row : (all : List (List ℕ)) → AreImmutableAfter (network_from g.B.Room.start g.S.SigScheme.verifies) c.copy.new.caller.seen all → c.args.log.now.blocks ++ lists_of c.deref.result.now ≡ all =
    λ all are. ap (λ (ts : List (Vec ℕ Global)). c.args.log.now.blocks ++ lists_of ts) c.deref.ensures.value
    ∙ all_after (network_from g.B.Room.start g.S.SigScheme.verifies) c.copy.ensures.opens c.args.caller.now.seen c.copy.new.caller.seen c.args.log.now.blocks (lists_of c.in-Ok.texts.items) all c.durable.result c.in-Ok.ensures.look.1.seen c.requires c.durable.ensures.count c.in-Ok.ensures.copies are in
    let copied = c.in-Ok.ensures.copies in
    begin_on (network_from g.B.Room.start g.S.SigScheme.verifies) c.copy.new.caller.seen c.args.log.now.blocks (lists_of c.deref.result.now) c.append.new.self.blocks copied.texts (row copied.texts copied.are) copied.are c.append.ensures.begins

pub returns-in-Ok-clause-crash : goal.returns-in-Ok-clause-crash
returns-in-Ok-clause-crash g c =
    let row : (all : List (List ℕ)) → AreImmutableAfter (network_from g.B.Room.start g.S.SigScheme.verifies) c.copy.new.caller.seen all → c.args.log.now.blocks ++ lists_of c.deref.result.now ≡ all =
    λ all are. ap (λ (ts : List (Vec ℕ Global)). c.args.log.now.blocks ++ lists_of ts) c.deref.ensures.value
    ∙ all_after (network_from g.B.Room.start g.S.SigScheme.verifies) c.copy.ensures.opens c.args.caller.now.seen c.copy.new.caller.seen c.args.log.now.blocks (lists_of c.in-Ok.texts.items) all c.durable.result c.in-Ok.ensures.look.1.seen c.requires c.durable.ensures.count c.in-Ok.ensures.copies are in
    λ sound all are.
    subst (λ (l : List (List ℕ)). LeavesSince (g.D.Disk.past c.args.log.now.disk) (g.D.Disk.past c.append.new.self.disk) (g.D.Disk.moment c.append.new.self.disk) (OpensToBeginning (length c.args.log.now.blocks) l)) (row all are) (c.append.ensures.crash sound)

pub returns-in-Ok-clause-crash_now : goal.returns-in-Ok-clause-crash_now
returns-in-Ok-clause-crash_now g c =
    let row : (all : List (List ℕ)) → AreImmutableAfter (network_from g.B.Room.start g.S.SigScheme.verifies) c.copy.new.caller.seen all → c.args.log.now.blocks ++ lists_of c.deref.result.now ≡ all =
    λ all are. ap (λ (ts : List (Vec ℕ Global)). c.args.log.now.blocks ++ lists_of ts) c.deref.ensures.value
    ∙ all_after (network_from g.B.Room.start g.S.SigScheme.verifies) c.copy.ensures.opens c.args.caller.now.seen c.copy.new.caller.seen c.args.log.now.blocks (lists_of c.in-Ok.texts.items) all c.durable.result c.in-Ok.ensures.look.1.seen c.requires c.durable.ensures.count c.in-Ok.ensures.copies are in
    λ sound all are.
    subst (λ (l : List (List ℕ)). Leaves (OpensToBeginning (length c.append.new.self.blocks) l) (g.D.Disk.moment c.append.new.self.disk)) (row all are) (c.append.ensures.crash_now sound)

pub returns-in-Ok-clause-kept : goal.returns-in-Ok-clause-kept
returns-in-Ok-clause-kept g c =
    let row : (all : List (List ℕ)) → AreImmutableAfter (network_from g.B.Room.start g.S.SigScheme.verifies) c.copy.new.caller.seen all → c.args.log.now.blocks ++ lists_of c.deref.result.now ≡ all =
    λ all are. ap (λ (ts : List (Vec ℕ Global)). c.args.log.now.blocks ++ lists_of ts) c.deref.ensures.value
    ∙ all_after (network_from g.B.Room.start g.S.SigScheme.verifies) c.copy.ensures.opens c.args.caller.now.seen c.copy.new.caller.seen c.args.log.now.blocks (lists_of c.in-Ok.texts.items) all c.durable.result c.in-Ok.ensures.look.1.seen c.requires c.durable.ensures.count c.in-Ok.ensures.copies are in
    λ sound lasted all are.
    subst (λ (l : List (List ℕ)). LeavesSince (g.D.Disk.past c.args.log.now.disk) (g.D.Disk.past c.append.new.self.disk) (g.D.Disk.moment c.append.new.self.disk) (IsLogOf (length c.args.log.now.blocks) l)) (row all are) (c.append.ensures.kept sound)

pub returns-in-Ok-clause-kept_now : goal.returns-in-Ok-clause-kept_now
returns-in-Ok-clause-kept_now g c =
    let row : (all : List (List ℕ)) → AreImmutableAfter (network_from g.B.Room.start g.S.SigScheme.verifies) c.copy.new.caller.seen all → c.args.log.now.blocks ++ lists_of c.deref.result.now ≡ all =
    λ all are. ap (λ (ts : List (Vec ℕ Global)). c.args.log.now.blocks ++ lists_of ts) c.deref.ensures.value
    ∙ all_after (network_from g.B.Room.start g.S.SigScheme.verifies) c.copy.ensures.opens c.args.caller.now.seen c.copy.new.caller.seen c.args.log.now.blocks (lists_of c.in-Ok.texts.items) all c.durable.result c.in-Ok.ensures.look.1.seen c.requires c.durable.ensures.count c.in-Ok.ensures.copies are in
    λ sound lasted all are.
    subst (λ (l : List (List ℕ)). Leaves (IsLogOf (length c.append.new.self.blocks) l) (g.D.Disk.moment c.append.new.self.disk)) (row all are) (c.append.ensures.kept_now sound)

pub returns-in-Err-clause-crash : goal.returns-in-Err-clause-crash
returns-in-Err-clause-crash g c = λ sound all are.
    let log = c.args.log.now in
    let begins = begin_still (network_from g.B.Room.start g.S.SigScheme.verifies) c.copy.ensures.opens c.args.caller.now c.copy.new.caller log.blocks all c.in-Err.ensures.err c.requires are in
    record { since = []; goes_on = refl; each = tt; here = left_as_it_was _ log.blocks all (g.D.Disk.moment log.disk) begins (c.durable.ensures.left sound) }

pub returns-in-Err-clause-crash_now : goal.returns-in-Err-clause-crash_now
returns-in-Err-clause-crash_now g c = λ sound all are.
    let log = c.args.log.now in
    let begins = begin_still (network_from g.B.Room.start g.S.SigScheme.verifies) c.copy.ensures.opens c.args.caller.now c.copy.new.caller log.blocks all c.in-Err.ensures.err c.requires are in
    left_as_it_was _ log.blocks all (g.D.Disk.moment log.disk) begins (c.durable.ensures.left sound)
