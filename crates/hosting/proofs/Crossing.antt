-- What a node's threads take with them may go to another one, whatever the scheme of signatures and the names of core
-- and inbox. A type whole, as it has its parts, since a `search` that goes down through them runs out of steps.
use denote.RattleType.{RattleType}
use denote.Param.Send.{IsSend, IsSync, sendable}
use Rattle.std.proofs.Crossing.{crosses}
use Rattle.witness_pool.specs.declared.scheme.SigScheme as scheme
use Rattle.witness_pool.specs.contracts.gate.OpenGate as OpenGate
use Rattle.inbox.specs.declared.mailroom.Mailroom as mailroom
use Rattle.shared.specs.declared.room.Room as room
use Rattle.shared.proofs.ForCallers.{Shared-send, Shared-sync, Caller-send, Adder-send}
use Rattle.reception.specs.contracts.reception.Reception as Reception
use Rattle.hosting.specs.contracts.tally.Tally as Tally
use Rattle.hosting.specs.contracts.tally.Flushes as Flushes
use Rattle.hosting.specs.contracts.news.Told as Told
use Rattle.hosting.specs.contracts.news.News as News
use Rattle.hosting.specs.contracts.floor.Floor as Floor

tally_send : IsSend Tally.the_row
tally_send = search (crosses, sendable) depth 20

flushes_send : IsSend Flushes.the_row
flushes_send = search (crosses, sendable) depth 20

told_send : IsSend Told.the_row
told_send =
    let tally = tally_send in
    let flushes = flushes_send in
    search (crosses, sendable) depth 60

news_send : IsSend (News.the_field).row
news_send = let told = told_send in search (crosses, sendable) depth 20

news_sync : IsSync (News.the_field).row
news_sync = let told = told_send in search (crosses, sendable) depth 20

open_gate_send : IsSend OpenGate.the_row
open_gate_send = search sendable depth 20

module _ (S : RattleType) (s : scheme.Ghosts S.Denot) (B : RattleType) (b : room.Ghosts B.Denot) where
  pub Floor-send : IsSend (Floor.the_field S B b s).row
  Floor-send =
      let sent = Shared-send S s B b in
      let read = Shared-sync S s B b in
      let told = news_send in
      let seen = news_sync in
      search (crosses, sendable) depth 20

  pub Reception-send : (M : RattleType) (m : mailroom.Ghosts M.Denot) → IsSend (Reception.the_field S B M s b m).row
  Reception-send M m =
      let adder = Adder-send S s OpenGate.the_row B M b m open_gate_send in
      let caller = Caller-send B b in
      search (crosses, sendable) depth 20
