-- Bytes that a peer is to send.
use Rattle.std.specs.Prelude.{ℕ, ◌≤◌}
use Rattle.scenario.specs.declared.sending.Sending.{Sending}

-- the peer is one of `peers`, which have the numbers from 1 on
abbrev pub IsSentByOneOf : (peers : ℕ) → Sending → Type 0
IsSentByOneOf peers sending = (1 ≤ sending.peer) × (sending.peer ≤ peers)
