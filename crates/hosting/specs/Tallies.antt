-- What a node's counts are after one more.
use Rattle.std.specs.Prelude.{ℕ, ◌+◌, ◌-◌, min, slice_set, slice_index_or}
use Rattle.model.specs.History.{Refusal, refusal_number}
use Rattle.chain_core.specs.Views.{refusal_of}
use Rattle.chain_core.specs.declared.arrival.ArriveReply.{ArriveReply}
use Rattle.chain_core.specs.declared.arrival.ArriveReply.TheVariants as reply
use Rattle.hosting.specs.declared.tally.Tally.{Tally}

-- a count stands still at the largest number of 64 bits
abbrev pub one_more : ℕ → ℕ
one_more n = min (n + 1) 18446744073709551615

-- one more arrival was refused for this reason: in the row of its number, the first of which is 1
abbrev pub with_refusal : Refusal → Tally → Tally
with_refusal refusal tally =
    let row = refusal_number refusal - 1 in
    record tally { refused = slice_set tally.refused row (one_more (slice_index_or tally.refused row 0)) }

-- one more arrival was answered so
abbrev pub with_reply : ArriveReply → Tally → Tally
with_reply (reply.Kept back added) tally = record tally { kept = one_more tally.kept }
with_reply (reply.Refused refusal) tally = with_refusal (refusal_of refusal) tally
