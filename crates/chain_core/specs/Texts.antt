-- The words in which refusals and replies are shown.
use Rattle.std.specs.Prelude.{ℕ, List, [], ◌++◌, decimal, codes, Option, Some, None, Ok, Err}
use Rattle.hex.specs.Hex.{encode_lower}
use Rattle.model.specs.Block.{block_hash_of}
use Rattle.model.specs.History.{Refusal, TooLarge, Malformed, BodyHashMismatch, TooOld, Known, Clash, VolatileFull}
use Rattle.model.specs.History.{refusal_number, Reply as PlainReply, Kept, Refused, OutOfMemory}
use Rattle.mempool.specs.View.{reply_of as answer_of}
use Rattle.mempool.specs.Texts.{submit_reply_text}
use Rattle.chain_core.specs.declared.follower.Instruction.{Instruction}
use Rattle.chain_core.specs.declared.follower.Instruction.TheVariants as instruction
use Rattle.followers.specs.declared.fault.OpenFollowerFault.TheVariants as open'
use Rattle.ident.specs.declared.point.Point.{Point}
use Rattle.chain_core.specs.declared.follower.NextFault.TheVariants as next
use Rattle.chain_core.specs.declared.event.Reply.{Reply}
use Rattle.chain_core.specs.declared.event.Reply.TheVariants as reply
use Rattle.chain_core.specs.Views.{arrive_reply_of}

abbrev pub refusal_name : Refusal → List ℕ
refusal_name TooLarge = codes "TooLarge"
refusal_name Malformed = codes "Malformed"
refusal_name BodyHashMismatch = codes "BodyHashMismatch"
refusal_name TooOld = codes "TooOld"
refusal_name Known = codes "Known"
refusal_name Clash = codes "Clash"
refusal_name VolatileFull = codes "VolatileFull"

-- what an arrival is answered
abbrev pub arrive_reply_text : PlainReply → List ℕ
arrive_reply_text (Kept back added) = codes "kept back " ++ decimal back ++ codes " added " ++ decimal added
arrive_reply_text (Refused refusal) = codes "refused " ++ decimal (refusal_number refusal) ++ codes " "
    ++ refusal_name refusal
arrive_reply_text OutOfMemory = codes "out of memory"
-- no arrival is answered otherwise
arrive_reply_text other = []

abbrev pub point_text : Point → List ℕ
point_text point = decimal point.number ++ codes " " ++ encode_lower point.hash.bytes

-- what a follower is told, with the hash of the block to put on, or the place to go back to
abbrev pub instruction_text : {S : Type 0} → Instruction S → List ℕ
instruction_text (instruction.AddBlock block) = codes "add " ++ encode_lower (block_hash_of block)
instruction_text (instruction.RollBack point) =
    codes "rollback " ++ (decimal point.number ++ (codes " " ++ encode_lower point.hash.bytes))

-- the same where there may be nothing to tell
abbrev pub told_text : {S : Type 0} → Option (Instruction S) → List ℕ
told_text None = codes "none"
told_text (Some told) = instruction_text told

-- what is answered to an event
abbrev pub reply_text : {S : Type 0} → Reply S → List ℕ
reply_text (reply.Arrive answered) = arrive_reply_text (arrive_reply_of answered)
reply_text (reply.Submit (Ok answer)) = submit_reply_text (answer_of answer)
reply_text (reply.Submit (Err want)) = codes "out of memory"
reply_text (reply.Open (Ok id)) = codes "opened " ++ decimal id.number
reply_text (reply.Open (Err open'.TooManyFollowers)) = codes "refused TooManyFollowers"
reply_text (reply.Open (Err open'.OutOfMemory)) = codes "out of memory"
reply_text (reply.Next (Ok told)) = told_text told
reply_text (reply.Next (Err next.UnknownFollower)) = codes "refused UnknownFollower"
reply_text (reply.Next (Err next.OutOfMemory)) = codes "out of memory"
reply_text (reply.Forward (Ok (Some point))) = point_text point
reply_text (reply.Forward (Ok None)) = codes "none"
reply_text (reply.Forward (Err unknown)) = codes "refused UnknownFollower"
reply_text (reply.Close (Ok done)) = codes "closed"
reply_text (reply.Close (Err unknown)) = codes "refused UnknownFollower"
reply_text (reply.Discard (Ok done)) = codes "discarded"
reply_text (reply.Discard (Err none)) = codes "refused NotBeside"
