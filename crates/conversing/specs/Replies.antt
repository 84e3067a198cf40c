-- Replies, byte by byte: JSON-RPC 2.0 (https://www.jsonrpc.org/specification), section 5, without a space, and a line
-- feed behind each.
use Rattle.std.specs.Prelude.{List, [], ◌++◌, ℕ, Option, Some, None, codes, unwrap_or}
use Rattle.conversing.specs.declared.block_point.BlockPoint.{BlockPoint}
use Rattle.conversing.specs.declared.told.ChainTip.{ChainTip}
use Rattle.conversing.specs.declared.told.ToldBlock.{ToldBlock}
use Rattle.conversing.specs.declared.outcome.Reason.{Reason}
use Rattle.conversing.specs.declared.outcome.Outcome.{Outcome}
use Rattle.conversing.specs.declared.outcome.Outcome.TheVariants.{Tip, Height, Forward, Backward, Intersection}
use Rattle.conversing.specs.declared.outcome.Outcome.TheVariants.{NoIntersection, Accepted, NotAccepted, Forged}
use Rattle.conversing.specs.declared.outcome.Outcome.TheVariants.{NotForged, Flushed, Stopping, Answered}
use Rattle.conversing.specs.declared.outcome.Outcome.TheVariants.{NoFollower, NotFlushed, Ending}
use Rattle.conversing.specs.declared.request_fault.RequestFault.{RequestFault}
use Rattle.conversing.specs.declared.request_fault.RequestFault.TheVariants as faults
use Rattle.conversing.specs.Numbers.{number_text}
use Rattle.conversing.specs.Parts.{quoted, point_text, tip_text, block_text, hex_text}
use Rattle.conversing.specs.Found.{found_text}
use Rattle.conversing.specs.RequestView.{id_view}

-- an error of section 5.1
abbrev pub error_text : (number message : List ℕ) → List ℕ
error_text number message =
    codes "\"error\":{\"code\":" ++ number ++ codes ",\"message\":\"" ++ message ++ codes "\"}"

-- ---- what calls come to

abbrev pub forward_text : ToldBlock → ChainTip → List ℕ
forward_text block tip =
    codes "\"result\":{\"direction\":\"forward\",\"block\":" ++ block_text block ++ codes ",\"tip\":" ++ tip_text tip
    ++ codes "}"

-- a point, and where the chain ends
abbrev pub led_text : List ℕ → BlockPoint → ChainTip → List ℕ
led_text head point tip = head ++ point_text point ++ codes ",\"tip\":" ++ tip_text tip ++ codes "}"

abbrev pub intersection_missing : ChainTip → List ℕ
intersection_missing tip =
    codes "\"error\":{\"code\":1000,\"message\":\"intersection not found\",\"data\":{\"tip\":" ++ tip_text tip
    ++ codes "}}"

-- an error with a reason of the node's
abbrev pub reason_text : List ℕ → Reason → List ℕ
reason_text head reason =
    head ++ quoted reason.sentence.now ++ codes ",\"data\":{\"number\":" ++ number_text reason.number
    ++ codes ",\"name\":" ++ quoted reason.name.now ++ codes "}}"

-- the member `result` of a reply, or its member `error`
abbrev pub outcome_text : Outcome → List ℕ
outcome_text (Tip tip) = codes "\"result\":" ++ tip_text tip
outcome_text (Height height) = codes "\"result\":" ++ number_text height
outcome_text (Forward block tip) = forward_text block tip
outcome_text (Backward point tip) = led_text (codes "\"result\":{\"direction\":\"backward\",\"point\":") point tip
outcome_text (Intersection point tip) = led_text (codes "\"result\":{\"intersection\":") point tip
outcome_text (NoIntersection tip) = intersection_missing tip
outcome_text (Accepted id) = codes "\"result\":{\"transaction\":" ++ hex_text id ++ codes "}"
outcome_text (NotAccepted reason) = reason_text (codes "\"error\":{\"code\":3000,\"message\":") reason
outcome_text (Forged block) = codes "\"result\":" ++ block_text block
outcome_text (NotForged reason) = reason_text (codes "\"error\":{\"code\":4000,\"message\":") reason
outcome_text (Flushed durable) = codes "\"result\":{\"durable\":" ++ number_text durable ++ codes "}"
outcome_text (Answered found) = codes "\"result\":" ++ found_text found
outcome_text Stopping = codes "\"result\":{\"stopping\":true}"
outcome_text NoFollower = error_text (codes "1001") (codes "too many followers")
outcome_text NotFlushed = error_text (codes "5000") (codes "flush failed")
outcome_text Ending = error_text (codes "6000") (codes "the node is stopping")

-- ---- replies

-- a reply with this outcome and this id
abbrev pub line_with : (outcome id : List ℕ) → List ℕ
line_with outcome id = codes "{\"jsonrpc\":\"2.0\"," ++ outcome ++ codes ",\"id\":" ++ id ++ codes "}\n"

-- a notification gets none
abbrev pub line_if : Option (List ℕ) → List ℕ → List ℕ
line_if (Some id) outcome = line_with outcome id
line_if None outcome = []

-- THE REPLY TO A REQUEST
abbrev pub reply_text : Option (List ℕ) → Outcome → List ℕ
reply_text id outcome = line_if id (outcome_text outcome)

-- an id, and null where none is known
abbrev pub or_null : Option (List ℕ) → List ℕ
or_null id = unwrap_or id (codes "null")

-- THE REPLY TO A FAULT
abbrev pub fault_text : RequestFault → List ℕ
fault_text faults.ParseError = line_with (error_text (codes "-32700") (codes "Parse error")) (codes "null")
fault_text (faults.InvalidRequest id) =
    line_with (error_text (codes "-32600") (codes "Invalid Request")) (or_null (id_view id))
fault_text (faults.MethodNotFound id) =
    line_if (id_view id) (error_text (codes "-32601") (codes "Method not found"))
fault_text (faults.InvalidParams id) = line_if (id_view id) (error_text (codes "-32602") (codes "Invalid params"))
fault_text faults.OutOfMemory = line_with (error_text (codes "-32603") (codes "Internal error")) (codes "null")

-- THE REPLY TO A REQUEST OF WHICH NOTHING IS TOLD: its call can't be carried out, or there is no memory for its reply
abbrev pub lost_text : Option (List ℕ) → List ℕ
lost_text id = line_if id (error_text (codes "-32603") (codes "Internal error"))
