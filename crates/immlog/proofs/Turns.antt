-- Records that are found by the lengths that they tell, many in one turn: a turn is one read of the disk, and what is
-- added of it.
use Rattle.std.proofs.Common.{◌≡◌, ℕ, zero, suc, ◌+◌, ◌-◌, ◌<◌, ◌≤◌, ◌^◌, min, true, false, eqb, Option, Some, None, List, [], ◌∷◌, ◌++◌, length, take, drop, get_or, slice_get, refl, sym, ◌∙◌, ap, ap₂, subst, arith, append_assoc, length-append}
use Rattle.std.proofs.lemmas.List.{take_all, length-take-le, take-append-le, take-take, drop-drop, drop_at, length-drop, take-append-drop, take_more, map-append}
use Rattle.std.proofs.lemmas.Bool.{eqb-true}
use Rattle.std.specs.Option.{option_eq}
use Rattle.std.proofs.Math.Seq.{take-append-add}
use Rattle.std.specs.List.{AllByRecursion, AllZip}
use Rattle.std.specs.Int.{w32, to_be_bytes}
use Rattle.sha2.specs.Sha256.{sha256}
use Rattle.model.specs.Limits.{block_size_limit}
use Rattle.model.specs.Disk.{IsGiven}
use Rattle.model.specs.Log.{IsLogBlock, body_of, records, IsClosed, IsDamaged}
use Rattle.model.proofs.Lists.{all_append, all_take}
use Rattle.model.proofs.LogTexts.{length-body_of, body_of_parts, records-append}
use Rattle.immlog.specs.Frames.{NoRecordHere, IsOpenInVain}
use Rattle.immlog.specs.Framed.{framed, framed_blocks, block_digests, IsFrame, AreFrames, AreFirstFrames, IsSound, IsSoundCount, BeginWith}
use Rattle.immlog.specs.declared.frames.Frame.{Frame}
use Rattle.immlog.specs.Index.{AreEntriesOf}
use Rattle.immlog.specs.Steps.{IsFound}
use Rattle.immlog.specs.declared.index.IndexEntry.{IndexEntry}
use Rattle.immlog.proofs.Framing.{frame_digest}

-- ---- one more record

framed-append : (xs ys : List Frame) (more : List ℕ) → framed (xs ++ ys) more ≡ framed xs (framed ys more)
framed-append [] ys more = refl
framed-append (x ∷ xs) ys more = ap (λ (l : List ℕ). 1 ∷ (to_be_bytes w32 (length x.block.now) ++ (x.digest.now ++ (x.block.now ++ l)))) (framed-append xs ys more)

pub frames_more : (bytes rest more : List ℕ) (frames : List Frame) (frame : Frame) → AreFrames bytes frames rest → AreFrames rest (frame ∷ []) more → AreFrames bytes (frames ++ frame ∷ []) more
frames_more bytes rest more frames frame are one = record {
  text = are.text ∙ (ap (framed frames) one.text ∙ sym (framed-append frames (frame ∷ []) more));
  each = all_append IsFrame frames (frame ∷ []) are.each one.each;
}

-- ---- the digests of all blocks

pub digests_are : (frames : List Frame) (digests : List (List ℕ)) → AllZip (λ (frame : Frame) (digest : List ℕ). digest ≡ sha256 frame.block.now) frames digests → digests ≡ block_digests frames
digests_are [] [] zipped = refl
digests_are [] (d ∷ ds) zipped = absurd zipped
digests_are (f ∷ fs) [] zipped = absurd zipped
digests_are (f ∷ fs) (d ∷ ds) zipped = ap₂ (λ (x : List ℕ) (xs : List (List ℕ)). x ∷ xs) zipped.0 (digests_are fs ds zipped.1)

-- ---- the first of them are records

sound_records : (frames : List Frame) (more : List ℕ) → AllByRecursion IsSound frames → framed frames more ≡ records (framed_blocks frames) ++ more
sound_records [] more sound = refl
sound_records (f ∷ fs) more sound =
    let b = f.block.now in
    let word = to_be_bytes w32 (length b) in
    let rest = framed_blocks fs in
    ap (λ (l : List ℕ). 1 ∷ (word ++ (f.digest.now ++ (b ++ l)))) (sound_records fs more sound.1)
    ∙ (ap (λ (l : List ℕ). 1 ∷ l) (body_of_parts b (records rest ++ more) word f.digest.now refl sound.0) ∙ ap (λ (l : List ℕ). 1 ∷ l) (sym (append_assoc (body_of b) (records rest) more)))

sizes_of_frames : (frames : List Frame) → AllByRecursion IsFrame frames → AllByRecursion IsLogBlock (framed_blocks frames)
sizes_of_frames [] each = tt
sizes_of_frames (f ∷ fs) each = (each.0.size, sizes_of_frames fs each.1)

-- where the first of them tells another digest than that of its block, or there is none, no record begins the bytes
none_sound : (bytes : List ℕ) (frames : List Frame) (count : ℕ) → AreFirstFrames bytes frames → IsSoundCount frames count → framed_blocks (take count frames) ≡ [] → NoRecordHere bytes
none_sound bytes [] count first sound none = first.none refl
none_sound bytes (f ∷ fs) (suc n) first sound none = absurd (let e : f.block.now ∷ framed_blocks (take n fs) ≡ [] = none in cc)
none_sound bytes (f ∷ fs) zero first sound none = λ block more is_block text.
    let b = f.block.now in
    let rest = framed fs first.more in
    let word = to_be_bytes w32 (length b) in
    let both : 1 ∷ (word ++ (f.digest.now ++ (b ++ rest))) ≡ 1 ∷ (body_of block ++ more) = sym first.are.text ∙ text in
    let same : word ++ (f.digest.now ++ (b ++ rest)) ≡ body_of block ++ more = ap (drop 1) both in
    sound.next (frame_digest f.digest.now b rest block more first.are.each.0.size first.are.each.0.long is_block same)

pub begin_with : (bytes : List ℕ) (frames : List Frame) (count : ℕ) → AreFirstFrames bytes frames → IsSoundCount frames count → BeginWith bytes (framed_blocks (take count frames))
begin_with bytes frames count first sound = record {
  more = framed (drop count frames) first.more;
  text = first.are.text
      ∙ (ap (λ (l : List Frame). framed l first.more) (sym (take-append-drop count frames))
      ∙ (framed-append (take count frames) (drop count frames) first.more ∙ sound_records (take count frames) (framed (drop count frames) first.more) sound.sound));
  sizes = sizes_of_frames (take count frames) (all_take IsFrame count frames first.are.each);
  none = none_sound bytes frames count first sound;
}

-- ---- they are added one after the other

-- what a loop over records reads past the last one
abbrev pub past_all : Frame
past_all = record { digest = record { ref_ptr = (0, 0); now = [] }; block = record { ref_ptr = (0, 0); now = [] } }

sound_at : (frames : List Frame) (i : ℕ) (d : Frame) → i < length frames → AllByRecursion IsSound frames → IsSound (get_or frames i d)
sound_at [] i d below sound = absurd (omega arith)
sound_at (f ∷ fs) zero d below sound = sound.0
sound_at (f ∷ fs) (suc i) d below sound = sound_at fs i d (omega arith) sound.1

pub long_records : (xs ys : List (List ℕ)) → length (records (xs ++ ys)) ≡ length (records xs) + length (records ys)
long_records xs ys = ap length (records-append xs ys) ∙ length-append (records xs) (records ys)

pub long_record : (block : List ℕ) → length (records (block ∷ [])) ≡ 37 + length block
long_record block =
    let body = length-body_of block in
    let both = length-append (body_of block) [] in
    omega arith

pub same_entries : (blocks others : List (List ℕ)) (entries more : List IndexEntry) → blocks ≡ others → entries ≡ more → AreEntriesOf 0 others more → AreEntriesOf 0 blocks entries
same_entries blocks others entries more e f are = subst (λ (l : List (List ℕ)). AreEntriesOf 0 l entries) (sym e) (subst (AreEntriesOf 0 others) (sym f) are)

-- the next of the records, behind those that were added to others
pub record IsNextFrame (old now : List (List ℕ)) (frames : List Frame) (i : ℕ) (frame : Frame) : Type 0 where
  pub taken : framed_blocks (take (i + 1) frames) ≡ framed_blocks (take i frames) ++ frame.block.now ∷ []
  pub long : length (records (now ++ frame.block.now ∷ [])) ≡ length (records now) + (37 + length frame.block.now)
  pub within : length (records now) + (37 + length frame.block.now) ≤ length (records (old ++ framed_blocks frames))
  pub sound : IsSound frame

pub next_frame : (old now : List (List ℕ)) (frames : List Frame) (i : ℕ) (d : Frame) → i < length frames → now ≡ old ++ framed_blocks (take i frames) → AllByRecursion IsSound frames → IsNextFrame old now frames i (get_or frames i d)
next_frame old now frames i d below counted sound =
    let frame = get_or frames i d in
    let block = frame.block.now in
    let later = framed_blocks (drop (i + 1) frames) in
    let taken : framed_blocks (take (i + 1) frames) ≡ framed_blocks (take i frames) ++ block ∷ [] =
    ap framed_blocks (take_more frames i d below) ∙ map-append (λ (f : Frame). f.block.now) (take i frames) (frame ∷ []) in
    let all : framed_blocks frames ≡ framed_blocks (take (i + 1) frames) ++ later =
    ap framed_blocks (sym (take-append-drop (i + 1) frames)) ∙ map-append (λ (f : Frame). f.block.now) (take (i + 1) frames) (drop (i + 1) frames) in
    let row : old ++ framed_blocks frames ≡ (now ++ block ∷ []) ++ later =
    ap (λ (l : List (List ℕ)). old ++ l) (all ∙ ap (λ (l : List (List ℕ)). l ++ later) taken)
    ∙ (sym (append_assoc old (framed_blocks (take i frames) ++ block ∷ []) later)
    ∙ ap (λ (l : List (List ℕ)). l ++ later) (sym (append_assoc old (framed_blocks (take i frames)) (block ∷ [])) ∙ ap (λ (l : List (List ℕ)). l ++ block ∷ []) (sym counted))) in
    let a = long_records now (block ∷ []) in
    let b = long_record block in
    let long : length (records (now ++ block ∷ [])) ≡ length (records now) + (37 + length block) = omega arith in
    let c : length (records (old ++ framed_blocks frames)) ≡ length (records (now ++ block ∷ [])) + length (records later) = ap (λ (l : List (List ℕ)). length (records l)) row ∙ long_records (now ++ block ∷ []) later in
    record { taken = taken; long = long; within = omega arith; sound = sound_at frames i d below sound }

-- ---- the records up to a place

-- the records of these blocks begin the bytes, and end at this place
pub record AreFound (bytes : List ℕ) (place : ℕ) (blocks : List (List ℕ)) : Type 0 where
  pub within : place ≤ length bytes
  pub text : bytes ≡ records blocks ++ drop place bytes
  pub sizes : AllByRecursion IsLogBlock blocks
  pub place_is : place ≡ length (records blocks)

pub all_found : (bytes : List ℕ) (place : ℕ) (blocks : List (List ℕ)) → AreFound bytes place blocks → IsClosed (drop place bytes) → IsFound bytes place blocks
all_found bytes place blocks found closed = record { rest = drop place bytes; text = found.text; closed = closed; sizes = found.sizes; place_is = found.place_is }

pub damage_found : (bytes : List ℕ) (place : ℕ) (blocks : List (List ℕ)) → AreFound bytes place blocks → IsOpenInVain (drop place bytes) → IsDamaged bytes place
damage_found bytes place blocks found vain = record {
  blocks = blocks;
  rest = vain.rest;
  text = found.text ∙ ap (λ (l : List ℕ). records blocks ++ l) vain.text;
  sizes = found.sizes;
  place_is = found.place_is;
  spoilt = vain.none;
}

-- what stands at a place
pub get_behind : (bytes : List ℕ) (n : ℕ) → slice_get (drop n bytes) 0 ≡ slice_get bytes n
get_behind bytes zero = refl
get_behind [] (suc n) = refl
get_behind (x ∷ bytes) (suc n) = get_behind bytes n

-- ---- turns

-- all that were added fit where the bytes do
pub blocks_fit : (old blocks : List (List ℕ)) (bytes : List ℕ) (place : ℕ) → BeginWith bytes blocks → place ≡ length (records old) → place + length bytes < 2 ^ 64 → length (records (old ++ blocks)) < 2 ^ 64
blocks_fit old blocks bytes place begin place_is fits =
    let a = long_records old blocks in
    let b : length bytes ≡ length (records blocks) + length begin.more = ap length begin.text ∙ length-append (records blocks) begin.more in
    omega arith

-- a turn in which no place was won added nothing
pub none_added : (old blocks : List (List ℕ)) → length (records (old ++ blocks)) ≡ length (records old) → blocks ≡ []
none_added old [] same = refl
none_added old (b ∷ bs) same = absurd (let a = long_records old (b ∷ bs) in omega arith)

-- the records of a turn, behind those before
pub turn_found : (disk bytes : List ℕ) (place next count : ℕ) (old blocks new : List (List ℕ)) → AreFound disk place old → bytes ≡ take count (drop place disk) → BeginWith bytes blocks → new ≡ old ++ blocks → next ≡ length (records new) → AreFound disk next new
turn_found disk bytes place next count old blocks new found bytes_are begin new_is next_is =
    let rest = drop place disk in
    let more = begin.more ++ drop count rest in
    let whole : rest ≡ records blocks ++ more =
    sym (take-append-drop count rest) ∙ (ap (λ (l : List ℕ). l ++ drop count rest) (sym bytes_are ∙ begin.text) ∙ append_assoc (records blocks) begin.more (drop count rest)) in
    let long : next ≡ place + length (records blocks) = let p = found.place_is in let q = long_records old blocks in let r = ap (λ (l : List (List ℕ)). length (records l)) new_is in omega arith in
    let size : length rest ≡ length disk - place = length-drop place disk in
    let sum : length rest ≡ length (records blocks) + length more = ap length whole ∙ length-append (records blocks) more in
    let behind : drop next disk ≡ more =
    ap (λ (n : ℕ). drop n disk) (let e : next ≡ place + length (records blocks) = long in e) ∙ (sym (drop-drop (length (records blocks)) place disk) ∙ (ap (drop (length (records blocks))) whole ∙ drop_at (records blocks) more (length (records blocks)) refl)) in
    record {
      within = let w = found.within in omega arith;
      text = found.text ∙ (ap (λ (l : List ℕ). records old ++ l) (whole ∙ ap (λ (l : List ℕ). records blocks ++ l) (sym behind))
          ∙ (sym (append_assoc (records old) (records blocks) (drop next disk)) ∙ ap (λ (l : List ℕ). l ++ drop next disk) (sym (records-append old blocks) ∙ ap records (sym new_is))));
      sizes = subst (AllByRecursion IsLogBlock) (sym new_is) (all_append IsLogBlock old blocks found.sizes begin.sizes);
      place_is = next_is;
    }

-- where no record begins in as many bytes as the longest has, none begins
pub none_in_all : (bytes : List ℕ) (room count : ℕ) → block_size_limit + 37 ≤ room → count ≡ min room (length bytes) → NoRecordHere (take count bytes) → NoRecordHere bytes
none_in_all bytes room count long count_is none = λ block more is_block text.
    let body = body_of block in
    let size : length bytes ≡ suc (length (body ++ more)) = ap length text in
    let both : length (body ++ more) ≡ length body + length more = length-append body more in
    let front : length body ≡ 36 + length block = length-body_of block in
    let small = is_block.within in
    let rest = count - (37 + length block) in
    let count_of : count ≡ length (1 ∷ body) + rest = omega arith in
    let front_of : take count bytes ≡ 1 ∷ (body ++ take rest more) =
    ap (take count) text ∙ (ap (λ (n : ℕ). take n ((1 ∷ body) ++ more)) count_of ∙ take-append-add (1 ∷ body) more rest) in
    none block (take rest more) is_block front_of

-- the first bytes of a room are those that were read
pub first_front : (room bytes rest : List ℕ) (n : ℕ) → n ≤ length bytes → room ≡ take n bytes ++ rest → take n room ≡ take n bytes
first_front room bytes rest n within is =
    let long : length (take n bytes) ≡ n = length-take-le n bytes within in
    ap (take n) is ∙ (take-append-le n (take n bytes) rest (omega arith) ∙ take_all n (take n bytes) (omega arith))

-- a room has its length when it comes back
pub lent_back : (len : ℕ) (part room : List ℕ) → length room ≡ len → length (take len (part ++ drop (length part) room)) ≡ len
lent_back len part room is = length-take-le len (part ++ drop (length part) room) (omega (arith, is, length-append part (drop (length part) room), length-drop (length part) room))

-- what a turn read
pub record IsTurn (disk bytes : List ℕ) (place count room : ℕ) : Type 0 where
  pub bytes_are : bytes ≡ take count (drop place disk)
  pub count_is : count ≡ min room (length (drop place disk))

pub turn_read : (disk now room lent new back : List ℕ) (place count len : ℕ) → now ≡ disk → lent ≡ room → length room ≡ len → IsGiven now place lent new count → back ≡ take len (new ++ drop (length new) room) → IsTurn disk (take count back) place count len
turn_read disk now room lent new back place count len now_is lent_is len_is told back_is =
    let given = subst (λ (x : List ℕ × List ℕ). IsGiven x.0 place x.1 new count) (λ i. (now_is i, lent_is i)) told in
    let rest = drop place disk in
    let size : length rest ≡ length disk - place = length-drop place disk in
    let few : count ≤ length rest = omega (arith, given.count_is) in
    let within : count ≤ len = omega (arith, given.count_is) in
    let text : new ++ drop (length new) room ≡ take count rest ++ (drop count room ++ drop (length new) room) =
    ap (λ (l : List ℕ). l ++ drop (length new) room) given.given ∙ append_assoc (take count rest) (drop count room) (drop (length new) room) in
    record {
      bytes_are = ap (take count) back_is ∙ (take-take count len (new ++ drop (length new) room) within ∙ first_front (new ++ drop (length new) room) rest (drop count room ++ drop (length new) room) count few text);
      count_is = omega (arith, given.count_is);
    }

-- no place is won in a turn but by a record, and none is lost
pub turn_goes_on : (old blocks new : List (List ℕ)) → new ≡ old ++ blocks → length (records old) ≤ length (records new)
turn_goes_on old blocks new is = let a = long_records old blocks in let b = ap (λ (l : List (List ℕ)). length (records l)) is in omega arith

-- what stands where no record begins
pub closed_at : (bytes : List ℕ) → (slice_get bytes 0 ≡ Some 1 → ⊥) → IsClosed bytes
closed_at [] other = tt
closed_at (x ∷ xs) other = λ is. other (ap (λ (n : ℕ). Some n) is)

pub open_at : (bytes : List ℕ) → slice_get bytes 0 ≡ Some 1 → NoRecordHere bytes → IsOpenInVain bytes
open_at [] is none = absurd (let e : None ≡ Some 1 = is in cc)
open_at (x ∷ xs) is none =
    let e : Some x ≡ Some 1 = is in
    let gate : x ≡ 1 = cc in
    record { rest = xs; text = ap (λ (n : ℕ). n ∷ xs) gate; none = λ block more is_block text. none block more is_block (λ i. gate i ∷ text i) }

pub first_of_some : (bytes : List ℕ) (room count : ℕ) → 0 < room → count ≡ min room (length bytes) → slice_get (take count bytes) 0 ≡ slice_get bytes 0
first_of_some [] room zero some is = refl
first_of_some [] room (suc n) some is = refl
first_of_some (x ∷ xs) room zero some is = absurd (omega arith)
first_of_some (x ∷ xs) room (suc n) some is = refl

pub is_open : (byte : Option ℕ) → true ≡ option_eq eqb byte (Some 1) → byte ≡ Some 1
is_open None is = absurd (let e : true ≡ false = is in cc)
is_open (Some x) is = ap (λ (n : ℕ). Some n) (eqb-true x 1 (sym is))

pub is_other : (byte : Option ℕ) → false ≡ option_eq eqb byte (Some 1) → byte ≡ Some 1 → ⊥
is_other byte is there = let e : false ≡ true = is ∙ ap (λ (o : Option ℕ). option_eq eqb o (Some 1)) there in absurd cc

-- a turn that won no place is the last one
pub record IsLast (disk : List ℕ) (place : ℕ) (byte : Option ℕ) (blocks : List (List ℕ)) : Type 0 where
  pub found : AreFound disk place blocks
  pub byte_is : byte ≡ slice_get (drop place disk) 0
  pub none : NoRecordHere (drop place disk)

pub last_turn : (disk bytes : List ℕ) (place next count room : ℕ) (byte : Option ℕ) (old blocks new : List (List ℕ)) → IsTurn disk bytes place count room → block_size_limit + 37 ≤ room → AreFound disk place old → BeginWith bytes blocks → new ≡ old ++ blocks → next ≡ length (records new) → next ≡ place → byte ≡ slice_get bytes 0
    → IsLast disk place byte new
last_turn disk bytes place next count room byte old blocks new turn long found begin new_is next_is same byte_is =
    let none : blocks ≡ [] = none_added old blocks (let a = ap (λ (l : List (List ℕ)). length (records l)) new_is in let b = found.place_is in omega arith) in
    record {
      found = turn_found disk bytes place place count old blocks new found turn.bytes_are begin new_is (sym same ∙ next_is);
      byte_is = byte_is ∙ (ap (λ (l : List ℕ). slice_get l 0) turn.bytes_are ∙ first_of_some (drop place disk) room count (omega arith) turn.count_is);
      none = none_in_all (drop place disk) room count long turn.count_is (subst NoRecordHere turn.bytes_are (begin.none none));
    }
