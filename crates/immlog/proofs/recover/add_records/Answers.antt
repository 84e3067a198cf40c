use Rattle.std.proofs.Common.{◌≡◌, ◌++◌, ℕ, List, take, sym, subst, Result, Ok, Err, OnOk}
use Rattle.immlog.specs.Framed.{framed_blocks, IsSoundCount, BeginWith}
use Rattle.immlog.specs.Index.{blocks_in}
use Rattle.immlog.specs.declared.frames.Frame.{Frame}
use Rattle.immlog.proofs.Turns.{begin_with, blocks_fit}
use Rattle.immlog.proofs.recover.add_records.Goals as goal

-- what was found at the front of the bytes, as it was passed on
begins : (bytes : List ℕ) (frames other : List Frame) (count : ℕ) → other ≡ frames → BeginWith bytes (framed_blocks (take count frames)) → BeginWith bytes (framed_blocks (take count other))
begins bytes frames other count other_is begin = subst (λ (l : List Frame). BeginWith bytes (framed_blocks (take count l))) (sym other_is) begin

added : {E : Type 0} (r : Result ℕ E) (bytes : List ℕ) (old new given_old given_new blocks : List (List ℕ)) → BeginWith bytes blocks → OnOk r (new ≡ old ++ blocks) → OnOk r (given_new ≡ given_old ++ blocks)
    → OnOk r ((x : List (List ℕ)) × BeginWith bytes x × (new ≡ old ++ x) × (given_new ≡ given_old ++ x))
added (Ok next) bytes old new given_old given_new blocks begin noted given = (blocks, begin, noted, given)
added (Err e) bytes old new given_old given_new blocks begin noted given = tt

pub add_frames-requires-clause-fits : goal.add_frames-requires-clause-fits
add_frames-requires-clause-fits g c =
    let frames = c.in_ok-frames.frames.items in
    let count = c.count_sound-sound.result in
    let sound = subst (λ (l : List Frame). IsSoundCount l count) c.deref-2.ensures.value c.count_sound-sound.ensures in
    let begin = begins c.args.bytes.now frames c.deref-4.result.now count c.deref-4.ensures.value (begin_with c.args.bytes.now frames count c.in_ok-frames.ensures sound) in
    blocks_fit (blocks_in c.args.index.now) (framed_blocks (take count c.deref-4.result.now)) c.args.bytes.now c.args.place begin c.requires.place c.requires.fits

pub returns-clause-added : goal.returns-clause-added
returns-clause-added g c =
    let frames = c.in_ok-frames.frames.items in
    let count = c.count_sound-sound.result in
    let sound = subst (λ (l : List Frame). IsSoundCount l count) c.deref-2.ensures.value c.count_sound-sound.ensures in
    let begin = begins c.args.bytes.now frames c.deref-4.result.now count c.deref-4.ensures.value (begin_with c.args.bytes.now frames count c.in_ok-frames.ensures sound) in
    added c.add_frames.result c.args.bytes.now (blocks_in c.args.index.now) (blocks_in c.add_frames.new.index) (g.K.Sink.given c.args.sink.now) (g.K.Sink.given c.add_frames.new.sink) (framed_blocks (take count c.deref-4.result.now)) begin c.add_frames.ensures.noted c.add_frames.ensures.given
