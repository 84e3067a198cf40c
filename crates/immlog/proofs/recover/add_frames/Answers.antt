use Rattle.std.proofs.Common.{◌≡◌, ◌+◌, ◌∷◌, ◌++◌, [], ℕ, List, length, arith, sym, ◌∙◌, ap, append_assoc, take, get_or}
use Rattle.model.specs.Log.{records}
use Rattle.immlog.specs.Framed.{framed_blocks}
use Rattle.immlog.specs.Index.{blocks_in}
use Rattle.immlog.proofs.Indexed.{entries_more}
use Rattle.immlog.proofs.Turns.{next_frame, past_all, same_entries}
use Rattle.immlog.proofs.recover.add_frames.Goals as goal

pub add_record-requires : goal.add_record-requires
add_record-requires g c =
    let was = c.loop-frame.invariant in
    let next = next_frame (blocks_in c.args.index.now) (blocks_in c.loop-frame.index) c.args.frames.now c.loop-frame.frame-index past_all c.loop-frame-test.true was.noted c.requires.sound in
    omega (arith, next.within, was.place, c.requires.fits)

pub loop-frame-preserved : goal.loop-frame-preserved
loop-frame-preserved g c =
    let was = c.loop-frame.invariant in
    let done = blocks_in c.loop-frame.index in
    let old = blocks_in c.args.index.now in
    let given = g.K.Sink.given c.args.sink.now in
    let frames = c.args.frames.now in
    let frame = get_or frames c.loop-frame.frame-index past_all in
    let block = frame.block.now in
    let so_far = framed_blocks (take c.loop-frame.frame-index frames) in
    let next = next_frame old done frames c.loop-frame.frame-index past_all c.loop-frame-test.true was.noted c.requires.sound in
    let added = c.in_ok-next.ensures in
    let more : (before : List (List ℕ)) → (before ++ so_far) ++ block ∷ [] ≡ before ++ framed_blocks (take (c.loop-frame.frame-index + 1) frames) =
    λ before. append_assoc before so_far (block ∷ []) ∙ ap (λ (l : List (List ℕ)). before ++ l) (sym next.taken) in
    let entries = entries_more 0 done c.loop-frame.index.entries.items block (record { place = c.loop-frame.next; digest = frame.digest.now }) was.entries (let p = was.place in omega arith) next.sound in
    record {
      noted = added.noted ∙ (ap (λ (l : List (List ℕ)). l ++ block ∷ []) was.noted ∙ more old);
      entries = same_entries _ _ _ _ added.noted added.entries entries;
      place = added.next ∙ (ap (λ (n : ℕ). n + (37 + length block)) was.place ∙ (sym next.long ∙ ap (λ (l : List (List ℕ)). length (records l)) (sym added.noted)));
      given = added.given ∙ (ap (λ (l : List (List ℕ)). l ++ block ∷ []) was.given ∙ more given);
      kept = added.kept ∙ was.kept;
    }
