-- What bytes look like, read one record after the other.
use Rattle.std.proofs.Common.{◌≡◌, ◌≢◌, ◌⊎◌, ◌↔◌, inl, inr, ℕ, zero, suc, ◌+◌, ◌-◌, ◌<◌, ◌≤◌, List, [], ◌∷◌, ◌++◌, length, take, drop, get_or, ◌^◌, Option, Some, None, refl, sym, ◌∙◌, ap, subst, arith, append_assoc, append-nil, length-append}
use Rattle.std.specs.Prelude.{IfSome}
use Rattle.std.specs.Int.{w32, to_be_bytes, from_be_bytes}
use borrow.Rule.Slice.PartMut.{mid_of, post_of, put_mid, same_len_mid, take_put}
use Rattle.std.specs.Io.KnownBytes.{Consumes, Keeps}
use Rattle.std.proofs.lemmas.List.{take_all, drop_at, length-take-le, length-drop, take-append-le}
use Rattle.std.proofs.Math.Seq.{take-append-add}
use Rattle.std.proofs.lemmas.Nat.{be_bytes_4, from_be_bytes-to_be_bytes_4}
use Rattle.sha2.specs.Sha256.{sha256}
use Rattle.model.specs.Limits.{block_size_limit}
use Rattle.model.specs.Log.{IsLogBlock, body_of, records, IsClosed, Opens}
use Rattle.model.proofs.Lists.{all_push}
use Rattle.model.proofs.LogTexts.{length-body_of, body_of_parts, same_front, same_body, records-push, same_records, none_closed, not_both}
use Rattle.immlog.specs.Frames.{BeginsWithFrame, NoRecordBehind}
use Rattle.immlog.specs.Left.{AreZeros, HasRecord, TellsLength, IsShort, IsLeftover, IsLogEnd, IsEndOf, IsLeft, IsLook}
use Rattle.immlog.specs.Walks.{IsFilled, IsTaken, IsNextByte, IsPart, IsWalked}
use Rattle.immlog.specs.declared.look.Look.{Look}
use Rattle.immlog.specs.declared.part.LogEnd.{LogEnd}
use Rattle.immlog.specs.declared.part.LogEnd.TheVariants as ends
use Rattle.immlog.specs.declared.look.Look.TheVariants as look
use Rattle.immlog.specs.declared.part.LogPart.TheVariants as parts
use Rattle.immlog.proofs.Reading.{bytes_below, tail_slice, none_short}

-- ---- bytes that a reader gives

pub consumes_both : (o m n : Option (List ℕ)) (a b : List ℕ) → Consumes o m a → Consumes m n b → Consumes o n (a ++ b)
consumes_both None m n a b p q = tt
consumes_both (Some xs) None n a b p q = elim p [ ]
consumes_both (Some xs) (Some ys) None a b p q = elim q [ ]
consumes_both (Some xs) (Some ys) (Some zs) a b p q = p ∙ (ap (λ (l : List ℕ). a ++ l) q ∙ sym (append_assoc a b zs))

pub consumes_kept : (o m n : Option (List ℕ)) (a : List ℕ) → Consumes o m a → Keeps m n → Consumes o n a
consumes_kept None m n a p q = tt
consumes_kept (Some xs) None n a p q = elim p [ ]
consumes_kept (Some xs) (Some ys) None a p q = elim q [ ]
consumes_kept (Some xs) (Some ys) (Some zs) a p q = p ∙ ap (λ (l : List ℕ). a ++ l) (sym q)

pub consumes_none : (o : Option (List ℕ)) → Consumes o o []
consumes_none None = tt
consumes_none (Some xs) = refl

-- the room after a read into its end
pub filled_more : (room part post : List ℕ) (count n : ℕ) → count ≤ length room → n ≤ length part → take (count + n) (take count room ++ (part ++ post)) ≡ take count room ++ take n part
filled_more room part post count n within small =
    let front : length (take count room) ≡ count = length-take-le count room within in
    let e : count + n ≡ length (take count room) + n = omega arith in
    ap (λ (k : ℕ). take k (take count room ++ (part ++ post))) e
    ∙ (take-append-add (take count room) (part ++ post) n ∙ ap (λ (l : List ℕ). take count room ++ l) (take-append-le n part post small))

pub fill_step : (o m n : Option (List ℕ)) (room part post : List ℕ) (count k : ℕ) → count ≤ length room → k ≤ length part → Consumes o m (take count room) → Consumes m n (take k part) → Consumes o n (take (count + k) (take count room ++ (part ++ post)))
fill_step o m n room part post count k within small one two =
    subst (Consumes o n) (sym (filled_more room part post count k within small)) (consumes_both o m n (take count room) (take k part) one two)

-- the same after a read
pub record IsFilledTo (o n : Option (List ℕ)) (room : List ℕ) (len count : ℕ) : Type 0 where
  pub within : count ≤ length room
  pub len_is : length room ≡ len
  pub taken : Consumes o n (take count room)

pub fill_next : (o m n : Option (List ℕ)) (room part : List ℕ) (count k len : ℕ) → count ≤ length room → length room ≡ len → length part ≡ length (mid_of count (length room - count) room) → k ≤ length part → Consumes o m (take count room) → Consumes m n (take k part) → IsFilledTo o n (put_mid count (length room - count) room part) len (count + k)
fill_next o m n room part count k len within len_is part_is small one two =
    let same : length (put_mid count (length room - count) room part) ≡ length room = same_len_mid count (length room - count) room part part_is in
    let behind : length (take (length room - count) (drop count room)) ≡ length room - count = length-take-le (length room - count) (drop count room) (omega (arith, length-drop count room)) in
    record {
      within = omega arith;
      len_is = same ∙ len_is;
      taken = fill_step o m n room part (post_of count (length room - count) room) count k within small one two;
    }

pub fill_again : (o m n : Option (List ℕ)) (room part : List ℕ) (count len : ℕ) → count ≤ length room → length room ≡ len → length part ≡ length (mid_of count (length room - count) room) → Consumes o m (take count room) → Keeps m n → IsFilledTo o n (put_mid count (length room - count) room part) len count
fill_again o m n room part count len within len_is part_is one kept =
    let same : length (put_mid count (length room - count) room part) ≡ length room = same_len_mid count (length room - count) room part part_is in
    record {
      within = omega arith;
      len_is = same ∙ len_is;
      taken = subst (Consumes o n) (sym (take_put count (length room - count) room part within)) (consumes_kept o m n (take count room) one kept);
    }

-- ---- one record

-- the length that is told
pub length_told : (bytes size rest : List ℕ) (n : ℕ) → size ≡ take 4 bytes → rest ≡ drop 4 bytes → length rest + 4 ≡ length bytes → ((i : ℕ) → get_or bytes i 0 < 256) → n ≡ from_be_bytes w32 size → 0 < n → n ≤ block_size_limit → TellsLength bytes n
length_told bytes size rest n size_is rest_is len small n_is some within =
    let four : length size ≡ 4 = ap length size_is ∙ length-take-le 4 bytes (omega arith) in
    let bytes_of_size : (i : ℕ) → get_or size i 0 < 256 = subst (λ (l : List ℕ). (i : ℕ) → get_or l i 0 < 256) (sym size_is) (bytes_below bytes 4 small) in
    record { some = some; within = within; word = sym size_is ∙ sym (be_bytes_4 size n four bytes_of_size n_is) }

-- and it is the only one
number_of : (n : ℕ) → n ≤ block_size_limit → from_be_bytes w32 (to_be_bytes w32 n) ≡ n
number_of n within = from_be_bytes-to_be_bytes_4 n (small n within)
  where
    small : (k : ℕ) → k ≤ block_size_limit → k < 2 ^ 32
    small k below = omega arith

pub length_is : (bytes : List ℕ) (n : ℕ) → TellsLength bytes n → from_be_bytes w32 (take 4 bytes) ≡ n
length_is bytes n tells = ap (from_be_bytes w32) tells.word ∙ number_of n tells.within

pub one_length : (bytes : List ℕ) (a b : ℕ) → TellsLength bytes a → TellsLength bytes b → a ≡ b
one_length bytes a b one two = sym (length_is bytes a one) ∙ length_is bytes b two

-- too few bytes tell none
pub none_told : (bytes : List ℕ) (n : ℕ) → length bytes < 4 → TellsLength bytes n → ⊥
none_told bytes n short tells =
    let four : length (take 4 bytes) ≡ 4 = ap length tells.word ∙ refl in
    let fewer : length (take 4 bytes) ≡ length bytes = ap length (take_all 4 bytes (omega arith)) in
    omega arith

-- a record tells the length of its block
pub record_tells : (bytes more : List ℕ) → (here : HasRecord bytes more) → TellsLength bytes (length here.block)
record_tells bytes more here = record {
  some = here.size.some;
  within = here.size.within;
  word =
      let split : bytes ≡ to_be_bytes w32 (length here.block) ++ (sha256 here.block ++ (here.block ++ more)) = here.text ∙ sym (body_of_parts here.block more (to_be_bytes w32 (length here.block)) (sha256 here.block) refl refl) in
      ap (take 4) split;
}

pub record_here : (bytes digest block : List ℕ) → BeginsWithFrame digest block bytes → digest ≡ sha256 block → HasRecord bytes (take (length bytes - (36 + length block)) (drop (36 + length block) bytes))
record_here bytes digest block frame same =
    let text : bytes ≡ body_of block ++ frame.more = frame.text ∙ body_of_parts block frame.more (to_be_bytes w32 (length block)) digest refl same in
    let long : length (body_of block) ≡ 36 + length block = length-body_of block in
    let rest : drop (36 + length block) bytes ≡ frame.more = ap (drop (36 + length block)) text ∙ drop_at (body_of block) frame.more (36 + length block) (omega arith) in
    let more_is : take (length bytes - (36 + length block)) (drop (36 + length block) bytes) ≡ frame.more = tail_slice bytes (36 + length block) ∙ rest in
    record {
      block = block;
      size = frame.size;
      text = text ∙ ap (λ (l : List ℕ). body_of block ++ l) (sym more_is);
    }

pub same_more : (bytes more other : List ℕ) → HasRecord bytes more → HasRecord bytes other → more ≡ other
same_more bytes more other one two = (same_body one.block two.block more other one.size two.size (sym one.text ∙ two.text)).1

-- ---- the end

pub end_with_record : (gate : ℕ) (behind more : List ℕ) → gate ≢ 1 → IsShort behind → HasRecord behind more → AreZeros more ↔ IsLogEnd (gate ∷ behind)
end_with_record gate behind more shut short here = (
  λ zeros. (shut, record { short = short; alone = λ other has. subst AreZeros (same_more behind more other here has) zeros }, inr (inr (more, here))),
  λ end. end.1.alone more here,
)

pub end_without : (gate : ℕ) (behind : List ℕ) → gate ≢ 1 → IsShort behind → NoRecordBehind behind → ((gate ≡ 0) ⊎ (behind ≡ [])) ↔ IsLogEnd (gate ∷ behind)
end_without gate behind shut short none = (there, back)
  where
    no_record : (more : List ℕ) → HasRecord behind more → ⊥
    no_record more has = none has.block more has.size has.text

    left : IsLeftover behind
    left = record { short = short; alone = λ more has. absurd (no_record more has) }

    there : (gate ≡ 0) ⊎ (behind ≡ []) → IsLogEnd (gate ∷ behind)
    there (inl is_zero) = (shut, left, inl is_zero)
    there (inr is_empty) = (shut, left, inr (inl is_empty))

    back_of : (gate ≡ 0) ⊎ ((behind ≡ []) ⊎ ((more : List ℕ) × HasRecord behind more)) → (gate ≡ 0) ⊎ (behind ≡ [])
    back_of (inl is_zero) = inl is_zero
    back_of (inr (inl is_empty)) = inr is_empty
    back_of (inr (inr some)) = absurd (no_record some.0 some.1)

    back : IsLogEnd (gate ∷ behind) → (gate ≡ 0) ⊎ (behind ≡ [])
    back end = back_of end.2

too_long : (gate : ℕ) (behind : List ℕ) → block_size_limit + 37 < length behind → IsLogEnd (gate ∷ behind) → ⊥
too_long gate behind long end = elim end.1.short [
  | inl torn ↦ (let t = torn.0 in absurd (omega arith))
  | inr told ↦ (let w = told.1.within in let t = told.2 in absurd (omega arith))
]

-- what is said of the end that was read is said of the end that is there
pub end_of_all : (gate : ℕ) (o n : Option (List ℕ)) (room : List ℕ) (count : ℕ) (end : LogEnd) → block_size_limit + 37 < length room → IsFilled o n room count → IsEndOf (gate ∷ take count room) end → IfSome o (λ bytes. IsEndOf (gate ∷ bytes) end)
end_of_all gate None n room count end long filled is = tt
end_of_all gate (Some xs) None room count end long filled is = let t = filled.taken in elim t [ ]
end_of_all gate (Some xs) (Some ys) room count end long filled is = by_length (less_or count (length room))
  where
    less_or : (a b : ℕ) → (a < b) ⊎ (b ≤ a)
    less_or zero zero = inr (omega arith)
    less_or zero (suc b) = inl (omega arith)
    less_or (suc a) zero = inr (omega arith)
    less_or (suc a) (suc b) = elim (less_or a b) [ inl l ↦ inl (omega arith) | inr g ↦ inr (omega arith) ]

    of_long : (e : LogEnd) → block_size_limit + 37 < length (take count room) → block_size_limit + 37 < length xs → IsEndOf (gate ∷ take count room) e → IsEndOf (gate ∷ xs) e
    of_long ends.Clean part whole at = absurd (too_long gate (take count room) part at.0)
    of_long ends.Torn part whole at = absurd (too_long gate (take count room) part at.0)
    of_long ends.Foreign part whole at = λ left. too_long gate xs whole left

    by_length : (count < length room) ⊎ (length room ≤ count) → IsEndOf (gate ∷ xs) end
    by_length (inl less) =
        let none : ys ≡ [] = filled.end less in
        let all : xs ≡ take count room = filled.taken ∙ (ap (λ (l : List ℕ). take count room ++ l) none ∙ append-nil (take count room)) in
        subst (λ (l : List ℕ). IsEndOf (gate ∷ l) end) (sym all) is
    by_length (inr full) =
        let taken : length (take count room) ≡ count = length-take-le count room filled.within in
        let whole : length xs ≡ length (take count room) + length ys = ap length filled.taken ∙ length-append (take count room) ys in
        of_long end (omega arith) (omega arith) is

-- ---- the body of a record

-- too few bytes are left for one
pub none_left : (o n : Option (List ℕ)) (room : List ℕ) (count : ℕ) → length room ≡ 36 → count < 36 → IsFilled o n room count → IfSome o NoRecordBehind
none_left None n room count long short filled = tt
none_left (Some xs) None room count long short filled = let t = filled.taken in elim t [ ]
none_left (Some xs) (Some ys) room count long short filled =
    let none : ys ≡ [] = filled.end (omega arith) in
    let all : xs ≡ take count room = filled.taken ∙ (ap (λ (l : List ℕ). take count room ++ l) none ∙ append-nil (take count room)) in
    let taken : length (take count room) ≡ count = length-take-le count room filled.within in
    let size : length xs < 36 = let e = ap length all in omega arith in
    none_short xs size

-- what the first bytes tell of the block
tells_all : (head behind : List ℕ) (size : ℕ) → 4 ≤ length head → TellsLength head size → TellsLength (head ++ behind) size
tells_all head behind size long tells = record { some = tells.some; within = tells.within; word = take-append-le 4 head behind long ∙ tells.word }

pub told_block : (head behind more : List ℕ) (size : ℕ) → 4 ≤ length head → TellsLength head size → (here : HasRecord (head ++ behind) more) → size ≡ length here.block
told_block head behind more size long tells here =
    one_length (head ++ behind) size (length here.block) (tells_all head behind size long tells) (record_tells (head ++ behind) more here)

-- the first bytes tell no length
pub untold : (o m n : Option (List ℕ)) (head : List ℕ) → length head ≡ 36 → ((len : ℕ) → TellsLength head len → ⊥) → Consumes o m head → IfSome o NoRecordBehind
untold None m n head long none one = tt
untold (Some xs) None n head long none one = elim one [ ]
untold (Some xs) (Some ys) n head long none one = λ block more is_block text.
    let here : HasRecord (head ++ ys) more = record { block = block; size = is_block; text = sym one ∙ text } in
    let all = record_tells (head ++ ys) more here in
    none (length block) (record { some = all.some; within = all.within; word = sym (take-append-le 4 head ys (omega arith)) ∙ all.word })

-- ---- how much is left

-- by the length that is told, where the others aren't all zeros
pub short_told : (bytes : List ℕ) (len : ℕ) → TellsLength bytes len → (((length bytes ≤ block_size_limit + 37) × AreZeros (drop 3 bytes)) → ⊥) → IsShort bytes → length bytes ≤ 37 + len
short_told bytes len tells other (inl torn) = absurd (other torn)
short_told bytes len tells other (inr told) = let same : told.0 ≡ len = one_length bytes told.0 len told.1 tells in let t = told.2 in omega arith

pub short_none : (bytes : List ℕ) → ((len : ℕ) → TellsLength bytes len → ⊥) → (((length bytes ≤ block_size_limit + 37) × AreZeros (drop 3 bytes)) → ⊥) → IsShort bytes → ⊥
short_none bytes none other (inl torn) = other torn
short_none bytes none other (inr told) = none told.0 told.1

-- what stands in the room after two reads into it
pub record AreHere (head room part : List ℕ) (size count : ℕ) : Type 0 where
  pub head_is : take 36 (head ++ drop 36 room) ≡ head
  pub front_is : take (36 + count) (put_mid 36 (36 + size - 36) (head ++ drop 36 room) part) ≡ head ++ take count part
  pub part_is : length part ≡ size

pub here_of : (head room part : List ℕ) (size count : ℕ) → length head ≡ 36 → 36 + size ≤ length room → length part ≡ length (take (36 + size - 36) (drop 36 (head ++ drop 36 room))) → count ≤ length part → AreHere head room part size count
here_of head room part size count long within part_is small =
    let both : length (head ++ drop 36 room) ≡ length head + length (drop 36 room) = length-append head (drop 36 room) in
    let behind : length (drop 36 room) ≡ length room - 36 = length-drop 36 room in
    let whole : 36 ≤ length (head ++ drop 36 room) = omega arith in
    let last : length (drop 36 (head ++ drop 36 room)) ≡ length (head ++ drop 36 room) - 36 = length-drop 36 (head ++ drop 36 room) in
    let part_len : length (take (36 + size - 36) (drop 36 (head ++ drop 36 room))) ≡ 36 + size - 36 = length-take-le (36 + size - 36) (drop 36 (head ++ drop 36 room)) (omega arith) in
    let front : take 36 (head ++ drop 36 room) ≡ head = take-append-le 36 head (drop 36 room) (omega arith) ∙ take_all 36 head (omega arith) in
    record {
      head_is = front;
      front_is = filled_more (head ++ drop 36 room) part (post_of 36 (36 + size - 36) (head ++ drop 36 room)) 36 count whole small ∙ ap (λ (l : List ℕ). l ++ take count part) front;
      part_is = omega arith;
    }

pub body_some : (o m n : Option (List ℕ)) (head room whole more : List ℕ) (size count : ℕ) → take (36 + count) whole ≡ head ++ take count room → length head ≡ 36 → length room ≡ size → TellsLength head size → Consumes o m head → IsFilled m n room count → HasRecord (head ++ take count room) more → IfSome o (λ bytes. IsTaken bytes n whole (36 + count))
body_some None m n head room whole more size count front long room_is tells one filled here = tt
body_some (Some xs) None n head room whole more size count front long room_is tells one filled here = elim one [ ]
body_some (Some xs) (Some ys) None head room whole more size count front long room_is tells one filled here = let t = filled.taken in elim t [ ]
body_some (Some xs) (Some ys) (Some zs) head room whole more size count front long room_is tells one filled here =
    let told : size ≡ length here.block = told_block head (take count room) more size (omega arith) tells here in
    let taken : length (take count room) ≡ count = length-take-le count room filled.within in
    let sum : length head + length (take count room) ≡ length (body_of here.block) + length more = sym (length-append head (take count room)) ∙ (ap length here.text ∙ length-append (body_of here.block) more) in
    let body : length (body_of here.block) ≡ 36 + length here.block = length-body_of here.block in
    let within : count ≤ size = let w = filled.within in omega arith in
    let none : length more ≡ 0 = omega arith in
    record {
      block = here.block;
      more = zs;
      size = here.size;
      text = one ∙ (ap (λ (l : List ℕ). head ++ l) filled.taken ∙ (sym (append_assoc head (take count room) zs) ∙ (ap (λ (l : List ℕ). l ++ zs) here.text ∙ (ap (λ (l : List ℕ). body_of here.block ++ l ++ zs) (empty more none) ∙ ap (λ (l : List ℕ). l ++ zs) (append-nil (body_of here.block))))));
      left = refl;
      long = omega arith;
      held = front ∙ (here.text ∙ (ap (λ (l : List ℕ). body_of here.block ++ l) (empty more none) ∙ append-nil (body_of here.block)));
    }
  where
    empty : (l : List ℕ) → length l ≡ 0 → l ≡ []
    empty [] none = refl
    empty (x ∷ l) none = absurd (omega arith)

pub body_none : (o m n : Option (List ℕ)) (head room : List ℕ) (size count : ℕ) → length head ≡ 36 → length room ≡ size → TellsLength head size → Consumes o m head → IsFilled m n room count → NoRecordBehind (head ++ take count room) → IfSome o (λ bytes. NoRecordBehind bytes)
body_none None m n head room size count long room_is tells one filled none = tt
body_none (Some xs) None n head room size count long room_is tells one filled none = elim one [ ]
body_none (Some xs) (Some ys) None head room size count long room_is tells one filled none = let t = filled.taken in elim t [ ]
body_none (Some xs) (Some ys) (Some zs) head room size count long room_is tells one filled none = λ block more is_block text.
    let front = head ++ take count room in
    let split : xs ≡ front ++ zs = one ∙ (ap (λ (l : List ℕ). head ++ l) filled.taken ∙ sym (append_assoc head (take count room) zs)) in
    let told : size ≡ length block = told_block head (take count room ++ zs) more size (omega arith) tells (record { block = block; size = is_block; text = sym (append_assoc head (take count room) zs) ∙ (sym split ∙ text) }) in
    let taken : length (take count room) ≡ count = length-take-le count room filled.within in
    let both : length front ≡ length head + length (take count room) = length-append head (take count room) in
    let body : length (body_of block) ≡ 36 + length block = length-body_of block in
    by_length block more is_block text split told (omega arith) (less_or count size)
  where
    less_or : (a b : ℕ) → (a < b) ⊎ (b ≤ a)
    less_or zero zero = inr (omega arith)
    less_or zero (suc b) = inl (omega arith)
    less_or (suc a) zero = inr (omega arith)
    less_or (suc a) (suc b) = elim (less_or a b) [ inl l ↦ inl (omega arith) | inr g ↦ inr (omega arith) ]

    by_length : (block more : List ℕ) → IsLogBlock block → xs ≡ body_of block ++ more → xs ≡ head ++ take count room ++ zs → size ≡ length block → length (head ++ take count room) ≡ 36 + count → (count < size) ⊎ (size ≤ count) → ⊥
    by_length block more is_block text split told both (inl less) =
        let end : zs ≡ [] = filled.end (omega arith) in
        let all : xs ≡ head ++ take count room = split ∙ (ap (λ (l : List ℕ). head ++ take count room ++ l) end ∙ append-nil (head ++ take count room)) in
        none block more is_block (sym all ∙ text)
    by_length block more is_block text split told both (inr full) =
        let w = filled.within in
        let body : length (body_of block) ≡ 36 + length block = length-body_of block in
        let fronts = same_front (head ++ take count room) (body_of block) zs more (omega arith) (sym split ∙ text) in
        none block [] is_block (fronts.0 ∙ sym (append-nil (body_of block)))

-- the block stands behind the first bytes of its record
pub behind_head : (block : List ℕ) → drop 36 (body_of block) ≡ block
unfolding body_of
behind_head block =
    let front : List ℕ = to_be_bytes w32 (length block) ++ sha256 block in
    let long : length front ≡ 36 = omega (arith, length-body_of block, length-append front block) in
    drop_at front block 36 long

-- ---- one part after the other

pub walked_more : (room : List ℕ) (bytes : List ℕ) (m n : Option (List ℕ)) (place len next : ℕ) → IsWalked bytes m place → IfSome m (λ rest. IsPart rest n room (parts.Record len)) → next ≡ place + (1 + len) → IsWalked bytes n next
walked_more room bytes None n place len next walked here next_is = let l = walked.left in absurd cc
walked_more room bytes (Some rest) n place len next walked here next_is =
    let same : rest ≡ walked.rest = let l = walked.left in cc in
    let record_is = here.2 in
    let row = walked.blocks ++ record_is.block ∷ [] in
    let text : bytes ≡ records walked.blocks ++ 1 ∷ (body_of record_is.block ++ record_is.more) = walked.text ∙ ap (λ (l : List ℕ). records walked.blocks ++ l) (sym same ∙ (here.1 ∙ ap (λ (l : List ℕ). 1 ∷ l) record_is.text)) in
    let rows : records row ≡ records walked.blocks ++ 1 ∷ (body_of record_is.block ++ []) = sym (append-nil (records row)) ∙ records-push walked.blocks record_is.block [] in
    let many : length (records row) ≡ length (records walked.blocks) + length (1 ∷ (body_of record_is.block ++ [])) = ap length rows ∙ length-append (records walked.blocks) (1 ∷ (body_of record_is.block ++ [])) in
    let one : length (body_of record_is.block ++ []) ≡ length (body_of record_is.block) + 0 = length-append (body_of record_is.block) [] in
    let body : length (body_of record_is.block) ≡ 36 + length record_is.block = length-body_of record_is.block in
    record {
      blocks = row;
      rest = record_is.more;
      text = text ∙ sym (records-push walked.blocks record_is.block record_is.more);
      sizes = all_push IsLogBlock walked.blocks record_is.block walked.sizes record_is.size;
      place_is = let p = walked.place_is in let l = record_is.long in omega arith;
      left = record_is.left;
    }

-- a gate that isn't open, and what stands behind it
pub step_end : (room : List ℕ) (o m n : Option (List ℕ)) (gate : ℕ) (end : LogEnd) → gate ≢ 1 → IfSome o (IsNextByte (Some gate) m) → IfSome m (λ bytes. IsEndOf (gate ∷ bytes) end) → IfSome o (λ bytes. IsPart bytes n room (parts.End end))
step_end room None m n gate end shut next is = tt
step_end room (Some xs) None n gate end shut next is = let e = next.2 in absurd cc
step_end room (Some xs) (Some ys) n gate end shut next is =
    let same : ys ≡ next.0 = let e = next.2 in cc in
    let all : xs ≡ gate ∷ ys = next.1 ∙ ap (λ (l : List ℕ). gate ∷ l) (sym same) in
    subst (λ (l : List ℕ). IsPart l n room (parts.End end)) (sym all) (shut, is)

-- nothing
pub step_none : (room : List ℕ) (o m n : Option (List ℕ)) → IfSome o (IsNextByte None m) → IfSome o (λ bytes. IsPart bytes n room (parts.End ends.Clean))
step_none room None m n next = tt
step_none room (Some xs) m n next = subst (λ (l : List ℕ). IsPart l n room (parts.End ends.Clean)) (sym next) (tt, (tt, inl refl))

-- an open gate, and the record behind it
pub step_record : (room : List ℕ) (o m n : Option (List ℕ)) (len : ℕ) → IfSome o (IsNextByte (Some 1) m) → IfSome m (λ bytes. IsTaken bytes n room len) → IfSome o (λ bytes. IsPart bytes n room (parts.Record len))
step_record room None m n len next taken = tt
step_record room (Some xs) None n len next taken = let e = next.2 in absurd cc
step_record room (Some xs) (Some ys) n len next taken =
    let same : ys ≡ next.0 = let e = next.2 in cc in
    (ys, next.1 ∙ ap (λ (l : List ℕ). 1 ∷ l) (sym same), taken)

-- an open gate alone
pub step_vain : (room : List ℕ) (o m n : Option (List ℕ)) → IfSome o (IsNextByte (Some 1) m) → IfSome m NoRecordBehind → IfSome o (λ bytes. IsPart bytes n room parts.Vain)
step_vain room None m n next none = tt
step_vain room (Some xs) None n next none = let e = next.2 in absurd cc
step_vain room (Some xs) (Some ys) n next none =
    let same : ys ≡ next.0 = let e = next.2 in cc in
    record { rest = ys; text = next.1 ∙ ap (λ (l : List ℕ). 1 ∷ l) (sym same); none = none }

-- what holds of known bytes, with what follows from it
pub some_weaker : (P Q : List ℕ → Type 0) (o : Option (List ℕ)) → ((bytes : List ℕ) → P bytes → Q bytes) → IfSome o P → IfSome o Q
some_weaker P Q None weaker holds = tt
some_weaker P Q (Some bytes) weaker holds = weaker bytes holds

rest_of : (bytes : List ℕ) (m : Option (List ℕ)) (place : ℕ) (P : List ℕ → Type 0) → (walked : IsWalked bytes m place) → IfSome m P → P walked.rest
rest_of bytes None place P walked holds = let l = walked.left in absurd cc
rest_of bytes (Some rest) place P walked holds = let same : rest ≡ walked.rest = let l = walked.left in cc in subst P same holds

-- an end that a log left
left_end : (bytes : List ℕ) (end : LogEnd) → end ≢ ends.Foreign → IsEndOf bytes end → IsLogEnd bytes
left_end bytes ends.Clean other is = is.0
left_end bytes ends.Torn other is = is.0
left_end bytes ends.Foreign other is = absurd (other refl)

pub look_log : (room : List ℕ) (bytes : List ℕ) (m n : Option (List ℕ)) (place : ℕ) (end : LogEnd) → end ≢ ends.Foreign → IsWalked bytes m place → IfSome m (λ rest. IsPart rest n room (parts.End end)) → IsLook bytes look.Log
look_log room bytes m n place end other walked here =
    let is = rest_of bytes m place (λ rest. IsPart rest n room (parts.End end)) walked here in
    record { blocks = walked.blocks; rest = walked.rest; text = walked.text; sizes = walked.sizes; end = left_end walked.rest end other is.1 }

pub look_vain : (room : List ℕ) (bytes : List ℕ) (m n : Option (List ℕ)) (place : ℕ) → IsWalked bytes m place → IfSome m (λ rest. IsPart rest n room parts.Vain) → IsLook bytes (look.Damaged place)
look_vain room bytes m n place walked here =
    let vain = rest_of bytes m place (λ rest. IsPart rest n room parts.Vain) walked here in
    inl (record {
      blocks = walked.blocks;
      rest = vain.rest;
      text = walked.text ∙ ap (λ (l : List ℕ). records walked.blocks ++ l) vain.text;
      sizes = walked.sizes;
      place_is = walked.place_is;
      spoilt = vain.none;
    })

pub look_none : (room : List ℕ) (bytes : List ℕ) (m n : Option (List ℕ)) (place : ℕ) → IsWalked bytes m place → IfSome m (λ rest. IsPart rest n room (parts.End ends.Foreign)) → place ≡ 0 → IsLook bytes look.NoLog
look_none room bytes m n place walked here first =
    let end = rest_of bytes m place (λ rest. IsPart rest n room (parts.End ends.Foreign)) walked here in
    let all : bytes ≡ walked.rest = walked.text ∙ ap (λ (l : List ℕ). l ++ walked.rest) (no_records walked.blocks (sym walked.place_is ∙ first)) in
    subst (λ (l : List ℕ). IsClosed l × (IsLogEnd l → ⊥)) (sym all) end
  where
    no_records : (blocks : List (List ℕ)) → length (records blocks) ≡ 0 → records blocks ≡ []
    no_records [] none = refl
    no_records (block ∷ blocks) none = absurd (omega arith)

pub look_bad : (room : List ℕ) (bytes : List ℕ) (m n : Option (List ℕ)) (place : ℕ) → IsWalked bytes m place → IfSome m (λ rest. IsPart rest n room (parts.End ends.Foreign)) → place ≢ 0 → IsLook bytes (look.Damaged place)
look_bad room bytes m n place walked here later =
    let end = rest_of bytes m place (λ rest. IsPart rest n room (parts.End ends.Foreign)) walked here in
    inr (record {
      blocks = walked.blocks;
      rest = walked.rest;
      text = walked.text;
      sizes = walked.sizes;
      some = λ none. later (walked.place_is ∙ ap (λ (l : List (List ℕ)). length (records l)) none);
      place_is = walked.place_is;
      closed = end.0;
      bad = end.1;
    })

-- an end, whichever it is
seen_log : (room : List ℕ) (o m n : Option (List ℕ)) (place : ℕ) (end : LogEnd) (seen : Look) → end ≢ ends.Foreign → IfSome o (λ bytes. IsWalked bytes m place) → IfSome m (λ rest. IsPart rest n room (parts.End end)) → (end ≢ ends.Foreign → seen ≡ look.Log) → IfSome o (λ bytes. IsLook bytes seen)
seen_log room o m n place end seen other walked here log =
    some_weaker (λ bytes. IsWalked bytes m place) (λ bytes. IsLook bytes seen) o (λ bytes w. rw (log other) (look_log room bytes m n place end other w here)) walked

pub seen_end : (room : List ℕ) (o m n : Option (List ℕ)) (place : ℕ) (end : LogEnd) (seen : Look) → IfSome o (λ bytes. IsWalked bytes m place) → IfSome m (λ rest. IsPart rest n room (parts.End end)) → (end ≢ ends.Foreign → seen ≡ look.Log) → (end ≡ ends.Foreign → place ≡ 0 → seen ≡ look.NoLog) → (end ≡ ends.Foreign → place ≢ 0 → seen ≡ look.Damaged place) → IfSome o (λ bytes. IsLook bytes seen)
seen_end room o m n place ends.Clean seen walked here log none bad = seen_log room o m n place ends.Clean seen (λ is. absurd (cc is)) walked here log
seen_end room o m n place ends.Torn seen walked here log none bad = seen_log room o m n place ends.Torn seen (λ is. absurd (cc is)) walked here log
seen_end room o m n zero ends.Foreign seen walked here log none bad =
    some_weaker (λ bytes. IsWalked bytes m zero) (λ bytes. IsLook bytes seen) o (λ bytes w. rw (none refl refl) (look_none room bytes m n zero w here refl)) walked
seen_end room o m n (suc place) ends.Foreign seen walked here log none bad =
    let later : suc place ≢ 0 = λ is. absurd (omega arith) in
    some_weaker (λ bytes. IsWalked bytes m (suc place)) (λ bytes. IsLook bytes seen) o (λ bytes w. rw (bad refl later) (look_bad room bytes m n (suc place) w here later)) walked

pub seen_vain : (room : List ℕ) (o m n : Option (List ℕ)) (place : ℕ) → IfSome o (λ bytes. IsWalked bytes m place) → IfSome m (λ rest. IsPart rest n room parts.Vain) → IfSome o (λ bytes. IsLook bytes (look.Damaged place))
seen_vain room o m n place walked here =
    some_weaker (λ bytes. IsWalked bytes m place) (λ bytes. IsLook bytes (look.Damaged place)) o (λ bytes w. look_vain room bytes m n place w here) walked

pub seen_more : (room : List ℕ) (o m n : Option (List ℕ)) (place len next : ℕ) → IfSome o (λ bytes. IsWalked bytes m place) → IfSome m (λ rest. IsPart rest n room (parts.Record len)) → next ≡ place + (1 + len) → IfSome o (λ bytes. IsWalked bytes n next)
seen_more room o m n place len next walked here next_is =
    some_weaker (λ bytes. IsWalked bytes m place) (λ bytes. IsWalked bytes n next) o (λ bytes w. walked_more room bytes m n place len next w here next_is) walked

-- ---- there is one look

pub end_is_closed : (rest : List ℕ) → IsLogEnd rest → IsClosed rest
end_is_closed [] end = tt
end_is_closed (gate ∷ rest) end = end.0

pub left_opens : (bytes : List ℕ) → (left : IsLeft bytes) → Opens bytes left.blocks
left_opens bytes left = record { rest = left.rest; text = left.text; closed = end_is_closed left.rest left.end; sizes = left.sizes }

pub look_of_left : (bytes : List ℕ) (seen : Look) → IsLook bytes seen → IsLeft bytes → seen ≡ look.Log
look_of_left bytes look.Log is left = refl
look_of_left bytes look.NoLog is left =
    let same = same_records [] left.blocks bytes left.rest tt left.sizes (none_closed bytes is.0) (none_closed left.rest (end_is_closed left.rest left.end)) left.text in
    absurd (is.1 (subst IsLogEnd (sym same.1) left.end))
look_of_left bytes (look.Damaged place) (inl damaged) left = absurd (not_both bytes left.blocks place (left_opens bytes left) damaged)
look_of_left bytes (look.Damaged place) (inr ends) left =
    let same = same_records ends.blocks left.blocks ends.rest left.rest ends.sizes left.sizes (none_closed ends.rest ends.closed) (none_closed left.rest (end_is_closed left.rest left.end)) (sym ends.text ∙ left.text) in
    absurd (ends.bad (subst IsLogEnd (sym same.1) left.end))

pub seen_left : (o : Option (List ℕ)) (seen : Look) → IfSome o (λ bytes. IsLook bytes seen) → IfSome o (λ bytes. IsLeft bytes → seen ≡ look.Log)
seen_left o seen is = some_weaker (λ bytes. IsLook bytes seen) (λ bytes. IsLeft bytes → seen ≡ look.Log) o (λ bytes at. look_of_left bytes seen at) is
