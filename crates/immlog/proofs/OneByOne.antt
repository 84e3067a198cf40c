-- One block after the other.
use Rattle.std.proofs.Common.{◌≡◌, ℕ, zero, suc, ◌+◌, ◌<◌, Bool, true, List, [], ◌∷◌, length, drop, Option, Some, None, Result, Ok, Err, refl, sym, ap, subst, ◌∙◌, arith}
use Rattle.std.specs.Prelude.{IfOk, IfSome, IsErrOf, MatchOption, Vec, slice_get}
use Rattle.std.specs.declared.alloc.Global.{Global}
use Rattle.std.specs.Result.{result_transpose}
use Rattle.std.proofs.lemmas.Option.{same_Some, none-some}
use Rattle.sha2.specs.Sha256.{sha256}
use Rattle.immlog.specs.declared.faults.ReadFault.{ReadFault}
use Rattle.immlog.specs.declared.faults.ReadFault.TheVariants.{Damaged}
use Rattle.immlog.specs.declared.log_blocks.LogBlocks.{LogBlocks}
use Rattle.immlog.specs.LogBlocks.{blocks_left, GivesBlock}
use Rattle.immlog.specs.Numbered.{IsLike, numbered}
use Rattle.immlog.specs.OpenLog.{OpenLog}

-- the block that comes after the first ones
record IsNext (blocks : List (List ℕ)) (n : ℕ) : Type 0 where
  block : List ℕ
  is : slice_get blocks n ≡ Some block
  left : drop n blocks ≡ block ∷ drop (suc n) blocks

next_of : (blocks : List (List ℕ)) (n : ℕ) → n < length blocks → IsNext blocks n
next_of [] n lt = absurd (omega (arith, lt))
next_of (b ∷ bs) zero lt = record { block = b; is = refl; left = refl }
next_of (b ∷ bs) (suc n) lt = let rest = next_of bs n (omega (arith, lt)) in record { block = rest.block; is = rest.is; left = rest.left }

abbrev failed : ReadFault → Result (Option (Vec ℕ Global)) ReadFault
failed fault = Err fault

module _ {D : Type 0} (keeps : Bool) (old : LogBlocks D) (new : OpenLog D) (same : new.blocks ≡ old.log.blocks) (more : old.passed < length old.log.blocks) where
  next : IsNext old.log.blocks old.passed
  next = next_of old.log.blocks old.passed more

  abbrev pub after : LogBlocks D
  after = record { log = new; passed = suc old.passed }

  left : blocks_left old ≡ next.block ∷ blocks_left after
  left = next.left ∙ ap (λ (bs : List (List ℕ)). next.block ∷ drop (suc old.passed) bs) (sym same)

  -- what is read of the log's block of this number is what the iterator gives
  abbrev pub Given : ℕ → Type 0
  Given number = (read : Result (Option (Vec ℕ Global)) ReadFault)
      → IfOk read (λ found. MatchOption found (numbered old.log.blocks number ≡ None) (λ bytes. IsLike old.log.blocks number bytes.items))
      → (keeps ≡ true → IfOk read (λ found. IfSome found (λ bytes. numbered old.log.blocks number ≡ Some bytes.items)))
      → ((told : ℕ) → IsErrOf read (Damaged told) → (told ≡ number) × (keeps ≡ true → ⊥))
      → GivesBlock keeps old (result_transpose read) (record { log = new; passed = number })

  given : Given (suc old.passed)
  given (Ok None) like exact damaged = absurd (none-some next.block (sym like ∙ next.is))
  given (Ok (Some bytes)) like exact damaged =
      let b : like.block ≡ next.block = same_Some like.block next.block (sym like.is_block ∙ next.is) in (
        same,
        next.block,
        left,
        record {
          bytes = record {
            long = like.long ∙ ap length b;
            same = like.same ∙ ap sha256 b;
            exact = λ keeping. same_Some bytes.items next.block (sym (exact keeping) ∙ next.is);
          };
          damaged = tt;
        },
      )
  given (Err fault) like exact damaged = (same, next.block, left, record { bytes = tt; damaged = λ told is. damaged told (ap failed is) })

  -- where the number is the next one
  pub given_at : (number : ℕ) → number ≡ suc old.passed → Given number
  given_at number is = subst Given (sym is) given
