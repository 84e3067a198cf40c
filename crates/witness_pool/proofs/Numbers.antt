-- Jobs are numbered 1, 2 and so on.
use Rattle.std.proofs.Common.{◌≡◌, ℕ, ◌+◌, List, [], ◌∷◌, ◌++◌, length, zero, suc, sym, ◌∙◌, ap, length-append, arith}
use Rattle.std.specs.List.{range_with_len}
use Rattle.std.proofs.lemmas.List.{map-append, length-map}
use Rattle.model.specs.Transaction.{Transaction}
use Rattle.witness_pool.specs.Jobs.{txs_of, numbers_of}
use Rattle.witness_pool.specs.declared.pool.Job.{Job}

-- one number more stands last
one_number_more : (first n : ℕ) → range_with_len first (suc n) ≡ range_with_len first n ++ (first + n) ∷ []
one_number_more first zero = ap (λ (k : ℕ). k ∷ []) (omega arith)
one_number_more first (suc n) = ap (λ (l : List ℕ). first ∷ l) (one_number_more (first + 1) n ∙ ap (λ (k : ℕ). range_with_len (first + 1) n ++ k ∷ []) (omega arith))

-- these jobs are these transactions with their numbers
abbrev pub AreNumbered : List Job → List Transaction → Type 0
AreNumbered jobs txs = (txs_of jobs ≡ txs) × (numbers_of jobs ≡ range_with_len 1 (length txs))

-- and one more
pub numbered_on : (old new : List Job) (txs : List Transaction) (job : Job) → new ≡ old ++ job ∷ [] → job.number ≡ length old + 1 → AreNumbered old txs → AreNumbered new (txs ++ job.tx ∷ [])
numbered_on old new txs job pushed next (same, numbered) =
    let is_next : job.number ≡ 1 + length txs = omega (arith, next, length-map old (λ (j : Job). j.tx), ap length same) in
    let long : suc (length txs) ≡ length (txs ++ job.tx ∷ []) = omega (arith, length-append txs (job.tx ∷ [])) in (
      ap txs_of pushed ∙ map-append (λ (j : Job). j.tx) old (job ∷ []) ∙ ap (λ (l : List Transaction). l ++ job.tx ∷ []) same,
      ap numbers_of pushed ∙ map-append (λ (j : Job). j.number) old (job ∷ []) ∙ ap (λ (l : List ℕ). l ++ job.number ∷ []) numbered ∙ ap (λ (k : ℕ). range_with_len 1 (length txs) ++ k ∷ []) is_next
          ∙ sym (one_number_more 1 (length txs)) ∙ ap (range_with_len 1) long,
    )
