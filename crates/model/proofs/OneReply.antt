-- Two replies to one event in one state are one, except for OutOfMemory.
use Rattle.std.proofs.Common.{◌≡◌, ◌≢◌, ℕ, ◌<◌, ◌≤◌, List, [], ◌∷◌, Option, Some, None, length, refl, sym, ap, subst, ◌∙◌, inl, inr, arith}
use Rattle.std.proofs.lemmas.Option.{same_Some}
use Rattle.model.specs.Block.{Block, block_text}
use Rattle.model.specs.Transaction.{Transaction, SpellsTransaction}
use Rattle.model.specs.Signature.{Verifies}
use Rattle.model.specs.Utxo.{Utxo}
use Rattle.model.specs.Rules.{Params}
use Rattle.model.specs.Ledger.{Network}
use Rattle.model.specs.Chain.{Point}
use Rattle.model.specs.Mempool.{utxo_after_all, next_slot, IsInMempool, IsJudged, Answers, SubmitReply, Added}
use Rattle.model.specs.Mempool as submission
use Rattle.model.specs.Follower.{Follower, Instruction, Stay, AddBlock, RollBack, IsNext, IsFirstOn}
use Rattle.model.specs.History.{State, Refusal, refusal_number, Applies, IsRefused, IsChange, Takes, Event, Arrive, Submit, Open, Next, Forward, Close, Discard, Reply, Kept, Refused, Submitted, Opened, TooManyFollowers, Instructed, Forwarded, Closed, UnknownFollower, Discarded, NotBeside, OutOfMemory, Step}
use Rattle.model.proofs.First.{one_first, one_number}
use Rattle.model.proofs.TransactionTexts.{one_transaction}
use Rattle.model.proofs.Changes.{one_change, taken_with}
use Rattle.model.proofs.LegalHistories.{IsSoundState, keeps_one}

none_some : {X : Type 0} (x : X) → None ≡ Some x → ⊥
none_some x e = absurd (cc)

-- ---- arrivals

refused_one : (network : Network) (s : State) (bytes : List ℕ) (r q : Refusal) → IsRefused network s bytes r → IsRefused network s bytes q → r ≡ q
refused_one network s bytes r q one two = one_first refusal_number (Applies network s bytes) (λ a b _ _ same. one_number a b same) r q one two

arrival_one : (network : Network) (s : State) (bytes : List ℕ) (r q : Reply) (t u : State) → IsSoundState network s → r ≢ OutOfMemory → q ≢ OutOfMemory → Step network s (Arrive bytes) r t → Step network s (Arrive bytes) q u → r ≡ q
arrival_one network s bytes (Kept back added) (Kept other_back other_added) t u sound enough enough_too one two =
    let same : t ≡ u = keeps_one network s bytes back added other_back other_added t u sound one two in
    let counts = one_change s.chain u.chain back added other_back other_added (subst (λ (x : State). IsChange s.chain x.chain back added) same one.change) two.change in
    λ i. Kept (counts.0 i) (counts.1 i)
arrival_one network s bytes (Kept back added) (Refused q) t u sound enough enough_too one two = absurd (one.not_refused q two.0.applies)
arrival_one network s bytes (Kept back added) OutOfMemory t u sound enough enough_too one two = absurd (enough_too refl)
arrival_one network s bytes (Kept back added) q t u sound enough enough_too one two = absurd two
arrival_one network s bytes (Refused r) (Kept back added) t u sound enough enough_too one two = absurd (two.not_refused r one.0.applies)
arrival_one network s bytes (Refused r) (Refused q) t u sound enough enough_too one two = ap Refused (refused_one network s bytes r q one.0 two.0)
arrival_one network s bytes (Refused r) OutOfMemory t u sound enough enough_too one two = absurd (enough_too refl)
arrival_one network s bytes (Refused r) q t u sound enough enough_too one two = absurd two
arrival_one network s bytes OutOfMemory q t u sound enough enough_too one two = absurd (enough refl)
arrival_one network s bytes r q t u sound enough enough_too one two = absurd one

-- ---- submissions

module _ (verifies : Verifies) (params : Params) (slot : ℕ) (unspent : Utxo) (max : ℕ) (txs : List Transaction) where
  -- the condition of an answer to this transaction
  abbrev IsAnswer : Transaction → SubmitReply → Type 0
  IsAnswer t submission.Malformed = ⊥
  IsAnswer t submission.Known = IsInMempool txs t
  IsAnswer t (submission.Refused reason) = IsJudged verifies params slot unspent max txs t (Some reason)
  IsAnswer t submission.Full = IsJudged verifies params slot unspent max txs t None × (max ≤ length txs)
  IsAnswer t Added = IsJudged verifies params slot unspent max txs t None × (length txs < max)

  answer_one : (t : Transaction) (r q : SubmitReply) → IsAnswer t r → IsAnswer t q → r ≡ q
  answer_one t submission.Known submission.Known one two = refl
  answer_one t submission.Known (submission.Refused reason) one two = absurd (two.0 one)
  answer_one t submission.Known submission.Full one two = absurd (two.0.0 one)
  answer_one t submission.Known Added one two = absurd (two.0.0 one)
  answer_one t (submission.Refused reason) submission.Known one two = absurd (one.0 two)
  answer_one t (submission.Refused reason) (submission.Refused other) one two = ap submission.Refused (same_Some reason other (sym one.1 ∙ two.1))
  answer_one t (submission.Refused reason) submission.Full one two = absurd (none_some reason (sym two.0.1 ∙ one.1))
  answer_one t (submission.Refused reason) Added one two = absurd (none_some reason (sym two.0.1 ∙ one.1))
  answer_one t submission.Full submission.Known one two = absurd (one.0.0 two)
  answer_one t submission.Full (submission.Refused reason) one two = absurd (none_some reason (sym one.0.1 ∙ two.1))
  answer_one t submission.Full submission.Full one two = refl
  answer_one t submission.Full Added one two = absurd (let a = one.1 in let b = two.1 in omega arith)
  answer_one t Added submission.Known one two = absurd (one.0.0 two)
  answer_one t Added (submission.Refused reason) one two = absurd (none_some reason (sym one.0.1 ∙ two.1))
  answer_one t Added submission.Full one two = absurd (let a = one.1 in let b = two.1 in omega arith)
  answer_one t Added Added one two = refl
  answer_one t submission.Malformed q one two = absurd one
  answer_one t r submission.Malformed one two = absurd two

  -- bytes that are no transaction's, or a transaction with its answer
  data Case (bytes : List ℕ) : SubmitReply → Type 0 where
    IsNone : ((t : Transaction) → SpellsTransaction t bytes → ⊥) → Case bytes submission.Malformed
    IsSome : (reply : SubmitReply) (t : Transaction) → SpellsTransaction t bytes → IsAnswer t reply → Case bytes reply

  case_of : (bytes : List ℕ) (reply : SubmitReply) → Answers verifies params slot unspent max txs bytes reply → Case bytes reply
  case_of bytes submission.Malformed answers = IsNone answers
  case_of bytes submission.Known answers = IsSome submission.Known answers.0 answers.1 answers.2
  case_of bytes (submission.Refused reason) answers = IsSome (submission.Refused reason) answers.0 answers.1 answers.2
  case_of bytes submission.Full answers = IsSome submission.Full answers.0 answers.1 answers.2
  case_of bytes Added answers = IsSome Added answers.0 answers.1 answers.2

  case_one : (bytes : List ℕ) (r q : SubmitReply) → Case bytes r → Case bytes q → r ≡ q
  case_one bytes r q (IsNone none) (IsNone none_too) = refl
  case_one bytes r q (IsNone none) (IsSome reply t spelled is) = absurd (none t spelled)
  case_one bytes r q (IsSome reply t spelled is) (IsNone none) = absurd (none t spelled)
  case_one bytes r q (IsSome reply t spelled is) (IsSome other u spelled_too is_too) =
      answer_one u reply other (subst (λ (x : Transaction). IsAnswer x reply) (one_transaction t u bytes spelled spelled_too) is) is_too

  pub answers_one : (bytes : List ℕ) (r q : SubmitReply) → Answers verifies params slot unspent max txs bytes r → Answers verifies params slot unspent max txs bytes q → r ≡ q
  answers_one bytes r q one two = case_one bytes r q (case_of bytes r one) (case_of bytes q two)

submission_one : (network : Network) (s : State) (bytes : List ℕ) (r q : SubmitReply) (t u : State) → Takes network s bytes r t → Takes network s bytes q u → r ≡ q
submission_one network s bytes r q t u one two =
    let a = one.submits in
    let b = two.submits in
    let same : a.utxo ≡ b.utxo = same_Some a.utxo b.utxo (sym a.of_chain ∙ b.of_chain) in
    answers_one network.verifies network.genesis.params (next_slot s.chain) (utxo_after_all b.utxo s.mempool) network.genesis.max_mempool s.mempool bytes r q
    (subst (λ (x : Utxo). Answers network.verifies network.genesis.params (next_slot s.chain) (utxo_after_all x s.mempool) network.genesis.max_mempool s.mempool bytes r) same a.answers) b.answers

submit_one : (network : Network) (s : State) (bytes : List ℕ) (r q : Reply) (t u : State) → r ≢ OutOfMemory → q ≢ OutOfMemory → Step network s (Submit bytes) r t → Step network s (Submit bytes) q u → r ≡ q
submit_one network s bytes (Submitted r) (Submitted q) t u enough enough_too one two = ap Submitted (submission_one network s bytes r q t u one two)
submit_one network s bytes (Submitted r) OutOfMemory t u enough enough_too one two = absurd (enough_too refl)
submit_one network s bytes (Submitted r) q t u enough enough_too one two = absurd two
submit_one network s bytes OutOfMemory q t u enough enough_too one two = absurd (enough refl)
submit_one network s bytes r q t u enough enough_too one two = absurd one

-- ---- followers

open_one : (network : Network) (s : State) (r q : Reply) (t u : State) → r ≢ OutOfMemory → q ≢ OutOfMemory → Step network s Open r t → Step network s Open q u → r ≡ q
open_one network s (Opened id) (Opened other) t u enough enough_too one two = ap Opened (one.is_free ∙ sym two.is_free)
open_one network s (Opened id) TooManyFollowers t u enough enough_too one two = absurd (let free = one.is_free in let few = one.few in let full = two.0 in omega arith)
open_one network s (Opened id) OutOfMemory t u enough enough_too one two = absurd (enough_too refl)
open_one network s (Opened id) q t u enough enough_too one two = absurd two
open_one network s TooManyFollowers (Opened id) t u enough enough_too one two = absurd (let free = two.is_free in let few = two.few in let full = one.0 in omega arith)
open_one network s TooManyFollowers TooManyFollowers t u enough enough_too one two = refl
open_one network s TooManyFollowers OutOfMemory t u enough enough_too one two = absurd (enough_too refl)
open_one network s TooManyFollowers q t u enough enough_too one two = absurd two
open_one network s OutOfMemory q t u enough enough_too one two = absurd (enough refl)
open_one network s r q t u enough enough_too one two = absurd one

instruction_one : (chain : List Block) (f : Follower) (r q : Instruction) (g h : Follower) → IsNext chain f r g → IsNext chain f q h → r ≡ q
instruction_one chain f Stay Stay g h one two = refl
instruction_one chain f Stay (RollBack point) g h one two = absurd (let a = one.0 in let b = two.0 in omega arith)
instruction_one chain f Stay (AddBlock bytes) g h one two = absurd (let below = (taken_with chain (length f.told) two.0 two.1.1).0 in let whole = ap length one.1 in omega arith)
instruction_one chain f (RollBack point) Stay g h one two = absurd (let a = one.0 in let b = two.0 in omega arith)
instruction_one chain f (RollBack point) (RollBack other) g h one two = ap RollBack (one.1 ∙ sym two.1)
instruction_one chain f (RollBack point) (AddBlock bytes) g h one two = absurd (let a = one.0 in let b = two.1.0 in omega arith)
instruction_one chain f (AddBlock bytes) Stay g h one two = absurd (let below = (taken_with chain (length f.told) one.0 one.1.1).0 in let whole = ap length two.1 in omega arith)
instruction_one chain f (AddBlock bytes) (RollBack point) g h one two = absurd (let a = two.0 in let b = one.1.0 in omega arith)
instruction_one chain f (AddBlock bytes) (AddBlock other) g h one two =
    let same : one.0 ≡ two.0 = same_Some one.0 two.0 (sym one.1.1 ∙ two.1.1) in
    ap AddBlock (one.2 ∙ (ap block_text same ∙ sym two.2))

next_reply_one : (network : Network) (s : State) (id : ℕ) (r q : Reply) (t u : State) → r ≢ OutOfMemory → q ≢ OutOfMemory → Step network s (Next id) r t → Step network s (Next id) q u → r ≡ q
next_reply_one network s id (Instructed r) (Instructed q) t u enough enough_too one two =
    let old : two.old ≡ one.old = same_Some two.old one.old (sym two.is_open ∙ one.is_open) in
    ap Instructed (instruction_one s.chain one.old r q one.new two.new one.next (subst (λ (f : Follower). IsNext s.chain f q two.new) old two.next))
next_reply_one network s id (Instructed r) UnknownFollower t u enough enough_too one two = absurd (none_some one.old (sym two.0 ∙ one.is_open))
next_reply_one network s id (Instructed r) OutOfMemory t u enough enough_too one two = absurd (enough_too refl)
next_reply_one network s id (Instructed r) q t u enough enough_too one two = absurd two
next_reply_one network s id UnknownFollower (Instructed q) t u enough enough_too one two = absurd (none_some two.old (sym one.0 ∙ two.is_open))
next_reply_one network s id UnknownFollower UnknownFollower t u enough enough_too one two = refl
next_reply_one network s id UnknownFollower OutOfMemory t u enough enough_too one two = absurd (enough_too refl)
next_reply_one network s id UnknownFollower q t u enough enough_too one two = absurd two
next_reply_one network s id OutOfMemory q t u enough enough_too one two = absurd (enough refl)
next_reply_one network s id r q t u enough enough_too one two = absurd one

found_one : (chain : List Block) (points : List Point) (r q : Option Point) → IsFirstOn chain points r → IsFirstOn chain points q → r ≡ q
found_one chain [] r q one two = one ∙ sym two
found_one chain (p ∷ ps) r q (inl here) (inl here_too) = here.1 ∙ sym here_too.1
found_one chain (p ∷ ps) r q (inl here) (inr later) = absurd (later.0 here.0)
found_one chain (p ∷ ps) r q (inr later) (inl here) = absurd (later.0 here.0)
found_one chain (p ∷ ps) r q (inr later) (inr later_too) = found_one chain ps r q later.1 later_too.1

forward_one : (network : Network) (s : State) (id : ℕ) (points : List Point) (r q : Reply) (t u : State) → r ≢ OutOfMemory → q ≢ OutOfMemory → Step network s (Forward id points) r t → Step network s (Forward id points) q u → r ≡ q
forward_one network s id points (Forwarded r) (Forwarded q) t u enough enough_too one two = ap Forwarded (found_one s.chain points r q one.first two.first)
forward_one network s id points (Forwarded r) UnknownFollower t u enough enough_too one two = absurd (none_some one.old (sym two.0 ∙ one.is_open))
forward_one network s id points (Forwarded r) OutOfMemory t u enough enough_too one two = absurd (enough_too refl)
forward_one network s id points (Forwarded r) q t u enough enough_too one two = absurd two
forward_one network s id points UnknownFollower (Forwarded q) t u enough enough_too one two = absurd (none_some two.old (sym one.0 ∙ two.is_open))
forward_one network s id points UnknownFollower UnknownFollower t u enough enough_too one two = refl
forward_one network s id points UnknownFollower OutOfMemory t u enough enough_too one two = absurd (enough_too refl)
forward_one network s id points UnknownFollower q t u enough enough_too one two = absurd two
forward_one network s id points OutOfMemory q t u enough enough_too one two = absurd (enough refl)
forward_one network s id points r q t u enough enough_too one two = absurd one

close_one : (network : Network) (s : State) (id : ℕ) (r q : Reply) (t u : State) → r ≢ OutOfMemory → q ≢ OutOfMemory → Step network s (Close id) r t → Step network s (Close id) q u → r ≡ q
close_one network s id Closed Closed t u enough enough_too one two = refl
close_one network s id Closed UnknownFollower t u enough enough_too one two = absurd (none_some one.old (sym two.0 ∙ one.is_open))
close_one network s id Closed OutOfMemory t u enough enough_too one two = absurd (enough_too refl)
close_one network s id Closed q t u enough enough_too one two = absurd two
close_one network s id UnknownFollower Closed t u enough enough_too one two = absurd (none_some two.old (sym one.0 ∙ two.is_open))
close_one network s id UnknownFollower UnknownFollower t u enough enough_too one two = refl
close_one network s id UnknownFollower OutOfMemory t u enough enough_too one two = absurd (enough_too refl)
close_one network s id UnknownFollower q t u enough enough_too one two = absurd two
close_one network s id OutOfMemory q t u enough enough_too one two = absurd (enough refl)
close_one network s id r q t u enough enough_too one two = absurd one

-- ---- discarded blocks

discard_one : (network : Network) (s : State) (hash : List ℕ) (r q : Reply) (t u : State) → r ≢ OutOfMemory → q ≢ OutOfMemory → Step network s (Discard hash) r t → Step network s (Discard hash) q u → r ≡ q
discard_one network s hash Discarded Discarded t u enough enough_too one two = refl
discard_one network s hash Discarded NotBeside t u enough enough_too one two = absurd (two.0 one.beside)
discard_one network s hash Discarded OutOfMemory t u enough enough_too one two = absurd (enough_too refl)
discard_one network s hash Discarded q t u enough enough_too one two = absurd two
discard_one network s hash NotBeside Discarded t u enough enough_too one two = absurd (one.0 two.beside)
discard_one network s hash NotBeside NotBeside t u enough enough_too one two = refl
discard_one network s hash NotBeside OutOfMemory t u enough enough_too one two = absurd (enough_too refl)
discard_one network s hash NotBeside q t u enough enough_too one two = absurd two
discard_one network s hash OutOfMemory q t u enough enough_too one two = absurd (enough refl)
discard_one network s hash r q t u enough enough_too one two = absurd one

-- ---- any event

pub reply_one : (network : Network) (s : State) (event : Event) (r q : Reply) (t u : State) → IsSoundState network s → r ≢ OutOfMemory → q ≢ OutOfMemory → Step network s event r t → Step network s event q u → r ≡ q
reply_one network s (Arrive bytes) r q t u sound enough enough_too one two = arrival_one network s bytes r q t u sound enough enough_too one two
reply_one network s (Submit bytes) r q t u sound enough enough_too one two = submit_one network s bytes r q t u enough enough_too one two
reply_one network s Open r q t u sound enough enough_too one two = open_one network s r q t u enough enough_too one two
reply_one network s (Next id) r q t u sound enough enough_too one two = next_reply_one network s id r q t u enough enough_too one two
reply_one network s (Forward id points) r q t u sound enough enough_too one two = forward_one network s id points r q t u enough enough_too one two
reply_one network s (Close id) r q t u sound enough enough_too one two = close_one network s id r q t u enough enough_too one two
reply_one network s (Discard hash) r q t u sound enough enough_too one two = discard_one network s hash r q t u enough enough_too one two
