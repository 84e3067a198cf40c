-- What every legal history keeps, and that it determines its state.
use Rattle.std.proofs.Common.{◌≡◌, ◌≢◌, ℕ, ◌+◌, ◌-◌, zero, suc, ◌<◌, ◌≤◌, ◌↔◌, Bool, true, false, cond, List, [], ◌∷◌, Some, None, take, drop, length, Contains, refl, sym, ap, subst, ◌∙◌, arith, inl, inr, ◌⊎◌}
use Rattle.std.specs.Prelude.{nat_lt, bytes_eq, not, slice_set}
use Rattle.std.specs.List.{AllByRecursion, filter}
use Rattle.std.proofs.lemmas.Bool.{lt-ltb, ltb-true}
use Rattle.std.proofs.lemmas.List.{take-append-drop}
use Rattle.std.proofs.lemmas.List.Elements.{Contains-append_left}
use Rattle.std.proofs.lemmas.Option.{same_Some}
use Rattle.model.specs.Block.{Block, SpellsBlock, block_text, block_hash_of}
use Rattle.model.specs.Genesis.{Genesis}
use Rattle.model.specs.Signature.{Verifies}
use Rattle.model.specs.Ledger.{Network, network_of}
use Rattle.model.specs.Chain.{Tip, tip_at, genesis_tip, IsLinked, IsOpening, IsValidChain, NoneLonger, IsSelection, Stays, Changes, HaveDistinctHashes, immutable_length, immutable_part, live_blocks, BeginsWith}
use Rattle.model.specs.Mempool.{SubmitReply, IsValidMempool, revalidated}
use Rattle.model.specs.Follower.{Follower, Followers, Instruction, IsNext, AreMoved, follower_of, standing_at, with_opened}
use Rattle.model.specs.History.{State, opening, live_of, Refusal, Known, Clash, Applies, Event, Arrive, Submit, Open, Next, Forward, Close, Discard, Reply, Kept, Refused, Submitted, Opened, TooManyFollowers, Instructed, Forwarded, Closed, UnknownFollower, Discarded, NotBeside, OutOfMemory, Keeps, Takes, Instructs, with_follower, without_hash, Discards, Step, Entry, IsRun, IsLegal, BringsBlock, DropsBlock, NoneDrops, IsKeptBy, length_with, length_from}
use Rattle.model.proofs.Lists.{all_of_member, all_weaker, all_from_members, all_filter_narrower, all_both, all_take, contains_first, contains_later, contains_cases}
use Rattle.model.proofs.Discarding.{without_member, left_without, distinct_passing}
use Rattle.model.proofs.Chains.{begins_with_itself, begins_with_whole, begins_earlier}
use Rattle.model.proofs.Selections.{one_selection, selection_valid, selection_longer, selection_not_shorter, selection_begins, selection_longest}
use Rattle.model.proofs.BlockTexts.{one_block, block_text_is}
use Rattle.model.proofs.FollowerSteps.{AllSound, begins_take, begins_fewer, standing_sound, next_sound, next_one, moved_one, moved_all_sound, opened_all_sound, set_all_sound, closed_all_sound}
use Rattle.model.proofs.MempoolSteps.{up_to_date, nothing_valid, submitted_valid, submitted_one}

-- ---- live blocks have distinct hashes

pub narrower_distinct : (p q : Block → Bool) (bs : List Block) → ((b : Block) → q b ≡ true → p b ≡ true) → HaveDistinctHashes (filter p bs) → HaveDistinctHashes (filter q bs)
narrower_distinct p q [] narrower distinct = tt
narrower_distinct p q (x ∷ xs) narrower distinct = one (p x) (q x) (narrower x) distinct (narrower_distinct p q xs narrower)
  where
    one : (b c : Bool) → (c ≡ true → b ≡ true) → HaveDistinctHashes (cond b (x ∷ filter p xs) (filter p xs)) → (HaveDistinctHashes (filter p xs) → HaveDistinctHashes (filter q xs)) → HaveDistinctHashes (cond c (x ∷ filter q xs) (filter q xs))
    one true true n d more = (all_filter_narrower (λ c. block_hash_of c ≢ block_hash_of x) p q xs narrower d.0, more d.1)
    one true false n d more = more d.1
    one false false n d more = more d
    one false true n d more = absurd (let e : false ≡ true = n refl in cc)

-- a block that is not refused has another hash than the live blocks
new_hash : (network : Network) (s : State) (bytes : List ℕ) (b : Block) → SpellsBlock b bytes → ((refusal : Refusal) → Applies network s bytes refusal → ⊥)
    → AllByRecursion (λ c. block_hash_of c ≢ block_hash_of b) (live_of network s)
new_hash network s bytes b spelled not_refused =
    all_from_members (λ c. block_hash_of c ≢ block_hash_of b) (live_of network s)
    (λ c member same. not_refused Clash (b, spelled, (c, inl member, same, λ text. not_refused Known (c, member, text))))

-- with a block that is not refused the live blocks have distinct hashes still
pub distinct_with : (network : Network) (s : State) (bytes : List ℕ) (b : Block) → HaveDistinctHashes (live_of network s) → SpellsBlock b bytes
    → ((refusal : Refusal) → Applies network s bytes refusal → ⊥) → HaveDistinctHashes (live_blocks network (b ∷ s.kept) s.chain)
distinct_with network s bytes b distinct spelled not_refused = with_test (nat_lt (immutable_length network s.chain) b.header.number)
  where
    with_test : (t : Bool) → HaveDistinctHashes (cond t (b ∷ live_of network s) (live_of network s))
    with_test true = (new_hash network s bytes b spelled not_refused, distinct)
    with_test false = distinct

-- ---- what each step keeps

-- the block is the one of its text
abbrev pub HasItsText : Block → Type 0
HasItsText b = SpellsBlock b (block_text b)

-- a state as legal histories leave it
pub record IsSoundState (network : Network) (s : State) : Type 0 where
  pub valid : IsValidChain network s.chain
  pub longest : NoneLonger network s.kept s.chain
  pub distinct : HaveDistinctHashes (live_of network s)
  pub mempool : IsValidMempool network s.chain s.mempool
  pub members : AllByRecursion (Contains s.kept) s.chain
  pub spelled : AllByRecursion HasItsText s.kept
  pub followers : AllSound network.genesis.k s.chain s.followers

-- the numbers of a linked chain are at most those of its places
pub numbers_within : (tip : Tip) (chain : List Block) → IsLinked tip chain → AllByRecursion (λ b. b.header.number ≤ tip.number + length chain) chain
numbers_within tip [] linked = tt
numbers_within tip (b ∷ bs) linked = (
  (let first = linked.0.number in omega arith),
  all_weaker (λ c. c.header.number ≤ b.header.number + length bs) (λ c. c.header.number ≤ tip.number + length (b ∷ bs)) bs (λ c le. let first = linked.0.number in omega arith) (numbers_within (tip_at b) bs linked.1),
)

-- a linked chain of blocks whose numbers are at most this is no longer
linked_within : (n : ℕ) (tip : Tip) (chain : List Block) → IsLinked tip chain → tip.number ≤ n → AllByRecursion (λ b. b.header.number ≤ n) chain → tip.number + length chain ≤ n
linked_within n tip [] linked at within = omega arith
linked_within n tip (b ∷ bs) linked at within = let first = linked.0.number in let rest = linked_within n (tip_at b) bs linked.1 within.0 within.1 in omega arith

-- so no valid chain of the blocks of a valid chain is longer
pub none_longer_than_all : (network : Network) (opened : List Block) → IsValidChain network opened → NoneLonger network opened opened
none_longer_than_all network opened valid candidate is =
    let numbers = numbers_within genesis_tip opened valid.linked in
    let no_longer = linked_within (length opened) genesis_tip candidate is.valid.linked (omega arith)
    (all_weaker (Contains opened) (λ b. b.header.number ≤ length opened) candidate (λ b member. let le = all_of_member (λ c. c.header.number ≤ 0 + length opened) opened b numbers member in omega arith) is.members) in
    omega arith

-- none of blocks with such numbers is past this one
pub none_past : (n : ℕ) (bs : List Block) → AllByRecursion (λ b. b.header.number ≤ n) bs → filter (λ b. nat_lt n b.header.number) bs ≡ []
none_past n [] old = refl
none_past n (b ∷ bs) old = not_this (nat_lt n b.header.number) refl (none_past n bs old.1)
  where
    not_this : (t : Bool) → nat_lt n b.header.number ≡ t → filter (λ c. nat_lt n c.header.number) bs ≡ [] → cond t (b ∷ filter (λ c. nat_lt n c.header.number) bs) (filter (λ c. nat_lt n c.header.number) bs) ≡ []
    not_this true is rest = absurd (let lt = ltb-true n b.header.number is in let le = old.0 in omega arith)
    not_this false is rest = rest

-- a new node is opened on no block, which is a valid chain
pub opens_nothing : (genesis : Genesis) (verifies : Verifies) → IsOpening (network_of genesis verifies)
opens_nothing genesis verifies = record { valid = record { linked = tt; sizes = tt; ledger = refl }; spelled = tt }

-- so of a chain that is opened on no block is live
pub none_live_at_start : (network : Network) → IsValidChain network network.opened → live_blocks network network.opened network.opened ≡ []
none_live_at_start network valid = none_past (immutable_length network network.opened) network.opened
    (all_weaker (λ b. b.header.number ≤ 0 + length network.opened) (λ b. b.header.number ≤ immutable_length network network.opened) network.opened (λ b le. omega arith) (numbers_within genesis_tip network.opened valid.linked))

no_follower : (id : ℕ) (f : Follower) → follower_of [] id ≡ Some f → ⊥
no_follower zero f is = let e : None ≡ Some f = is in cc
no_follower (suc id) f is = let e : None ≡ Some f = is in cc

pub opening_sound : (network : Network) → IsOpening network → IsSoundState network (opening network)
opening_sound network opens = record {
  valid = opens.valid;
  longest = none_longer_than_all network network.opened opens.valid;
  distinct = subst HaveDistinctHashes (sym (none_live_at_start network opens.valid)) tt;
  mempool = nothing_valid network network.opened;
  members = all_from_members (Contains network.opened) network.opened (λ b member. member);
  spelled = opens.spelled;
  followers = λ id f is. absurd (no_follower id f is);
}

-- a block that bytes spell is the one of its text
spelled_by : (b : Block) (bytes : List ℕ) → SpellsBlock b bytes → HasItsText b
spelled_by b bytes read = subst (SpellsBlock b) (sym (block_text_is b bytes read)) read

-- the blocks of the selected chain are kept
selected_kept : (network : Network) (kept more old new : List Block) (b : Block) → more ≡ b ∷ kept → AllByRecursion (Contains kept) old → IsSelection network more old new → AllByRecursion (Contains more) new
selected_kept network kept more old new b is members (Stays none) =
    all_weaker (Contains kept) (Contains more) old (λ c member. subst (λ (bs : List Block). Contains bs c) (sym is) (contains_later b kept c member)) members
selected_kept network kept more old new b is members (Changes chosen changes) = changes.candidate.members

keeps_sound : (network : Network) (s : State) (bytes : List ℕ) (back added : ℕ) (t : State) → IsSoundState network s → Keeps network s bytes back added t → IsSoundState network t
keeps_sound network s bytes back added t sound keeps =
    let more = selection_not_shorter network t.kept s.chain t.chain keeps.selection in
    let distinct : HaveDistinctHashes (live_blocks network t.kept s.chain) = subst (λ (bs : List Block). HaveDistinctHashes (live_blocks network bs s.chain)) (sym keeps.kept) (distinct_with network s bytes keeps.block sound.distinct keeps.read keeps.not_refused) in
    record {
      valid = selection_valid network t.kept s.chain t.chain sound.valid keeps.selection;
      longest = selection_longest network t.kept s.chain t.chain keeps.selection;
      distinct = narrower_distinct (λ b. nat_lt (immutable_length network s.chain) b.header.number) (λ b. nat_lt (immutable_length network t.chain) b.header.number) t.kept
          (λ b passes. lt-ltb (immutable_length network s.chain) b.header.number (let past = ltb-true (immutable_length network t.chain) b.header.number passes in omega arith)) distinct;
      mempool = subst (IsValidMempool network t.chain) (sym keeps.mempool) (up_to_date network t.chain s.mempool);
      members = selected_kept network s.kept t.kept s.chain t.chain keeps.block keeps.kept sound.members keeps.selection;
      spelled = subst (AllByRecursion HasItsText) (sym keeps.kept) (spelled_by keeps.block bytes keeps.read, sound.spelled);
      followers = moved_all_sound network.genesis.k s.chain t.chain s.followers t.followers (selection_longer network t.kept s.chain t.chain keeps.selection)
          (begins_fewer s.chain t.chain (length s.chain - network.genesis.k) (immutable_length network s.chain) (omega arith) (selection_begins network t.kept s.chain t.chain keeps.selection)) sound.followers keeps.followers;
    }

discards_sound : (network : Network) (s : State) (hash : List ℕ) (t : State) → IsSoundState network s → Discards network s hash t → IsSoundState network t
discards_sound network s hash t sound discards =
    let left = without_hash hash s.kept in
    let members : AllByRecursion (Contains left) s.chain = all_weaker (λ b. Contains s.kept b × (block_hash_of b ≢ hash)) (Contains left) s.chain (λ b is. left_without hash s.kept b is.0 is.1)
    (all_both (Contains s.kept) (λ b. block_hash_of b ≢ hash) s.chain sound.members discards.beside.apart) in
    subst (IsSoundState network) (sym discards.after) record {
      valid = sound.valid;
      longest = λ candidate is. sound.longest candidate record {
        valid = is.valid;
        members = all_weaker (Contains left) (Contains s.kept) candidate (λ b member. (without_member hash s.kept b member).0) is.members;
        begins = is.begins;
      };
      distinct = distinct_passing (λ b. nat_lt (immutable_length network s.chain) b.header.number) (λ b. not (bytes_eq (block_hash_of b) hash)) s.kept sound.distinct;
      mempool = sound.mempool;
      members = members;
      spelled = all_from_members HasItsText left (λ b member. all_of_member HasItsText s.kept b sound.spelled (without_member hash s.kept b member).0);
      followers = sound.followers;
    }

-- a step that neither keeps a block nor discards one, nor changes the chain, and leaves the mempool valid
pub record IsQuiet (network : Network) (s : State) (event : Event) (reply : Reply) (t : State) : Type 0 where
  pub kept : t.kept ≡ s.kept
  pub chain : t.chain ≡ s.chain
  pub counted : (n : ℕ) → length_with n reply ≡ n
  pub brings_none : (b : Block) → BringsBlock event reply b → ⊥
  pub drops_none : (b : Block) → DropsBlock event reply b → ⊥
  pub mempool : IsValidMempool network s.chain s.mempool → IsValidMempool network t.chain t.mempool
  pub followers : AllSound network.genesis.k s.chain s.followers → AllSound network.genesis.k t.chain t.followers

-- a step keeps a block, or discards one, or is quiet
pub data Kind (network : Network) (s : State) : Event → Reply → State → Type 0 where
  Keeping : (bytes : List ℕ) (back added : ℕ) (t : State) → Keeps network s bytes back added t → Kind network s (Arrive bytes) (Kept back added) t
  Discarding : (hash : List ℕ) (t : State) → Discards network s hash t → Kind network s (Discard hash) Discarded t
  Quiet : (event : Event) (reply : Reply) (t : State) → IsQuiet network s event reply t → Kind network s event reply t

-- a step that leaves the state is quiet
still : (network : Network) (s : State) (event : Event) (reply : Reply) (t : State) → ((n : ℕ) → length_with n reply ≡ n) → ((b : Block) → BringsBlock event reply b → ⊥) → ((b : Block) → DropsBlock event reply b → ⊥) → t ≡ s → IsQuiet network s event reply t
still network s event reply t counted none stays same = record {
  kept = ap (λ (u : State). u.kept) same;
  chain = ap (λ (u : State). u.chain) same;
  counted = counted;
  brings_none = none;
  drops_none = stays;
  mempool = subst (λ (u : State). IsValidMempool network u.chain u.mempool) (sym same);
  followers = subst (λ (u : State). AllSound network.genesis.k u.chain u.followers) (sym same);
}

-- a step that leaves all but the followers is quiet
re_followed : (network : Network) (s : State) (event : Event) (reply : Reply) (followers : Followers) (t : State) → ((n : ℕ) → length_with n reply ≡ n) → ((b : Block) → BringsBlock event reply b → ⊥) → ((b : Block) → DropsBlock event reply b → ⊥)
    → t ≡ record s { followers = followers } → (AllSound network.genesis.k s.chain s.followers → AllSound network.genesis.k s.chain followers) → IsQuiet network s event reply t
re_followed network s event reply followers t counted none stays same sound = record {
  kept = ap (λ (u : State). u.kept) same;
  chain = ap (λ (u : State). u.chain) same;
  counted = counted;
  brings_none = none;
  drops_none = stays;
  mempool = subst (λ (u : State). IsValidMempool network u.chain u.mempool) (sym same);
  followers = λ before. subst (λ (u : State). AllSound network.genesis.k u.chain u.followers) (sym same) (sound before);
}

pub kind_of : (network : Network) (s : State) (event : Event) (reply : Reply) (t : State) → Step network s event reply t → Kind network s event reply t
kind_of network s (Arrive bytes) (Kept back added) t step = Keeping bytes back added t step
kind_of network s (Arrive bytes) (Refused refusal) t step = Quiet (Arrive bytes) (Refused refusal) t (still network s (Arrive bytes) (Refused refusal) t (λ n. refl) (λ b no'. no') (λ b no'. no') step.1)
kind_of network s (Submit bytes) (Submitted answer) t step = Quiet (Submit bytes) (Submitted answer) t (record {
  kept = ap (λ (u : State). u.kept) step.after;
  chain = ap (λ (u : State). u.chain) step.after;
  counted = λ n. refl;
  brings_none = λ b no'. no';
  drops_none = λ b no'. no';
  mempool = λ valid. subst (λ (u : State). IsValidMempool network u.chain u.mempool) (sym step.after) (submitted_valid network s.chain s.mempool bytes answer step.mempool step.submits valid);
  followers = subst (λ (u : State). AllSound network.genesis.k u.chain u.followers) (sym step.after);
})
kind_of network s Open (Opened id) t step = Quiet Open (Opened id) t
    (re_followed network s Open (Opened id) (with_opened s.followers) t (λ n. refl) (λ b no'. no') (λ b no'. no') step.after (opened_all_sound network.genesis.k s.chain s.followers))
kind_of network s Open TooManyFollowers t step = Quiet Open TooManyFollowers t (still network s Open TooManyFollowers t (λ n. refl) (λ b no'. no') (λ b no'. no') step.1)
kind_of network s (Next id) (Instructed instruction) t step = Quiet (Next id) (Instructed instruction) t
    (re_followed network s (Next id) (Instructed instruction) (slice_set s.followers id (Some step.new)) t (λ n. refl) (λ b no'. no') (λ b no'. no') step.after
    (λ sound. set_all_sound network.genesis.k s.chain s.followers id step.new sound (next_sound network.genesis.k s.chain step.old instruction step.new (sound id step.old step.is_open) step.next)))
kind_of network s (Next id) UnknownFollower t step = Quiet (Next id) UnknownFollower t (still network s (Next id) UnknownFollower t (λ n. refl) (λ b no'. no') (λ b no'. no') step.1)
kind_of network s (Forward id points) (Forwarded None) t step = Quiet (Forward id points) (Forwarded None) t (still network s (Forward id points) (Forwarded None) t (λ n. refl) (λ b no'. no') (λ b no'. no') step.after)
kind_of network s (Forward id points) (Forwarded (Some point)) t step = Quiet (Forward id points) (Forwarded (Some point)) t
    (let part = take point.number s.chain in
    re_followed network s (Forward id points) (Forwarded (Some point)) (slice_set s.followers id (Some (standing_at part))) t (λ n. refl) (λ b no'. no') (λ b no'. no') step.after
    (λ sound. set_all_sound network.genesis.k s.chain s.followers id (standing_at part) sound (standing_sound network.genesis.k s.chain part (begins_take point.number s.chain))))
kind_of network s (Forward id points) UnknownFollower t step = Quiet (Forward id points) UnknownFollower t (still network s (Forward id points) UnknownFollower t (λ n. refl) (λ b no'. no') (λ b no'. no') step.1)
kind_of network s (Close id) Closed t step = Quiet (Close id) Closed t
    (re_followed network s (Close id) Closed (slice_set s.followers id None) t (λ n. refl) (λ b no'. no') (λ b no'. no') step.after (closed_all_sound network.genesis.k s.chain s.followers id))
kind_of network s (Close id) UnknownFollower t step = Quiet (Close id) UnknownFollower t (still network s (Close id) UnknownFollower t (λ n. refl) (λ b no'. no') (λ b no'. no') step.1)
kind_of network s (Discard hash) Discarded t step = Discarding hash t step
kind_of network s (Discard hash) NotBeside t step = Quiet (Discard hash) NotBeside t (still network s (Discard hash) NotBeside t (λ n. refl) (λ b no'. no') (λ b no'. no') step.1)
kind_of network s event OutOfMemory t step = Quiet event OutOfMemory t (still network s event OutOfMemory t (λ n. refl) (λ b no'. no') (λ b no'. no') step)
kind_of network s event reply t step = absurd step

quiet_sound : (network : Network) (s : State) (event : Event) (reply : Reply) (t : State) → IsSoundState network s → IsQuiet network s event reply t → IsSoundState network t
quiet_sound network s event reply t sound quiet = record {
  valid = subst (IsValidChain network) (sym quiet.chain) sound.valid;
  longest = subst (λ (bs : List Block). NoneLonger network bs t.chain) (sym quiet.kept) (subst (λ (c : List Block). NoneLonger network s.kept c) (sym quiet.chain) sound.longest);
  distinct = subst (λ (bs : List Block). HaveDistinctHashes (live_blocks network bs t.chain)) (sym quiet.kept) (subst (λ (c : List Block). HaveDistinctHashes (live_blocks network s.kept c)) (sym quiet.chain) sound.distinct);
  mempool = quiet.mempool sound.mempool;
  members = subst (λ (bs : List Block). AllByRecursion (Contains bs) t.chain) (sym quiet.kept) (subst (AllByRecursion (Contains s.kept)) (sym quiet.chain) sound.members);
  spelled = subst (AllByRecursion HasItsText) (sym quiet.kept) sound.spelled;
  followers = quiet.followers sound.followers;
}

kind_sound : (network : Network) (s : State) (event : Event) (reply : Reply) (t : State) → IsSoundState network s → Kind network s event reply t → IsSoundState network t
kind_sound network s event reply t sound (Keeping bytes back added u keeps) = keeps_sound network s bytes back added u sound keeps
kind_sound network s event reply t sound (Discarding hash u discards) = discards_sound network s hash u sound discards
kind_sound network s event reply t sound (Quiet e r u quiet) = quiet_sound network s e r u sound quiet

pub step_sound : (network : Network) (s : State) (event : Event) (reply : Reply) (t : State) → IsSoundState network s → Step network s event reply t → IsSoundState network t
step_sound network s event reply t sound step = kind_sound network s event reply t sound (kind_of network s event reply t step)

pub run_sound : (network : Network) (s : State) (es : List Entry) (t : State) → IsSoundState network s → IsRun network s es t → IsSoundState network t
run_sound network s [] t sound run = subst (IsSoundState network) (sym run) sound
run_sound network s (e ∷ es) t sound run = run_sound network run.0 es t (step_sound network s e.event e.reply run.0 sound run.1) run.2

pub legal_sound : (network : Network) (history : List Entry) (s : State) → IsOpening network → IsLegal network history s → IsSoundState network s
legal_sound network history s opens legal = run_sound network (opening network) history s (opening_sound network opens) legal

-- ---- a history determines its state

pub keeps_one : (network : Network) (s : State) (bytes : List ℕ) (back added other_back other_added : ℕ) (t u : State) → IsSoundState network s → Keeps network s bytes back added t → Keeps network s bytes other_back other_added u → t ≡ u
keeps_one network s bytes back added other_back other_added t u sound first second =
    let blocks : first.block ≡ second.block = one_block first.block second.block bytes first.read second.read in
    let kept : t.kept ≡ u.kept = first.kept ∙ (ap (λ (b : Block). b ∷ s.kept) blocks ∙ sym second.kept) in
    let distinct : HaveDistinctHashes (live_blocks network u.kept s.chain) = subst (λ (bs : List Block). HaveDistinctHashes (live_blocks network bs s.chain)) (sym second.kept) (distinct_with network s bytes second.block sound.distinct second.read second.not_refused) in
    let chain : t.chain ≡ u.chain = one_selection network u.kept s.chain t.chain u.chain distinct (subst (λ (bs : List Block). IsSelection network bs s.chain t.chain) kept first.selection) second.selection in
    let followers : t.followers ≡ u.followers = moved_one u.chain s.followers t.followers u.followers (subst (λ (c : List Block). AreMoved c s.followers t.followers) chain first.followers) second.followers in
    let mempool : t.mempool ≡ u.mempool = first.mempool ∙ (ap (λ (c : List Block). revalidated network c s.mempool) chain ∙ sym second.mempool) in
    λ i. record { kept = kept i; chain = chain i; mempool = mempool i; followers = followers i }

takes_one : (network : Network) (s : State) (bytes : List ℕ) (answer : SubmitReply) (t u : State) → Takes network s bytes answer t → Takes network s bytes answer u → t ≡ u
takes_one network s bytes answer t u first second =
    let mempool : first.mempool ≡ second.mempool = submitted_one s.mempool bytes answer first.mempool second.mempool first.submits.mempool second.submits.mempool in
    first.after ∙ ((λ i. record { kept = s.kept; chain = s.chain; mempool = mempool i; followers = s.followers }) ∙ sym second.after)

instructs_one : (s : State) (id : ℕ) (instruction : Instruction) (t u : State) → Instructs s id instruction t → Instructs s id instruction u → t ≡ u
instructs_one s id instruction t u first second =
    let old : first.old ≡ second.old = same_Some first.old second.old (sym first.is_open ∙ second.is_open) in
    let new : first.new ≡ second.new = next_one s.chain first.old instruction first.new second.new first.next (subst (λ (f : Follower). IsNext s.chain f instruction second.new) (sym old) second.next) in
    first.after ∙ (ap (λ (f : Follower). with_follower s id (Some f)) new ∙ sym second.after)

pub step_one : (network : Network) (s : State) (event : Event) (reply : Reply) (t u : State) → IsSoundState network s → Step network s event reply t → Step network s event reply u → t ≡ u
step_one network s (Arrive bytes) (Kept back added) t u sound first second = keeps_one network s bytes back added back added t u sound first second
step_one network s (Arrive bytes) (Refused refusal) t u sound first second = first.1 ∙ sym second.1
step_one network s (Submit bytes) (Submitted answer) t u sound first second = takes_one network s bytes answer t u first second
step_one network s Open (Opened id) t u sound first second = first.after ∙ sym second.after
step_one network s Open TooManyFollowers t u sound first second = first.1 ∙ sym second.1
step_one network s (Next id) (Instructed instruction) t u sound first second = instructs_one s id instruction t u first second
step_one network s (Next id) UnknownFollower t u sound first second = first.1 ∙ sym second.1
step_one network s (Forward id points) (Forwarded found) t u sound first second = first.after ∙ sym second.after
step_one network s (Forward id points) UnknownFollower t u sound first second = first.1 ∙ sym second.1
step_one network s (Close id) Closed t u sound first second = first.after ∙ sym second.after
step_one network s (Close id) UnknownFollower t u sound first second = first.1 ∙ sym second.1
step_one network s (Discard hash) Discarded t u sound first second = first.after ∙ sym second.after
step_one network s (Discard hash) NotBeside t u sound first second = first.1 ∙ sym second.1
step_one network s event OutOfMemory t u sound first second = first ∙ sym second
step_one network s event reply t u sound first second = absurd first

pub run_one : (network : Network) (s : State) (es : List Entry) (t u : State) → IsSoundState network s → IsRun network s es t → IsRun network s es u → t ≡ u
run_one network s [] t u sound first second = first ∙ sym second
run_one network s (e ∷ es) t u sound first second =
    let mids : second.0 ≡ first.0 = step_one network s e.event e.reply second.0 first.0 sound second.1 first.1 in
    run_one network first.0 es t u (step_sound network s e.event e.reply first.0 sound first.1) first.2 (subst (λ (m : State). IsRun network m es u) mids second.2)

-- ---- lengths

kind_length : (network : Network) (s : State) (event : Event) (reply : Reply) (t : State) → Kind network s event reply t → length t.chain ≡ length_with (length s.chain) reply
kind_length network s event reply t (Keeping bytes back added u keeps) = let change = keeps.change in omega arith
kind_length network s event reply t (Discarding hash u discards) = ap (λ (v : State). length v.chain) discards.after
kind_length network s event reply t (Quiet e r u quiet) = ap length quiet.chain ∙ sym (quiet.counted (length s.chain))

step_length : (network : Network) (s : State) (event : Event) (reply : Reply) (t : State) → Step network s event reply t → length t.chain ≡ length_with (length s.chain) reply
step_length network s event reply t step = kind_length network s event reply t (kind_of network s event reply t step)

pub run_length : (network : Network) (s : State) (es : List Entry) (t : State) → IsRun network s es t → length t.chain ≡ length_from (length s.chain) es
run_length network s [] t run = ap (λ (u : State). length u.chain) run
run_length network s (e ∷ es) t run = run_length network run.0 es t run.2 ∙ ap (λ n. length_from n es) (step_length network s e.event e.reply run.0 run.1)

kind_longer : (network : Network) (s : State) (event : Event) (reply : Reply) (t : State) → Kind network s event reply t → (t.chain ≡ s.chain) ⊎ (length s.chain < length t.chain)
kind_longer network s event reply t (Keeping bytes back added u keeps) = selection_longer network u.kept s.chain u.chain keeps.selection
kind_longer network s event reply t (Discarding hash u discards) = inl (ap (λ (v : State). v.chain) discards.after)
kind_longer network s event reply t (Quiet e r u quiet) = inl quiet.chain

pub step_longer : (network : Network) (s : State) (event : Event) (reply : Reply) (t : State) → Step network s event reply t → (t.chain ≡ s.chain) ⊎ (length s.chain < length t.chain)
step_longer network s event reply t step = kind_longer network s event reply t (kind_of network s event reply t step)

-- ---- the immutable part

-- how a later chain stands to an earlier one
pub record GoesOn (network : Network) (old new : List Block) : Type 0 where
  pub not_shorter : length old ≤ length new
  pub begins : BeginsWith new (immutable_part network old)

goes_on_itself : (network : Network) (chain : List Block) → GoesOn network chain chain
goes_on_itself network chain = record { not_shorter = omega arith; begins = begins_with_itself network chain }

kind_goes_on : (network : Network) (s : State) (event : Event) (reply : Reply) (t : State) → Kind network s event reply t → GoesOn network s.chain t.chain
kind_goes_on network s event reply t (Keeping bytes back added u keeps) =
    record { not_shorter = selection_not_shorter network u.kept s.chain u.chain keeps.selection; begins = selection_begins network u.kept s.chain u.chain keeps.selection }
kind_goes_on network s event reply t (Discarding hash u discards) = subst (λ (v : State). GoesOn network s.chain v.chain) (sym discards.after) (goes_on_itself network s.chain)
kind_goes_on network s event reply t (Quiet e r u quiet) = subst (GoesOn network s.chain) (sym quiet.chain) (goes_on_itself network s.chain)

pub step_goes_on : (network : Network) (s : State) (event : Event) (reply : Reply) (t : State) → Step network s event reply t → GoesOn network s.chain t.chain
step_goes_on network s event reply t step = kind_goes_on network s event reply t (kind_of network s event reply t step)

pub run_goes_on : (network : Network) (s : State) (es : List Entry) (t : State) → IsRun network s es t → GoesOn network s.chain t.chain
run_goes_on network s [] t run = subst (λ (u : State). GoesOn network s.chain u.chain) (sym run) (goes_on_itself network s.chain)
run_goes_on network s (e ∷ es) t run =
    let first = step_goes_on network s e.event e.reply run.0 run.1 in
    let rest = run_goes_on network run.0 es t run.2 in
    record { not_shorter = let a = first.not_shorter in let b = rest.not_shorter in omega arith; begins = begins_earlier network s.chain run.0.chain t.chain first.not_shorter first.begins rest.begins }

-- ---- the kept blocks

-- a block that the selected chain has is not discarded
kind_spares : (network : Network) (s : State) (event : Event) (reply : Reply) (t : State) (b : Block) → Kind network s event reply t → Contains (immutable_part network s.chain) b → DropsBlock event reply b → ⊥
kind_spares network s event reply t b (Keeping bytes back added u keeps) member drops = drops
kind_spares network s event reply t b (Discarding hash u discards) member drops =
    all_of_member (λ c. block_hash_of c ≢ hash) (immutable_part network s.chain) b (all_take (λ c. block_hash_of c ≢ hash) (immutable_length network s.chain) s.chain discards.beside.apart) member drops
kind_spares network s event reply t b (Quiet e r u quiet) member drops = quiet.drops_none b drops

-- a member of a beginning is one of the whole
begun_with : (chain part : List Block) (b : Block) → BeginsWith chain part → Contains part b → Contains chain b
begun_with chain part b begins member =
    subst (λ (bs : List Block). Contains bs b) (take-append-drop (length part) chain)
    (Contains-append_left (take (length part) chain) (drop (length part) chain) b (subst (λ (bs : List Block). Contains bs b) (sym begins) member))

pub never_dropped : (network : Network) (s : State) (es : List Entry) (t : State) (b : Block) → Contains (immutable_part network s.chain) b → IsRun network s es t → NoneDrops es b
never_dropped network s [] t b member run = tt
never_dropped network s (e ∷ es) t b member run =
    let on = step_goes_on network s e.event e.reply run.0 run.1 in
    let grows = begins_earlier network s.chain run.0.chain (immutable_part network run.0.chain) on.not_shorter on.begins (begins_with_whole (immutable_part network run.0.chain)) in (
      kind_spares network s e.event e.reply run.0 b (kind_of network s e.event e.reply run.0 run.1) member,
      never_dropped network run.0 es t b (begun_with (immutable_part network run.0.chain) (immutable_part network s.chain) b grows member) run.2,
    )

-- it was kept and isn't discarded now, or comes now
abbrev StaysOrComes : State → Event → Reply → Block → Type 0
StaysOrComes s event reply b = (Contains s.kept b × (DropsBlock event reply b → ⊥)) ⊎ BringsBlock event reply b

kept_or_brought : (network : Network) (s : State) (event : Event) (reply : Reply) (t : State) (b : Block) → Kind network s event reply t → StaysOrComes s event reply b → Contains t.kept b
kept_or_brought network s event reply t b (Keeping bytes back added u keeps) (inl stays) = subst (λ (bs : List Block). Contains bs b) (sym keeps.kept) (contains_later keeps.block s.kept b stays.0)
kept_or_brought network s event reply t b (Keeping bytes back added u keeps) (inr read) =
    subst (λ (bs : List Block). Contains bs b) (sym keeps.kept) (subst (λ (c : Block). Contains (c ∷ s.kept) b) (one_block b keeps.block bytes read keeps.read) (contains_first b s.kept))
kept_or_brought network s event reply t b (Discarding hash u discards) (inl stays) = subst (λ (v : State). Contains v.kept b) (sym discards.after) (left_without hash s.kept b stays.0 stays.1)
kept_or_brought network s event reply t b (Discarding hash u discards) (inr brought) = absurd brought
kept_or_brought network s event reply t b (Quiet e r u quiet) (inl stays) = subst (λ (bs : List Block). Contains bs b) (sym quiet.kept) stays.0
kept_or_brought network s event reply t b (Quiet e r u quiet) (inr brought) = absurd (quiet.brings_none b brought)

same_or_later : (network : Network) (s : State) (event : Event) (reply : Reply) (t : State) (b : Block) → Step network s event reply t → StaysOrComes s event reply b → Contains t.kept b
same_or_later network s event reply t b step from = kept_or_brought network s event reply t b (kind_of network s event reply t step) from

pub kept_after : (network : Network) (s : State) (es : List Entry) (t : State) (b : Block) → IsRun network s es t → (Contains s.kept b × NoneDrops es b) ⊎ IsKeptBy es b → Contains t.kept b
kept_after network s [] t b run (inl stays) = subst (λ (u : State). Contains u.kept b) (sym run) stays.0
kept_after network s [] t b run (inr never) = absurd never
kept_after network s (e ∷ es) t b run (inl stays) = kept_after network run.0 es t b run.2 (inl (same_or_later network s e.event e.reply run.0 b run.1 (inl (stays.0, stays.1.0)), stays.1.1))
kept_after network s (e ∷ es) t b run (inr (inl brings)) = kept_after network run.0 es t b run.2 (inl (same_or_later network s e.event e.reply run.0 b run.1 (inr brings.0), brings.1))
kept_after network s (e ∷ es) t b run (inr (inr later)) = kept_after network run.0 es t b run.2 (inr later)

kind_came_from : (network : Network) (s : State) (event : Event) (reply : Reply) (t : State) (b : Block) → Kind network s event reply t → Contains t.kept b → StaysOrComes s event reply b
kind_came_from network s event reply t b (Keeping bytes back added u keeps) member =
    elim (contains_cases keeps.block s.kept b (subst (λ (bs : List Block). Contains bs b) keeps.kept member)) [
      | inl is ↦ inr (subst (λ (c : Block). SpellsBlock c bytes) is keeps.read)
      | inr later ↦ inl (later, λ drops. drops)
    ]
kind_came_from network s event reply t b (Discarding hash u discards) member = inl (without_member hash s.kept b (subst (λ (v : State). Contains v.kept b) discards.after member))
kind_came_from network s event reply t b (Quiet e r u quiet) member = inl (subst (λ (bs : List Block). Contains bs b) quiet.kept member, quiet.drops_none b)

came_from : (network : Network) (s : State) (event : Event) (reply : Reply) (t : State) (b : Block) → Step network s event reply t → Contains t.kept b → StaysOrComes s event reply b
came_from network s event reply t b step member = kind_came_from network s event reply t b (kind_of network s event reply t step) member

pub kept_before : (network : Network) (s : State) (es : List Entry) (t : State) (b : Block) → IsRun network s es t → Contains t.kept b → (Contains s.kept b × NoneDrops es b) ⊎ IsKeptBy es b
kept_before network s [] t b run member = inl (subst (λ (u : State). Contains u.kept b) run member, tt)
kept_before network s (e ∷ es) t b run member =
    elim (kept_before network run.0 es t b run.2 member) [
      | inl before ↦ elim (came_from network s e.event e.reply run.0 b run.1 before.0) [
        | inl old ↦ inl (old.0, (old.1, before.1))
        | inr brings ↦ inr (inl (brings, before.1))
      ]
      | inr later ↦ inr (inr later)
    ]

-- a chain that is all immutable is its immutable part
opened_immutable : (network : Network) (b : Block) → Contains network.opened b → Contains (immutable_part network network.opened) b
opened_immutable network b member =
    let whole : immutable_part network network.opened ≡ network.opened = ap (λ n. take n network.opened) (let whole : immutable_length network network.opened ≡ length network.opened = omega arith in whole) ∙ begins_with_whole network.opened in
    subst (λ (bs : List Block). Contains bs b) (sym whole) member

pub kept_by_history : (network : Network) (history : List Entry) (s : State) (b : Block) → IsLegal network history s → Contains s.kept b ↔ (Contains network.opened b ⊎ IsKeptBy history b)
kept_by_history network history s b legal = (
  (λ member. elim (kept_before network (opening network) history s b legal member) [ inl old ↦ inl old.0 | inr later ↦ inr later ]),
  (λ from. kept_after network (opening network) history s b legal (elim from [
    | inl opened ↦ inl (opened, never_dropped network (opening network) history s b (opened_immutable network b opened) legal)
    | inr later ↦ inr later
  ])),
)
