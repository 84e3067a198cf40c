-- The index of a chain, after a block, after a rollback, and after a follower's instructions.
use Rattle.std.proofs.Common.{◌≡◌, ◌≢◌, ℕ, zero, suc, ◌+◌, ◌-◌, ◌<◌, ◌≤◌, List, [], ◌∷◌, ◌++◌, length, take, refl, sym, ap, subst, ◌∙◌, arith, append_assoc, append-nil, length-append}
use Rattle.std.proofs.lemmas.List.{take_all, take-take, length-take-le}
use Rattle.model.specs.Utxo.{Utxo, utxo_after}
use Rattle.model.specs.Transaction.{Transaction}
use Rattle.model.specs.Mempool.{utxo_after_all}
use Rattle.model.specs.Block.{Block, Header}
use Rattle.model.specs.Chain.{Tip, Point, Follows, genesis_tip, tip_at, tip_after, IsLinked}
use Rattle.model.specs.Follower.{Instruction, Stay, AddBlock, RollBack, IsReplayed, AreReplayed}
use Rattle.model.proofs.Chains.{tip_after-append, tip_number}
use Rattle.model.proofs.BlockTexts.{one_block}
use Rattle.watching.specs.Which.{Which, watched_among}
use Rattle.watching.specs.Chains.{unspent_of, Tables, tables_after_all, Version, Watched, version_after, version_after_all, first_version, with_block, rolled_back, back_by, IsRolledBack, without_last, AreOlder, IsIndexOf}
use Rattle.model.specs.Genesis.{opening_utxo}
use Rattle.watching.specs.Ledgers.{OutputsAreTheChains, IsTaken, WhichStays, IsIndexOfTold, FollowsTheTold, OutputsAreTheTolds}
use Rattle.watching.proofs.Judged.{outputs_are}
use Rattle.watching.proofs.Narrowing.{after_watched}

-- ---- versions after blocks

version_append : (which : Which) (v : Version) (xs ys : List Block) → version_after_all which v (xs ++ ys) ≡ version_after_all which (version_after_all which v xs) ys
version_append which v [] ys = refl
version_append which v (x ∷ xs) ys = version_append which (version_after which v x) xs ys

pub version_tip : (which : Which) (v : Version) (bs : List Block) → (version_after_all which v bs).tip ≡ tip_after v.tip bs
version_tip which v [] = refl
version_tip which v (b ∷ bs) = version_tip which (version_after which v b) bs

-- of the watched ones alone is left what is left of all
pub outputs_after : (which : Which) (header : Header) (index : ℕ) (k : Tables) (u : Utxo) (ts : List Transaction) → k.outputs ≡ watched_among which u → (tables_after_all which header index k ts).outputs ≡ watched_among which (utxo_after_all u ts)
outputs_after which header index k u [] is = is
outputs_after which header index k u (t ∷ ts) is = outputs_after which header (suc index) _ (utxo_after u t) ts (after_watched which t u k.outputs is)

version_outputs : (which : Which) (v : Version) (u : Utxo) (bs : List Block) → v.tables.outputs ≡ watched_among which u → (version_after_all which v bs).tables.outputs ≡ watched_among which (unspent_of u bs)
version_outputs which v u [] is = is
version_outputs which v u (b ∷ bs) is =
    version_outputs which (version_after which v b) (utxo_after_all u b.transactions) bs (outputs_after which b.header 0 v.tables u b.transactions is)

unspent_append : (granted : Utxo) (xs ys : List Block) → unspent_of granted (xs ++ ys) ≡ unspent_of (unspent_of granted xs) ys
unspent_append granted [] ys = refl
unspent_append granted (x ∷ xs) ys = unspent_append (utxo_after_all granted x.transactions) xs ys

pub outputs_are_its : OutputsAreTheChains
outputs_are_its granted past since w of =
    ap (λ (v : Version). v.tables.outputs) of.last ∙ version_outputs w.which (first_version w.which granted past) (unspent_of granted past) since refl
    ∙ ap (watched_among w.which) (sym (unspent_append granted past since))

-- where an index ends
pub ends_at : (granted : Utxo) (past since : List Block) (w : Watched) → IsIndexOf granted past since w → w.last.tip ≡ tip_after genesis_tip (past ++ since)
ends_at granted past since w of =
    ap (λ (v : Version). v.tip) of.last ∙ version_tip w.which (first_version w.which granted past) since ∙ sym (tip_after-append genesis_tip past since)

pub index_begun : (granted : Utxo) (past : List Block) (w : Watched) → IsLinked genesis_tip past → w.last ≡ first_version w.which granted past → w.older ≡ [] → IsIndexOf granted past [] w
index_begun granted past w linked is none = record {
  linked = subst (IsLinked genesis_tip) (sym (append-nil past)) linked;
  last = is;
  versions = subst (AreOlder w.which (first_version w.which granted past) []) (sym none) tt;
}

-- ---- a block more

linked_with : (tip : Tip) (bs : List Block) (b : Block) → IsLinked tip bs → Follows (tip_after tip bs) b → IsLinked tip (bs ++ b ∷ [])
linked_with tip [] b linked follows = (follows, tt)
linked_with tip (x ∷ bs) b linked follows = (linked.0, linked_with (tip_at x) bs b linked.1 follows)

taken_first : (xs ys : List Block) → take (length xs) (xs ++ ys) ≡ xs
taken_first [] ys = refl
taken_first (x ∷ xs) ys = ap (λ (zs : List Block). x ∷ zs) (taken_first xs ys)

last_off : (chain : List Block) (b : Block) → without_last (chain ++ b ∷ []) ≡ chain
last_off chain b =
    let many : length (chain ++ b ∷ []) - 1 ≡ length chain = omega (arith, length-append chain (b ∷ [])) in
    ap (λ (n : ℕ). take n (chain ++ b ∷ [])) many ∙ taken_first chain (b ∷ [])

some_block : (chain : List Block) (b : Block) → chain ++ b ∷ [] ≢ []
some_block chain b none = let long = ap length none in omega (arith, long, length-append chain (b ∷ []))

older_taken : (which : Which) (first : Version) (n : ℕ) (since : List Block) (vs : List Version) → AreOlder which first since vs → AreOlder which first since (take n vs)
older_taken which first zero since vs are = tt
older_taken which first (suc n) since [] are = tt
older_taken which first (suc n) since (v ∷ vs) are = (are.0, are.1, older_taken which first n (without_last since) vs are.2)

pub block_added : (granted : Utxo) (past since : List Block) (w new : Watched) (b : Block) → new ≡ with_block w b → Follows w.last.tip b → IsIndexOf granted past since w → IsIndexOf granted past (since ++ b ∷ []) new
block_added granted past since w new b is follows of =
    let which = w.which in
    let first = first_version which granted past in
    let off : without_last (since ++ b ∷ []) ≡ since = last_off since b in
    let older : AreOlder which first (since ++ b ∷ []) (w.last ∷ w.older) = (
      some_block since b,
      of.last ∙ ap (version_after_all which first) (sym off),
      subst (λ (c : List Block). AreOlder which first c w.older) (sym off) of.versions,
    ) in
    let on : Follows (tip_after genesis_tip (past ++ since)) b = subst (λ (t : Tip). Follows t b) (ends_at granted past since w of) follows in
    subst (IsIndexOf granted past (since ++ b ∷ [])) (sym is) (record {
      linked = subst (IsLinked genesis_tip) (append_assoc past since (b ∷ [])) (linked_with genesis_tip (past ++ since) b of.linked on);
      last = ap (λ (v : Version). version_after which v b) of.last ∙ sym (version_append which first since (b ∷ []));
      versions = older_taken which first w.k (since ++ b ∷ []) (w.last ∷ w.older) older;
    })

-- ---- blocks less

some_length : (chain : List Block) → chain ≢ [] → 0 < length chain
some_length [] some = absurd (some refl)
some_length (b ∷ bs) some = omega arith

last_taken : (n : ℕ) (chain : List Block) → n ≤ length chain - 1 → take n (without_last chain) ≡ take n chain
last_taken n chain few = take-take n (length chain - 1) chain few

last_length : (chain : List Block) → length (without_last chain) ≡ length chain - 1
last_length chain = length-take-le (length chain - 1) chain (omega arith)

-- what is left of the blocks, and of the index
pub record IsLeft (which : Which) (first : Version) (since : List Block) (back : ℕ) (w : Watched) : Type 0 where
  pub long : back ≤ length since
  pub last : w.last ≡ version_after_all which first (take (length since - back) since)
  pub versions : AreOlder which first (take (length since - back) since) w.older

pub blocks_left : (which : Which) (first : Version) (since : List Block) (back k : ℕ) (v : Version) (vs : List Version) → back ≤ length vs → v ≡ version_after_all which first since → AreOlder which first since vs → IsLeft which first since back (rolled_back back k which v vs)
blocks_left which first since zero k v vs within is are =
    let whole : take (length since - 0) since ≡ since = take_all (length since - 0) since (omega arith) in
    record {
      long = omega arith;
      last = is ∙ ap (version_after_all which first) (sym whole);
      versions = subst (λ (c : List Block). AreOlder which first c vs) (sym whole) are;
    }
blocks_left which first since (suc back) k v [] within is are = absurd (omega (arith, within))
blocks_left which first since (suc back) k v (older ∷ vs) within is are =
    let rest = blocks_left which first (without_last since) back k older vs (omega (arith, within)) are.1 are.2 in
    let some = some_length since are.0 in
    let less = last_length since in
    let long : suc back ≤ length since = let few = rest.long in omega (arith, few, some, less) in
    let many : length (without_last since) - back ≡ length since - suc back = omega (arith, less) in
    let same : take (length (without_last since) - back) (without_last since) ≡ take (length since - suc back) since =
    ap (λ (n : ℕ). take n (without_last since)) many ∙ last_taken (length since - suc back) since (omega arith) in
    record {
      long = long;
      last = rest.last ∙ ap (version_after_all which first) same;
      versions = subst (λ (c : List Block). AreOlder which first c (rolled_back back k which older vs).older) same rest.versions;
    }

pub taken_front : (past since : List Block) (n : ℕ) → take (length past + n) (past ++ since) ≡ past ++ take n since
taken_front [] since n = let same : 0 + n ≡ n = omega arith in ap (λ (m : ℕ). take m since) same
taken_front (b ∷ past) since n =
    let more : suc (length past) + n ≡ suc (length past + n) = omega arith in
    ap (λ (m : ℕ). take m (b ∷ (past ++ since))) more ∙ ap (λ (cs : List Block). b ∷ cs) (taken_front past since n)

pub taken_linked : (tip : Tip) (n : ℕ) (bs : List Block) → IsLinked tip bs → IsLinked tip (take n bs)
taken_linked tip zero bs linked = tt
taken_linked tip (suc n) [] linked = tt
taken_linked tip (suc n) (b ∷ bs) linked = (linked.0, taken_linked (tip_at b) n bs linked.1)

pub rolled_which : (back k : ℕ) (which : Which) (v : Version) (vs : List Version) → (rolled_back back k which v vs).which ≡ which
rolled_which zero k which v vs = refl
rolled_which (suc back) k which v [] = refl
rolled_which (suc back) k which v (x ∷ vs) = rolled_which back k which x vs

index_of : (granted : Utxo) (past since : List Block) (w : Watched) (which : Which) → w.which ≡ which → IsLinked genesis_tip (past ++ since) → w.last ≡ version_after_all which (first_version which granted past) since
    → AreOlder which (first_version which granted past) since w.older → IsIndexOf granted past since w
index_of granted past since w which same linked last versions = record {
  linked = linked;
  last = last ∙ ap (λ (c : Which). version_after_all c (first_version c granted past) since) (sym same);
  versions = subst (λ (c : Which). AreOlder c (first_version c granted past) since w.older) (sym same) versions;
}

pub rolled_to : (granted : Utxo) (past since : List Block) (old new : Watched) (point : Point) → IsRolledBack old point new → IsIndexOf granted past since old
    → IsIndexOfTold granted past (take point.number (past ++ since)) new
rolled_to granted past since old new point rolled of =
    let back = rolled.back in
    let which = old.which in
    let first = first_version which granted past in
    let left = blocks_left which first since back old.k old.last old.older rolled.within of.last of.versions in
    let n = length since - back in
    let since_left = take n since in
    let front : take (length past + n) (past ++ since) ≡ past ++ since_left = taken_front past since n in
    let linked : IsLinked genesis_tip (past ++ since_left) = subst (IsLinked genesis_tip) front (taken_linked genesis_tip (length past + n) (past ++ since) of.linked) in
    let index : IsIndexOf granted past since_left new =
    subst (IsIndexOf granted past since_left) (sym rolled.is) (index_of granted past since_left (back_by back old) which (rolled_which back old.k which old.last old.older) linked left.last left.versions) in
    let number : point.number ≡ (tip_after genesis_tip (past ++ since_left)).number =
    sym (ap (λ (p : Point). p.number) rolled.ends) ∙ ap (λ (t : Tip). t.number) (ends_at granted past since_left new index) in
    let counted : (tip_after genesis_tip (past ++ since_left)).number ≡ 0 + length (past ++ since_left) = tip_number genesis_tip (past ++ since_left) linked in
    let few : length since_left ≡ n = length-take-le n since (omega arith) in
    let same : point.number ≡ length past + n = omega (arith, number, counted, few, length-append past since_left) in
    record { since = since_left; goes_on = ap (λ (m : ℕ). take m (past ++ since)) same ∙ front; index = index }

-- how much is left of what came since
pub rolled_since : (granted : Utxo) (past since : List Block) (old new : Watched) (point : Point) (rolled : IsRolledBack old point new) (of : IsIndexOf granted past since old)
    → (rolled_to granted past since old new point rolled of).since ≡ take (length since - rolled.back) since
unfolding rolled_to
rolled_since granted past since old new point rolled of = refl

-- ---- a follower's instructions

pub taken_one : (granted : Utxo) (past since told : List Block) (i : Instruction) (old new : Watched) → IsIndexOf granted past since old → IsTaken old i new → IsReplayed (past ++ since) i told → IsIndexOfTold granted past told new
taken_one granted past since told Stay old new of taken replayed = record { since = since; goes_on = replayed; index = subst (IsIndexOf granted past since) (sym taken) of }
taken_one granted past since told (AddBlock bytes) old new of taken replayed =
    let b = taken.0 in
    let same : replayed.0 ≡ b = one_block replayed.0 b bytes replayed.1 taken.1 in
    record {
      since = since ++ b ∷ [];
      goes_on = replayed.2 ∙ ap (λ (x : Block). (past ++ since) ++ x ∷ []) same ∙ append_assoc past since (b ∷ []);
      index = block_added granted past since old new b taken.3 taken.2 of;
    }
taken_one granted past since told (RollBack point) old new of taken replayed =
    let rolled = rolled_to granted past since old new point taken of in
    record { since = rolled.since; goes_on = replayed.0 ∙ rolled.goes_on; index = rolled.index }

pub follows_told : FollowsTheTold
follows_told granted past since told [] old new of taken replayed =
    record { since = since; goes_on = replayed; index = subst (IsIndexOf granted past since) (sym taken) of }
follows_told granted past since told (i ∷ is) old new of taken replayed =
    let one = taken_one granted past since replayed.0 i old taken.0 of taken.1 replayed.1 in
    follows_told granted past one.since told is taken.0 new one.index taken.2 (subst (λ (c : List Block). AreReplayed c is told) one.goes_on replayed.2)

-- what is watched stays
pub which_after : (i : Instruction) (old new : Watched) → IsTaken old i new → new.which ≡ old.which
which_after Stay old new taken = ap (λ (w : Watched). w.which) taken
which_after (AddBlock bytes) old new taken = ap (λ (w : Watched). w.which) taken.3
which_after (RollBack point) old new taken = ap (λ (w : Watched). w.which) taken.is ∙ rolled_which taken.back old.k old.which old.last old.older

pub rolled_k : (back k : ℕ) (which : Which) (v : Version) (vs : List Version) → (rolled_back back k which v vs).k ≡ k
rolled_k zero k which v vs = refl
rolled_k (suc back) k which v [] = refl
rolled_k (suc back) k which v (x ∷ vs) = rolled_k back k which x vs

pub k_after : (i : Instruction) (old new : Watched) → IsTaken old i new → new.k ≡ old.k
k_after Stay old new taken = ap (λ (w : Watched). w.k) taken
k_after (AddBlock bytes) old new taken = ap (λ (w : Watched). w.k) taken.3
k_after (RollBack point) old new taken = ap (λ (w : Watched). w.k) taken.is ∙ rolled_k taken.back old.k old.which old.last old.older

pub which_stays : WhichStays
which_stays [] old new taken = ap (λ (w : Watched). w.which) taken
which_stays (i ∷ is) old new taken = which_stays is taken.0 new taken.2 ∙ which_after i old taken.0 taken.1

pub outputs_are_told : OutputsAreTheTolds
outputs_are_told network past since told instructions old new ledger of taken replayed is =
    let granted = opening_utxo network.genesis in
    let to = follows_told granted past since told instructions old new of taken replayed in
    outputs_are_its granted past to.since new to.index
    ∙ ap (watched_among new.which) (ap (unspent_of granted) (sym to.goes_on) ∙ sym (outputs_are network told ledger is))
    ∙ ap (λ (c : Which). watched_among c ledger.utxo) (which_stays instructions old new taken)
