use Rattle.std.proofs.Common.{◌≡◌, ℕ, zero, suc, ◌+◌, ◌-◌, ◌<◌, ◌≤◌, List, [], ◌∷◌, ◌++◌, map, length, refl, sym, ap, ◌∙◌, append_assoc, append-nil, arith}
use Rattle.std.specs.Prelude.{take}
use Rattle.std.proofs.lemmas.List.{map-append, length-append}
use Rattle.ident.specs.Kinds.{BlockHash}
use Rattle.model.specs.Block.{block_hash_of}
use Rattle.shared.proofs.handles.copy_hashes.Goals as goal

-- one more of the rest was copied
one_more : {A B C : Type 0} (f : A → C) (h : B → C) (done more : List B) (copy : B) (left rest : List A) (x : A) (all : List C) (most : ℕ) → length done < most → map h done ++ map f (take (most - length done) left) ≡ all → left ≡ x ∷ rest → more ≡ done ++ copy ∷ [] → h copy ≡ f x → map h more ++ map f (take (most - length more) rest) ≡ all
one_more f h done more copy left rest x all most few so_far next pushed same =
    let long : length more ≡ length done + 1 = ap length pushed ∙ length-append done (copy ∷ []) in
    let fuel : most - length done ≡ suc (most - length more) = omega (arith, long, few) in
    let taken : take (most - length done) left ≡ x ∷ take (most - length more) rest = (λ i. take (fuel i) (next i)) in
    ap (λ (l : List _). map h l ++ map f (take (most - length more) rest)) pushed
    ∙ (ap (λ (l : List _). l ++ map f (take (most - length more) rest)) (map-append h done (copy ∷ []))
    ∙ (append_assoc (map h done) (h copy ∷ []) (map f (take (most - length more) rest))
    ∙ (ap (λ v. map h done ++ (v ∷ map f (take (most - length more) rest))) same ∙ (ap (λ (l : List _). map h done ++ map f l) (sym taken) ∙ so_far))))

-- as many as may be were copied
enough : {A B C : Type 0} (f : A → C) (h : B → C) (done : List B) (left : List A) (all : List C) (most : ℕ) → most ≤ length done → map h done ++ map f (take (most - length done) left) ≡ all → map h done ≡ all
enough f h done left all most many so_far =
    let none : most - length done ≡ 0 = omega (arith, many) in
    sym (append-nil (map h done)) ∙ (ap (λ (n : ℕ). map h done ++ map f (take n left)) (sym none) ∙ so_far)

taken_none : {A : Type 0} (n : ℕ) (l : List A) → l ≡ [] → take n l ≡ []
taken_none zero l none = refl
taken_none (suc n) l none = ap (take (suc n)) none

-- none are left
ended : {A B C : Type 0} (f : A → C) (h : B → C) (done : List B) (left : List A) (all : List C) (n : ℕ) → left ≡ [] → map h done ++ map f (take n left) ≡ all → map h done ≡ all
ended f h done left all n none so_far =
    sym (append-nil (map h done)) ∙ (ap (λ (l : List _). map h done ++ map f l) (sym (taken_none n left none)) ∙ so_far)

abbrev bytes_of : BlockHash → List ℕ
bytes_of hash = hash.bytes

pub loop-block-init : goal.loop-block-init
loop-block-init g c =
    let most = c.args.most in
    (λ i. map bytes_of (c.new-hashes.ensures.items i) ++ map block_hash_of (take (most - length (c.new-hashes.ensures.items i)) (c.into_iter-block-iterator.ensures.into_iter_gives i)))
    ∙ ap (λ (n : ℕ). map block_hash_of (take n c.args.blocks)) (omega arith)

pub returns-then-len-most : goal.returns-then-len-most
returns-then-len-most g c =
    let many : c.args.most ≤ length c.loop-block.hashes.items = let l = c.len.ensures in let t = c.if-len-most.true in omega arith in
    enough block_hash_of bytes_of c.loop-block.hashes.items c.loop-block.block-iterator (map block_hash_of (take c.args.most c.args.blocks)) c.args.most many c.loop-block.invariant

pub loop-block-preserved : goal.loop-block-preserved
loop-block-preserved g c =
    let few : length c.loop-block.hashes.items < c.args.most = let l = c.len.ensures in let t = c.if-len-most.false in omega arith in
    one_more block_hash_of bytes_of c.loop-block.hashes.items c.push.new.self.items c.hash.result c.loop-block.block-iterator c.next.new.self c.in-Some.block.now (map block_hash_of (take c.args.most c.args.blocks)) c.args.most few c.loop-block.invariant c.in-Some.ensures.steps c.in_ok-push.ensures.items c.hash.ensures

pub returns : goal.returns
returns g c =
    ended block_hash_of bytes_of c.loop-block.hashes.items c.loop-block.block-iterator (map block_hash_of (take c.args.most c.args.blocks)) (c.args.most - length c.loop-block.hashes.items) c.in-None.ensures.steps.0 c.loop-block.invariant
