-- Rows of blocks, of which more and more are on the disk.
use Rattle.std.proofs.Common.{◌≡◌, inl, ℕ, zero, suc, ◌+◌, ◌-◌, ◌<◌, ◌≤◌, List, [], ◌∷◌, ◌++◌, length, take, drop, get_or, refl, sym, ◌∙◌, ap, subst, arith, Vec, min}
use Rattle.std.proofs.lemmas.List.{take_all, append-nil, length-take, length-drop, get_or-drop, take-append-drop}
use Rattle.std.specs.declared.alloc.Global.{Global}
use Rattle.std.specs.List.{AllByRecursion}
use Rattle.model.specs.Disk.{Moment, settled, MayLeave, Leaves, LeavesSince}
use Rattle.model.specs.Log.{IsLogBlock, at_rest, IsLogOf, Opens}
use Rattle.immlog.specs.Views.{lists_of}
use Rattle.immlog.proofs.Moments.{since_weaker}

-- the row with its block at a place
pub row_at : (xs : List (Vec ℕ Global)) (d : ℕ) (x : Vec ℕ Global) → d < length xs → x ≡ get_or xs d x → lists_of xs ≡ take d (lists_of xs) ++ x.items ∷ drop (d + 1) (lists_of xs)
row_at [] d x below is = absurd (omega arith)
row_at (y ∷ xs) zero x below is = ap (λ (v : Vec ℕ Global). v.items ∷ lists_of xs) (sym is)
row_at (y ∷ xs) (suc d) x below is =
    let e : suc d + 1 ≡ suc (d + 1) = omega arith in
    ap (λ (l : List (List ℕ)). y.items ∷ l) (row_at xs d x (omega arith) is) ∙ ap (λ (n : ℕ). y.items ∷ (take d (lists_of xs) ++ x.items ∷ drop n (lists_of (y ∷ xs)))) (sym e)

pub row_more : (xs : List (Vec ℕ Global)) (d : ℕ) (x : Vec ℕ Global) → d < length xs → x ≡ get_or xs d x → take (d + 1) (lists_of xs) ≡ take d (lists_of xs) ++ x.items ∷ []
row_more [] d x below is = absurd (omega arith)
row_more (y ∷ xs) zero x below is = ap (λ (v : Vec ℕ Global). v.items ∷ []) (sym is)
row_more (y ∷ xs) (suc d) x below is =
    let e : suc d + 1 ≡ suc (d + 1) = omega arith in
    ap (λ (n : ℕ). take n (lists_of (y ∷ xs))) e ∙ ap (λ (l : List (List ℕ)). y.items ∷ l) (row_more xs d x (omega arith) is)

pub length-lists_of : (xs : List (Vec ℕ Global)) → length (lists_of xs) ≡ length xs
length-lists_of [] = refl
length-lists_of (x ∷ xs) = ap (λ (n : ℕ). suc n) (length-lists_of xs)

-- what holds of each block of the row holds of the one at a place
pub size_at : (xs : List (Vec ℕ Global)) (d : ℕ) (x : Vec ℕ Global) → d < length xs → x ≡ get_or xs d x → AllByRecursion IsLogBlock (lists_of xs) → IsLogBlock x.items
size_at [] d x below is sizes = absurd (omega arith)
size_at (y ∷ xs) zero x below is sizes = subst (λ (v : Vec ℕ Global). IsLogBlock v.items) (sym is) sizes.0
size_at (y ∷ xs) (suc d) x below is sizes = size_at xs d x (omega arith) is sizes.1

pub fewer_sure : (least fewer : ℕ) (blocks : List (List ℕ)) (bytes : List ℕ) → fewer ≤ least → IsLogOf least blocks bytes → IsLogOf fewer blocks bytes
fewer_sure least fewer blocks bytes le log = record {
  first = log.first;
  next = log.next;
  rest = log.rest;
  text = log.text;
  begins = log.begins;
  enough = omega (arith, log.enough);
  sizes = log.sizes;
  gate = log.gate;
}

-- a put of the next block of the row
pub row_leaves : (blocks : List (List ℕ)) (block : List ℕ) (d least : ℕ) (past new_past : List Moment) (m : Moment) → blocks ≡ take d blocks ++ block ∷ drop (d + 1) blocks → d ≤ length blocks → least ≤ d → LeavesSince past new_past m (IsLogOf (length (take d blocks)) (take d blocks ++ block ∷ drop (d + 1) blocks)) → LeavesSince past new_past m (IsLogOf least blocks)
row_leaves blocks block d least past new_past m row within le holds =
    since_weaker (Leaves (IsLogOf (length (take d blocks)) (take d blocks ++ block ∷ drop (d + 1) blocks))) (Leaves (IsLogOf least blocks)) past new_past m
    (λ x leaves bytes left.
    fewer_sure (length (take d blocks)) least blocks bytes (many (length (take d blocks)) (length-take d blocks)) (subst (λ (l : List (List ℕ)). IsLogOf (length (take d blocks)) l bytes) (sym row) (leaves bytes left)))
    holds
  where
    many : (n : ℕ) → n ≡ min d (length blocks) → least ≤ n
    many n is = omega arith

-- a log at rest is one of all its blocks
pub rest_is_log : (blocks : List (List ℕ)) → AllByRecursion IsLogBlock blocks → IsLogOf (length blocks) blocks (at_rest blocks)
rest_is_log blocks sizes = record {
  first = blocks;
  next = [];
  rest = 0 ∷ [];
  text = refl;
  begins = sym (append-nil blocks);
  enough = omega arith;
  sizes = sizes;
  gate = inl (record { more = []; text = refl });
}

-- a crash of a disk that is settled leaves what a read gives
pub settled_leaves : (P : List ℕ → Type 0) (m : Moment) (bytes : List ℕ) → m ≡ settled bytes → P bytes → Leaves P m
settled_leaves P m bytes is holds left may =
    let exact : MayLeave (settled bytes) left = subst (λ (x : Moment). MayLeave x left) is may in
    subst P (sym (exact.whole refl)) holds

pub rest_leaves : (blocks : List (List ℕ)) (least : ℕ) (m : Moment) (bytes : List ℕ) → AllByRecursion IsLogBlock blocks → m ≡ settled bytes → bytes ≡ at_rest blocks → least ≤ length blocks → Leaves (IsLogOf least blocks) m
rest_leaves blocks least m bytes sizes is rest le =
    settled_leaves (IsLogOf least blocks) m bytes is
    (subst (IsLogOf least blocks) (sym rest) (fewer_sure (length blocks) least blocks (at_rest blocks) le (rest_is_log blocks sizes)))

pub rest_opens : (blocks : List (List ℕ)) (m : Moment) (bytes : List ℕ) → AllByRecursion IsLogBlock blocks → m ≡ settled bytes → bytes ≡ at_rest blocks → Leaves (λ (left : List ℕ). Opens left blocks) m
rest_opens blocks m bytes sizes is rest =
    settled_leaves (λ (left : List ℕ). Opens left blocks) m bytes is (record { rest = 0 ∷ []; text = rest; closed = λ gate. cc; sizes = sizes })

-- the whole row
pub row_all : (xs : List (Vec ℕ Global)) (d : ℕ) → length xs ≤ d → take d (lists_of xs) ≡ lists_of xs
row_all xs d le = take_all d (lists_of xs) (omega (arith, length-lists_of xs))

-- the rest of a row, as a loop goes over it
rest_of : (xs : List (Vec ℕ Global)) (d0 : ℕ) → take (length xs - d0) (drop d0 xs) ≡ drop d0 xs
rest_of xs d0 = take_all (length xs - d0) (drop d0 xs) (omega (arith, length-drop d0 xs))

-- one block of the rest of a row, as one of the row
pub record IsRowAt (xs : List (Vec ℕ Global)) (d : ℕ) (block : List ℕ) : Type 0 where
  pub below : d < length xs
  pub row : lists_of xs ≡ take d (lists_of xs) ++ block ∷ drop (d + 1) (lists_of xs)
  pub more : take (d + 1) (lists_of xs) ≡ take d (lists_of xs) ++ block ∷ []
  pub sized : AllByRecursion IsLogBlock (lists_of xs) → IsLogBlock block

pub row_step : (xs : List (Vec ℕ Global)) (d0 i d : ℕ) (x : Vec ℕ Global) (block : List ℕ) → d ≡ d0 + i → i < length (take (length xs - d0) (drop d0 xs)) → x ≡ get_or (take (length xs - d0) (drop d0 xs)) i x → block ≡ x.items → IsRowAt xs d block
row_step xs d0 i d x block at within is text =
    let inside : i < length (drop d0 xs) = subst (λ (l : List (Vec ℕ Global)). i < length l) (rest_of xs d0) within in
    let below : d < length xs = omega (arith, length-drop d0 xs) in
    let item : x ≡ get_or xs d x =
    is ∙ (ap (λ (l : List (Vec ℕ Global)). get_or l i x) (rest_of xs d0) ∙ (get_or-drop d0 xs i x ∙ ap (λ (n : ℕ). get_or xs n x) (sym at))) in
    record {
      below = below;
      row = row_at xs d x below item ∙ ap (λ (b : List ℕ). take d (lists_of xs) ++ b ∷ drop (d + 1) (lists_of xs)) (sym text);
      more = row_more xs d x below item ∙ ap (λ (b : List ℕ). take d (lists_of xs) ++ b ∷ []) (sym text);
      sized = λ sizes. subst IsLogBlock (sym text) (size_at xs d x below item sizes);
    }

pub past_rest : (xs : List (Vec ℕ Global)) (d0 i d : ℕ) → d ≡ d0 + i → d ≤ length xs → length (take (length xs - d0) (drop d0 xs)) ≤ i → d ≡ length xs
past_rest xs d0 i d at within done =
    let all : length (drop d0 xs) ≤ i = subst (λ (l : List (Vec ℕ Global)). length l ≤ i) (rest_of xs d0) done in
    omega (arith, length-drop d0 xs)

-- at rest with the first blocks of a row
pub first_leaves : (xs : List (Vec ℕ Global)) (d : ℕ) (m : Moment) (bytes : List ℕ) → d ≤ length xs → AllByRecursion IsLogBlock (lists_of xs) → m ≡ settled bytes → bytes ≡ at_rest (take d (lists_of xs)) → Leaves (IsLogOf d (lists_of xs)) m
first_leaves xs d m bytes within sizes is rest =
    settled_leaves (IsLogOf d (lists_of xs)) m bytes is (record {
      first = take d (lists_of xs);
      next = drop d (lists_of xs);
      rest = 0 ∷ [];
      text = rest;
      begins = sym (take-append-drop d (lists_of xs));
      enough = omega (arith, length-take d (lists_of xs), length-lists_of xs);
      sizes = sizes;
      gate = inl (record { more = []; text = refl });
    })
