-- What a log keeps in memory beside what is on its disk.
use Rattle.std.proofs.Common.{◌≡◌, inl, ℕ, List, [], ◌∷◌, ◌++◌, length, refl, arith, true, false, Result, Ok, Err}
use Rattle.std.specs.Prelude.{OnOk, OnErr, is_err}
use Rattle.std.specs.List.{AllByRecursion}
use Rattle.model.specs.Disk.{Moment, settled, Leaves, LeavesSince}
use Rattle.model.specs.Log.{IsLogBlock, at_rest, OpensToBeginning, IsLogOf}
use Rattle.model.proofs.Lists.{all_append}
use Rattle.model.proofs.LogTexts.{opens_to_beginning}
use Rattle.immlog.proofs.Moments.{since_weaker}
use Rattle.immlog.proofs.Rows.{settled_leaves}

-- what holds after an Ok
pub on_ok : {T E : Type 0} (r : Result T E) (P : Type 0) → OnOk r P → false ≡ is_err r → P
on_ok (Ok x) P on is = on
on_ok (Err e) P on is = absurd cc

pub on_err : {T E : Type 0} (r : Result T E) (P : Type 0) → OnErr r P → true ≡ is_err r → P
on_err (Ok x) P on is = absurd cc
on_err (Err e) P on is = on

pub opens_weaker : (least : ℕ) (blocks : List (List ℕ)) (m : Moment) → Leaves (IsLogOf least blocks) m → Leaves (OpensToBeginning least blocks) m
opens_weaker least blocks m leaves bytes left = opens_to_beginning least blocks bytes (leaves bytes left)

pub opens_since : (least : ℕ) (blocks : List (List ℕ)) (past new_past : List Moment) (m : Moment) → LeavesSince past new_past m (IsLogOf least blocks) → LeavesSince past new_past m (OpensToBeginning least blocks)
opens_since least blocks past new_past m =
    since_weaker (Leaves (IsLogOf least blocks)) (Leaves (OpensToBeginning least blocks)) past new_past m (opens_weaker least blocks)

-- a log at rest, onto which more blocks are to be put
pub resting_leaves : (done blocks : List (List ℕ)) (m : Moment) (bytes : List ℕ) → AllByRecursion IsLogBlock done → AllByRecursion IsLogBlock blocks → m ≡ settled bytes → bytes ≡ at_rest done → Leaves (IsLogOf (length done) (done ++ blocks)) m
resting_leaves done blocks m bytes sizes more is rest =
    settled_leaves (IsLogOf (length done) (done ++ blocks)) m bytes is (record {
      first = done;
      next = blocks;
      rest = 0 ∷ [];
      text = rest;
      begins = refl;
      enough = omega arith;
      sizes = all_append IsLogBlock done blocks sizes more;
      gate = inl (record { more = []; text = refl });
    })
