-- One more asset under the last policy, or under another one after it.
use Rattle.std.proofs.Common.{◌≡◌, ◌≢◌, ℕ, suc, zero, List, [], ◌∷◌, ◌++◌, map, length, get_or, set, refl, sym, ap, subst, ◌∙◌, arith, append_assoc, append-nil}
use Rattle.std.proofs.lemmas.List.{map-append}
use Rattle.model.specs.Value.{Token, Policy}
use Rattle.value.specs.Parts.{AssetQuantity, assets_under, flat_assets}
use Rattle.value.specs.Grouped.{asset_under, IsApartFromFirst, IsGrouped}

-- the one at a place that is the last
record IsLast {X : Type 0} (xs : List X) (k : ℕ) (x : X) : Type 0 where
  front : List X
  is : xs ≡ front ++ x ∷ []
  written : (y : X) → set xs k y ≡ front ++ y ∷ []

last_at : {X : Type 0} (xs : List X) (k : ℕ) (x : X) → suc k ≡ length xs → x ≡ get_or xs k x → IsLast xs k x
last_at [] k x long is = absurd (omega arith)
last_at {X} (a ∷ []) zero x long is = record { front = []; is = ap (λ (y : X). y ∷ []) (sym is); written = λ y. refl }
last_at (a ∷ []) (suc k) x long is = absurd (omega arith)
last_at (a ∷ b ∷ bs) zero x long is = absurd (omega arith)
last_at {X} (a ∷ b ∷ bs) (suc k) x long is =
    let rest = last_at (b ∷ bs) k x (omega arith) is in
    record { front = a ∷ rest.front; is = ap (λ (ys : List X). a ∷ ys) rest.is; written = λ y. ap (λ (ys : List X). a ∷ ys) (rest.written y) }

not_nothing : {X : Type 0} (xs : List X) (x : X) → xs ++ x ∷ [] ≢ []
not_nothing [] x = λ h. absurd cc
not_nothing (a ∷ xs) x = λ h. absurd cc

module _ {Q : Type 0} where
  pub flat_append : (ps qs : List (Policy Q)) → flat_assets (ps ++ qs) ≡ flat_assets ps ++ flat_assets qs
  flat_append [] qs = refl
  flat_append (p ∷ ps) qs =
      ap (λ (as' : List (AssetQuantity Q)). assets_under p.id p.tokens ++ as') (flat_append ps qs) ∙ sym (append_assoc (assets_under p.id p.tokens) (flat_assets ps) (flat_assets qs))

  under_more : (id : List ℕ) (ts : List (Token Q)) (t : Token Q) → assets_under id (ts ++ t ∷ []) ≡ assets_under id ts ++ asset_under id t ∷ []
  under_more id [] t = refl
  under_more id (u ∷ ts) t = ap (λ (as' : List (AssetQuantity Q)). asset_under id u ∷ as') (under_more id ts t)

  -- one asset more
  pub record IsPut (old new : List (Policy Q)) (a : AssetQuantity Q) : Type 0 where
    pub flat : flat_assets new ≡ flat_assets old ++ a ∷ []
    pub grouped : IsGrouped old → IsGrouped new

  -- ---- under the last policy

  abbrev pub with_more : Policy Q → Token Q → Policy Q
  with_more p t = record { id = p.id; tokens = p.tokens ++ t ∷ [] }

  first_stays : (p q : Policy Q) (ps : List (Policy Q)) (t : Token Q) → IsApartFromFirst p (ps ++ q ∷ []) → IsApartFromFirst p (ps ++ with_more q t ∷ [])
  first_stays p q [] t h = h
  first_stays p q (r ∷ rs) t h = h

  more_grouped : (front : List (Policy Q)) (p : Policy Q) (t : Token Q) → IsGrouped (front ++ p ∷ []) → IsGrouped (front ++ with_more p t ∷ [])
  more_grouped [] p t h = (not_nothing p.tokens t, tt, tt)
  more_grouped (q ∷ qs) p t h = (h.0, first_stays q p qs t h.1, more_grouped qs p t h.2)

  more_put : (front : List (Policy Q)) (p : Policy Q) (t : Token Q) → IsPut (front ++ p ∷ []) (front ++ with_more p t ∷ []) (asset_under p.id t)
  more_put front p t =
      let one : (q : Policy Q) → flat_assets (front ++ q ∷ []) ≡ flat_assets front ++ assets_under q.id q.tokens =
      λ q. flat_append front (q ∷ []) ∙ ap (λ (as' : List (AssetQuantity Q)). flat_assets front ++ as') (append-nil (assets_under q.id q.tokens)) in
      record {
        flat = one (with_more p t) ∙ ap (λ (as' : List (AssetQuantity Q)). flat_assets front ++ as') (under_more p.id p.tokens t)
            ∙ sym (append_assoc (flat_assets front) (assets_under p.id p.tokens) (asset_under p.id t ∷ [])) ∙ ap (λ (as' : List (AssetQuantity Q)). as' ++ asset_under p.id t ∷ []) (sym (one p));
        grouped = more_grouped front p t;
      }

  pub put_under_last : {X : Type 0} (f : X → Policy Q) (xs : List X) (k : ℕ) (last new : X) (t : Token Q) → suc k ≡ length xs → last ≡ get_or xs k last → f new ≡ with_more (f last) t
      → IsPut (map f xs) (map f (set xs k new)) (asset_under (f last).id t)
  put_under_last f xs k last new t long at is =
      let e = last_at xs k last long at in
      let olds : map f xs ≡ map f e.front ++ f last ∷ [] = ap (map f) e.is ∙ map-append f e.front (last ∷ []) in
      let news : map f (set xs k new) ≡ map f e.front ++ with_more (f last) t ∷ [] =
      ap (map f) (e.written new) ∙ map-append f e.front (new ∷ []) ∙ ap (λ (p : Policy Q). map f e.front ++ p ∷ []) is in
      subst (λ (old : List (Policy Q)). IsPut old (map f (set xs k new)) (asset_under (f last).id t)) (sym olds)
      (subst (λ (new' : List (Policy Q)). IsPut (map f e.front ++ f last ∷ []) new' (asset_under (f last).id t)) (sym news) (more_put (map f e.front) (f last) t))

  -- ---- under another policy

  -- the last one, where there is one, has another identifier
  abbrev pub IsApartFromLast : List (Policy Q) → List ℕ → Type 0
  IsApartFromLast [] id = Unit {0}
  IsApartFromLast (p ∷ []) id = p.id ≢ id
  IsApartFromLast (p ∷ q ∷ ps) id = IsApartFromLast (q ∷ ps) id

  apart_last : (front : List (Policy Q)) (p : Policy Q) (id : List ℕ) → p.id ≢ id → IsApartFromLast (front ++ p ∷ []) id
  apart_last [] p id h = h
  apart_last (q ∷ []) p id h = h
  apart_last (q ∷ r ∷ rs) p id h = apart_last (r ∷ rs) p id h

  other_grouped : (ps : List (Policy Q)) (q : Policy Q) → q.tokens ≢ [] → IsApartFromLast ps q.id → IsGrouped ps → IsGrouped (ps ++ q ∷ [])
  other_grouped [] q some apart h = (some, tt, tt)
  other_grouped (p ∷ []) q some apart h = (h.0, apart, (some, tt, tt))
  other_grouped (p ∷ r ∷ rs) q some apart h = (h.0, h.1, other_grouped (r ∷ rs) q some apart h.2)

  some_token : (t : Token Q) → t ∷ [] ≢ []
  some_token t = λ h. absurd cc

  pub put_under_other : {X : Type 0} (f : X → Policy Q) (xs : List X) (x : X) (t : Token Q) → (f x).tokens ≡ t ∷ [] → IsApartFromLast (map f xs) (f x).id
      → IsPut (map f xs) (map f (xs ++ x ∷ [])) (asset_under (f x).id t)
  put_under_other f xs x t is apart =
      let under : assets_under (f x).id (f x).tokens ++ [] ≡ asset_under (f x).id t ∷ [] =
      ap (λ (ts : List (Token Q)). assets_under (f x).id ts ++ []) is in
      subst (λ (new : List (Policy Q)). IsPut (map f xs) new (asset_under (f x).id t)) (sym (map-append f xs (x ∷ [])))
      (record {
        flat = flat_append (map f xs) (f x ∷ []) ∙ ap (λ (as' : List (AssetQuantity Q)). flat_assets (map f xs) ++ as') under;
        grouped = other_grouped (map f xs) (f x) (subst (λ (ts : List (Token Q)). ts ≢ []) (sym is) (some_token t)) apart;
      })

  pub apart_at : {X : Type 0} (f : X → Policy Q) (xs : List X) (k : ℕ) (last : X) (id : List ℕ) → suc k ≡ length xs → last ≡ get_or xs k last → (f last).id ≢ id → IsApartFromLast (map f xs) id
  apart_at f xs k last id long at h =
      let e = last_at xs k last long at in
      subst (λ (ps : List (Policy Q)). IsApartFromLast ps id) (sym (ap (map f) e.is ∙ map-append f e.front (last ∷ []))) (apart_last (map f e.front) (f last) id h)

  pub apart_none : {X : Type 0} (f : X → Policy Q) (xs : List X) (id : List ℕ) → length xs ≡ 0 → IsApartFromLast (map f xs) id
  apart_none f [] id none = tt
  apart_none f (x ∷ xs) id none = absurd (omega arith)

-- the last one written over itself
pub set_same : {X : Type 0} (xs : List X) (k : ℕ) (last : X) → suc k ≡ length xs → last ≡ get_or xs k last → set xs k last ≡ xs
set_same xs k last long at =
    let e = last_at xs k last long at in
    e.written last ∙ sym e.is
