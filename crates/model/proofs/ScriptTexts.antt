-- Each script has one text, and no script's text begins another's.
use Rattle.std.proofs.Common.{◌≡◌, ℕ, List, ◌++◌, refl, sym, ap, ap₂, ◌∙◌, arith}
use Rattle.model.specs.Cbor.{Item, Items, Unsigned, Negative, Bytes, Array, Map, Null, NoItems, NextItem, Spells}
use Rattle.model.specs.Script.{Script, Scripts, RequireSignature, RequireAllOf, RequireAnyOf, RequireMOf, RequireTimeStart, RequireTimeExpire, NoScripts, NextScript, item_of_script, items_of_scripts, SpellsScript}
use Rattle.model.proofs.ItemTexts.{one_item, items_apart}
use Rattle.model.proofs.Members.{next_item_is}

-- the number that an array begins with
abbrev number_in : Item → ℕ
number_in (Unsigned n) = n
number_in (Negative n) = 0
number_in (Bytes bs) = 0
number_in (Array is) = 0
number_in (Map ps) = 0
number_in Null = 0

-- the number of the first member
abbrev first_in : Items → ℕ
first_in NoItems = 0
first_in (NextItem i is) = number_in i

-- the number that the array is of a kind by
abbrev kind_in : Item → ℕ
kind_in (Unsigned n) = 0
kind_in (Negative n) = 0
kind_in (Bytes bs) = 0
kind_in (Array is) = first_in is
kind_in (Map ps) = 0
kind_in Null = 0

all_of_is : (n : ℕ) (is js : Items) → Array (NextItem (Unsigned n) (NextItem (Array is) NoItems)) ≡ Array (NextItem (Unsigned n) (NextItem (Array js) NoItems)) → is ≡ js
all_of_is n is js e = cc

m_of_is : (k m n : ℕ) (is js : Items) → Array (NextItem (Unsigned k) (NextItem (Unsigned m) (NextItem (Array is) NoItems))) ≡ Array (NextItem (Unsigned k) (NextItem (Unsigned n) (NextItem (Array js) NoItems))) → (m ≡ n) × (is ≡ js)
m_of_is k m n is js e = (cc, cc)

mutual
  -- scripts with one item are one script
  pub same_script : (a b : Script) → item_of_script a ≡ item_of_script b → a ≡ b
  same_script (RequireSignature hash) (RequireSignature other) e = cc
  same_script (RequireAllOf ss) (RequireAllOf ts) e = ap RequireAllOf (same_scripts ss ts (all_of_is 1 (items_of_scripts ss) (items_of_scripts ts) e))
  same_script (RequireAnyOf ss) (RequireAnyOf ts) e = ap RequireAnyOf (same_scripts ss ts (all_of_is 2 (items_of_scripts ss) (items_of_scripts ts) e))
  same_script (RequireMOf m ss) (RequireMOf n ts) e =
      let s = m_of_is 3 m n (items_of_scripts ss) (items_of_scripts ts) e in
      ap₂ RequireMOf s.0 (same_scripts ss ts s.1)
  same_script (RequireTimeStart slot) (RequireTimeStart other) e = cc
  same_script (RequireTimeExpire slot) (RequireTimeExpire other) e = cc
  same_script a b e = absurd (omega (arith, ap kind_in e))

  -- the same of the scripts inside another
  pub same_scripts : (ss ts : Scripts) → items_of_scripts ss ≡ items_of_scripts ts → ss ≡ ts
  same_scripts NoScripts NoScripts e = refl
  same_scripts (NextScript s ss) (NextScript t ts) e =
      let both = next_item_is (item_of_script s) (item_of_script t) (items_of_scripts ss) (items_of_scripts ts) e in
      ap₂ NextScript (same_script s t both.0) (same_scripts ss ts both.1)
  same_scripts ss ts e = absurd cc

-- bytes are the text of one script
pub one_script : (a b : Script) (bytes : List ℕ) → SpellsScript a bytes → SpellsScript b bytes → a ≡ b
one_script a b bytes p q = same_script a b (one_item (item_of_script a) (item_of_script b) bytes p.text q.text)

-- texts of items, the one before these bytes and the other before those
pub spellings_apart : (a b : Item) (s t x y : List ℕ) → Spells a s → Spells b t → s ++ x ≡ t ++ y → (a ≡ b) × (x ≡ y)
spellings_apart a b s t x y p q e =
    items_apart a b x y p.has_text q.has_text (ap (λ (z : List ℕ). z ++ x) (sym p.spelled) ∙ e ∙ ap (λ (z : List ℕ). z ++ y) q.spelled)

-- no script's text begins another's
pub scripts_apart : (a b : Script) (s t x y : List ℕ) → SpellsScript a s → SpellsScript b t → s ++ x ≡ t ++ y → (a ≡ b) × (x ≡ y)
scripts_apart a b s t x y p q e =
    let both = spellings_apart (item_of_script a) (item_of_script b) s t x y p.text q.text e in
    (same_script a b both.0, both.1)
