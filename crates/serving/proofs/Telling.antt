-- From what a call came to, to its reply.
use Rattle.std.proofs.Common.{◌≡◌, inl, inr, ℕ, List, Option}
use Rattle.model.specs.Ledger.{Network}
use Rattle.model.specs.History.{State}
use Rattle.model.specs.Journal.{Knowledge}
use Rattle.shared.specs.Asking.{IsAsked}
use Rattle.conversing.specs.declared.outcome.Outcome.{Outcome}
use Rattle.serving.specs.Lanes.{HasLooked}
use Rattle.serving.specs.Reasons.{words}
use Rattle.serving.specs.Replies.{Tells, Replies, Told, Lost}

-- an outcome that the call has is told, or there was no memory for it
pub replied : {id : Option (List ℕ)} {may : Outcome → Type 0} {lost : Type 0} {reply : List ℕ} (outcome : Outcome) → may outcome → lost → Tells id outcome reply → Replies id may lost reply
replied outcome comes gone told = elim told [ inl e ↦ Told outcome comes e | inr e ↦ Lost gone e ]

-- who asked has looked at the height
pub looked : {network : Network} {before after : Knowledge} {says : State → Type 0} → IsAsked network before after says → HasLooked network before after
looked asked = record { height = asked.height; look = asked.look }

-- what follows from what was told is so too
pub asked_so : {network : Network} {before after : Knowledge} {says so : State → Type 0} → IsAsked network before after says → ((s : State) → says s → so s) → IsAsked network before after so
asked_so asked follows =
    record { height = asked.height; look = asked.look; told = record { legal = asked.told.legal; so = follows asked.told.legal.state asked.told.so } }

-- a reply that tells what is found by one who asks
pub answered : {id : Option (List ℕ)} {network : Network} {before after : Knowledge} {says : State → Type 0} {may : Outcome → Type 0} {reply : List ℕ} (outcome : Outcome) → IsAsked network before after says → may outcome → Tells id outcome reply → Replies id may (HasLooked network before after) reply
answered outcome asked comes told = replied outcome comes (looked asked) told

-- what follows from an outcome, and from there being none, follows from the reply
pub replies_so : {id : Option (List ℕ)} {may may' : Outcome → Type 0} {lost lost' : Type 0} {reply : List ℕ} → Replies id may lost reply → ((outcome : Outcome) → may outcome → may' outcome) → (lost → lost') → Replies id may' lost' reply
replies_so (Told outcome comes e) so lost_so = Told outcome (so outcome comes) e
replies_so (Lost gone e) so lost_so = Lost (lost_so gone) e

-- words of the same parts are the same
pub same_words : {n n' : ℕ} {a a' b b' : List ℕ} → n ≡ n' → a ≡ a' → b ≡ b' → words n a b ≡ words n' a' b'
same_words number name sentence = cc
