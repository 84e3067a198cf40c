-- THIS FILE MAY BE SKIPPED: it defines nothing that the inbox means. What a pass knows has a code, a one to one map
-- into trees of numbers, as each value has that a type of the code stands for.
use Rattle.std.specs.Prelude.{◌≡◌, ℕ, zero, suc, List}
use mathlib.Core.Path.{refl}
use Rattle.std.specs.Coded.{Coded, coded_ℕ, coded_list, coded×, code_by}
use Rattle.inbox.specs.Arrivals.{Arrival, SentBy, Intake}
use Rattle.inbox.specs.Rule.{Role, Takes, Sends, Carries, Spent, PassView}

abbrev pub coded_arrival : Coded Arrival
coded_arrival =
    code_by (ℕ × List ℕ) (coded× coded_ℕ (coded_list coded_ℕ)) (λ a. (a.peer, a.bytes))
    (λ p. record { peer = p.0; bytes = p.1 }) (λ _. refl)

abbrev pub coded_arrivals : Coded (List Arrival)
coded_arrivals = coded_list coded_arrival

abbrev pub coded_lists : Coded (List (List ℕ))
coded_lists = coded_list (coded_list coded_ℕ)

abbrev pub coded_sent_by : Coded SentBy
coded_sent_by =
    code_by (ℕ × List (List ℕ)) (coded× coded_ℕ coded_lists) (λ s. (s.peer, s.sent))
    (λ p. record { peer = p.0; sent = p.1 }) (λ _. refl)

abbrev pub coded_intake : Coded Intake
coded_intake =
    code_by (List Arrival × List SentBy) (coded× coded_arrivals (coded_list coded_sent_by)) (λ i. (i.taken, i.told))
    (λ p. record { taken = p.0; told = p.1 }) (λ _. refl)

-- a role as two numbers, and back
abbrev pub fields_of_role : Role → ℕ × ℕ
fields_of_role (Takes next) = (0, next)
fields_of_role (Sends peer) = (1, peer)
fields_of_role Carries = (2, 0)
fields_of_role Spent = (3, 0)

abbrev pub role_at : ℕ → ℕ → Role
role_at zero n = Takes n
role_at (suc zero) n = Sends n
role_at (suc (suc zero)) n = Carries
role_at (suc (suc (suc k))) n = Spent

pub role_back : (r : Role) → role_at (fields_of_role r).0 (fields_of_role r).1 ≡ r
role_back (Takes next) = refl
role_back (Sends peer) = refl
role_back Carries = refl
role_back Spent = refl

abbrev pub coded_role : Coded Role
coded_role = code_by (ℕ × ℕ) (coded× coded_ℕ coded_ℕ) fields_of_role (λ p. role_at p.0 p.1) role_back

-- the fields of what a pass knows, as pairs
abbrev pub ViewFields : Type 0
ViewFields = Role × (List (List ℕ) × (List Arrival × (List SentBy × List Arrival)))

abbrev pub coded_pass_view : Coded PassView
coded_pass_view =
    code_by ViewFields
    (coded× coded_role (coded× coded_lists (coded× coded_arrivals (coded× (coded_list coded_sent_by) coded_arrivals))))
    (λ v. (v.role, (v.sent, (v.taken, (v.told, v.heard)))))
    (λ p. record { role = p.0; sent = p.1.0; taken = p.1.1.0; told = p.1.1.1.0; heard = p.1.1.1.1 })
    (λ _. refl)
