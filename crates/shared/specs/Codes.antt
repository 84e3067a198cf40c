-- THIS FILE MAY BE SKIPPED: it defines nothing that the node means. What a seat knows has a code, a one to one map into
-- trees of numbers, as each value has that a type of the code stands for.
use Rattle.std.specs.Prelude.{◌≡◌, ℕ, zero, suc, Bool}
use mathlib.Core.Path.{refl}
use Rattle.std.specs.Coded.{Coded, coded_ℕ, coded_bool, coded×, code_by}
use Rattle.shared.specs.Starts.{Start, coded_start}
use Rattle.model.specs.Journal.{Journal}
use Rattle.model.specs.JournalCodes.{coded_journal}
use Rattle.shared.specs.Heights.{Role, Deals, Calls, Carries, Spent, SeatView}

-- a role as two numbers, and back
abbrev pub fields_of_role : Role → ℕ × ℕ
fields_of_role (Deals next) = (0, next)
fields_of_role (Calls caller) = (1, caller)
fields_of_role Carries = (2, 0)
fields_of_role Spent = (3, 0)

abbrev pub role_at : ℕ → ℕ → Role
role_at zero n = Deals n
role_at (suc zero) n = Calls n
role_at (suc (suc zero)) n = Carries
role_at (suc (suc (suc k))) n = Spent

pub role_back : (r : Role) → role_at (fields_of_role r).0 (fields_of_role r).1 ≡ r
role_back (Deals next) = refl
role_back (Calls caller) = refl
role_back Carries = refl
role_back Spent = refl

-- what a seat is for
abbrev pub coded_role : Coded Role
coded_role = code_by (ℕ × ℕ) (coded× coded_ℕ coded_ℕ) fields_of_role (λ p. role_at p.0 p.1) role_back

-- the fields of a view, as pairs
abbrev pub ViewFields : Type 0
ViewFields = Start × (Role × (Bool × (Journal × (Journal × (Journal × (ℕ × ℕ))))))

-- what a seat knows
abbrev pub coded_seat_view : Coded SeatView
coded_seat_view =
    code_by ViewFields
    (coded× coded_start (coded× coded_role (coded× coded_bool (coded× coded_journal (coded× coded_journal
    (coded× coded_journal (coded× coded_ℕ coded_ℕ)))))))
    (λ v. (v.start, (v.role, (v.writes, (v.seen, (v.before, (v.calls, (v.loads, v.last))))))))
    (λ p. record {
      start = p.0;
      role = p.1.0;
      writes = p.1.1.0;
      seen = p.1.1.1.0;
      before = p.1.1.1.1.0;
      calls = p.1.1.1.1.1.0;
      loads = p.1.1.1.1.1.1.0;
      last = p.1.1.1.1.1.1.1;
    })
    (λ _. refl)
