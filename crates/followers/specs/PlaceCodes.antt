-- THIS FILE MAY BE SKIPPED: the places of followers are plain data, as what a type of the code stands for has to be.
use Rattle.std.specs.Prelude.{ℕ, refl}
use Rattle.std.specs.Coded.{Coded, code_by, coded×, coded_ℕ, coded_list, coded_option}
use Rattle.followers.specs.declared.place.Place.{Place}
use Rattle.followers.specs.Places.{Places}

abbrev pub coded_place : Coded Place
coded_place =
    code_by (ℕ × ℕ) (coded× coded_ℕ coded_ℕ) (λ p. (p.told, p.agreed)) (λ p. record { told = p.0; agreed = p.1 })
    (λ _. refl)

abbrev pub coded_places : Coded Places
coded_places = coded_list (coded_option coded_place)
