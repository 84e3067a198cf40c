use Rattle.std.proofs.Common.{◌≡◌, ◌-◌, ◌^◌}
use Rattle.ed25519.specs.Arithmetic.{power}
use Rattle.ed25519.proofs.Powers.{power_sum, power_product, more_power, second}
use Rattle.ed25519.proofs.field_element.FieldElement.long_powers.Goals as goal

pub returns : goal.returns
returns c =
    let x = c.args.self.now in
    let two : c.squared-two.result ≡ power x 2 = second _ _ c.squared-two.ensures in
    let eight : c.squared_times.result ≡ power x 8 = power_product _ 2 4 _ _ two c.squared_times.ensures in
    let nine : c.times-nine.result ≡ power x 9 = more_power _ 8 _ _ eight c.times-nine.ensures in
    let eleven : c.times-eleven.result ≡ power x 11 = power_sum _ 9 2 _ _ _ nine two c.times-eleven.ensures in
    let twenty_two : c.squared.result ≡ power x 22 = power_sum _ 11 11 _ _ _ eleven eleven c.squared.ensures in
    let b5 : c.times-five_bits.result ≡ power x (2 ^ 5 - 1) =
    power_sum _ 22 9 _ _ _ twenty_two nine c.times-five_bits.ensures in
    let s10 : c.squared_times-2.result ≡ power x (2 ^ 10 - 2 ^ 5) =
    power_product _ (2 ^ 5 - 1) (2 ^ 5) _ _ b5 c.squared_times-2.ensures in
    let b10 : c.times-ten_bits.result ≡ power x (2 ^ 10 - 1) =
    power_sum _ (2 ^ 10 - 2 ^ 5) (2 ^ 5 - 1) _ _ _ s10 b5 c.times-ten_bits.ensures in
    let s20 : c.squared_times-3.result ≡ power x (2 ^ 20 - 2 ^ 10) =
    power_product _ (2 ^ 10 - 1) (2 ^ 10) _ _ b10 c.squared_times-3.ensures in
    let b20 : c.times-twenty_bits.result ≡ power x (2 ^ 20 - 1) =
    power_sum _ (2 ^ 20 - 2 ^ 10) (2 ^ 10 - 1) _ _ _ s20 b10 c.times-twenty_bits.ensures in
    let s40 : c.squared_times-4.result ≡ power x (2 ^ 40 - 2 ^ 20) =
    power_product _ (2 ^ 20 - 1) (2 ^ 20) _ _ b20 c.squared_times-4.ensures in
    let b40 : c.times-forty_bits.result ≡ power x (2 ^ 40 - 1) =
    power_sum _ (2 ^ 40 - 2 ^ 20) (2 ^ 20 - 1) _ _ _ s40 b20 c.times-forty_bits.ensures in
    let s50 : c.squared_times-5.result ≡ power x (2 ^ 50 - 2 ^ 10) =
    power_product _ (2 ^ 40 - 1) (2 ^ 10) _ _ b40 c.squared_times-5.ensures in
    let b50 : c.times-fifty_bits.result ≡ power x (2 ^ 50 - 1) =
    power_sum _ (2 ^ 50 - 2 ^ 10) (2 ^ 10 - 1) _ _ _ s50 b10 c.times-fifty_bits.ensures in
    let s100 : c.squared_times-6.result ≡ power x (2 ^ 100 - 2 ^ 50) =
    power_product _ (2 ^ 50 - 1) (2 ^ 50) _ _ b50 c.squared_times-6.ensures in
    let b100 : c.times-hundred_bits.result ≡ power x (2 ^ 100 - 1) =
    power_sum _ (2 ^ 100 - 2 ^ 50) (2 ^ 50 - 1) _ _ _ s100 b50 c.times-hundred_bits.ensures in
    let s200 : c.squared_times-7.result ≡ power x (2 ^ 200 - 2 ^ 100) =
    power_product _ (2 ^ 100 - 1) (2 ^ 100) _ _ b100 c.squared_times-7.ensures in
    let b200 : c.times-two_hundred_bits.result ≡ power x (2 ^ 200 - 1) =
    power_sum _ (2 ^ 200 - 2 ^ 100) (2 ^ 100 - 1) _ _ _ s200 b100 c.times-two_hundred_bits.ensures in
    let s250 : c.squared_times-8.result ≡ power x (2 ^ 250 - 2 ^ 50) =
    power_product _ (2 ^ 200 - 1) (2 ^ 50) _ _ b200 c.squared_times-8.ensures in
    let b250 : c.times-all_bits.result ≡ power x (2 ^ 250 - 1) =
    power_sum _ (2 ^ 250 - 2 ^ 50) (2 ^ 50 - 1) _ _ _ s250 b50 c.times-all_bits.ensures in
    (b250, eleven)
