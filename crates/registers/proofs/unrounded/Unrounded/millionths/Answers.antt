use Rattle.std.proofs.Common.{◌≡◌, ℕ, ◌*◌, ◌≤◌, ap, mul-le-mul, arith}
use Rattle.registers.specs.Amounts.{rounded}
use Rattle.registers.proofs.unrounded.Unrounded.millionths.Goals as goal

pub overflow_add-result : goal.overflow_add-result
overflow_add-result c =
    let same : c.args.self.value * c.from.result ≡ c.args.self.value * c.args.ratio.value = ap (λ (k : ℕ). c.args.self.value * k) c.from.ensures in
    let most : c.args.self.value * c.args.ratio.value ≤ 100000000000000 * 10000 = mul-le-mul c.args.self.most c.args.ratio.most in
    omega arith

pub returns : goal.returns
unfolding rounded
returns c =
    let same : c.args.self.value * c.from.result ≡ c.args.self.value * c.args.ratio.value = ap (λ (k : ℕ). c.args.self.value * k) c.from.ensures in
    let most : c.args.self.value * c.args.ratio.value ≤ 100000000000000 * 10000 = mul-le-mul c.args.self.most c.args.ratio.most in
    record { value = omega arith; bound = omega arith }
