use Rattle.std.proofs.Common.{◌≡◌, ℕ, ◌+◌, ◌*◌, ◌^◌, ◌<◌, ◌≤◌, List, length, ap, ◌∙◌, subst, arith, pow-add}
use native.Mathlib.Nat.{pow-le-pow_right}
use Rattle.std.proofs.lemmas.Int.Digits.{number_more}
use Rattle.std.proofs.lemmas.List.{take_all}
use Rattle.byte_fields.specs.Fields.{be}
use Rattle.byte_fields.proofs.unsigned.Goals as goal

-- one more byte
step : (n i b : ℕ) → n < 256 ^ i → b < 256 → n * 256 + b < 256 ^ (i + 1)
step n i b h k = omega (arith, pow-add 256 i 1)

-- of eight bytes at most, one more still fits
room : (n i b : ℕ) → n < 256 ^ i → b < 256 → i < 8 → n * 256 + b < 2 ^ 64
room n i b h k l =
    let j : i + 1 ≤ 8 = omega arith in
    let p : 256 ^ (i + 1) ≤ 256 ^ 8 = pow-le-pow_right (omega arith) j in
    omega (arith, step n i b h k)

pub overflow_mul-n : goal.overflow_mul-n
overflow_mul-n c = omega (arith, room c.loop-b.n c.loop-b.b-index 0 c.loop-b.invariant.1 (omega arith) (omega arith))

pub overflow_add-n : goal.overflow_add-n
overflow_add-n c = omega (arith, room c.loop-b.n c.loop-b.b-index c.from.result c.loop-b.invariant.1 (omega arith) (omega arith))

pub loop-b-preserved : goal.loop-b-preserved
loop-b-preserved c = (
  let e = number_more 256 c.args.field.now c.loop-b.b-index c.loop-b-test.true in omega (arith, e, c.loop-b.invariant.0),
  step c.loop-b.n c.loop-b.b-index c.from.result c.loop-b.invariant.1 (omega arith),
)

pub returns : goal.returns
returns c =
    let s : List ℕ = c.args.field.now in
    let i : c.loop-b.b-index ≡ length s = omega arith in
    record {
      value = c.loop-b.invariant.0 ∙ ap be (take_all _ s c.loop-b-test.false);
      small = subst (λ (k : ℕ). c.loop-b.n < 256 ^ k) i c.loop-b.invariant.1;
    }
