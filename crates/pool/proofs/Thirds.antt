-- A third figure that is lowered by no more than it holds stays in range.
use Rattle.std.proofs.Common.{◌≡◌, ℕ, true, pos, ◌+ℤ◌, ◌-ℤ◌, ◌≤ℤ◌, refl, arith}
use lib.Signed.{le_z}
use Rattle.std.proofs.lemmas.Int.{ints, to_z_pos}
use Rattle.registers.specs.declared.figures.Figures.{Figures}
use Rattle.registers.specs.Registers.{bounded, in_range}
use Rattle.partial.proofs.Falls.{le_holds, bounded_between, parts, whole}
use Rattle.pool.specs.Calls.{third_lowered}

-- 0 and a limit are in bounds
nothing_bounded : bounded (pos 0) ≡ true
unfolding bounded
nothing_bounded = refl

pub thirds : (f : Figures) (m : ℕ) → in_range f ≡ true → le_z (pos m) f.third ≡ true → in_range (third_lowered f m) ≡ true
unfolding third_lowered
thirds f m h e =
    let p = parts f h in
    let left : pos 0 ≤ℤ (f.third -ℤ pos m) = omega (arith, ints, e) in
    whole (third_lowered f m)
    (record {
      limit = p.limit;
      blocked = p.blocked;
      third = bounded_between f.third (f.third -ℤ pos m) (pos 0) p.third nothing_bounded left (omega (arith, ints));
      sum = bounded_between (f.limit +ℤ f.third) (f.limit +ℤ (f.third -ℤ pos m)) f.limit p.sum p.limit (omega (arith, ints)) (omega (arith, ints));
      least = le_holds (pos 0) (f.third -ℤ pos m) left;
    })

-- a count that is read as a signed number
pub ruleset counted = (to_z_pos)
