-- Figures that fall out of their range, and fall further, stay out of it.
use Rattle.std.proofs.Common.{◌≡◌, ℕ, Bool, true, false, ℤ, pos, negsuc, ◌+ℤ◌, ◌-ℤ◌, ◌≤ℤ◌, refl, arith}
use lib.Signed.{le_z}
use Rattle.std.proofs.lemmas.Bool.{and_parts}
use Rattle.std.proofs.lemmas.Int.{ints}
use Rattle.seek.proofs.Cases.{no_case}
use Rattle.registers.specs.declared.figures.Figures.{Figures}
use Rattle.registers.specs.Registers.{bounded, in_range}
use Rattle.full.specs.OpenRegisters.{paid_of}

le_by : (x y : ℤ) (b : Bool) → le_z x y ≡ b → x ≤ℤ y → b ≡ true
le_by x y true e h = refl
le_by x y false e h = absurd (omega (arith, ints))

pub le_holds : (x y : ℤ) → x ≤ℤ y → le_z x y ≡ true
le_holds x y h = le_by x y (le_z x y) refl h

-- what lies between two figures in bounds is in bounds
pub bounded_between : (x y z : ℤ) → bounded x ≡ true → bounded z ≡ true → z ≤ℤ y → y ≤ℤ x → bounded y ≡ true
unfolding bounded
bounded_between x y z bx bz l u =
    let px = and_parts (le_z (negsuc 999999999999999) x) (le_z x (pos 1000000000000000)) bx in
    let pz = and_parts (le_z (negsuc 999999999999999) z) (le_z z (pos 1000000000000000)) bz in
    let low : le_z (negsuc 999999999999999) y ≡ true = le_holds (negsuc 999999999999999) y (omega (arith, ints, pz.0)) in
    let high : le_z y (pos 1000000000000000) ≡ true = le_holds y (pos 1000000000000000) (omega (arith, ints, px.1)) in
    rw (low, high)

-- figures in range, part by part
pub record Parts (f : Figures) : Type 0 where
  pub limit : bounded f.limit ≡ true
  pub blocked : bounded f.blocked ≡ true
  pub third : bounded f.third ≡ true
  pub sum : bounded (f.limit +ℤ f.third) ≡ true
  pub least : le_z (pos 0) f.third ≡ true

pub parts : (f : Figures) → in_range f ≡ true → Parts f
unfolding in_range
parts f h =
    let l = and_parts (bounded f.limit) _ h in
    let b = and_parts (bounded f.blocked) _ l.1 in
    let t = and_parts (bounded f.third) _ b.1 in
    let s = and_parts (bounded (f.limit +ℤ f.third)) _ t.1 in
    record { limit = l.0; blocked = b.0; third = t.0; sum = s.0; least = s.1 }

pub whole : (f : Figures) → Parts f → in_range f ≡ true
unfolding in_range
whole f p = rw (p.limit, p.blocked, p.third, p.sum, p.least)

-- figures that fell once, between figures in range and figures that fell again
fell_once : (f : Figures) (v k v' k' : ℕ) → in_range f ≡ true → in_range (paid_of (paid_of f v k) v' k') ≡ true → in_range (paid_of f v k) ≡ true
unfolding paid_of
fell_once f v k v' k' h e =
    let p = parts f h in
    let q = parts (paid_of (paid_of f v k) v' k') e in
    whole (paid_of f v k)
    (record {
      limit = bounded_between f.limit (f.limit -ℤ pos v) (f.limit -ℤ pos v -ℤ pos v') p.limit q.limit (omega (arith, ints)) (omega (arith, ints));
      blocked = bounded_between f.blocked (f.blocked -ℤ pos k) (f.blocked -ℤ pos k -ℤ pos k') p.blocked q.blocked (omega (arith, ints)) (omega (arith, ints));
      third = p.third;
      sum = bounded_between (f.limit +ℤ f.third) ((f.limit -ℤ pos v) +ℤ f.third) ((f.limit -ℤ pos v -ℤ pos v') +ℤ f.third) p.sum q.sum (omega (arith, ints)) (omega (arith, ints));
      least = p.least;
    })

falls_by : (f : Figures) (v k v' k' : ℕ) (b : Bool) → in_range (paid_of (paid_of f v k) v' k') ≡ b → in_range f ≡ true → in_range (paid_of f v k) ≡ false → b ≡ false
falls_by f v k v' k' false e h out = refl
falls_by f v k v' k' true e h out = no_case (let t = fell_once f v k v' k' h e in cc)

pub falls : (f : Figures) (v k v' k' : ℕ) → in_range (paid_of f v k) ≡ false → in_range f ≡ true → in_range (paid_of (paid_of f v k) v' k') ≡ false
falls f v k v' k' out h = falls_by f v k v' k' _ refl h out
