-- T is above zero for every f32 above zero that is near it: each operation of the mended line is bounded by what it gives at the
-- ends. Assumes nothing.
use Rattle.std.proofs.Common.{◌≡◌, ℕ, zero, suc, ◌*◌, ◌%◌, ◌^◌, ◌<◌, ◌≤◌, Bool, true, false, ◌&&◌, T, eqb, ltb, leb, ℤ, sym, refl, ap, ◌∙◌, subst, true≢false, mul-le-mul, mul-pos, arith, ltb→lt, leb→le, leb-true}
use lib.Ieee.{Float, nan, inf, fin, binary32, binary64, prec, emax, low, up, down, fits, neg, add, sub, mul, div, lt, le, eq, of_bits}
use lib.Ieee.Fits.{up_pos, and_l, and_r}
use lib.Ieee.Positive.{num, den, positive, between, mul_mono, sub_anti, cross→le, le_trans_positive}
use Rattle.number_floats.specs.Constants.{one64}
use Rattle.number_floats.specs.Narrow.{narrow}
use Rattle.number_floats.proofs.Grows.{div_mono, add-mono, narrow-mono}
use Rattle.number_exp_tanh.specs.Tanh as S
use Rattle.number_exp_tanh.specs.Tanh.{two, three, fifteen, sixty_fourth, near, bend, near_zero}
use Rattle.number_exp_tanh.proofs.tanh.Near.{near-is}

-- x lies between two values above zero
record Between (lo hi x : Float) : Type 0 where
  above : T (positive x)
  from : T (le lo x)
  to : T (le x hi)

-- the ends are above zero
record Ends (lo hi : Float) : Type 0 where
  low : T (positive lo)
  high : T (positive hi)

made : (lo hi x : Float) → Ends lo hi → T (le lo x) → T (le x hi) → Between lo hi x
made lo hi x e a b = record { above = between lo x hi e.low e.high a b; from = a; to = b }

mul_in : (lo hi x lo' hi' y : Float) → Ends lo hi → Ends lo' hi' → Ends (mul binary64 lo lo') (mul binary64 hi hi') → Between lo hi x → Between lo' hi' y
    → Between (mul binary64 lo lo') (mul binary64 hi hi') (mul binary64 x y)
mul_in lo hi x lo' hi' y e e' d b b' =
    made _ _ _ d (mul_mono binary64 lo x lo' y e.low b.above e'.low b'.above b.from b'.from) (mul_mono binary64 x hi y hi' b.above e.high b'.above e'.high b.to b'.to)

div-in : (lo hi x y : Float) → Ends lo hi → T (positive y) → Ends (div binary64 lo y) (div binary64 hi y) → Between lo hi x → Between (div binary64 lo y) (div binary64 hi y) (div binary64 x y)
div-in lo hi x y e q d b = made _ _ _ d (div_mono binary64 lo x y e.low b.above q b.from) (div_mono binary64 x hi y b.above e.high q b.to)

add-in : (lo hi x lo' hi' y : Float) → Ends lo hi → Ends lo' hi' → Ends (add binary64 lo lo') (add binary64 hi hi') → Between lo hi x → Between lo' hi' y
    → Between (add binary64 lo lo') (add binary64 hi hi') (add binary64 x y)
add-in lo hi x lo' hi' y e e' d b b' =
    made _ _ _ d (add-mono binary64 lo x lo' y e.low b.above e'.low b'.above b.from b'.from) (add-mono binary64 x hi y hi' b.above e.high b'.above e'.high b.to b'.to)

sub_in : (w lo hi x : Float) → T (positive w) → T (le hi w) → Ends lo hi → Ends (sub binary64 w hi) (sub binary64 w lo) → Between lo hi x → Between (sub binary64 w hi) (sub binary64 w lo) (sub binary64 w x)
sub_in w lo hi x q k e d b =
    made _ _ _ d (sub_anti binary64 w x hi q b.above e.high b.to k) (sub_anti binary64 w lo x q e.low b.above b.from (le_trans_positive x hi w b.above e.high q b.to k))

narrow-in : (lo hi x : Float) → Ends lo hi → Ends (narrow lo) (narrow hi) → Between lo hi x → Between (narrow lo) (narrow hi) (narrow x)
narrow-in lo hi x e d b = made _ _ _ d (narrow-mono lo x e.low b.above b.from) (narrow-mono x hi b.above e.high b.to)

-- ---- the ends: the smallest f32 above zero, and 2 ^ -6
abbrev least : Float
least = of_bits binary32 1

-- an f32 above zero is at least that
least-le : (y : Float) → T (fits binary32 y) → T (positive y) → T (le least y)
unfolding fits of_bits
least-le nan f p = absurd p
least-le (inf s) f p = absurd p
least-le (fin true m e) f p = absurd p
least-le (fin false zero e) f p = absurd p
least-le (fin false (suc m) e) f p =
    let a = eqb (suc m % 2) 1 in
    let b = ltb (suc m) (2 ^ prec binary32) in
    let c = leb (down e) (2 ^ low binary32) in
    let o = ltb (suc m * up e) (2 ^ suc (emax binary32) * down e) in
    let d : down e ≤ 2 ^ low binary32 = leb→le (down e) (2 ^ low binary32) (and_r (a && b) c (and_l (a && b && c) o f)) in
    let n : 1 ≤ suc m * up e = mul-pos (ltb→lt 0 (suc m) p) (up_pos e) in
    cross→le (of_bits binary32 1) (fin false (suc m) e) tt p (mul-le-mul n d)

-- ---- each step of the line, between its ends
abbrev zed : Float → Float
zed y = mul binary64 y y

abbrev third : Float → Float
third z = div binary64 z three

abbrev fifth : Float → Float
fifth z = div binary64 (mul binary64 (mul binary64 z z) two) fifteen

ends : Ends least sixty_fourth
unfolding of_bits
ends = record { low = tt; high = tt }

module _ (y : Float) (b : Between least sixty_fourth y) where
  z-in : Between (zed least) (zed sixty_fourth) (zed y)
  unfolding of_bits mul
  z-in = mul_in least sixty_fourth y least sixty_fourth y ends ends (record { low = tt; high = tt }) b b

  third-in : Between (third (zed least)) (third (zed sixty_fourth)) (third (zed y))
  unfolding of_bits mul div
  third-in = div-in (zed least) (zed sixty_fourth) (zed y) three (record { low = tt; high = tt }) tt (record { low = tt; high = tt }) z-in

  less-in : Between (sub binary64 one64 (third (zed sixty_fourth))) (sub binary64 one64 (third (zed least))) (sub binary64 one64 (third (zed y)))
  unfolding of_bits mul div sub le
  less-in = sub_in one64 (third (zed least)) (third (zed sixty_fourth)) (third (zed y)) tt tt (record { low = tt; high = tt }) (record { low = tt; high = tt }) third-in

  square-in : Between (mul binary64 (zed least) (zed least)) (mul binary64 (zed sixty_fourth) (zed sixty_fourth)) (mul binary64 (zed y) (zed y))
  unfolding of_bits mul
  square-in = mul_in (zed least) (zed sixty_fourth) (zed y) (zed least) (zed sixty_fourth) (zed y) (record { low = tt; high = tt }) (record { low = tt; high = tt }) (record { low = tt; high = tt }) z-in z-in

  twice_in : Between (mul binary64 (mul binary64 (zed least) (zed least)) two) (mul binary64 (mul binary64 (zed sixty_fourth) (zed sixty_fourth)) two) (mul binary64 (mul binary64 (zed y) (zed y)) two)
  unfolding of_bits mul le
  twice_in =
      mul_in (mul binary64 (zed least) (zed least)) (mul binary64 (zed sixty_fourth) (zed sixty_fourth)) (mul binary64 (zed y) (zed y)) two two two
      (record { low = tt; high = tt }) (record { low = tt; high = tt }) (record { low = tt; high = tt }) square-in (record { above = tt; from = tt; to = tt })

  fifth-in : Between (fifth (zed least)) (fifth (zed sixty_fourth)) (fifth (zed y))
  unfolding of_bits mul div
  fifth-in =
      div-in (mul binary64 (mul binary64 (zed least) (zed least)) two) (mul binary64 (mul binary64 (zed sixty_fourth) (zed sixty_fourth)) two) (mul binary64 (mul binary64 (zed y) (zed y)) two) fifteen
      (record { low = tt; high = tt }) tt (record { low = tt; high = tt }) twice_in

  -- the ends of the factor, of the product and of what is narrowed
  abbrev low_factor : Float
  low_factor = add binary64 (sub binary64 one64 (third (zed sixty_fourth))) (fifth (zed least))

  abbrev high_factor : Float
  high_factor = add binary64 (sub binary64 one64 (third (zed least))) (fifth (zed sixty_fourth))

  factor-in : Between low_factor high_factor (bend (zed y))
  unfolding of_bits mul div sub add
  factor-in =
      add-in (sub binary64 one64 (third (zed sixty_fourth))) (sub binary64 one64 (third (zed least))) (sub binary64 one64 (third (zed y))) (fifth (zed least)) (fifth (zed sixty_fourth)) (fifth (zed y))
      (record { low = tt; high = tt }) (record { low = tt; high = tt }) (record { low = tt; high = tt }) less-in fifth-in

  line-in : Between (mul binary64 least low_factor) (mul binary64 sixty_fourth high_factor) (near_zero y)
  unfolding near_zero of_bits mul div sub add
  line-in = mul_in least sixty_fourth y low_factor high_factor (bend (zed y)) ends (record { low = tt; high = tt }) (record { low = tt; high = tt }) b factor-in

  narrowed-in : Between (narrow (mul binary64 least low_factor)) (narrow (mul binary64 sixty_fourth high_factor)) (narrow (near_zero y))
  unfolding of_bits mul div sub add narrow
  narrowed-in = narrow-in (mul binary64 least low_factor) (mul binary64 sixty_fourth high_factor) (near_zero y) (record { low = tt; high = tt }) (record { low = tt; high = tt }) line-in

lt_to_le : (x y : Float) → lt x y ≡ true → T (le x y)
unfolding le
lt_to_le x y e = rw e tt

right_of : (a b : Bool) → a && b ≡ true → b ≡ true
right_of true b e = e
right_of false b e = absurd (true≢false (sym e))

-- T of an f32 above zero and near it is above zero
pub above_zero : (y : Float) → T (fits binary32 y) → T (positive y) → near y ≡ true → T (positive (S.T y))
above_zero y f p h =
    subst (λ (v : Float). T (positive v)) (sym (near-is y h))
    (narrowed-in y (record { above = p; from = least-le y f p; to = lt_to_le y sixty_fourth (right_of (lt (neg sixty_fourth) y) (lt y sixty_fourth) h) })).above
