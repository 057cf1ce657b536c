-- The order of floats is strict: no float is below itself, and what is below a float is below all above it. Assumes nothing.
use Rattle.std.proofs.Common.{◌≡◌, ℕ, zero, suc, ◌+◌, ◌*◌, ◌<◌, Bool, true, false, ◌&&◌, T, refl, le_refl, lt_of_mul-lt-mul_right, mul-lt-mul_of_pos_right, mul-pos, zero-mul, mul_right_comm, arith, ltb→lt, lt→ltb, le-ltb}
use lib.Ieee.{Float, nan, inf, fin, up, down, below, lt}
use lib.Ieee.Fits.{down_pos}
use lib.Ieee.Scale.{finite}

pub lt-self : (x : Float) → lt x x ≡ false
unfolding lt
lt-self nan = refl
lt-self (inf true) = refl
lt-self (inf false) = refl
lt-self (fin false m e) = le-ltb _ _ (le_refl (m * up e * down e))
lt-self (fin true m e) = le-ltb _ _ (le_refl (m * up e * down e))

-- between the infinities: finite
pub finite-tests : (x : Float) → lt x (inf false) && lt (inf true) x ≡ finite x
unfolding lt
finite-tests nan = refl
finite-tests (inf false) = refl
finite-tests (inf true) = refl
finite-tests (fin s m e) = refl

-- a / x < b / y and b / y < c / z, as products
chained : (a x b y c z : ℕ) → 0 < x → 0 < z → a * y < b * x → b * z < c * y → a * z < c * x
chained a x b y c z hx hz l m =
    let u : a * y * z < b * x * z = mul-lt-mul_of_pos_right l hz in
    let v : b * z * x < c * y * x = mul-lt-mul_of_pos_right m hx in
    lt_of_mul-lt-mul_right y (omega (arith, mul_right_comm a y z, mul_right_comm b x z, mul_right_comm c y x))

positive : (a y : ℕ) → 0 < a * y → 0 < a
positive zero y h = absurd (omega (arith, zero-mul y))
positive (suc a) y h = omega arith

signed : (s t u : Bool) (a x b y c z : ℕ) → 0 < x → 0 < y → 0 < z → T (below s (a * y) t (b * x)) → T (below t (b * z) u (c * y)) → T (below s (a * z) u (c * x))
signed false false false a x b y c z hx hy hz l m = lt→ltb _ _ (chained a x b y c z hx hz (ltb→lt _ _ l) (ltb→lt _ _ m))
signed false false true a x b y c z hx hy hz l m = absurd m
signed false true u a x b y c z hx hy hz l m = absurd l
signed true false false a x b y c z hx hy hz l m =
    let h = positive c y (omega (arith, ltb→lt (b * z) (c * y) m)) in let k : 0 < a * z + c * x = omega (arith, mul-pos h hx) in lt→ltb _ _ k
signed true false true a x b y c z hx hy hz l m = absurd m
signed true true false a x b y c z hx hy hz l m =
    let h = positive a y (omega (arith, ltb→lt (b * x) (a * y) l)) in let k : 0 < a * z + c * x = omega (arith, mul-pos h hz) in lt→ltb _ _ k
signed true true true a x b y c z hx hy hz l m = lt→ltb _ _ (chained c z b y a x hz hx (ltb→lt _ _ m) (ltb→lt _ _ l))

pub lt_trans : (x y z : Float) → T (lt x y) → T (lt y z) → T (lt x z)
unfolding lt
lt_trans nan y z l m = absurd l
lt_trans (inf s) nan z l m = absurd m
lt_trans (inf false) (inf t) z l m = absurd l
lt_trans (inf false) (fin t n d) z l m = absurd l
lt_trans (inf true) (inf t) nan l m = absurd m
lt_trans (inf true) (inf true) (inf true) l m = absurd m
lt_trans (inf true) (inf false) (inf true) l m = absurd m
lt_trans (inf true) (inf t) (inf false) l m = tt
lt_trans (inf true) (inf t) (fin u k g) l m = tt
lt_trans (inf true) (fin t n d) nan l m = absurd m
lt_trans (inf true) (fin t n d) (inf true) l m = absurd m
lt_trans (inf true) (fin t n d) (inf false) l m = tt
lt_trans (inf true) (fin t n d) (fin u k g) l m = tt
lt_trans (fin s a e) nan z l m = absurd l
lt_trans (fin s a e) (inf true) z l m = absurd l
lt_trans (fin s a e) (inf false) nan l m = absurd m
lt_trans (fin s a e) (inf false) (inf t) l m = absurd m
lt_trans (fin s a e) (inf false) (fin u k g) l m = absurd m
lt_trans (fin s a e) (fin t n d) nan l m = absurd m
lt_trans (fin s a e) (fin t n d) (inf true) l m = absurd m
lt_trans (fin s a e) (fin t n d) (inf false) l m = tt
lt_trans (fin s a e) (fin t n d) (fin u k g) l m = signed s t u (a * up e) (down e) (n * up d) (down d) (k * up g) (down g) (down_pos e) (down_pos d) (down_pos g) l m
