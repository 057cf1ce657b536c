-- A sign flipped goes through products, narrowing and the order. Assumes nothing.
use Rattle.std.proofs.Common.{◌≡◌, ℕ, ◌*◌, Bool, true, false, cond, not, eqb, ltb, sym, refl, ap, ◌∙◌, add_comm}
use lib.Ieee.{Float, nan, inf, fin, Format, binary32, up, down, neg, round, mul, lt, below, unlike}
use Rattle.number_floats.specs.Narrow.{narrow}
use Rattle.number_floats.proofs.Bound.{neg-round}

pub neg-neg : (x : Float) → neg (neg x) ≡ x
unfolding neg
neg-neg nan = refl
neg-neg (inf true) = refl
neg-neg (inf false) = refl
neg-neg (fin true m e) = refl
neg-neg (fin false m e) = refl

round-not : (f : Format) (s : Bool) (a c : ℕ) → round f (not s) a c ≡ neg (round f s a c)
round-not f false a c = neg-round f a c
round-not f true a c = sym (ap neg (neg-round f a c) ∙ neg-neg (round f false a c))

unlike-not : (s t : Bool) → unlike (not s) t ≡ not (unlike s t)
unlike-not true true = refl
unlike-not true false = refl
unlike-not false true = refl
unlike-not false false = refl

neg-if : (b : Bool) (s t : Bool) → cond b nan (inf (unlike (not s) t)) ≡ neg (cond b nan (inf (unlike s t)))
unfolding neg
neg-if true s t = refl
neg-if false s t = ap inf (unlike-not s t)

pub mul-neg : (f : Format) (x y : Float) → mul f (neg x) y ≡ neg (mul f x y)
unfolding mul neg
mul-neg f nan y = refl
mul-neg f (inf s) nan = refl
mul-neg f (inf s) (inf t) = ap inf (unlike-not s t)
mul-neg f (inf s) (fin t n d) = neg-if (eqb n 0) s t
mul-neg f (fin s m e) nan = refl
mul-neg f (fin s m e) (inf t) = neg-if (eqb m 0) s t
mul-neg f (fin s m e) (fin t n d) =
    ap (λ (b : Bool). round f b (m * up e * (n * up d)) (down e * down d)) (unlike-not s t) ∙ round-not f (unlike s t) (m * up e * (n * up d)) (down e * down d)

-- a square has no sign
pub mul-neg-both : (f : Format) (x : Float) → mul f (neg x) (neg x) ≡ mul f x x
unfolding mul neg
mul-neg-both f nan = refl
mul-neg-both f (inf true) = refl
mul-neg-both f (inf false) = refl
mul-neg-both f (fin true m e) = refl
mul-neg-both f (fin false m e) = refl

pub narrow-neg : (x : Float) → narrow (neg x) ≡ neg (narrow x)
unfolding narrow neg
narrow-neg nan = refl
narrow-neg (inf s) = refl
narrow-neg (fin s m e) = round-not binary32 s (m * up e) (down e)

below-not : (s t : Bool) (a b : ℕ) → below (not s) a (not t) b ≡ below t b s a
below-not true true a b = refl
below-not true false a b = refl
below-not false true a b = ap (ltb 0) (add_comm a b)
below-not false false a b = refl

pub lt-neg : (x y : Float) → lt (neg x) (neg y) ≡ lt y x
unfolding lt neg
lt-neg nan nan = refl
lt-neg nan (inf t) = refl
lt-neg nan (fin t n d) = refl
lt-neg (inf s) nan = refl
lt-neg (inf true) (inf true) = refl
lt-neg (inf true) (inf false) = refl
lt-neg (inf false) (inf true) = refl
lt-neg (inf false) (inf false) = refl
lt-neg (inf s) (fin t n d) = refl
lt-neg (fin s m e) nan = refl
lt-neg (fin s m e) (inf true) = refl
lt-neg (fin s m e) (inf false) = refl
lt-neg (fin s m e) (fin t n d) = below-not s t (m * up e * down d) (n * up d * down e)
