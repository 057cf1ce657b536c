-- Laws of the steps, what one leaves, and of a run, what it hands on. Assumes nothing.
use mathlib.Core.Bool.{Bool, true, false, ◌&&◌, true≢false}
use mathlib.Core.Path.{◌≡◌, refl, sym, ap, ◌∙◌}
use mathlib.Core.List.{List}
use Prim.Native.Nat.{ℕ, zero, suc, ◌+◌, ◌*◌, ◌/◌, ◌≤◌, ◌<◌}
use native.Mathlib.Nat.{le_refl, zero-mul, suc-mul}
use native.Mathlib.Omega.{arith}
use borrow.Author.Tests.{le-leb, lt-leb, ne_eqb}
use lib.Dec.{eqb}
use lib.ListN.{length}
use lib.Ieee.{Float}
use Rattle.buffers.specs.Region.{region, put}
use Rattle.buffers.specs.inner.Apart.{Apart}
use Rattle.buffers.specs.inner.Room.{inside, where_fits}
use Rattle.buffers.proofs.Regions.{length-put, region-put, region-put-same}
use Rattle.buffers.proofs.Rooms.{two}
use Rattle.encoder_linear.specs.Linear.{linear_of, carried, linear_by}
use Rattle.encoder_linear.proofs.Sums.{length-linear, length-linear-by}
use Rattle.encoder_linear.specs.inner.Fits.{FromFits}
use Rattle.encoder_linear.specs.inner.Room.{from_fits}
use Rattle.encoder_linear.proofs.Rooms.{linear-fits, from-fits}
use Rattle.encoder_elements.specs.Element.{added, gated, gelued, rounded}
use Rattle.encoder_elements.specs.inner.Fits.{PairFits}
use Rattle.encoder_elements.specs.inner.Room.{pair_fits}
use Rattle.encoder_elements.proofs.Lengths.{length-added, length-gated, length-gelued, length-rounded}
use Rattle.encoder_elements.proofs.Rooms.{pair_fits_lem}
use Rattle.encoder_kernels.specs.Kernels.{all_finite, norm_of}
use Rattle.encoder_rotation.specs.Rotate.{rotate_of}
use Rattle.encoder_kernels.specs.inner.Fits.{NormFits}
use Rattle.encoder_rotation.specs.Axes.{expand}
use Rattle.encoder_rotation.specs.inner.Fits.{RotateFits, AxesFits}
use Rattle.encoder_kernels.specs.inner.Room.{norm_fits}
use Rattle.encoder_rotation.specs.inner.Room.{rotate_fits, axes_fit}
use Rattle.encoder_kernels.proofs.Lengths.{length-norm}
use Rattle.encoder_kernels.proofs.Rooms.{norm-fits}
use Rattle.encoder_rotation.proofs.Rooms.{rotate-fits, axes-fit}
use Rattle.encoder_rotation.proofs.Rotated.{length-rotate}
use Rattle.encoder_steps.specs.Run.{Run, stopped, went, answer, then_run}
use Rattle.encoder_steps.specs.inner.Step.{finite_at, linear_at_fits, bias_at_fits, LinearAt, Tried, Wrote}

pub answer-then : (a b : Bool) (l m : List Float) (f : List Float → Run) → f l ≡ answer b m → answer (a && b) m ≡ then_run (answer a l) f
answer-then true b l m f e = sym e
answer-then false b l m f e = refl

-- where one row does not lie inside, none do but no row at all
pub no_row : (s : List Float) (y n d : ℕ) → length s < y + d → eqb n 0 && finite_at s y 0 ≡ finite_at s y (n * d)
unfolding finite_at
no_row s y zero d h = ap (finite_at s y) (sym (zero-mul d))
no_row s y (suc n) d h = let e = suc-mul n d in rw (ne_eqb (suc n) 0 (λ z. omega arith), lt-leb (y + suc n * d) (length s) (omega arith))

module _ {s t l : List Float} {y : ℕ} {ok r : Bool} (w : Wrote s t y l ok r) (n : ℕ) (h : length l ≡ n) where
  -- what was written
  pub got : y + n ≤ length s → region t y n ≡ l
  got k = ap (λ u. region u y n) w.all ∙ region-put-same s y l n (sym h) (rw h k)

  pub long : length t ≡ length s
  long = ap length w.all ∙ length-put s y l

  -- what was left
  pub left : (a m : ℕ) → Apart a m y n → region t a m ≡ region s a m
  left a m k = ap (λ u. region u a m) w.all ∙ region-put s y l a m (rw h k)

-- ---- what each step says of its call: s before it, t behind it

abbrev pub LinearTried : List Float → ℕ → ℕ → ℕ → ℕ → ℕ → ℕ → List Float → List Float → Bool → Bool → Type 0
LinearTried w x y n nin nout at s t ok r =
    Tried (linear_at_fits (length s) (length w) x y n nin nout at) s t y (n * nout) (linear_of n nin nout (region w at (nout * nin)) (region s x (n * nin))) ok r

abbrev pub FromTried : List Float → List Float → ℕ → ℕ → ℕ → ℕ → List Float → List Float → Bool → Bool → Type 0
FromTried x w y n nin nout s t ok r = Tried (from_fits (length x) (length s) (length w) y n nin nout) s t y (n * nout) (linear_of n nin nout w x) ok r

abbrev pub NormTried : List Float → ℕ → ℕ → ℕ → ℕ → List Float → List Float → Bool → Bool → Type 0
NormTried w x y n dim s t ok r = Tried (norm_fits (length s) (length w) x y n dim) s t y (n * dim) (norm_of n dim w (region s x (n * dim))) ok r

abbrev pub RotateTried : List Float → List Float → ℕ → ℕ → ℕ → ℕ → ℕ → ℕ → List Float → List Float → Bool → Bool → Type 0
RotateTried cos sin x tokens heads half gw side s t ok r =
    Tried (rotate_fits (length s) (length cos) (length sin) x tokens heads half gw side) s t x (tokens * (heads * (half + half)))
    (rotate_of tokens heads half gw side cos sin (region s x (tokens * (heads * (half + half))))) ok r

abbrev pub AxesTried : List Float → List Float → List Float → List Float → ℕ → ℕ → ℕ → ℕ → ℕ → ℕ → List Float → List Float → Bool → Bool → Type 0
AxesTried rc rs cc cs x tokens heads half gw side s t ok r =
    Tried (axes_fit (length s) (length rc) (length rs) (length cc) (length cs) x tokens heads half gw side) s t x (tokens * (heads * (half + half)))
    (rotate_of tokens heads half gw side (expand side (half / 2) rc cc) (expand side (half / 2) rs cs) (region s x (tokens * (heads * (half + half))))) ok r

abbrev pub AddTried : ℕ → ℕ → ℕ → List Float → List Float → Bool → Bool → Type 0
AddTried y z n s t ok r = Tried (pair_fits (length s) y z n) s t y n (added n (region s y n) (region s z n)) ok r

abbrev pub GateTried : ℕ → ℕ → ℕ → List Float → List Float → Bool → Bool → Type 0
GateTried y z n s t ok r = Tried (pair_fits (length s) y z n) s t y n (gated n (region s y n) (region s z n)) ok r

abbrev pub GeluTried : ℕ → ℕ → List Float → List Float → Bool → Bool → Type 0
GeluTried y n s t ok r = Tried (inside (length s) y n) s t y n (gelued n (region s y n)) ok r

abbrev pub RoundTried : ℕ → ℕ → List Float → List Float → Bool → Bool → Type 0
RoundTried y n s t ok r = Tried (inside (length s) y n) s t y n (rounded n (region s y n)) ok r

-- ---- a step that fits

module _ {s t : List Float} {ok r : Bool} where
  tried : (fits : Bool) (l : List Float) (y n : ℕ) → fits ≡ true → length l ≡ n → y + n ≤ length s → Tried fits s t y n l ok r → Wrote s t y l ok r
  unfolding finite_at
  tried fits l y n h k i w =
      let e : t ≡ put s y l = w.all ∙ ap (λ b. where_fits b s y l) h in
      let q : region t y n ≡ l = ap (λ u. region u y n) e ∙ region-put-same s y l n (sym k) (rw k i) in
      let j : length t ≡ length s = ap length e ∙ length-put s y l in
      let f : inside (length t) y n ≡ true = le-leb (y + n) (length t) (rw j i) in
      record { all = e; finite-is = w.finite-is ∙ ap (λ b. ok && (b && all_finite (region t y n))) f ∙ ap (λ u. ok && all_finite u) q }

  pub linear-wrote : (w : List Float) (x y n nin nout at : ℕ) → LinearAt (length s) (length w) x y n nin nout at
      → LinearTried w x y n nin nout at s t ok r
      → Wrote s t y (linear_of n nin nout (region w at (nout * nin)) (region s x (n * nin))) ok r
  unfolding linear_at_fits
  linear-wrote w x y n nin nout at f =
      let m = region w at (nout * nin) in
      let l = region s x (n * nin) in
      tried (linear_at_fits (length s) (length w) x y n nin nout at) (linear_of n nin nout m l) y (n * nout)
      (two (le-leb (at + nout * nin) (length w) f.w_in) (linear-fits (record { xin = f.x_in; yin = f.y_in; win = le_refl (nout * nin); apart = f.apart })))
      (length-linear n nin nout m l) f.y_in

  pub linear-bias-wrote : (w : List Float) (x y n nin nout at b : ℕ) → LinearAt (length s) (length w) x y n nin nout at → b + nout ≤ length w
      → Tried (bias_at_fits (length s) (length w) x y n nin nout at b) s t y (n * nout) (linear_by (carried (region w b nout)) n nin nout (region w at (nout * nin)) (region s x (n * nin))) ok r
      → Wrote s t y (linear_by (carried (region w b nout)) n nin nout (region w at (nout * nin)) (region s x (n * nin))) ok r
  unfolding bias_at_fits
  linear-bias-wrote w x y n nin nout at b f h =
      let m = region w at (nout * nin) in
      let l = region s x (n * nin) in
      tried (bias_at_fits (length s) (length w) x y n nin nout at b) (linear_by (carried (region w b nout)) n nin nout m l) y (n * nout)
      (two (two (le-leb (at + nout * nin) (length w) f.w_in) (le-leb (b + nout) (length w) h)) (linear-fits (record { xin = f.x_in; yin = f.y_in; win = le_refl (nout * nin); apart = f.apart })))
      (length-linear-by (carried (region w b nout)) n nin nout m l) f.y_in

  pub linear-from-wrote : (x w : List Float) (y n nin nout : ℕ) → FromFits (length x) (length s) (length w) y n nin nout
      → FromTried x w y n nin nout s t ok r → Wrote s t y (linear_of n nin nout w x) ok r
  linear-from-wrote x w y n nin nout f =
      tried (from_fits (length x) (length s) (length w) y n nin nout) (linear_of n nin nout w x) y (n * nout) (from-fits f) (length-linear n nin nout w x) f.yin

  pub norm-wrote : (w : List Float) (x y n dim : ℕ) → NormFits (length s) (length w) x y n dim
      → NormTried w x y n dim s t ok r → Wrote s t y (norm_of n dim w (region s x (n * dim))) ok r
  norm-wrote w x y n dim f =
      let l = region s x (n * dim) in
      tried (norm_fits (length s) (length w) x y n dim) (norm_of n dim w l) y (n * dim) (norm-fits f) (length-norm n dim w l) f.yin

  pub rotate-wrote : (cos sin : List Float) (x tokens heads half gw side : ℕ) → RotateFits (length s) (length cos) (length sin) x tokens heads half gw side
      → RotateTried cos sin x tokens heads half gw side s t ok r
      → Wrote s t x (rotate_of tokens heads half gw side cos sin (region s x (tokens * (heads * (half + half))))) ok r
  rotate-wrote cos sin x tokens heads half gw side f =
      let n = tokens * (heads * (half + half)) in
      let l = region s x n in
      tried (rotate_fits (length s) (length cos) (length sin) x tokens heads half gw side) (rotate_of tokens heads half gw side cos sin l) x n
      (rotate-fits f) (length-rotate tokens heads half gw side cos sin l) f.places.xin

  pub axes-wrote : (rc rs cc cs : List Float) (x tokens heads half gw side : ℕ) → AxesFits (length s) (length rc) (length rs) (length cc) (length cs) x tokens heads half gw side
      → AxesTried rc rs cc cs x tokens heads half gw side s t ok r
      → Wrote s t x (rotate_of tokens heads half gw side (expand side (half / 2) rc cc) (expand side (half / 2) rs cs) (region s x (tokens * (heads * (half + half))))) ok r
  axes-wrote rc rs cc cs x tokens heads half gw side f =
      let n = tokens * (heads * (half + half)) in
      let l = region s x n in
      let C = expand side (half / 2) rc cc in
      let S = expand side (half / 2) rs cs in
      tried (axes_fit (length s) (length rc) (length rs) (length cc) (length cs) x tokens heads half gw side) (rotate_of tokens heads half gw side C S l) x n
      (axes-fit f) (length-rotate tokens heads half gw side C S l) f.places.xin

  pub add-wrote : (y z n : ℕ) → PairFits (length s) y z n
      → AddTried y z n s t ok r → Wrote s t y (added n (region s y n) (region s z n)) ok r
  add-wrote y z n f =
      tried (pair_fits (length s) y z n) (added n (region s y n) (region s z n)) y n (pair_fits_lem f) (length-added n (region s y n) (region s z n)) f.yin

  pub gate-wrote : (y z n : ℕ) → PairFits (length s) y z n
      → GateTried y z n s t ok r → Wrote s t y (gated n (region s y n) (region s z n)) ok r
  gate-wrote y z n f =
      tried (pair_fits (length s) y z n) (gated n (region s y n) (region s z n)) y n (pair_fits_lem f) (length-gated n (region s y n) (region s z n)) f.yin

  pub gelu-wrote : (y n : ℕ) → y + n ≤ length s → GeluTried y n s t ok r → Wrote s t y (gelued n (region s y n)) ok r
  gelu-wrote y n f = tried (inside (length s) y n) (gelued n (region s y n)) y n (le-leb (y + n) (length s) f) (length-gelued n (region s y n)) f

  pub round-wrote : (y n : ℕ) → y + n ≤ length s → RoundTried y n s t ok r → Wrote s t y (rounded n (region s y n)) ok r
  round-wrote y n f = tried (inside (length s) y n) (rounded n (region s y n)) y n (le-leb (y + n) (length s) f) (length-rounded n (region s y n)) f

-- ---- what is left once the run is over

pub went-of : (ok : Bool) (l : List Float) (r : Run) → answer ok l ≡ r → ok ≡ true → went l ≡ r
went-of true l r e h = e
went-of false l r e h = absurd (true≢false (sym h))

pub stopped-of : (ok : Bool) (l : List Float) (r : Run) → answer ok l ≡ r → ok ≡ false → stopped ≡ r
stopped-of false l r e h = e
stopped-of true l r e h = absurd (true≢false h)

-- ---- what a run that went hands on

pub answer-went : (b : Bool) (d l : List Float) → answer b d ≡ went l → d ≡ l
answer-went true d l e = cc
answer-went false d l e = let z : ◌≡◌ {A = ℕ} 0 1 = cc in cc

pub then-went : (r : Run) (f : List Float → Run) (l : List Float) → then_run r f ≡ went l → (h : List Float) × (f h ≡ went l)
then-went (went h) f l e = (h, e)
then-went stopped f l e = let z : ◌≡◌ {A = ℕ} 0 1 = cc in (l, cc)
