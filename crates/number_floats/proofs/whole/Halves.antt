-- A number against half of a whole number. Assumes nothing.
use Rattle.std.proofs.Common.{◌≡◌, ℕ, ◌*◌, ◌<◌, ◌≤◌, Bool, true, false, ℤ, sym, ap, true≢false, lt_of_mul-lt-mul_right, le_of_mul-le-mul_right, arith, ltb-false, ltb-true}
use lib.Ieee.{Float, nan, inf, fin, up, down, lt}
use lib.Ieee.Fits.{down_pos}
use lib.Ieee.Exact.{HasValue}

pub below_half : (h : Float) (w m : ℕ) (e : ℤ) → HasValue h false w 2 → lt (fin false m e) h ≡ true → m * up e * 2 < w * down e
unfolding lt
below_half nan w m e v t = absurd v
below_half (inf s) w m e v t = absurd v
below_half (fin true k d) w m e v t = absurd (true≢false v.0)
below_half (fin false k d) w m e v t =
    let l : m * up e * down d < k * up d * down e = ltb-true (m * up e * down d) (k * up d * down e) t in
    let x : k * up d * 2 * down e ≡ w * down d * down e = ap (λ (n : ℕ). n * down e) v.1 in
    lt_of_mul-lt-mul_right (down d) (omega arith)

pub not-below-half : (h : Float) (w m : ℕ) (e : ℤ) → HasValue h false w 2 → lt (fin false m e) h ≡ false → w * down e ≤ m * up e * 2
unfolding lt
not-below-half nan w m e v t = absurd v
not-below-half (inf s) w m e v t = absurd v
not-below-half (fin true k d) w m e v t = absurd (true≢false v.0)
not-below-half (fin false k d) w m e v t =
    let l : k * up d * down e ≤ m * up e * down d = ltb-false (m * up e * down d) (k * up d * down e) t in
    let x : k * up d * 2 * down e ≡ w * down d * down e = ap (λ (n : ℕ). n * down e) v.1 in
    le_of_mul-le-mul_right {k = down d} (omega arith) (down_pos d)
