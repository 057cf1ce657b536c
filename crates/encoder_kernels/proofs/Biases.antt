-- With a finite bias a finite result means a finite sum: one examination, behind the addition, sees all that one before it
-- would see too. Assumes nothing.
use mathlib.Core.Bool.{Bool, true}
use mathlib.Core.Path.{◌≡◌, refl, sym, ap, ◌∙◌}
use mathlib.Core.List.{List}
use Prim.Native.Nat.{ℕ, zero, suc, ◌*◌, ◌<◌}
use native.Mathlib.Omega.{arith}
use lib.ListN.{length, get_or, take}
use lib.Seq.{take_all}
use lib.Ieee.{Float, nan, inf, fin, binary32, add}
use lib.Ieee.Scale.{finite}
use Rattle.buffers.specs.Rows.{tab, rows, all}
use Rattle.buffers.specs.Region.{region}
use Rattle.buffers.specs.Each.{both}
use Rattle.buffers.proofs.Lists.{fit, tab-self, equal-rows, all-at, all_of}
use Rattle.buffers.proofs.Regions.{length-region}
use Rattle.encoder_linear.specs.Linear.{biased}
use Rattle.encoder_kernels.specs.Kernels.{all_finite}
use Rattle.encoder_kernels.proofs.Finites.{all-finite-tab, all-finite-rows}

finite-sum : (x b : Float) → finite b ≡ true → finite (add binary32 x b) ≡ true → finite x ≡ true
unfolding add
finite-sum (fin s m e) b h k = refl
finite-sum nan b h k = k
finite-sum (inf s) (fin t n d) h k = k
finite-sum (inf s) (inf t) h k = h
finite-sum (inf s) nan h k = h

-- every value of a list of d
each-finite : (d : ℕ) (l : List Float) → length l ≡ d → all_finite l ≡ all d (λ i. finite (get_or l i nan))
each-finite d l e = ap all_finite (sym (tab-self l d nan e)) ∙ all-finite-tab d (λ i. get_or l i nan)

-- of a row
row-finite : (d : ℕ) (b r : List Float) → length b ≡ d → length r ≡ d → all_finite b ≡ true → all_finite (both nan d (λ s c. add binary32 s c) r b) ≡ true → all_finite r ≡ true
row-finite d b r e f h k =
    let hs = all-at d (λ i. finite (get_or b i nan)) (sym (each-finite d b e) ∙ h) in
    let ks = all-at d (λ i. finite (add binary32 (get_or r i nan) (get_or b i nan))) (sym (all-finite-tab d (λ i. add binary32 (get_or r i nan) (get_or b i nan))) ∙ k) in
    each-finite d r f ∙ all_of d (λ i. finite (get_or r i nan)) (λ i l. finite-sum (get_or r i nan) (get_or b i nan) (hs i l) (ks i l))

pub finite-sums : (n d : ℕ) (b l : List Float) → length b ≡ d → length l ≡ n * d → all_finite b ≡ true → all_finite (biased n d b l) ≡ true → all_finite l ≡ true
unfolding biased
finite-sums n d b l e f h k =
    let R : ℕ → List Float = λ i. region l (i * d) d in
    let B : ℕ → List Float = λ i. both nan d (λ s c. add binary32 s c) (R i) b in
    let g : rows n R ≡ l = equal-rows n d l ∙ take_all (n * d) l (omega (arith, f)) in
    let ks = all-at n (λ i. all_finite (B i)) (sym (all-finite-rows n B) ∙ k) in
    ap all_finite (sym g) ∙ all-finite-rows n R
    ∙ all_of n (λ i. all_finite (R i)) (λ i t. let q = fit d t in row-finite d b (R i) e (length-region l (i * d) d (omega (arith, f, q))) h (ks i t))
