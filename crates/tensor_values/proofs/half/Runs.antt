-- Halves, run by run: what stands in the high halves made the values of a run, and a run more. Assumes nothing.
use mathlib.Core.Path.{◌≡◌, sym, ap, ◌∙◌}
use mathlib.Core.List.{List, ◌++◌}
use Prim.Native.Nat.{ℕ, ◌+◌, ◌-◌, ◌*◌, ◌/◌, ◌^◌, ◌≤◌}
use native.Mathlib.Nat.{add-mul}
use native.Mathlib.Omega.{arith}
use lib.ListN.{length, get_or, take, drop}
use lib.Seq.{drop-drop}
use Rattle.buffers.specs.Rows.{tab}
use Rattle.buffers.specs.Region.{region, put}
use Rattle.buffers.specs.Each.{each}
use Rattle.buffers.proofs.Regions.{length-put, length-region, region-region, put-append, put-split, put_all}
use Rattle.buffers.proofs.Lists.{length-tab, get_or-tab, tab-ext, tab-add}
use Rattle.number_bf16_half_root.specs.Half.{half}
use Rattle.number_bf16_half_root.specs.Packed.{widened}
use Rattle.tensor_values.specs.declared.Kind.TheVariants.{BF16, F16}
use Rattle.tensor_values.specs.Values.{little, value_of, values_of}
use Rattle.tensor_values.proofs.Turns.{Begun}

-- the high half of what was widened
high : (x : ℕ) → widened x / 2 ^ 16 ≡ x
high x = omega arith

pub as-halves : (b out t u : List ℕ) → length b ≡ length out * 2 → t ≡ put out 0 (values_of BF16 b) → u ≡ each 0 (length t) (λ w. half (w / 2 ^ 16)) t → u ≡ values_of F16 b
unfolding value_of values_of
as-halves b out t u l e g =
    let n = length b / 2 in
    let W : ℕ → ℕ = value_of BF16 b in
    let F : ℕ → ℕ = λ w. half (w / 2 ^ 16) in
    let k = length-tab n W in
    let T : t ≡ tab n W = e ∙ put_all out (tab n W) (k ∙ omega (arith, l)) in
    g ∙ ap (λ (s : List ℕ). each 0 (length s) F s) T ∙ ap (λ (m : ℕ). each 0 m F (tab n W)) k
    ∙ tab-ext n (λ i. F (get_or (tab n W) i 0)) (value_of F16 b) (λ i h. ap F (get_or-tab n i W 0 h) ∙ ap half (high (little (region b (i * 2) 2))))

-- the values of a part of the bytes
part : (b : List ℕ) (i m : ℕ) → i + m ≤ length b / 2 → values_of F16 (region b (i * 2) (m * 2)) ≡ tab m (λ j. value_of F16 b (i + j))
unfolding value_of values_of
part b i m h =
    let l : length (region b (i * 2) (m * 2)) / 2 ≡ m = omega (arith, length-region b (i * 2) (m * 2) (omega arith)) in
    ap (λ (n : ℕ). tab n (value_of F16 (region b (i * 2) (m * 2)))) l
    ∙ tab-ext m (value_of F16 (region b (i * 2) (m * 2))) (λ j. value_of F16 b (i + j))
    (λ j k. ap (λ (r : List ℕ). half (little r)) (region-region b (i * 2) (m * 2) (j * 2) 2 (omega arith) ∙ ap (λ (x : ℕ). region b x 2) (sym (add-mul i j 2))))

-- a run of m more, from index i to e, written by itself
pub run_on : {b s t : List ℕ} {i : ℕ} → Begun F16 b s t i → (e m k : ℕ) (ys : List ℕ) → e ≡ i + m → e ≤ length b / 2 → e ≤ length t
    → ys ≡ values_of F16 (region b (i * 2) k) → k ≡ m * 2 → Begun F16 b s (take i t ++ (ys ++ drop (e - i) (drop i t))) e
run_on {b} {s} {t} {i} g e m k ys p h r y q =
    let F : ℕ → ℕ = value_of F16 b in
    let G : ℕ → ℕ = λ j. F (i + j) in
    let Y : ys ≡ tab m G = y ∙ ap (λ (n : ℕ). values_of F16 (region b (i * 2) n)) q ∙ part b i m (omega arith) in
    let d : e - i ≡ m = omega arith in
    let l = length-tab m G in
    let w : take i t ++ (ys ++ drop (e - i) (drop i t)) ≡ put t i (tab m G) = rw (Y, d, drop-drop m i t) (sym (put-split t i (tab m G) (rw l (omega arith)) ∙ ap (λ (n : ℕ). take i t ++ (tab m G ++ drop (i + n) t)) l)) in
    record {
      read = h;
      long = ap length w ∙ length-put t i (tab m G) ∙ g.long;
      written = w ∙ ap (λ (v : List ℕ). put v i (tab m G)) g.written ∙ put-append s 0 (tab i F) (tab m G) i (omega (arith, length-tab i F)) ∙ ap (put s 0) (sym (tab-add i m F) ∙ ap (λ (n : ℕ). tab n F) (sym p));
    }
