-- `encoder_attention::attention::turn_key` meets its contract: what it reads lies apart from what it has written. Assumes nothing.
use mathlib.Core.Path.{◌≡◌, refl, ap, ◌∙◌}
use mathlib.Core.List.{List}
use Prim.Native.Nat.{ℕ, ◌+◌, ◌*◌, ◌<◌}
use native.Mathlib.Nat.{mul_comm}
use native.Mathlib.Numerals.{add-one}
use native.Mathlib.Omega.{arith}
use lib.ListN.{length, length-set, get_or, set}
use lib.Ieee.{Float, nan}
use Rattle.buffers.specs.Region.{region}
use Rattle.buffers.proofs.Lists.{fit}
use Rattle.buffers.proofs.Regions.{get_or-region, apart-sub}
use Rattle.encoder_linear.specs.inner.Lanes.{spread}
use Rattle.encoder_linear.proofs.Fills.{spread-apart}
use Rattle.encoder_attention.specs.inner.Fits.{KeyAt}
use Rattle.encoder_attention.proofs.attention.turn_key.Goals as goal

-- where place d of key j stands, and where it goes
spots : (t dim j d : ℕ) → j < t → d < dim → (j * dim + d < t * dim) × (j + d * t < t * dim)
spots t dim j d p q = let a = fit dim p in let b = fit t q in let c = mul_comm t dim in (omega arith, omega arith)

step : (s u : List Float) (k kt t dim j d : ℕ) → KeyAt (length s) k kt t dim j → d < dim
    → u ≡ spread s (kt + j) t d (λ e. get_or (region s k (t * dim)) (j * dim + e) nan)
    → set u (kt + j + d * t) (get_or u (k + (j * dim + d)) nan) ≡ spread s (kt + j) t (d + 1) (λ e. get_or (region s k (t * dim)) (j * dim + e) nan)
unfolding spread
step s u k kt t dim j d g q e =
    let x = spots t dim j d g.token q in
    let same : region u k (t * dim) ≡ region s k (t * dim) =
    ap (λ z. region z k (t * dim)) e
    ∙ spread-apart s (kt + j) t d (λ e. get_or (region s k (t * dim)) (j * dim + e) nan) k (t * dim)
    (λ l h. let y = spots t dim j l g.token (omega arith) in apart-sub g.fits.apart (omega arith) (omega arith) (omega arith) (omega arith)) in
    rw (add-one d, ← get_or-region u k (t * dim) (j * dim + d) nan x.0, same, e)

pub loop-d-init : goal.loop-d-init
unfolding spread
loop-d-init c = (omega arith, refl, refl)

pub loop-d-preserved : goal.loop-d-preserved
loop-d-preserved c =
    (omega arith, length-set c.loop-d.s _ _ ∙ c.loop-d.invariant.1, step c.args.s.now c.loop-d.s c.args.k c.args.kt c.args.t c.args.dim c.args.j c.loop-d.d c.requires c.loop-d-test.true c.loop-d.invariant.2)

pub shape_of-s : goal.shape_of-s
shape_of-s c = c.loop-d.invariant.1

pub returns : goal.returns
returns c =
    c.loop-d.invariant.2 ∙ ap (λ n. spread c.args.s.now (c.args.kt + c.args.j) c.args.t n (λ e. get_or (region c.args.s.now c.args.k (c.args.t * c.args.dim)) (c.args.j * c.args.dim + e) nan)) (omega arith)
