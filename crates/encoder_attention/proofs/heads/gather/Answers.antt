-- `encoder_attention::heads::gather` meets its contract. Assumes nothing.
use mathlib.Core.Path.{◌≡◌, refl, sym, ap, ◌∙◌}
use mathlib.Core.List.{List}
use Prim.Native.Nat.{ℕ, ◌+◌, ◌*◌, ◌<◌}
use native.Mathlib.Omega.{arith}
use lib.ListN.{length, get_or}
use lib.Ieee.{Float, nan}
use Rattle.buffers.specs.Region.{region, put}
use Rattle.buffers.specs.Rows.{tab, rows, grid}
use Rattle.buffers.proofs.Lists.{fit, length-tab, tab-ext, rows_step}
use Rattle.buffers.proofs.Regions.{region-put, get_or-region, apart-sub}
use Rattle.encoder_linear.proofs.Pieces.{length-grid}
use Rattle.encoder_attention.specs.inner.Values.{head_values}
use Rattle.encoder_attention.specs.inner.Fits.{CopyFits, GatherFits}
use Rattle.encoder_attention.proofs.heads.gather.Invariants.{place}
use Rattle.encoder_attention.proofs.heads.gather.Goals as goal

row_fits : {len v g t dim hd o : ℕ} (j : ℕ) → GatherFits len v g t dim hd o → j < t → CopyFits len (v + (j * dim + o)) (g + j * hd) hd
row_fits {len} {v} {g} {t} {dim} {hd} {o} j w h =
    let a = fit dim h in
    let b = fit hd h in
    let c = w.o_in in
    record { x_in = omega (arith, w.v_in); y_in = omega (arith, w.g_in); apart = apart-sub w.apart (omega arith) (omega arith) (omega arith) (omega arith) }

step : (s u z : List Float) (v g t dim hd o j : ℕ) → GatherFits (length s) v g t dim hd o → j < t → u ≡ put s g (grid j hd (place s v t dim o))
    → z ≡ put u (g + j * hd) (tab hd (λ d. get_or u (v + (j * dim + o) + d) nan)) → z ≡ put s g (grid (j + 1) hd (place s v t dim o))
step s u z v g t dim hd o j w h e d =
    let P = place s v t dim o in
    let f = fit dim h in
    let f' = fit hd h in
    let same : region u v (t * dim) ≡ region s v (t * dim) =
    ap (λ x. region x v (t * dim)) e ∙ region-put s g (grid j hd P) v (t * dim) (rw (length-grid j hd P) (apart-sub w.apart (omega arith) (omega arith) (omega arith) (omega arith))) in
    let row : tab hd (λ d. get_or u (v + (j * dim + o) + d) nan) ≡ tab hd (P j) =
    tab-ext hd (λ d. get_or u (v + (j * dim + o) + d) nan) (P j)
    (λ i l. let b = w.o_in in
    ap (λ m. get_or u m nan) (omega arith) ∙ sym (get_or-region u v (t * dim) (j * dim + (o + i)) nan (omega arith)) ∙ ap (λ x. get_or x (j * dim + (o + i)) nan) same) in
    rows_step (λ i. tab hd (P i)) hd (λ i. length-tab hd (P i)) s u z g (g + j * hd) j e refl (d ∙ ap (put u (g + j * hd)) row)

pub loop-j-init : goal.loop-j-init
unfolding put rows
loop-j-init c = (omega arith, refl, refl)

pub copy_floats-requires : goal.copy_floats-requires
copy_floats-requires c =
    rw c.loop-j.invariant.1 (row_fits c.loop-j.j c.requires c.loop-j-test.true)

pub loop-j-preserved : goal.loop-j-preserved
loop-j-preserved c =
    (omega arith, c.copy_floats.auto.s ∙ c.loop-j.invariant.1, step c.args.s.now c.loop-j.s _ c.args.v c.args.g c.args.t c.args.dim c.args.hd c.args.o c.loop-j.j c.requires c.loop-j-test.true c.loop-j.invariant.2 c.copy_floats.ensures)

pub shape_of-s : goal.shape_of-s
shape_of-s c = c.loop-j.invariant.1

pub returns : goal.returns
unfolding head_values
returns c =
    c.loop-j.invariant.2 ∙ ap (λ m. put c.args.s.now c.args.g (grid m c.args.hd (place c.args.s.now c.args.v c.args.t c.args.dim c.args.o))) (omega arith)
