-- `encoder_run::run::encode` meets its contract. Assumes nothing.
use mathlib.Core.Path.{◌≡◌, ap, ◌∙◌}
use Prim.Native.Nat.{◌+◌, ◌-◌, ◌≤◌}
use native.Mathlib.Omega.{arith}
use lib.ListN.{length}
use Rattle.buffers.proofs.Regions.{length-region}
use Rattle.encoder_blocks.specs.Tables.{cos_by, sin_by}
use Rattle.encoder_blocks.proofs.Leaves.{layers-done}
use Rattle.encoder_run.specs.Stages.{sizes_of}
use Rattle.encoder_run.specs.inner.Live.{counts_of}
use Rattle.encoder_run.proofs.Runs.{run-of}
use Rattle.encoder_run.proofs.run.encode.Goals as goal

pub sizes_of-z-requires : goal.sizes_of-z-requires
sizes_of-z-requires c = c.requires.bound

pub counts_of-p-requires : goal.counts_of-p-requires
counts_of-p-requires c = rw c.sizes_of-z.ensures c.requires.run_fits.counts

pub overflow_mul-o : goal.overflow_mul-o
overflow_mul-o c = omega (arith, c.requires.run_fits.regions.texts)

pub regions-r-requires : goal.regions-r-requires
regions-r-requires c = rw c.sizes_of-z.ensures c.requires.run_fits.regions

pub overflow_add-at : goal.overflow_add-at
overflow_add-at c =
    let counts-are : c.counts_of-p.result ≡ counts_of c.args.s (sizes_of c.args.s c.args.t c.args.gw) = c.counts_of-p.ensures ∙ ap (counts_of c.args.s) c.sizes_of-z.ensures in
    let cuts : let n = length c.args.w.now in
    (0 + c.counts_of-p.result.embedding ≤ n) × (c.counts_of-p.result.embedding + c.counts_of-p.result.layers ≤ n) × (c.counts_of-p.result.embedding + c.counts_of-p.result.layers + (n - (c.counts_of-p.result.embedding + c.counts_of-p.result.layers)) ≤ n) × (c.counts_of-p.result.embedding + c.counts_of-p.result.layers ≤ 4301260800) = rw (counts-are) (
      omega (arith, c.requires.run_fits.weights-is, c.requires.run_fits.embedding-is),
      omega (arith, c.requires.run_fits.weights-is, c.requires.run_fits.embedding-is, c.requires.run_fits.layers-is),
      omega (arith, c.requires.run_fits.weights-is, c.requires.run_fits.embedding-is, c.requires.run_fits.layers-is),
      omega (arith, c.requires.run_fits.counts.projection, c.requires.run_fits.counts.small, c.requires.run_fits.counts.layers),
    ) in
    omega (arith, cuts.3)

pub inputs_finite-ok-requires : goal.inputs_finite-ok-requires
inputs_finite-ok-requires c = rw c.sizes_of-z.ensures c.requires.run_fits.layers.rotation.lengths

pub embed-a-requires : goal.embed-a-requires
embed-a-requires c =
    let counts-are : c.counts_of-p.result ≡ counts_of c.args.s (sizes_of c.args.s c.args.t c.args.gw) = c.counts_of-p.ensures ∙ ap (counts_of c.args.s) c.sizes_of-z.ensures in
    let cuts : let p = c.counts_of-p.result in let n = length c.args.w.now in
    (0 + c.counts_of-p.result.embedding ≤ n) × (c.counts_of-p.result.embedding + c.counts_of-p.result.layers ≤ n) × (c.counts_of-p.result.embedding + c.counts_of-p.result.layers + (n - (c.counts_of-p.result.embedding + c.counts_of-p.result.layers)) ≤ n) × (c.counts_of-p.result.embedding + c.counts_of-p.result.layers ≤ 4301260800) = rw (counts-are) (
      omega (arith, c.requires.run_fits.weights-is, c.requires.run_fits.embedding-is),
      omega (arith, c.requires.run_fits.weights-is, c.requires.run_fits.embedding-is, c.requires.run_fits.layers-is),
      omega (arith, c.requires.run_fits.weights-is, c.requires.run_fits.embedding-is, c.requires.run_fits.layers-is),
      omega (arith, c.requires.run_fits.counts.projection, c.requires.run_fits.counts.small, c.requires.run_fits.counts.layers),
    ) in
    let p = c.counts_of-p.result in
    let e : length c.part.result.now ≡ c.counts_of-p.result.embedding = ap length c.part.ensures ∙ length-region c.args.w.now 0 c.counts_of-p.result.embedding cuts.0 in
    rw (e, counts-are, c.sizes_of-z.ensures) c.requires.run_fits.embeds

pub overflow_sub-w : goal.overflow_sub-w
overflow_sub-w c =
    let counts-are : c.counts_of-p.result ≡ counts_of c.args.s (sizes_of c.args.s c.args.t c.args.gw) = c.counts_of-p.ensures ∙ ap (counts_of c.args.s) c.sizes_of-z.ensures in
    let cuts : let n = length c.args.w.now in
    (0 + c.counts_of-p.result.embedding ≤ n) × (c.counts_of-p.result.embedding + c.counts_of-p.result.layers ≤ n) × (c.counts_of-p.result.embedding + c.counts_of-p.result.layers + (n - (c.counts_of-p.result.embedding + c.counts_of-p.result.layers)) ≤ n) × (c.counts_of-p.result.embedding + c.counts_of-p.result.layers ≤ 4301260800) = rw (counts-are) (
      omega (arith, c.requires.run_fits.weights-is, c.requires.run_fits.embedding-is),
      omega (arith, c.requires.run_fits.weights-is, c.requires.run_fits.embedding-is, c.requires.run_fits.layers-is),
      omega (arith, c.requires.run_fits.weights-is, c.requires.run_fits.embedding-is, c.requires.run_fits.layers-is),
      omega (arith, c.requires.run_fits.counts.projection, c.requires.run_fits.counts.small, c.requires.run_fits.counts.layers),
    ) in
    omega (arith, cuts.1)

pub projector_forward-c-requires : goal.projector_forward-c-requires
projector_forward-c-requires c =
    let counts-are : let a = c.args in c.counts_of-p.result ≡ counts_of c.args.s (sizes_of c.args.s c.args.t c.args.gw) = c.counts_of-p.ensures ∙ ap (counts_of c.args.s) c.sizes_of-z.ensures in
    let cuts : let p = c.counts_of-p.result in let n = length c.args.w.now in
    (0 + c.counts_of-p.result.embedding ≤ n) × (c.counts_of-p.result.embedding + c.counts_of-p.result.layers ≤ n) × (c.counts_of-p.result.embedding + c.counts_of-p.result.layers + (n - (c.counts_of-p.result.embedding + c.counts_of-p.result.layers)) ≤ n) × (c.counts_of-p.result.embedding + c.counts_of-p.result.layers ≤ 4301260800) = rw (counts-are) (
      omega (arith, c.requires.run_fits.weights-is, c.requires.run_fits.embedding-is),
      omega (arith, c.requires.run_fits.weights-is, c.requires.run_fits.embedding-is, c.requires.run_fits.layers-is),
      omega (arith, c.requires.run_fits.weights-is, c.requires.run_fits.embedding-is, c.requires.run_fits.layers-is),
      omega (arith, c.requires.run_fits.counts.projection, c.requires.run_fits.counts.small, c.requires.run_fits.counts.layers),
    ) in
    let a = c.args in
    let p = c.counts_of-p.result in
    let n = length c.args.w.now - (c.counts_of-p.result.embedding + c.counts_of-p.result.layers) in
    let e : length c.part-u.result.now ≡ n = ap length c.part-u.ensures ∙ length-region c.args.w.now (c.counts_of-p.result.embedding + c.counts_of-p.result.layers) n cuts.2 in
    rw (e, c.layers-b.auto.s, c.embed-a.auto.s, c.regions-r.ensures, counts-are, c.sizes_of-z.ensures) c.requires.run_fits.projects

pub shape_of-scratch : goal.shape_of-scratch
shape_of-scratch c = c.projector_forward-c.auto.s ∙ c.layers-b.auto.s ∙ c.embed-a.auto.s

pub returns : goal.returns
returns c =
    let counts-are : let a = c.args in c.counts_of-p.result ≡ counts_of c.args.s (sizes_of c.args.s c.args.t c.args.gw) = c.counts_of-p.ensures ∙ ap (counts_of c.args.s) c.sizes_of-z.ensures in
    let cuts : let p = c.counts_of-p.result in let n = length c.args.w.now in
    (0 + c.counts_of-p.result.embedding ≤ n) × (c.counts_of-p.result.embedding + c.counts_of-p.result.layers ≤ n) × (c.counts_of-p.result.embedding + c.counts_of-p.result.layers + (n - (c.counts_of-p.result.embedding + c.counts_of-p.result.layers)) ≤ n) × (c.counts_of-p.result.embedding + c.counts_of-p.result.layers ≤ 4301260800) = let g = c.requires.run_fits in
    rw (counts-are) (
      omega (arith, c.requires.run_fits.weights-is, c.requires.run_fits.embedding-is),
      omega (arith, c.requires.run_fits.weights-is, c.requires.run_fits.embedding-is, c.requires.run_fits.layers-is),
      omega (arith, c.requires.run_fits.weights-is, c.requires.run_fits.embedding-is, c.requires.run_fits.layers-is),
      omega (arith, c.requires.run_fits.counts.projection, c.requires.run_fits.counts.small, c.requires.run_fits.counts.layers),
    ) in
    let a = c.args in
    let g = c.requires.run_fits in
    let z = c.sizes_of-z.result in
    let p = c.counts_of-p.result in
    let e₀ = c.sizes_of-z.ensures in
    let e₁ = counts-are in
    let e₂ = c.regions-r.ensures in
    let k : length c.part-v.result.now ≡ c.counts_of-p.result.layers = ap length c.part-v.ensures ∙ length-region c.args.w.now c.counts_of-p.result.embedding c.counts_of-p.result.layers cuts.1 in
    let done = layers-done c.args.f z c.embed-a.new.s c.layers-b.new.s c.part-v.result.now c.args.tables c.regions-r.result.row c.args.s.num_layers c.layers-b.result (rw (k, c.embed-a.auto.s, e₂, e₁, e₀) c.requires.run_fits.layers) c.layers-b.ensures.value c.layers-b.ensures.s_after in
    run-of c.args.s c.args.gh c.args.gw c.args.t c.args.o c.args.w.now (cos_by (sizes_of c.args.s c.args.t c.args.gw) c.args.tables) (sin_by (sizes_of c.args.s c.args.t c.args.gw) c.args.tables) c.args.patches.now c.part.result.now c.part-v.result.now c.part-u.result.now c.embed-a.new.s c.layers-b.new.s c.projector_forward-c.new.s
    c.inputs_finite-ok.result c.embed-a.result c.layers-b.result c.projector_forward-c.result c.requires.run_fits.embedding-is c.requires.run_fits.layers-is c.requires.run_fits.weights-is
    (rw e₁ at c.part.ensures) (rw e₁ at c.part-v.ensures) (rw e₁ at c.part-u.ensures) (rw e₀ at c.inputs_finite-ok.ensures)
    (rw (e₁, e₀) at c.embed-a.ensures) (rw e₀ at done) (rw (e₂, e₁, e₀) at c.projector_forward-c.ensures)
