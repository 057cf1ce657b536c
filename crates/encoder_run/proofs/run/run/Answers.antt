-- `encoder_run::run::run` meets its contract. Assumes nothing.
use mathlib.Core.Path.{ap, ◌∙◌}
use Prim.Native.Nat.{◌+◌, ◌*◌, ◌≤◌}
use native.Mathlib.Omega.{arith}
use lib.ListN.{length}
use Rattle.buffers.specs.Region.{region, copied}
use Rattle.number_floats.specs.Constants.{zero32}
use Rattle.buffers.specs.Rows.{tab}
use Rattle.buffers.proofs.Regions.{length-region}
use Rattle.encoder_settings.specs.Settings.{accepted}
use Rattle.encoder_blocks.specs.Tables.{cos_by, sin_by}
use Rattle.encoder_steps.proofs.Writes.{went-of, stopped-of}
use Rattle.encoder_run.specs.inner.Live.{regions_of}
use Rattle.encoder_run.specs.Stages.{sizes_of, run_of}
use Rattle.encoder_run.specs.Answer.{encoded_by, out_by}
use Rattle.encoder_run.proofs.Runs.{copied-over}
use Rattle.encoder_run.proofs.run.run.Goals as goal

pub overflow_mul-at : goal.overflow_mul-at
overflow_mul-at c = omega (arith, c.requires.run_fits.regions.hiddens, c.requires.run_fits.regions.inners, c.requires.run_fits.regions.texts)

pub overflow_mul-at-2 : goal.overflow_mul-at-2
overflow_mul-at-2 c = omega (arith, c.requires.run_fits.regions.hiddens, c.requires.run_fits.regions.inners, c.requires.run_fits.regions.texts)

pub overflow_mul-at-3 : goal.overflow_mul-at-3
overflow_mul-at-3 c = omega (arith, c.requires.run_fits.regions.hiddens, c.requires.run_fits.regions.inners, c.requires.run_fits.regions.texts)

pub overflow_mul-at-4 : goal.overflow_mul-at-4
overflow_mul-at-4 c = omega (arith, c.requires.run_fits.regions.hiddens, c.requires.run_fits.regions.inners, c.requires.run_fits.regions.texts)

pub overflow_add-at : goal.overflow_add-at
overflow_add-at c = omega (arith, c.requires.run_fits.regions.hiddens, c.requires.run_fits.regions.inners, c.requires.run_fits.regions.texts)

pub overflow_add-at-2 : goal.overflow_add-at-2
overflow_add-at-2 c = omega (arith, c.requires.run_fits.regions.hiddens, c.requires.run_fits.regions.inners, c.requires.run_fits.regions.texts)

pub encode-ok-requires : goal.encode-ok-requires
encode-ok-requires c = record {
  bound = c.requires.bound;
  run_fits = c.requires.run_fits;
}

pub shape_of-scratch-then-ok : goal.shape_of-scratch-then-ok
shape_of-scratch-then-ok c = c.clear.auto.s ∙ c.encode-ok.auto.scratch

pub returns-then-ok : goal.returns-then-ok
returns-then-ok c =
    let e = c.args.o * c.args.s.text_hidden_size in
    let u = c.encode-ok.new.scratch in
    let k = c.encode-ok.auto.scratch in
    let at = (regions_of (sizes_of c.args.s c.args.t c.args.gw) e).linear + e in
    let r = run_of c.args.s c.args.gh c.args.gw c.args.t c.args.o c.args.w.now (cos_by (sizes_of c.args.s c.args.t c.args.gw) c.args.tables) (sin_by (sizes_of c.args.s c.args.t c.args.gw) c.args.tables) c.args.patches.now in
    let w = went-of c.encode-ok.result (region u at e) r c.encode-ok.ensures c.if-ok.true in
    let l = length-region u at e (omega (arith, c.requires.run_fits.projects.room, k)) in
    let h : length (region u at e) ≤ length c.args.out.now = omega (arith, l, c.requires.text_hidden_size_in_bounds) in record {
      value = ap (encoded_by (accepted c.args.t c.args.o)) w;
      out_after = c.copy.ensures ∙ ap (λ v. copied v c.args.out.now) c.part.ensures ∙ copied-over (region u at e) c.args.out.now h ∙ ap (λ v. out_by (accepted c.args.t c.args.o) v c.args.out.now) w;
      scratch_after = c.clear.ensures ∙ ap (λ i. tab i (λ _. zero32)) k;
    }

pub shape_of-scratch : goal.shape_of-scratch
shape_of-scratch c = c.clear-2.auto.s ∙ c.encode-ok.auto.scratch

pub returns : goal.returns
returns c =
    let e = c.args.o * c.args.s.text_hidden_size in
    let k = c.encode-ok.auto.scratch in
    let r = run_of c.args.s c.args.gh c.args.gw c.args.t c.args.o c.args.w.now (cos_by (sizes_of c.args.s c.args.t c.args.gw) c.args.tables) (sin_by (sizes_of c.args.s c.args.t c.args.gw) c.args.tables) c.args.patches.now in
    let w = stopped-of c.encode-ok.result (region c.encode-ok.new.scratch ((regions_of (sizes_of c.args.s c.args.t c.args.gw) e).linear + e) e) r c.encode-ok.ensures c.if-ok.false in record {
      value = ap (encoded_by (accepted c.args.t c.args.o)) w;
      out_after = ap (λ v. out_by (accepted c.args.t c.args.o) v c.args.out.now) w;
      scratch_after = c.clear-2.ensures ∙ ap (λ i. tab i (λ _. zero32)) k;
    }
