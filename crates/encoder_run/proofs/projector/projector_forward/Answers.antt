-- `encoder_run::projector::projector_forward` meets its contract. Assumes nothing.
use mathlib.Core.Path.{ap, ◌∙◌}
use Prim.Native.Nat.{◌+◌, ◌*◌}
use native.Mathlib.Omega.{arith}
use lib.Dec.{eqb}
use lib.ListN.{length}
use Rattle.buffers.proofs.Regions.{length-region}
use Rattle.buffers.specs.inner.Apart.{before}
use Rattle.encoder_settings.specs.Weights.{projector}
use Rattle.encoder_settings.proofs.Weights.{stands}
use Rattle.encoder_run.specs.Stages.{proj_norm, merging_layer, linear1, linear2}
use Rattle.encoder_steps.proofs.Writes.{norm-wrote, linear-wrote, gelu-wrote}
use Rattle.encoder_run.proofs.Projects.{second-stands, first-bias, second-bias, project-run}
use Rattle.encoder_run.proofs.projector.projector_forward.Goals as goal

pub merge_tokens-requires : goal.merge_tokens-requires
merge_tokens-requires c = rw c.norm_finite-a.auto.s c.requires.merges

pub linear_by-c-requires : goal.linear_by-c-requires
linear_by-c-requires c =
    let l = c.linear_finite-b.auto.s ∙ c.merge_tokens.auto.s ∙ c.norm_finite-a.auto.s in record {
      linear_at = record { x_in = omega (arith, c.requires.at-is, c.requires.room, c.requires.fold_in, l); y_in = omega (arith, c.requires.room, l); w_in = omega (arith, c.requires.weights); apart = before (omega (arith, c.requires.at-is, c.requires.fold_in)) };
      nout_in_bounds = omega (arith, c.requires.weights);
    }

pub overflow_add-at : goal.overflow_add-at
overflow_add-at c = omega (arith, c.before.before.before.before.before.before.before.before.before.before.before.before.before.before.before.before.before.before.before.before.before.before.before.before)

pub linear_by-requires : goal.linear_by-requires
linear_by-requires c =
    let l = c.gelu_finite-d.auto.s ∙ c.linear_by-c.auto.s ∙ c.linear_finite-b.auto.s ∙ c.merge_tokens.auto.s ∙ c.norm_finite-a.auto.s in record {
      linear_at = record { x_in = omega (arith, c.requires.room, l); y_in = omega (arith, c.requires.room, l); w_in = omega (arith, c.requires.weights); apart = before (omega arith) };
      nout_in_bounds = omega (arith, c.requires.weights);
    }

pub shape_of-s : goal.shape_of-s
shape_of-s c = c.linear_by.auto.s ∙ c.gelu_finite-d.auto.s ∙ c.linear_by-c.auto.s ∙ c.linear_finite-b.auto.s ∙ c.merge_tokens.auto.s ∙ c.norm_finite-a.auto.s

pub returns : goal.returns
unfolding proj_norm merging_layer linear1 linear2
returns c =
    let g = c.requires in
    let n = c.args.t * c.args.dim in
    let e = c.args.o * c.args.text in
    let p = c.args.dim + c.args.dim * c.args.wide in
    let T = projector c.args.dim c.args.wide c.args.text (eqb c.args.bias 1) in
    let l₂ = c.merge_tokens.auto.s ∙ c.norm_finite-a.auto.s in
    let l₃ = c.linear_finite-b.auto.s ∙ l₂ in
    let l₄ = c.linear_by-c.auto.s ∙ l₃ in
    project-run c.args.t c.args.dim c.args.o c.args.wide c.args.text c.args.bias c.args.w.now c.args.s.now c.norm_finite-a.new.s c.merge_tokens.new.s c.linear_finite-b.new.s c.linear_by-c.new.s c.gelu_finite-d.new.s c.linear_by.new.s
    (length c.args.w.now) c.args.merge c.args.gh c.args.gw c.args.at c.norm_finite-a.result c.linear_finite-b.result c.linear_by-c.result c.gelu_finite-d.result c.linear_by.result g
    (rw (c.part.ensures ∙ stands T "norm" c.args.w.now 0 c.args.dim (omega arith) (omega arith)) at
    (norm-wrote c.part.result.now 0 n c.args.t c.args.dim
    (record {
      small = c.requires.small;
      xin = omega (arith, c.requires.at-is, c.requires.room);
      yin = omega (arith, c.requires.at-is, c.requires.room);
      win = ap length c.part.ensures ∙ length-region c.args.w.now 0 c.args.dim (omega (arith, c.requires.weights));
      apart = before (omega arith);
    })
    c.norm_finite-a.ensures))
    c.merge_tokens.ensures
    (rw (stands T "merging_layer" c.args.w.now c.args.dim (c.args.dim * c.args.wide) (omega arith) (omega arith)) at (linear-wrote c.args.w.now (2 * n) (3 * n) c.args.o c.args.wide c.args.dim c.args.dim
    (record { x_in = omega (arith, c.requires.at-is, c.requires.room, c.requires.wide_in, l₂); y_in = omega (arith, c.requires.at-is, c.requires.room, c.requires.fold_in, l₂); w_in = omega (arith, c.requires.weights); apart = before (omega (arith, c.requires.wide_in)) })
    c.linear_finite-b.ensures))
    (rw (stands T "linear_1" c.args.w.now p (c.args.text * c.args.dim) (omega arith) (omega arith), first-bias c.args.dim c.args.wide c.args.text c.args.w.now c.args.bias c.requires.bias) at c.linear_by-c.ensures)
    (gelu-wrote c.args.at e (omega (arith, c.requires.room, l₄)) c.gelu_finite-d.ensures)
    (rw (second-stands c.args.dim c.args.wide c.args.text c.args.w.now c.args.bias c.requires.bias, second-bias c.args.dim c.args.wide c.args.text c.args.w.now c.args.bias c.requires.bias) at c.linear_by.ensures)
