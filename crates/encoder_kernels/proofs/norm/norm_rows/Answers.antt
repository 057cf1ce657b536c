-- `encoder_kernels::norm::norm_rows` meets its contract. Assumes nothing.
use mathlib.Core.Path.{ap, ◌∙◌}
use Prim.Native.Nat.{◌*◌}
use native.Mathlib.Nat.{suc-mul}
use native.Mathlib.Omega.{arith}
use native.Mathlib.Numerals.{add-one}
use borrow.Author.Rules.{rules}
use Rattle.buffers.proofs.Lists.{fit}
use Rattle.buffers.proofs.Regions.{apart-sub}
use Rattle.buffers.specs.Region.{region, put}
use Rattle.buffers.specs.Rows.{rows}
use Rattle.buffers.specs.Each.{each_row}
use Rattle.encoder_kernels.specs.Kernels.{norm_row, norm_of}
use Rattle.buffers.proofs.Steps.{row_step}
use Rattle.encoder_kernels.proofs.Lengths.{length-norm-row}
use Rattle.encoder_kernels.proofs.norm.norm_rows.Goals as goal

pub loop-r-init : goal.loop-r-init
unfolding put rows
loop-r-init c = search rules

pub norm_row-requires : goal.norm_row-requires
norm_row-requires c =
    let f = fit c.args.dim c.loop-r-test.true in
    record {
      small = search rules;
      xin = omega arith;
      yin = omega arith;
      win = search rules;
      apart = apart-sub c.requires.apart (omega arith) (omega arith) (omega arith) (omega arith);
    }

pub loop-r-preserved : goal.loop-r-preserved
loop-r-preserved c =
    let f = fit c.args.dim c.loop-r-test.true in (
      omega arith,
      rw (add-one, suc-mul) (omega arith),
      rw (add-one, suc-mul) (omega arith),
      c.norm_row.auto.s ∙ c.loop-r.invariant.3,
      cc (c.norm_row.ensures, c.loop-r.invariant.1, c.loop-r.invariant.2, c.loop-r.invariant.4, row_step c.args.s.now c.args.x c.args.y c.args.n c.args.dim c.args.dim c.loop-r.r (λ _. norm_row c.args.dim c.args.w.now) (λ _ x. length-norm-row c.args.dim c.args.w.now x) (apart-sub c.requires.apart (omega arith) (omega arith) (omega arith) (omega arith)) (omega arith)),
    )

pub shape_of-s : goal.shape_of-s
shape_of-s c = c.loop-r.invariant.3

pub returns : goal.returns
unfolding norm_of
returns c =
    c.loop-r.invariant.4 ∙ ap (λ m. put c.args.s.now c.args.y (each_row m c.args.dim (λ _. norm_row c.args.dim c.args.w.now) (region c.args.s.now c.args.x (c.args.n * c.args.dim)))) (omega arith)
