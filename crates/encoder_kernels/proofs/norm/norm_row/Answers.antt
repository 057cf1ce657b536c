-- `encoder_kernels::norm::norm_row` meets its contract. Assumes nothing.
use mathlib.Core.Path.{◌≡◌, ap, ◌∙◌}
use native.Mathlib.Omega.{arith}
use borrow.Author.Rules.{rules}
use lib.ListN.{get_or, length-set}
use lib.Ieee.{nan, binary32, mul}
use Rattle.buffers.proofs.Regions.{apart-sub}
use Rattle.buffers.specs.Region.{region, put}
use Rattle.buffers.specs.Rows.{tab}
use Rattle.encoder_kernels.specs.Kernels.{inv_rms, norm_row}
use Rattle.buffers.proofs.Steps.{elem-step}
use Rattle.encoder_kernels.proofs.norm.norm_row.Goals as goal

pub loop-j-init : goal.loop-j-init
unfolding put tab
loop-j-init c = search rules

pub loop-j-preserved : goal.loop-j-preserved
loop-j-preserved c =
    let v = c.inv_rms-inv.result in (
      omega arith,
      simp length-set c.loop-j.invariant.1,
      cc (c.loop-j.invariant.2, elem-step c.args.s.now c.args.y c.args.x c.args.dim c.loop-j.j nan (λ i _ b. mul binary32 (mul binary32 b v) (get_or c.args.w.now i nan)) (omega arith) (apart-sub c.requires.apart (omega arith) (omega arith) (omega arith) (omega arith))),
    )

pub shape_of-s : goal.shape_of-s
shape_of-s c = c.loop-j.invariant.1

pub returns : goal.returns
unfolding norm_row
returns c =
    let e : c.inv_rms-inv.result ≡ inv_rms c.args.dim (region c.args.s.now c.args.x c.args.dim) = cc in
    c.loop-j.invariant.2 ∙ rw e (ap (λ m. put c.args.s.now c.args.y (tab m (λ i. mul binary32 (mul binary32 (get_or (region c.args.s.now c.args.x c.args.dim) i nan) (inv_rms c.args.dim (region c.args.s.now c.args.x c.args.dim))) (get_or c.args.w.now i nan)))) (omega arith))
