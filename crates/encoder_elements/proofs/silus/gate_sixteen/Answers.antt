-- `encoder_elements::silus::gate_sixteen` meets its contract. Assumes nothing.
use mathlib.Core.Path.{refl, ap, ◌∙◌}
use Prim.Native.Nat.{ℕ}
use native.Mathlib.Omega.{arith}
use lib.ListN.{get_or, length-set}
use lib.Ieee.{nan, binary32, add, mul, div}
use Rattle.buffers.specs.Rows.{tab}
use Rattle.buffers.specs.Region.{region, put}
use Rattle.number_floats.specs.Constants.{one32}
use Rattle.buffers.proofs.Regions.{apart-sub}
use Rattle.buffers.proofs.Steps.{elem-step}
use Rattle.encoder_elements.proofs.silus.gate_sixteen.Goals as goal

pub loop-l-init : goal.loop-l-init
unfolding put tab
loop-l-init c = (omega arith, refl, refl)

pub loop-l-preserved : goal.loop-l-preserved
loop-l-preserved c = (
  omega arith,
  simp length-set c.loop-l.invariant.1,
  cc (c.loop-l.invariant.2, elem-step c.args.s.now c.args.y c.args.z 16 c.loop-l.l nan (λ j u v. mul binary32 (div binary32 u (add binary32 one32 (get_or c.args.e j nan))) v) (omega arith) (apart-sub c.requires.apart (omega arith) (omega arith) (omega arith) (omega arith))),
)

pub shape_of-s : goal.shape_of-s
shape_of-s c = c.loop-l.invariant.1

pub returns : goal.returns
returns c =
    c.loop-l.invariant.2 ∙ ap (λ (m : ℕ). put c.args.s.now c.args.y (tab m (λ j. mul binary32 (div binary32 (get_or (region c.args.s.now c.args.y 16) j nan) (add binary32 one32 (get_or c.args.e j nan))) (get_or (region c.args.s.now c.args.z 16) j nan)))) (omega arith)
