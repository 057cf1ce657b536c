-- `read::read` meets its contract: the bytes behind those that were read are zeros up to i. Assumes nothing.
use Prim.Native.Nat.{◌-◌, ◌≤◌}
use native.Mathlib.Omega.{arith}
use mathlib.Core.Path.{◌≡◌, refl, ap, ◌∙◌}
use Rattle.buffers.specs.Rows.{tab}
use Rattle.buffers.specs.Region.{put}
use Rattle.unpatch_read.specs.Read.{reading, rows_of, filled}
use Rattle.unpatch_read.proofs.Answers.{reading-asked, rows-asked, zero-next, zeros-put}
use Rattle.unpatch_read.proofs.read.read.Goals as goal

pub loop-i-init : goal.loop-i-init
unfolding tab put
loop-i-init c =
    let e : c.bytes_read-i.result - c.bytes_read-i.result ≡ 0 = omega arith in
    (omega arith, omega (arith, c.bytes_read-i.ensures, c.read_text-found.ensures.1), rw e refl)

pub loop-i-preserved : goal.loop-i-preserved
loop-i-preserved c =
    (omega arith, omega arith, zero-next _ c.loop-i.rgb _ c.loop-i.i c.loop-i.invariant.0 c.loop-i.invariant.2)

pub returns : goal.returns
returns c =
    let e : c.loop-i.i ≡ 24576 = omega arith in
    let h : c.bytes_read-i.result ≤ 24576 = omega arith in record {
      answer = reading-asked c.read_text-found.result c.read_text-found.new.rgb c.read_text-found.ensures.1 ∙ ap reading c.read_text-found.ensures.0;
      bytes = rw e at c.loop-i.invariant.2 ∙ zeros-put c.read_text-found.new.rgb c.bytes_read-i.result (omega arith) h ∙ ap filled (rw c.bytes_read-i.ensures (rows-asked c.read_text-found.result c.read_text-found.new.rgb) ∙ ap rows_of c.read_text-found.ensures.0);
    }
