-- `picture_view::restore_patch` meets its contract: the rows of a patch's bytes are its rows. Assumes nothing.
use mathlib.Core.Path.{refl, ◌∙◌}
use Prim.Native.Nat.{◌*◌, ◌≤◌}
use native.Mathlib.Omega.{arith}
use Rattle.buffers.proofs.Puts.{puts-ext}
use Rattle.picture_samples.specs.Samples.{entry}
use Rattle.picture_limits.proofs.Places.{square}
use Rattle.picture_spot.specs.inner.Spot.{spotted}
use Rattle.picture_view.proofs.Written.{piece_of}
use Rattle.picture_view.proofs.restore_patch.Goals as goal

pub overflow_mul-p : goal.overflow_mul-p
overflow_mul-p c =
    let small : c.args.p * c.args.p ≤ 1024 = square c.args.p c.requires.0.patch-high in
    omega (arith, small)

pub patch_bytes-requires : goal.patch_bytes-requires
patch_bytes-requires c =
    let small : c.args.p * c.args.p ≤ 1024 = square c.args.p c.requires.0.patch-high in
    let k = small in
    (k, c.requires.1, omega (arith, c.requires.2), c.requires.3)

pub copy_patch-requires : goal.copy_patch-requires
copy_patch-requires c =
    let small : c.args.p * c.args.p ≤ 1024 = square c.args.p c.requires.0.patch-high in
    let k = small in
    (c.requires.0, omega (arith, c.requires.2, c.patch_bytes.auto.bytes))

pub returns : goal.returns
returns c =
    let small : c.args.p * c.args.p ≤ 1024 = square c.args.p c.requires.0.patch-high in
    let k = small in
    c.copy_patch.ensures
    ∙ puts-ext c.args.out.now _ _ _ _ c.args.tall (λ i _. refl)
    (λ i h. piece_of (spotted c.args.w (entry c.args.t.now)) c.args.p c.args.patches.now c.args.bytes.now _ c.args.wide c.args.from i c.patch_bytes.ensures (omega (arith, c.requires.2)) (omega (arith, h, c.requires.0.rows-high)) c.requires.0.columns-high)
