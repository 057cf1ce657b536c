-- `picture_restore::restore_shaped` meets its contract: with shape and channels accepted, the room and then the samples decide. Assumes nothing.
use mathlib.Core.Path.{◌≡◌, sym, ◌∙◌}
use Prim.Native.Nat.{◌*◌}
use native.Mathlib.Omega.{arith}
use borrow.Author.Tests.{not-true, not-false, le-leb, lt-leb}
use lib.Dec.{leb}
use lib.ListN.{length}
use Rattle.std.specs.Prelude.{Ok, Err}
use Rattle.picture_limits.specs.declared.Refusal.TheVariants.{Output, Sample}
use Rattle.picture_samples.specs.Samples.{entry, pattern_of}
use Rattle.picture_limits.specs.Refusal.{unless}
use Rattle.picture_view.specs.Known.{known}
use Rattle.picture_restore.specs.Restore.{restored}
use Rattle.picture_limits.proofs.Shapes.{Accepted, shaped-says}
use Rattle.picture_samples.proofs.Channels.{entry-of, allowed_of}
use Rattle.picture_samples.proofs.Finds.{Same}
use Rattle.picture_restore.proofs.Ladder.{agreed}
use Rattle.picture_restore.proofs.Whole.{back_is, out-known, out-unknown}
use Rattle.picture_restore.proofs.restore_shaped.Goals as goal

pub overflow_mul-height : goal.overflow_mul-height
overflow_mul-height c =
    let accepted : let a = c.args in Accepted c.args.s c.args.grid_h c.args.grid_w (length c.args.patches.now) (c.args.grid_h * c.args.grid_w) = let a = c.args in shaped-says c.args.s c.args.grid_h c.args.grid_w (length c.args.patches.now) (c.args.grid_h * c.args.grid_w) c.requires.patches_value in
    let k = accepted in omega (arith, k.grids)

pub overflow_mul-width : goal.overflow_mul-width
overflow_mul-width c =
    let accepted : let a = c.args in Accepted c.args.s c.args.grid_h c.args.grid_w (length c.args.patches.now) (c.args.grid_h * c.args.grid_w) = let a = c.args in shaped-says c.args.s c.args.grid_h c.args.grid_w (length c.args.patches.now) (c.args.grid_h * c.args.grid_w) c.requires.patches_value in
    let k = accepted in omega (arith, k.grids)

pub overflow_mul-height-2 : goal.overflow_mul-height-2
overflow_mul-height-2 c =
    let accepted : let a = c.args in Accepted c.args.s c.args.grid_h c.args.grid_w (length c.args.patches.now) (c.args.grid_h * c.args.grid_w) = let a = c.args in shaped-says c.args.s c.args.grid_h c.args.grid_w (length c.args.patches.now) (c.args.grid_h * c.args.grid_w) c.requires.patches_value in
    let k = accepted in omega (arith, k.grids)

pub overflow_mul-height-3 : goal.overflow_mul-height-3
overflow_mul-height-3 c =
    let accepted : let a = c.args in Accepted c.args.s c.args.grid_h c.args.grid_w (length c.args.patches.now) (c.args.grid_h * c.args.grid_w) = let a = c.args in shaped-says c.args.s c.args.grid_h c.args.grid_w (length c.args.patches.now) (c.args.grid_h * c.args.grid_w) c.requires.patches_value in
    let k = accepted in omega (arith, k.grids)

pub returns-then-out-height : goal.returns-then-out-height
returns-then-out-height c =
    let decision : let a = c.args in let p = c.args.s.patch_size in
    restored c.args.s c.args.patches.now c.args.grid_h c.args.grid_w (length c.args.out.now)
    ≡ unless (leb (c.args.grid_h * p * (c.args.grid_w * p) * 3) (length c.args.out.now)) (Err Output)
    (unless (known (pattern_of c.args.s) p c.args.patches.now) (Err Sample) (Ok (record { height = c.args.grid_h * p; width = c.args.grid_w * p }))) = let a = c.args in
    let s = c.args.s in
    agreed s c.args.patches.now c.args.grid_h c.args.grid_w (length c.args.out.now) (c.args.grid_h * c.args.grid_w) c.requires.patches_value
    (sym (allowed_of c.args.s.mean c.args.s.deviation c.args.t.now c.requires.t_value.0) ∙ c.requires.t_value.1) in
    let d = decision in let e = lt-leb _ _ c.if-out-height.true in record {
      answer = rw (d, e);
      output = rw (d, e);
    }

pub returns-then-not-restore_view : goal.returns-then-not-restore_view
returns-then-not-restore_view c =
    let accepted : let a = c.args in Accepted c.args.s c.args.grid_h c.args.grid_w (length c.args.patches.now) (c.args.grid_h * c.args.grid_w) = let a = c.args in shaped-says c.args.s c.args.grid_h c.args.grid_w (length c.args.patches.now) (c.args.grid_h * c.args.grid_w) c.requires.patches_value in
    let decision : let a = c.args in let p = c.args.s.patch_size in
    restored c.args.s c.args.patches.now c.args.grid_h c.args.grid_w (length c.args.out.now)
    ≡ unless (leb (c.args.grid_h * p * (c.args.grid_w * p) * 3) (length c.args.out.now)) (Err Output)
    (unless (known (pattern_of c.args.s) p c.args.patches.now) (Err Sample) (Ok (record { height = c.args.grid_h * p; width = c.args.grid_w * p }))) = let a = c.args in
    let s = c.args.s in
    agreed s c.args.patches.now c.args.grid_h c.args.grid_w (length c.args.out.now) (c.args.grid_h * c.args.grid_w) c.requires.patches_value
    (sym (allowed_of c.args.s.mean c.args.s.deviation c.args.t.now c.requires.t_value.0) ∙ c.requires.t_value.1) in
    let same : Same (entry c.args.t.now) (pattern_of c.args.s) = let a = c.args in entry-of c.args.s.mean c.args.s.deviation c.args.t.now c.requires.t_value.0 in
    let answer : let a = c.args in c.restore_view.result ≡ known (pattern_of c.args.s) c.args.s.patch_size c.args.patches.now = let s = c.before.before.before.before.before.before.before.before in
    let a = c.args in
    c.restore_view.ensures.answer ∙ back_is c.args.s c.args.t.now (same) c.requires.t_value.1 c.args.patches.now c.args.grid_h c.args.grid_w _ (accepted) c.args.out.now c.if-out-height.false in
    let s = c.before.before.before.before.before.before.before.before in
    let a = c.args in
    let f = c.if-out-height.false in
    let d = decision in
    let e = le-leb _ _ f in
    let k = sym (answer) ∙ not-true _ c.if-not-restore_view.true-raw in record {
      answer = rw (d, e, k);
      output = rw (d, e, k) (c.restore_view.ensures.output ∙ out-unknown c.args.s c.args.t.now (same) c.requires.t_value.1 c.args.patches.now c.args.grid_h c.args.grid_w _ (accepted) c.args.out.now f k);
    }

pub returns : goal.returns
returns c =
    let accepted : let a = c.args in Accepted c.args.s c.args.grid_h c.args.grid_w (length c.args.patches.now) (c.args.grid_h * c.args.grid_w) = let a = c.args in shaped-says c.args.s c.args.grid_h c.args.grid_w (length c.args.patches.now) (c.args.grid_h * c.args.grid_w) c.requires.patches_value in
    let decision : let a = c.args in let p = c.args.s.patch_size in
    restored c.args.s c.args.patches.now c.args.grid_h c.args.grid_w (length c.args.out.now)
    ≡ unless (leb (c.args.grid_h * p * (c.args.grid_w * p) * 3) (length c.args.out.now)) (Err Output)
    (unless (known (pattern_of c.args.s) p c.args.patches.now) (Err Sample) (Ok (record { height = c.args.grid_h * p; width = c.args.grid_w * p }))) = let a = c.args in
    let s = c.args.s in
    agreed s c.args.patches.now c.args.grid_h c.args.grid_w (length c.args.out.now) (c.args.grid_h * c.args.grid_w) c.requires.patches_value
    (sym (allowed_of c.args.s.mean c.args.s.deviation c.args.t.now c.requires.t_value.0) ∙ c.requires.t_value.1) in
    let same : Same (entry c.args.t.now) (pattern_of c.args.s) = let a = c.args in entry-of c.args.s.mean c.args.s.deviation c.args.t.now c.requires.t_value.0 in
    let answer : let a = c.args in c.restore_view.result ≡ known (pattern_of c.args.s) c.args.s.patch_size c.args.patches.now = let s = c.before.before.before.before.before.before.before.before in
    let a = c.args in
    c.restore_view.ensures.answer ∙ back_is c.args.s c.args.t.now (same) c.requires.t_value.1 c.args.patches.now c.args.grid_h c.args.grid_w _ (accepted) c.args.out.now c.if-out-height.false in
    let s = c.before.before.before.before.before.before.before.before in
    let a = c.args in
    let f = c.if-out-height.false in
    let d = decision in
    let e = le-leb _ _ f in
    let k = sym (answer) ∙ not-false _ c.if-not-restore_view.false-raw in record {
      answer = rw (d, e, k);
      output = rw (d, e, k) (c.restore_view.ensures.output ∙ out-known c.args.s c.args.t.now (same) c.requires.t_value.1 c.args.patches.now c.args.grid_h c.args.grid_w _ (accepted) c.args.out.now f k);
    }
