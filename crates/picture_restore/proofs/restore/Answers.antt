-- `picture_restore::restore` meets its contract: settings, channels and shape are refused in this order, and what they accept is
-- restored. Assumes nothing.
use Rattle.std.proofs.Common.{◌≡◌, refl, sym, ap, ◌∙◌}
use Rattle.std.specs.Prelude.{Ok, Err, length}
use Rattle.std.proofs.lemmas.Result.{err_from_is_err_and}
use Rattle.picture_limits.specs.Shape.{shaped}
use Rattle.picture_limits.proofs.Shapes.{shaped-says}
use Rattle.picture_samples.proofs.Channels.{Tabled, table-says, table-passes, table-refuses, setting-refused, channel-refused, table-made}
use Rattle.picture_restore.specs.Restore.{restored}
use Rattle.picture_restore.proofs.Ladder.{agrees, decided}
use Rattle.picture_restore.proofs.Numbers.{numbered}
use Rattle.picture_restore.proofs.restore.Goals as goal

pub returns-in_err-settings_tested : goal.returns-in_err-settings_tested
returns-in_err-settings_tested c =
    let l = c.args.patches.now in
    let room = length c.args.out.now in
    let p = err_from_is_err_and c.from_residual.result c.from_residual.ensures.1 in
    let r : restored c.args.s l c.args.grid_h c.args.grid_w room ≡ Err c.in_err-settings_tested.field-0.0 = agrees c.args.s l c.args.grid_h c.args.grid_w room ∙ table-refuses c.args.s _ _ (setting-refused c.args.s _ c.in_err-settings_tested.ensures) in
    let e : c.from_residual.result ≡ restored c.args.s l c.args.grid_h c.args.grid_w room = p.1 ∙ ap Err p.2 ∙ sym r in record {
      answer = e;
      output = rw r refl;
      numbers = numbered c.args.s l c.args.grid_h c.args.grid_w room _ e;
    }

pub returns-in_err-channels_tested : goal.returns-in_err-channels_tested
returns-in_err-channels_tested c =
    let l = c.args.patches.now in
    let room = length c.args.out.now in
    let p = err_from_is_err_and c.from_residual-in_err-channels_tested.result c.from_residual-in_err-channels_tested.ensures.1 in
    let r : restored c.args.s l c.args.grid_h c.args.grid_w room ≡ Err c.in_err-channels_tested.field-0.0 = agrees c.args.s l c.args.grid_h c.args.grid_w room ∙ table-refuses c.args.s _ _ (channel-refused c.args.s c.samples-t.result _ c.in_ok-settings_tested.ensures c.samples-t.ensures _ c.in_err-channels_tested.ensures) in
    let e : c.from_residual-in_err-channels_tested.result ≡ restored c.args.s l c.args.grid_h c.args.grid_w room = p.1 ∙ ap Err p.2 ∙ sym r in record {
      answer = e;
      output = rw r refl;
      numbers = numbered c.args.s l c.args.grid_h c.args.grid_w room _ e;
    }

pub returns-in_err-shape : goal.returns-in_err-shape
returns-in_err-shape c =
    let l = c.args.patches.now in
    let room = length c.args.out.now in
    let p = err_from_is_err_and c.from_residual-in_err-shape.result c.from_residual-in_err-shape.ensures.1 in
    let s : shaped c.args.s c.args.grid_h c.args.grid_w (length l) ≡ Err c.in_err-shape.field-0.0 = sym c.in_err-shape.ensures in
    let r : restored c.args.s l c.args.grid_h c.args.grid_w room ≡ Err c.in_err-shape.field-0.0 =
    agrees c.args.s l c.args.grid_h c.args.grid_w room ∙ table-passes c.args.s _ _ (table-made c.args.s c.samples-t.result _ c.in_ok-settings_tested.ensures c.samples-t.ensures _ c.in_ok-channels_tested.ensures) ∙ ap (decided c.args.s l c.args.grid_h c.args.grid_w room) s in
    let e : c.from_residual-in_err-shape.result ≡ restored c.args.s l c.args.grid_h c.args.grid_w room = p.1 ∙ ap Err p.2 ∙ sym r in record {
      answer = e;
      output = rw r refl;
      numbers = numbered c.args.s l c.args.grid_h c.args.grid_w room _ e;
    }

pub restore_shaped-requires : goal.restore_shaped-requires
restore_shaped-requires c =
    let k : Tabled c.args.s c.samples-t.result = table-says c.args.s _ (table-made c.args.s c.samples-t.result _ c.in_ok-settings_tested.ensures c.samples-t.ensures _ c.in_ok-channels_tested.ensures) in
    let e : shaped c.args.s c.args.grid_h c.args.grid_w (length c.args.patches.now) ≡ Ok c.in_ok-shape.field-0 = sym c.in_ok-shape.ensures in
    record {
      patches_value = e ∙ ap Ok (shaped-says c.args.s c.args.grid_h c.args.grid_w (length c.args.patches.now) _ e).tokens;
      t_value = (k.table, k.channels);
    }

pub returns : goal.returns
returns c = record {
  answer = c.restore_shaped.ensures.answer;
  output = c.restore_shaped.ensures.output;
  numbers = numbered c.args.s c.args.patches.now c.args.grid_h c.args.grid_w (length c.args.out.now) _ c.restore_shaped.ensures.answer;
}
