-- `picture_tiles::restore::restore_tile` meets its contract: settings and channels are refused first. Assumes nothing.
use Rattle.std.proofs.Common.{◌≡◌, refl, sym, ap, ◌∙◌}
use Rattle.std.specs.Prelude.{Err, length}
use Rattle.std.proofs.lemmas.Result.{err_from_is_err_and}
use Rattle.picture_samples.proofs.Channels.{Tabled, table-says, table-refuses, setting-refused, channel-refused, table-made}
use Rattle.picture_tiles.specs.Answer.{untiled}
use Rattle.picture_tiles.proofs.restore.restore_tile.Goals as goal

pub returns-in_err-settings_tested : goal.returns-in_err-settings_tested
unfolding untiled
returns-in_err-settings_tested c =
    let p = err_from_is_err_and c.from_residual.result c.from_residual.ensures.1 in
    let r : untiled c.args.s c.args.patches.now c.args.height c.args.width c.args.index (length c.args.out.now) ≡ Err c.in_err-settings_tested.field-0.0 = table-refuses c.args.s _ _ (setting-refused c.args.s _ c.in_err-settings_tested.ensures) in record {
      answer = p.1 ∙ ap Err p.2 ∙ sym r;
      output = rw r refl;
    }

pub returns-in_err-channels_tested : goal.returns-in_err-channels_tested
unfolding untiled
returns-in_err-channels_tested c =
    let p = err_from_is_err_and c.from_residual-in_err-channels_tested.result c.from_residual-in_err-channels_tested.ensures.1 in
    let r : untiled c.args.s c.args.patches.now c.args.height c.args.width c.args.index (length c.args.out.now) ≡ Err c.in_err-channels_tested.field-0.0 = table-refuses c.args.s _ _ (channel-refused c.args.s c.samples-t.result _ c.in_ok-settings_tested.ensures c.samples-t.ensures _ c.in_err-channels_tested.ensures) in record {
      answer = p.1 ∙ ap Err p.2 ∙ sym r;
      output = rw r refl;
    }

pub restore_tile_by-requires : goal.restore_tile_by-requires
restore_tile_by-requires c =
    let k : Tabled c.args.s c.samples-t.result = table-says c.args.s _ (table-made c.args.s c.samples-t.result _ c.in_ok-settings_tested.ensures c.samples-t.ensures _ c.in_ok-channels_tested.ensures) in
    (k.settings, k.channels, k.table)
