-- `picture_salvage::salvage` meets its contract: settings, channels and shape are refused in this order, and what they
-- accept is salvaged. Assumes nothing.
use Rattle.std.proofs.Common.{◌≡◌, refl, sym, ap, ◌∙◌}
use Rattle.std.specs.Prelude.{Ok, Err, length}
use Rattle.std.proofs.lemmas.Result.{err_from_is_err_and}
use Rattle.picture_limits.specs.Shape.{shaped}
use Rattle.picture_samples.proofs.Channels.{Tabled, table-says, table-passes, table-refuses, setting-refused, channel-refused, table-made}
use Rattle.picture_salvage.specs.Salvage.{salvaged}
use Rattle.picture_salvage.proofs.Salvages.{agrees, decided_by}
use Rattle.picture_salvage.proofs.salvage.Goals as goal

pub returns-in_err-settings_tested : goal.returns-in_err-settings_tested
returns-in_err-settings_tested c =
    let l = c.args.bits.now in
    let room = length c.args.out.now in
    let space = length c.args.list.now in
    let p = err_from_is_err_and c.from_residual.result c.from_residual.ensures.1 in
    let r : salvaged c.args.s l c.args.grid_h c.args.grid_w room space ≡ Err c.in_err-settings_tested.field-0.0 = agrees c.args.s l c.args.grid_h c.args.grid_w room space ∙ table-refuses c.args.s _ _ (setting-refused c.args.s _ c.in_err-settings_tested.ensures) in record {
      answer = p.1 ∙ ap Err p.2 ∙ sym r;
      output = rw r refl;
      entries = rw r refl;
    }

pub returns-in_err-channels_tested : goal.returns-in_err-channels_tested
returns-in_err-channels_tested c =
    let l = c.args.bits.now in
    let room = length c.args.out.now in
    let space = length c.args.list.now in
    let p = err_from_is_err_and c.from_residual-in_err-channels_tested.result c.from_residual-in_err-channels_tested.ensures.1 in
    let r : salvaged c.args.s l c.args.grid_h c.args.grid_w room space ≡ Err c.in_err-channels_tested.field-0.0 = agrees c.args.s l c.args.grid_h c.args.grid_w room space ∙ table-refuses c.args.s _ _ (channel-refused c.args.s c.samples-t.result _ c.in_ok-settings_tested.ensures c.samples-t.ensures _ c.in_err-channels_tested.ensures) in record {
      answer = p.1 ∙ ap Err p.2 ∙ sym r;
      output = rw r refl;
      entries = rw r refl;
    }

pub returns-in_err-tokens : goal.returns-in_err-tokens
returns-in_err-tokens c =
    let l = c.args.bits.now in
    let room = length c.args.out.now in
    let space = length c.args.list.now in
    let p = err_from_is_err_and c.from_residual-in_err-tokens.result c.from_residual-in_err-tokens.ensures.1 in
    let s : shaped c.args.s c.args.grid_h c.args.grid_w (length l) ≡ Err c.in_err-tokens.field-0.0 = sym c.in_err-tokens.ensures in
    let r : salvaged c.args.s l c.args.grid_h c.args.grid_w room space ≡ Err c.in_err-tokens.field-0.0 =
    agrees c.args.s l c.args.grid_h c.args.grid_w room space ∙ table-passes c.args.s _ _ (table-made c.args.s c.samples-t.result _ c.in_ok-settings_tested.ensures c.samples-t.ensures _ c.in_ok-channels_tested.ensures) ∙ ap (decided_by c.args.s l c.args.grid_h c.args.grid_w room space) s in record {
      answer = p.1 ∙ ap Err p.2 ∙ sym r;
      output = rw r refl;
      entries = rw r refl;
    }

pub salvage_shaped-requires : goal.salvage_shaped-requires
salvage_shaped-requires c =
    let k : Tabled c.args.s c.samples-t.result = table-says c.args.s _ (table-made c.args.s c.samples-t.result _ c.in_ok-settings_tested.ensures c.samples-t.ensures _ c.in_ok-channels_tested.ensures) in
    record {
      bits_value = sym c.in_ok-tokens.ensures;
      t_value = (k.table, k.channels);
    }
