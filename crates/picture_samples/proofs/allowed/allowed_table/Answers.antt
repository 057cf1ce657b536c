-- `allowed::allowed_table` meets its contract: the two tests, and the table between them. Assumes nothing.
use Rattle.std.proofs.Common.{ap, ◌∙◌}
use Rattle.std.proofs.lemmas.Result.{err_from_is_err_and}
use Rattle.std.specs.Prelude.{Err}
use Rattle.picture_samples.proofs.Channels.{setting-refused, channel-refused, table-made}
use Rattle.picture_samples.proofs.allowed.allowed_table.Goals as goal

pub returns-in_err-settings_tested : goal.returns-in_err-settings_tested
returns-in_err-settings_tested c =
    let p = err_from_is_err_and c.from_residual.result c.from_residual.ensures.1 in
    p.1 ∙ ap Err p.2 ∙ setting-refused c.args.s _ c.in_err-settings_tested.ensures

pub returns-in_err-channels_tested : goal.returns-in_err-channels_tested
returns-in_err-channels_tested c =
    let p = err_from_is_err_and c.from_residual-in_err-channels_tested.result c.from_residual-in_err-channels_tested.ensures.1 in
    p.1 ∙ ap Err p.2 ∙ channel-refused c.args.s c.samples-t.result _ c.in_ok-settings_tested.ensures c.samples-t.ensures _ c.in_err-channels_tested.ensures

pub returns : goal.returns
returns c = table-made c.args.s c.samples-t.result _ c.in_ok-settings_tested.ensures c.samples-t.ensures _ c.in_ok-channels_tested.ensures
