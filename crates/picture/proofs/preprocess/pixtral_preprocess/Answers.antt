-- `picture::preprocess::pixtral_preprocess` meets its contract: settings and channels are refused first. Assumes nothing.
use Rattle.std.proofs.Common.{◌≡◌, refl, sym, ap, ◌∙◌}
use Rattle.std.specs.Prelude.{Err, length}
use Rattle.std.proofs.lemmas.Result.{err_from_is_err_and}
use Rattle.picture_samples.proofs.Channels.{Tabled, table-says, table-refuses, setting-refused, channel-refused, table-made}
use Rattle.picture.specs.Preprocess.{preprocessed}
use Rattle.picture.proofs.Numbers.{numbered}
use Rattle.picture.proofs.preprocess.pixtral_preprocess.Goals as goal

pub returns-in_err-settings_tested : goal.returns-in_err-settings_tested
unfolding preprocessed
returns-in_err-settings_tested c =
    let len = length c.args.rgb.now in
    let room = length c.args.out.now in
    let p = err_from_is_err_and c.from_residual.result c.from_residual.ensures.1 in
    let r : preprocessed c.args.s len c.args.height c.args.width room ≡ Err c.in_err-settings_tested.field-0.0 = table-refuses c.args.s _ _ (setting-refused c.args.s _ c.in_err-settings_tested.ensures) in
    let e : c.from_residual.result ≡ preprocessed c.args.s len c.args.height c.args.width room = p.1 ∙ ap Err p.2 ∙ sym r in record {
      answer = e;
      output = rw r refl;
      numbers = numbered c.args.s len c.args.height c.args.width room _ e;
    }

pub returns-in_err-channels_tested : goal.returns-in_err-channels_tested
unfolding preprocessed
returns-in_err-channels_tested c =
    let len = length c.args.rgb.now in
    let room = length c.args.out.now in
    let p = err_from_is_err_and c.from_residual-in_err-channels_tested.result c.from_residual-in_err-channels_tested.ensures.1 in
    let r : preprocessed c.args.s len c.args.height c.args.width room ≡ Err c.in_err-channels_tested.field-0.0 = table-refuses c.args.s _ _ (channel-refused c.args.s c.samples-t.result _ c.in_ok-settings_tested.ensures c.samples-t.ensures _ c.in_err-channels_tested.ensures) in
    let e : c.from_residual-in_err-channels_tested.result ≡ preprocessed c.args.s len c.args.height c.args.width room = p.1 ∙ ap Err p.2 ∙ sym r in record {
      answer = e;
      output = rw r refl;
      numbers = numbered c.args.s len c.args.height c.args.width room _ e;
    }

pub preprocess_by-requires : goal.preprocess_by-requires
preprocess_by-requires c =
    let k : Tabled c.args.s c.samples-t.result = table-says c.args.s _ (table-made c.args.s c.samples-t.result _ c.in_ok-settings_tested.ensures c.samples-t.ensures _ c.in_ok-channels_tested.ensures) in
    (k.settings, k.channels, k.table)

pub returns : goal.returns
returns c = record {
  answer = c.preprocess_by.ensures.answer;
  output = c.preprocess_by.ensures.output;
  numbers = numbered c.args.s (length c.args.rgb.now) c.args.height c.args.width (length c.args.out.now) _ c.preprocess_by.ensures.answer;
}
