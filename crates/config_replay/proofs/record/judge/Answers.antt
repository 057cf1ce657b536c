-- `record::judge` meets its contract. Assumes nothing.
use Rattle.std.proofs.Common.{◌≡◌, ap, subst, ◌∙◌, Bool, ◌&&◌, List, ℕ, Ok, Err}
use Rattle.std.specs.Result.{result_unwrap_or}
use Rattle.config.specs.Config.{Config, Configured, zeros, settings_of}
use Rattle.config.proofs.Unique.{config-unique}
use Rattle.encoder_settings.specs.declared.EncoderSettings.{EncoderSettings}
use Rattle.config_replay.specs.Record.{lent, said_agrees, settings_agree, Judges}
use Rattle.config_replay.proofs.record.judge.Goals as goal

-- the settings that are handed out
handed : (a : Configured) {z t : EncoderSettings} → t ≡ result_unwrap_or a z → z ≡ zeros → t ≡ settings_of a
handed (Ok s) e h = e
handed (Err m) e h = e ∙ h

-- what the call answered is the answer, so whether it agrees is whether any answer does
judged : {s u z : EncoderSettings} {t w : List ℕ} {p q : Bool} (a : Configured) → s ≡ lent → Config s t a → u ≡ result_unwrap_or a z → z ≡ zeros → p ≡ said_agrees a w → q ≡ settings_agree u w → Judges t w (p && q)
judged {s} {u} {z} {t} {w} {p} {q} a e k m n h l =
    let y : Config lent t a = subst (λ (x : EncoderSettings). Config x t a) e k in
    let g : q ≡ settings_agree (settings_of a) w = l ∙ ap (λ (x : EncoderSettings). settings_agree x w) (handed a m n) in
    record {
      is = λ x v.
          ap (λ (o : Bool). o && q) h ∙ ap (λ (o : Bool). said_agrees a w && o) g
          ∙ ap (λ (o : Configured). said_agrees o w && settings_agree (settings_of o) w) (config-unique lent t a x y v);
    }

pub returns-then-not-ok : goal.returns-then-not-ok
returns-then-not-ok c = judged c.config-found.result c.lent_settings.ensures c.config-found.ensures c.unwrap_or-settings.ensures c.no_settings.ensures c.said_agrees.ensures c.settings_agree.ensures

pub returns-else-not-ok : goal.returns-else-not-ok
returns-else-not-ok c = judged c.config-found.result c.lent_settings.ensures c.config-found.ensures c.unwrap_or-settings.ensures c.no_settings.ensures c.said_agrees.ensures c.settings_agree.ensures
