-- `kyzgultam::weights_file::kz_weights` meets its contract: it reports the answer of `weights`. Assumes nothing.
use mathlib.Core.Path.{◌≡◌, refl, subst}
use mathlib.Core.List.{List}
use Prim.Native.Nat.{ℕ}
use Rattle.weights.specs.File.{Weighing, Weighed}
use Rattle.encoder_settings.specs.declared.EncoderSettings.{EncoderSettings}
use Rattle.kyzgultam.proofs.weights_file.kz_weights.Goals as goal

-- the answer at equal settings
lent-as : {s t : EncoderSettings} {l o n : List ℕ} {a : Weighed} → s ≡ t → Weighing s l o n a → Weighing t l o n a
lent-as {s} {t} {l} {o} {n} {a} e k = subst (λ (x : EncoderSettings). Weighing x l o n a) e k

pub returns-in-Ok : goal.returns-in-Ok
returns-in-Ok c = (c.weights.result, lent-as c.into.ensures c.weights.ensures, rw c.in-Ok.is refl)

pub returns-in-Err : goal.returns-in-Err
returns-in-Err c = (c.weights.result, lent-as c.into.ensures c.weights.ensures, rw (c.from.ensures, c.in-Err.is) refl)
