-- `picture_limits::settings::settings_allowed` meets its contract: its tests are the definition's. Assumes nothing.
use borrow.Author.Rules.{rules}
use Rattle.picture_limits.specs.Settings.{allowed}
use Rattle.picture_limits.proofs.settings.settings_allowed.Goals as goal

pub returns : goal.returns
unfolding allowed
returns c = search rules
