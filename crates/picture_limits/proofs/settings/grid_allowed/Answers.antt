-- `picture_limits::settings::grid_allowed` meets its contract. Assumes nothing.
use mathlib.Core.Path.{◌≡◌, sym, ◌∙◌}
use mathlib.Core.Bool.{true}
use borrow.Author.Tests.{not-true, not-false}
use Rattle.picture_limits.specs.Settings.{allowed}
use Rattle.picture_limits.proofs.Sides.{allowed-says}
use Rattle.picture_limits.proofs.settings.grid_allowed.Goals as goal

pub returns-then-not-settings_allowed : goal.returns-then-not-settings_allowed
returns-then-not-settings_allowed c = rw (sym c.settings_allowed.ensures ∙ not-true _ c.if-not-settings_allowed.true-raw)

pub grid_side_allowed-requires : goal.grid_side_allowed-requires
grid_side_allowed-requires c =
    let settings : allowed c.args.s ≡ true = sym c.settings_allowed.ensures ∙ not-false _ c.if-not-settings_allowed.false-raw in
    let r = allowed-says _ (settings) in record { patch-low = r.patch-low; merge_low = r.merge_low }

pub grid_side_allowed-requires-2 : goal.grid_side_allowed-requires-2
grid_side_allowed-requires-2 c =
    let settings : allowed c.args.s ≡ true = sym c.settings_allowed.ensures ∙ not-false _ c.if-not-settings_allowed.false-raw in
    let r = allowed-says _ (settings) in record { patch-low = r.patch-low; merge_low = r.merge_low }

pub returns : goal.returns
returns c =
    let settings : allowed c.args.s ≡ true = sym c.settings_allowed.ensures ∙ not-false _ c.if-not-settings_allowed.false-raw in
    rw (settings, c.grid_side_allowed.ensures, c.grid_side_allowed-2.ensures)
