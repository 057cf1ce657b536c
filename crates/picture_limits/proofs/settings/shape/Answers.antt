-- `picture_limits::settings::shape` meets its contract. Each test that passes bounds the products of the next. Assumes nothing.
use mathlib.Core.Path.{◌≡◌, sym, ◌∙◌}
use mathlib.Core.Bool.{true, ◌&&◌}
use native.Mathlib.Omega.{arith}
use borrow.Author.Tests.{not-true, not-false, eq-eqb, ne_eqb}
use Rattle.picture_limits.specs.Settings.{allowed}
use Rattle.picture_limits.specs.Shape.{grid_allowed, shaped}
use Rattle.picture_limits.proofs.Sides.{allowed-says}
use Rattle.picture_limits.proofs.Shapes.{Grids, grids-say}
use Rattle.picture_limits.proofs.settings.shape.Goals as goal

pub returns-then-not-settings_allowed : goal.returns-then-not-settings_allowed
unfolding shaped
returns-then-not-settings_allowed c = rw (sym c.settings_allowed.ensures ∙ not-true _ c.if-not-settings_allowed.true-raw)

pub grid_side_allowed-requires : goal.grid_side_allowed-requires
grid_side_allowed-requires c =
    let settings : allowed c.args.s ≡ true = sym c.settings_allowed.ensures ∙ not-false _ c.if-not-settings_allowed.false-raw in
    let r = allowed-says _ (settings) in record { patch-low = r.patch-low; merge_low = r.merge_low }

pub grid_side_allowed-requires-2 : goal.grid_side_allowed-requires-2
grid_side_allowed-requires-2 c =
    let settings : allowed c.args.s ≡ true = sym c.settings_allowed.ensures ∙ not-false _ c.if-not-settings_allowed.false-raw in
    let r = allowed-says _ (settings) in record { patch-low = r.patch-low; merge_low = r.merge_low }

pub returns-then-not-grid_side_allowed : goal.returns-then-not-grid_side_allowed
unfolding shaped
returns-then-not-grid_side_allowed c =
    let settings : allowed c.args.s ≡ true = sym c.settings_allowed.ensures ∙ not-false _ c.if-not-settings_allowed.false-raw in
    let e = not-true (c.grid_side_allowed.result && c.grid_side_allowed-2.result) c.if-not-grid_side_allowed.true-raw in
    rw (settings, ← c.grid_side_allowed.ensures, ← c.grid_side_allowed-2.ensures, e)

pub overflow_mul-t : goal.overflow_mul-t
overflow_mul-t c =
    let settings : allowed c.args.s ≡ true = sym c.settings_allowed.ensures ∙ not-false _ c.if-not-settings_allowed.false-raw in
    let sides : let a = c.args in grid_allowed c.args.s c.args.grid_h && grid_allowed c.args.s c.args.grid_w ≡ true = rw (← c.grid_side_allowed.ensures, ← c.grid_side_allowed-2.ensures) (not-false _ c.if-not-grid_side_allowed.false-raw) in
    let grids : let a = c.args in Grids c.args.s c.args.grid_h c.args.grid_w = grids-say _ _ _ (settings) (sides) in
    let g = grids in omega arith

pub overflow_mul-p : goal.overflow_mul-p
overflow_mul-p c =
    let settings : allowed c.args.s ≡ true = sym c.settings_allowed.ensures ∙ not-false _ c.if-not-settings_allowed.false-raw in
    let sides : let a = c.args in grid_allowed c.args.s c.args.grid_h && grid_allowed c.args.s c.args.grid_w ≡ true = rw (← c.grid_side_allowed.ensures, ← c.grid_side_allowed-2.ensures) (not-false _ c.if-not-grid_side_allowed.false-raw) in
    let grids : let a = c.args in Grids c.args.s c.args.grid_h c.args.grid_w = grids-say _ _ _ (settings) (sides) in
    let g = grids in omega arith

pub overflow_mul-p-2 : goal.overflow_mul-p-2
overflow_mul-p-2 c =
    let settings : allowed c.args.s ≡ true = sym c.settings_allowed.ensures ∙ not-false _ c.if-not-settings_allowed.false-raw in
    let sides : let a = c.args in grid_allowed c.args.s c.args.grid_h && grid_allowed c.args.s c.args.grid_w ≡ true = rw (← c.grid_side_allowed.ensures, ← c.grid_side_allowed-2.ensures) (not-false _ c.if-not-grid_side_allowed.false-raw) in
    let grids : let a = c.args in Grids c.args.s c.args.grid_h c.args.grid_w = grids-say _ _ _ (settings) (sides) in
    let g = grids in omega arith

pub overflow_mul-t-2 : goal.overflow_mul-t-2
overflow_mul-t-2 c =
    let settings : allowed c.args.s ≡ true = sym c.settings_allowed.ensures ∙ not-false _ c.if-not-settings_allowed.false-raw in
    let sides : let a = c.args in grid_allowed c.args.s c.args.grid_h && grid_allowed c.args.s c.args.grid_w ≡ true = rw (← c.grid_side_allowed.ensures, ← c.grid_side_allowed-2.ensures) (not-false _ c.if-not-grid_side_allowed.false-raw) in
    let grids : let a = c.args in Grids c.args.s c.args.grid_h c.args.grid_w = grids-say _ _ _ (settings) (sides) in
    let g = grids in omega arith

pub returns-then-patches-t : goal.returns-then-patches-t
unfolding shaped
returns-then-patches-t c =
    let settings : allowed c.args.s ≡ true = sym c.settings_allowed.ensures ∙ not-false _ c.if-not-settings_allowed.false-raw in
    let sides : grid_allowed c.args.s c.args.grid_h && grid_allowed c.args.s c.args.grid_w ≡ true = rw (← c.grid_side_allowed.ensures, ← c.grid_side_allowed-2.ensures) (not-false _ c.if-not-grid_side_allowed.false-raw) in
    rw (settings, sides, ne_eqb _ _ c.if-patches-t.true)

pub returns : goal.returns
unfolding shaped
returns c =
    let settings : allowed c.args.s ≡ true = sym c.settings_allowed.ensures ∙ not-false _ c.if-not-settings_allowed.false-raw in
    let sides : grid_allowed c.args.s c.args.grid_h && grid_allowed c.args.s c.args.grid_w ≡ true = rw (← c.grid_side_allowed.ensures, ← c.grid_side_allowed-2.ensures) (not-false _ c.if-not-grid_side_allowed.false-raw) in
    rw (settings, sides, eq-eqb _ _ c.if-patches-t.false)
