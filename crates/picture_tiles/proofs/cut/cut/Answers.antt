-- `picture_tiles::cut::cut` meets its contract. Assumes nothing.
use mathlib.Core.Path.{◌≡◌, sym, ap, ◌∙◌}
use Rattle.std.specs.Prelude.{Err}
use Rattle.std.proofs.lemmas.Result.{err_from_is_err_and}
use mathlib.Core.Bool.{true}
use native.Mathlib.Omega.{arith}
use borrow.Author.Tests.{not-true, not-false, le-leb, lt-leb}
use Rattle.picture_limits.specs.Settings.{allowed, sided}
use Rattle.picture_limits.proofs.Places.{times}
use Rattle.picture_limits.proofs.Sides.{allowed-says}
use Rattle.picture_samples.specs.Samples.{channels_allowed, value_of}
use Rattle.picture_samples.proofs.Channels.{allowed_of, table-says, table-refuses, setting-refused, channel-refused, table-made}
use Rattle.picture_tiles.specs.Cut.{Ready}
use Rattle.picture_tiles.specs.Answer.{cut_of}
use Rattle.picture_tiles.proofs.Bounds.{Bounds, bounds}
use Rattle.picture_tiles.proofs.cut.cut.Goals as goal

pub returns-in_err-settings_tested : goal.returns-in_err-settings_tested
unfolding cut_of
returns-in_err-settings_tested c =
    let p = err_from_is_err_and c.from_residual.result c.from_residual.ensures.1 in
    p.1 ∙ ap Err p.2 ∙ sym (table-refuses c.args.s _ _ (setting-refused c.args.s _ c.in_err-settings_tested.ensures))

pub returns-in_err-channels_tested : goal.returns-in_err-channels_tested
unfolding cut_of
returns-in_err-channels_tested c =
    let p = err_from_is_err_and c.from_residual-in_err-channels_tested.result c.from_residual-in_err-channels_tested.ensures.1 in
    p.1 ∙ ap Err p.2 ∙ sym (table-refuses c.args.s _ _ (channel-refused c.args.s c.samples-t.result _ c.in_ok-settings_tested.ensures c.samples-t.ensures _ c.in_err-channels_tested.ensures))

pub returns-then-not-sides_allowed : goal.returns-then-not-sides_allowed
unfolding cut_of
returns-then-not-sides_allowed c =
    let table = table-says c.args.s _ (table-made c.args.s c.samples-t.result _ c.in_ok-settings_tested.ensures c.samples-t.ensures _ c.in_ok-channels_tested.ensures) in
    let settings : allowed c.args.s ≡ true = table.settings in
    let passed : channels_allowed (value_of c.args.s) ≡ true = sym (allowed_of c.args.s.mean c.args.s.deviation _ table.table) ∙ table.channels in
    rw (settings, passed, sym c.sides_allowed.ensures ∙ not-true _ c.if-not-sides_allowed.true-raw)

pub overflow_mul-s : goal.overflow_mul-s
overflow_mul-s c =
    let table = table-says c.args.s _ (table-made c.args.s c.samples-t.result _ c.in_ok-settings_tested.ensures c.samples-t.ensures _ c.in_ok-channels_tested.ensures) in
    let settings : allowed c.args.s ≡ true = table.settings in
    let s = c.args.s in
    let o = allowed-says s (settings) in
    omega (arith, times c.args.s.patch_size c.args.s.spatial_merge_size 32 4 o.patch-high o.merge-high)

pub returns-then-s : goal.returns-then-s
unfolding cut_of
returns-then-s c =
    let table = table-says c.args.s _ (table-made c.args.s c.samples-t.result _ c.in_ok-settings_tested.ensures c.samples-t.ensures _ c.in_ok-channels_tested.ensures) in
    let settings : allowed c.args.s ≡ true = table.settings in
    let passed : channels_allowed (value_of c.args.s) ≡ true = sym (allowed_of c.args.s.mean c.args.s.deviation _ table.table) ∙ table.channels in
    let sides : sided c.args.height c.args.width ≡ true = sym c.sides_allowed.ensures ∙ not-false _ c.if-not-sides_allowed.false-raw in
    rw (settings, passed, sides, lt-leb _ _ c.if-s.true)

pub tile_side-side-requires : goal.tile_side-side-requires
tile_side-side-requires c =
    let table = table-says c.args.s _ (table-made c.args.s c.samples-t.result _ c.in_ok-settings_tested.ensures c.samples-t.ensures _ c.in_ok-channels_tested.ensures) in
    let settings : allowed c.args.s ≡ true = table.settings in
    let ready : Ready c.args.s = record { settings = settings; image = c.if-s.false } in
    ready

pub pieces_of-requires : goal.pieces_of-requires
pieces_of-requires c =
    let sides : let a = c.args in sided c.args.height c.args.width ≡ true = sym c.sides_allowed.ensures ∙ not-false _ c.if-not-sides_allowed.false-raw in
    let table = table-says c.args.s _ (table-made c.args.s c.samples-t.result _ c.in_ok-settings_tested.ensures c.samples-t.ensures _ c.in_ok-channels_tested.ensures) in
    let settings : allowed c.args.s ≡ true = table.settings in
    let ready : Ready c.args.s = record { settings = settings; image = c.if-s.false } in
    let at-end : let a = c.args in Bounds c.args.s c.args.height c.args.width = bounds _ _ _ (ready) (sides) in
    let z = at-end in rw c.tile_side-side.ensures (z.side-low, z.side-high, z.tall)

pub pieces_of-requires-2 : goal.pieces_of-requires-2
pieces_of-requires-2 c =
    let sides : let a = c.args in sided c.args.height c.args.width ≡ true = sym c.sides_allowed.ensures ∙ not-false _ c.if-not-sides_allowed.false-raw in
    let table = table-says c.args.s _ (table-made c.args.s c.samples-t.result _ c.in_ok-settings_tested.ensures c.samples-t.ensures _ c.in_ok-channels_tested.ensures) in
    let settings : allowed c.args.s ≡ true = table.settings in
    let ready : Ready c.args.s = record { settings = settings; image = c.if-s.false } in
    let at-end : let a = c.args in Bounds c.args.s c.args.height c.args.width = bounds _ _ _ (ready) (sides) in
    let z = at-end in rw c.tile_side-side.ensures (z.side-low, z.side-high, z.wide)

pub returns : goal.returns
unfolding cut_of
returns c =
    let table = table-says c.args.s _ (table-made c.args.s c.samples-t.result _ c.in_ok-settings_tested.ensures c.samples-t.ensures _ c.in_ok-channels_tested.ensures) in
    let settings : allowed c.args.s ≡ true = table.settings in
    let passed : channels_allowed (value_of c.args.s) ≡ true = sym (allowed_of c.args.s.mean c.args.s.deviation _ table.table) ∙ table.channels in
    let sides : sided c.args.height c.args.width ≡ true = sym c.sides_allowed.ensures ∙ not-false _ c.if-not-sides_allowed.false-raw in
    rw (settings, passed, sides, le-leb _ _ c.if-s.false, c.pieces_of.ensures, c.pieces_of-2.ensures, c.tile_side-side.ensures)
