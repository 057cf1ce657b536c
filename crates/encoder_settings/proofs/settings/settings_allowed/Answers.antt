-- `encoder_settings::settings::settings_allowed` meets its contract. Assumes nothing.
use mathlib.Core.Path.{◌≡◌, sym, ◌∙◌}
use mathlib.Core.Bool.{true}
use native.Mathlib.Omega.{arith}
use Rattle.picture_limits.proofs.Places.{times}
use Rattle.picture_limits.specs.Settings as P
use Rattle.encoder_settings.specs.Settings.{ranged, allowed}
use Rattle.encoder_settings.proofs.Bounds.{ranges-say}
use Rattle.encoder_settings.proofs.settings.settings_allowed.Goals as goal

pub returns-then-not-settings_allowed : goal.returns-then-not-settings_allowed
unfolding allowed
returns-then-not-settings_allowed c = let e = sym c.settings_allowed.ensures ∙ c.if-not-settings_allowed.true in rw e

pub returns-then-not-in_range : goal.returns-then-not-in_range
unfolding allowed
returns-then-not-in_range c =
    let picture : P.allowed c.args.s.picture ≡ true = sym c.settings_allowed.ensures ∙ c.if-not-settings_allowed.false in
    let p = picture in let e = sym c.in_range.ensures ∙ c.if-not-in_range.true in rw (p, e)

pub overflow_mul-result : goal.overflow_mul-result
overflow_mul-result c =
    let ranges : ranged c.args.s ≡ true = sym c.in_range.ensures ∙ c.if-not-in_range.false in
    let s = c.args.s in let r = ranges-say s (ranges) in omega (arith, times c.args.s.num_heads c.args.s.head_dim 64 256 r.heads.1 r.width.1)

pub returns : goal.returns
unfolding allowed
returns c =
    let picture : P.allowed c.args.s.picture ≡ true = sym c.settings_allowed.ensures ∙ c.if-not-settings_allowed.false in
    let ranges : ranged c.args.s ≡ true = sym c.in_range.ensures ∙ c.if-not-in_range.false in
    rw (picture, ranges, c.scale_allowed.ensures)
