-- `encoder_settings::settings::checked` meets its contract. Assumes nothing.
use mathlib.Core.Path.{◌≡◌, refl, sym, ◌∙◌}
use mathlib.Core.Bool.{true}
use Prim.Native.Nat.{◌≤◌}
use native.Mathlib.Nat.{div-le_self}
use native.Mathlib.Omega.{arith}
use Rattle.std.proofs.lemmas.Result.{err_from_is_err_and}
use Rattle.picture_limits.proofs.Places.{times}
use Rattle.picture_limits.proofs.Shapes.{shaped-says}
use Rattle.encoder_settings.specs.Settings.{allowed, few_tokens, checked_by}
use Rattle.encoder_settings.proofs.Bounds.{sizes-of, counted}
use Rattle.encoder_settings.proofs.settings.checked.Goals as goal

pub returns-then-not-settings_allowed : goal.returns-then-not-settings_allowed
unfolding checked_by
returns-then-not-settings_allowed c = let e = sym c.settings_allowed.ensures ∙ c.if-not-settings_allowed.true in rw e

pub returns-then-not-few_tokens : goal.returns-then-not-few_tokens
unfolding checked_by
returns-then-not-few_tokens c =
    let settings : allowed c.args.s ≡ true = sym c.settings_allowed.ensures ∙ c.if-not-settings_allowed.false in
    rw (settings, ← c.shape.ensures, c.in_ok-tokens.was, ← c.few_tokens.ensures, c.if-not-few_tokens.true)

pub overflow_mul-o : goal.overflow_mul-o
overflow_mul-o c =
    let sizes = sizes-of c.args.s (sym c.settings_allowed.ensures ∙ c.if-not-settings_allowed.false) in
    omega (arith, sizes.merge-area)

pub nonzero_div-o : goal.nonzero_div-o
nonzero_div-o c =
    let sizes = sizes-of c.args.s (sym c.settings_allowed.ensures ∙ c.if-not-settings_allowed.false) in
    let b = sizes in omega (arith, times 1 1 _ _ b.merge_low b.merge_low)

pub tables_fit-fit-requires : goal.tables_fit-fit-requires
tables_fit-fit-requires c = sizes-of c.args.s (sym c.settings_allowed.ensures ∙ c.if-not-settings_allowed.false)

pub scratch_by-needed-requires : goal.scratch_by-needed-requires
scratch_by-needed-requires c =
    let sizes = sizes-of c.args.s (sym c.settings_allowed.ensures ∙ c.if-not-settings_allowed.false) in
    let few : c.in_ok-tokens.tokens ≤ 4194304 = let z = shaped-says c.args.s.picture c.args.grid_h c.args.grid_w c.args.patches c.in_ok-tokens.tokens (sym c.shape.ensures ∙ c.in_ok-tokens.was) in
    omega (arith, z.grids.tokens, z.tokens) in
    let passed : few_tokens c.args.f c.in_ok-tokens.tokens ≡ true = sym c.few_tokens.ensures ∙ c.if-not-few_tokens.false in record {
      counted = counted _ _ _ (sizes) (few) (div-le_self _ _);
      t_value = passed;
    }

pub lengths-requires : goal.lengths-requires
lengths-requires c =
    let sizes = sizes-of c.args.s (sym c.settings_allowed.ensures ∙ c.if-not-settings_allowed.false) in
    let few : c.in_ok-tokens.tokens ≤ 4194304 = let z = shaped-says c.args.s.picture c.args.grid_h c.args.grid_w c.args.patches c.in_ok-tokens.tokens (sym c.shape.ensures ∙ c.in_ok-tokens.was) in
    omega (arith, z.grids.tokens, z.tokens) in
    let b = sizes in (b, counted _ _ _ b (few) (div-le_self _ _))

pub returns : goal.returns
unfolding checked_by
returns c =
    let settings : allowed c.args.s ≡ true = sym c.settings_allowed.ensures ∙ c.if-not-settings_allowed.false in
    let passed : few_tokens c.args.f c.in_ok-tokens.tokens ≡ true = sym c.few_tokens.ensures ∙ c.if-not-few_tokens.false in
    rw (settings, ← c.shape.ensures, c.in_ok-tokens.was, passed, ← c.tables_fit-fit.ensures, ← c.scratch_by-needed.ensures) c.lengths.ensures

pub returns-in_err-tokens : goal.returns-in_err-tokens
unfolding checked_by
returns-in_err-tokens c =
    let settings : allowed c.args.s ≡ true = sym c.settings_allowed.ensures ∙ c.if-not-settings_allowed.false in
    let p = err_from_is_err_and c.from_residual.result c.from_residual.ensures.1 in rw (p.1, p.2, settings, ← c.shape.ensures, c.in_err-tokens.was) refl
