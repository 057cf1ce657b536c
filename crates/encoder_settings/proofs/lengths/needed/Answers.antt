-- `encoder_settings::lengths::needed` meets its contract. Assumes nothing.
use mathlib.Core.Path.{◌≡◌, sym, ◌∙◌, subst}
use mathlib.Core.Bool.{Bool, true, false, ◌&&◌}
use Prim.Native.Nat.{ℕ, ◌*◌, ◌/◌}
use native.Mathlib.Nat.{div-le_self}
use native.Mathlib.Omega.{arith}
use Rattle.buffers.proofs.Lists.{and_right}
use Rattle.picture_limits.specs.Settings as P
use Rattle.picture_limits.specs.Shape.{grid_allowed}
use Rattle.picture_limits.proofs.Places.{times}
use Rattle.picture_limits.proofs.Shapes.{Grids, grids-say}
use Rattle.encoder_settings.specs.declared.EncoderSettings.{EncoderSettings}
use Rattle.encoder_settings.specs.Settings.{allowed, merge_area}
use Rattle.encoder_settings.specs.Lengths.{needed_of}
use Rattle.encoder_settings.proofs.Bounds.{picture-allowed, sizes-of, counted}
use Rattle.encoder_settings.proofs.lengths.needed.Goals as goal

-- both sides of a grid
abbrev sides : EncoderSettings → ℕ → ℕ → Bool
sides s gh gw = grid_allowed s.picture gh && grid_allowed s.picture gw

grid : (s : EncoderSettings) (gh gw : ℕ) → (P.allowed s.picture && sides s gh gw) ≡ true → sides s gh gw ≡ true
grid s gh gw e = and_right (P.allowed s.picture) (sides s gh gw) e

grids : (s : EncoderSettings) (gh gw : ℕ) → allowed s ≡ true → (P.allowed s.picture && sides s gh gw) ≡ true → Grids s.picture gh gw
grids s gh gw a e = grids-say s.picture gh gw (picture-allowed s a) (grid s gh gw e)

pub returns-then-not-settings_allowed : goal.returns-then-not-settings_allowed
unfolding needed_of
returns-then-not-settings_allowed c = rw (← c.settings_allowed.ensures, c.if-not-settings_allowed.true)

pub returns-then-not-grid_allowed : goal.returns-then-not-grid_allowed
unfolding needed_of
returns-then-not-grid_allowed c =
    let a : allowed c.args.s ≡ true = sym c.settings_allowed.ensures ∙ c.if-not-settings_allowed.false in
    let g = sides c.args.s c.args.grid_h c.args.grid_w in
    let z : (P.allowed c.args.s.picture && g) ≡ false = sym c.grid_allowed.ensures ∙ c.if-not-grid_allowed.true in
    let y : g ≡ false = subst (λ (b : Bool). (b && g) ≡ false) (picture-allowed c.args.s a) z in
    rw (a, y)

pub overflow_mul-t : goal.overflow_mul-t
overflow_mul-t c =
    let g = grids c.args.s c.args.grid_h c.args.grid_w (sym c.settings_allowed.ensures ∙ c.if-not-settings_allowed.false) (sym c.grid_allowed.ensures ∙ c.if-not-grid_allowed.false) in
    omega (arith, g.tokens)

pub overflow_mul-o : goal.overflow_mul-o
overflow_mul-o c = omega (arith, (sizes-of c.args.s (sym c.settings_allowed.ensures ∙ c.if-not-settings_allowed.false)).merge-area)

pub nonzero_div-o : goal.nonzero_div-o
nonzero_div-o c =
    let b = sizes-of c.args.s (sym c.settings_allowed.ensures ∙ c.if-not-settings_allowed.false) in
    omega (arith, times 1 1 _ _ b.merge_low b.merge_low)

pub weights_needed-weights-requires : goal.weights_needed-weights-requires
weights_needed-weights-requires c = sizes-of c.args.s (sym c.settings_allowed.ensures ∙ c.if-not-settings_allowed.false)

pub tables_needed-tables-requires : goal.tables_needed-tables-requires
tables_needed-tables-requires c = sizes-of c.args.s (sym c.settings_allowed.ensures ∙ c.if-not-settings_allowed.false)

pub axes_needed-axes-requires : goal.axes_needed-axes-requires
axes_needed-axes-requires c = sizes-of c.args.s (sym c.settings_allowed.ensures ∙ c.if-not-settings_allowed.false)

pub scratch_needed-scratch-requires : goal.scratch_needed-scratch-requires
scratch_needed-scratch-requires c =
    let a = (sym c.settings_allowed.ensures ∙ c.if-not-settings_allowed.false) in
    let g = grids c.args.s c.args.grid_h c.args.grid_w a (sym c.grid_allowed.ensures ∙ c.if-not-grid_allowed.false) in
    counted _ _ _ (sizes-of c.args.s a) g.tokens (div-le_self _ _)

pub overflow_mul-result : goal.overflow_mul-result
overflow_mul-result c = omega (arith, (sizes-of c.args.s (sym c.settings_allowed.ensures ∙ c.if-not-settings_allowed.false)).patch-area)

pub overflow_mul-result-2 : goal.overflow_mul-result-2
overflow_mul-result-2 c = omega (arith, (sizes-of c.args.s (sym c.settings_allowed.ensures ∙ c.if-not-settings_allowed.false)).patch-area)

pub overflow_mul-result-3 : goal.overflow_mul-result-3
overflow_mul-result-3 c =
    let g = grids c.args.s c.args.grid_h c.args.grid_w (sym c.settings_allowed.ensures ∙ c.if-not-settings_allowed.false) (sym c.grid_allowed.ensures ∙ c.if-not-grid_allowed.false) in
    omega (arith, g.floats)

pub overflow_mul-result-4 : goal.overflow_mul-result-4
overflow_mul-result-4 c =
    let a = (sym c.settings_allowed.ensures ∙ c.if-not-settings_allowed.false) in
    let g = grids c.args.s c.args.grid_h c.args.grid_w a (sym c.grid_allowed.ensures ∙ c.if-not-grid_allowed.false) in
    let t = c.args.grid_h * c.args.grid_w in
    omega (arith, (counted c.args.s t (t / merge_area c.args.s.picture) (sizes-of c.args.s a) g.tokens (div-le_self t (merge_area c.args.s.picture))).texts)

pub returns : goal.returns
unfolding needed_of
returns c =
    let a : allowed c.args.s ≡ true = (sym c.settings_allowed.ensures ∙ c.if-not-settings_allowed.false) in
    let g : sides c.args.s c.args.grid_h c.args.grid_w ≡ true = grid c.args.s c.args.grid_h c.args.grid_w (sym c.grid_allowed.ensures ∙ c.if-not-grid_allowed.false) in
    rw (a, g, c.weights_needed-weights.ensures, c.tables_needed-tables.ensures, c.axes_needed-axes.ensures, c.scratch_needed-scratch.ensures)
