-- `encoder_linear::few::unpack` meets its contract. Assumes nothing.
use mathlib.Core.Path.{◌≡◌, refl, sym, ap, ◌∙◌}
use mathlib.Core.List.{List}
use Prim.Native.Nat.{ℕ, ◌+◌, ◌*◌, ◌≤◌}
use native.Mathlib.Numerals.{add-one}
use native.Mathlib.Omega.{arith}
use lib.ListN.{get_or}
use lib.Ieee.{Float, nan}
use Rattle.buffers.specs.Region.{put}
use Rattle.buffers.specs.Rows.{tab}
use Rattle.encoder_linear.specs.inner.Lanes.{spread, filled}
use Rattle.encoder_linear.proofs.Fills.{none, spread-one, filled_row}
use Rattle.encoder_linear.proofs.few.unpack.Goals as goal

-- one row more
turn : (s u z b : List Float) (at nout l : ℕ) → 4 ≤ nout → u ≡ filled s at nout l 4 (λ i o. get_or b (i + o * 4) nan)
    → z ≡ spread u (at + l * nout) 1 4 (λ o. get_or b (l + o * 4) nan) → z ≡ filled s at nout (l + 1) 4 (λ i o. get_or b (i + o * 4) nan)
turn s u z b at nout l h e g =
    let F : ℕ → ℕ → Float = λ i o. get_or b (i + o * 4) nan in
    g ∙ spread-one u (at + l * nout) 4 (F l)
    ∙ ap (λ x. put x (at + l * nout) (tab 4 (F l))) e
    ∙ sym (filled_row s at nout F l 4 h)
    ∙ ap (λ k. filled s at nout k 4 F) (sym (add-one l))

pub loop-l-init : goal.loop-l-init
loop-l-init c = (omega arith, refl, sym (none c.args.s.now c.args.at c.args.nout (λ i o. get_or c.args.b.now (i + o * 4) nan) 4))

pub copy_spread-requires : goal.copy_spread-requires
copy_spread-requires c =
    let h = c.requires.to c.loop-l.l c.loop-l-test.true in
    record { to = λ i k. omega (arith, c.loop-l.invariant.1); from = λ i k. omega (arith, c.requires.rows, c.requires.cells, c.loop-l-test.true) }

pub loop-l-preserved : goal.loop-l-preserved
loop-l-preserved c = (
  omega (arith, c.loop-l-test.true),
  c.copy_spread.auto.d ∙ c.loop-l.invariant.1,
  turn c.args.s.now c.loop-l.s c.copy_spread.new.d c.args.b.now c.args.at c.args.nout c.loop-l.l c.requires.wide c.loop-l.invariant.2 c.copy_spread.ensures,
)

pub shape_of-s : goal.shape_of-s
shape_of-s c = c.loop-l.invariant.1

pub returns : goal.returns
returns c =
    c.loop-l.invariant.2 ∙ ap (λ m. filled c.args.s.now c.args.at c.args.nout m 4 (λ i o. get_or c.args.b.now (i + o * 4) nan)) (omega arith)
