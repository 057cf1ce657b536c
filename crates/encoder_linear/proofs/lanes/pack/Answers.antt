-- `encoder_linear::lanes::pack` meets its contract. Assumes nothing.
use mathlib.Core.Path.{◌≡◌, refl, ap, ◌∙◌}
use mathlib.Core.List.{List}
use Prim.Native.Nat.{ℕ, ◌+◌, ◌*◌}
use native.Mathlib.Omega.{arith}
use native.Mathlib.Numerals.{add-one}
use native.Mathlib.Nat.{mul-one, zero-add}
use lib.ListN.{get_or}
use lib.Ieee.{nan, Float}
use Rattle.buffers.proofs.Lists.{fit}
use Rattle.encoder_linear.specs.inner.Lanes.{spread, filled}
use Rattle.encoder_linear.proofs.Fills.{spread-ext}
use Rattle.encoder_linear.proofs.lanes.pack.Goals as goal

-- one lane more
lane-more : (t x : List Float) (m at nin n l : ℕ) (u v : List Float) → u ≡ filled t 0 m n l (λ k i. get_or x (at + i * nin + k) nan)
    → v ≡ spread u l m n (λ k. get_or x (at + l * nin + k * 1) nan) → v ≡ filled t 0 m n (l + 1) (λ k i. get_or x (at + i * nin + k) nan)
unfolding filled
lane-more t x m at nin n l u v e g =
    rw (g, e, add-one l, zero-add l) (spread-ext (filled t 0 m n l (λ k i. get_or x (at + i * nin + k) nan)) l m n (λ k. get_or x (at + l * nin + k * 1) nan) (λ k. get_or x (at + l * nin + k) nan) (λ k h. rw mul-one))

pub loop-l-init : goal.loop-l-init
unfolding filled
loop-l-init c = (omega arith, refl, refl)

pub copy_spread-requires : goal.copy_spread-requires
copy_spread-requires c =
    let h = c.requires.xin c.loop-l.l c.loop-l-test.true in
    record { to = λ i k. let f = fit c.args.m k in omega (arith, c.requires.rows, c.requires.tin, c.loop-l.invariant.1, c.loop-l-test.true); from = λ i k. omega arith }

pub loop-l-preserved : goal.loop-l-preserved
loop-l-preserved c = (
  omega arith,
  c.copy_spread.auto.d ∙ c.loop-l.invariant.1,
  lane-more c.args.xt.now c.args.x.now c.args.m c.args.at c.args.nin c.args.n c.loop-l.l c.loop-l.xt c.copy_spread.new.d c.loop-l.invariant.2 c.copy_spread.ensures,
)

pub shape_of-xt : goal.shape_of-xt
shape_of-xt c = c.loop-l.invariant.1

pub returns : goal.returns
returns c =
    c.loop-l.invariant.2 ∙ ap (λ q. filled c.args.xt.now 0 c.args.m c.args.n q (λ k i. get_or c.args.x.now (c.args.at + i * c.args.nin + k) nan)) (omega arith)
