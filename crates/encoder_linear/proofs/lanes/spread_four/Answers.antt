-- `encoder_linear::lanes::spread_four` meets its contract. Assumes nothing.
use mathlib.Core.Path.{◌≡◌, refl, ap, ◌∙◌}
use mathlib.Core.List.{List}
use Prim.Native.Nat.{ℕ, ◌+◌, ◌*◌}
use native.Mathlib.Omega.{arith}
use lib.ListN.{get_or}
use lib.Ieee.{Float, nan}
use Rattle.encoder_linear.specs.inner.Lanes.{spread}
use Rattle.encoder_linear.proofs.Fills.{spread-ext}
use Rattle.encoder_linear.proofs.lanes.spread_four.Goals as goal

pub copy_spread-requires : goal.copy_spread-requires
copy_spread-requires c = record { to = λ i h. omega (arith, c.requires.to i h); from = λ i h. omega (arith, c.requires.rows, c.requires.first) }

pub copy_spread-requires-2 : goal.copy_spread-requires-2
copy_spread-requires-2 c = record { to = λ i h. omega (arith, c.requires.to i h, c.copy_spread.auto.d); from = λ i h. omega (arith, c.requires.rows, c.requires.second) }

pub copy_spread-requires-3 : goal.copy_spread-requires-3
copy_spread-requires-3 c = record { to = λ i h. omega (arith, c.requires.to i h, c.copy_spread.auto.d, c.copy_spread-2.auto.d); from = λ i h. omega (arith, c.requires.rows, c.requires.third) }

pub copy_spread-requires-4 : goal.copy_spread-requires-4
copy_spread-requires-4 c = record { to = λ i h. omega (arith, c.requires.to i h, c.copy_spread.auto.d, c.copy_spread-2.auto.d, c.copy_spread-3.auto.d); from = λ i h. omega (arith, c.requires.rows, c.requires.fourth) }

-- one column more, its lanes read by their places
lane : (s u t b : List Float) (at m r : ℕ) → s ≡ t → u ≡ spread s at m r (λ i. get_or b (0 + i * 1) nan) → u ≡ spread t at m r (λ l. get_or b l nan)
lane s u t b at m r es eu =
    eu ∙ ap (λ x. spread x at m r (λ i. get_or b (0 + i * 1) nan)) es ∙ spread-ext t at m r (λ i. get_or b (0 + i * 1) nan) (λ l. get_or b l nan) (λ l h. ap (λ i. get_or b i nan) (omega arith))

pub returns : goal.returns
returns c =
    let F = spread c.args.s.now c.args.at c.args.m c.args.r (λ l. get_or c.args.a l nan) in
    let G = spread F (c.args.at + 1) c.args.m c.args.r (λ l. get_or c.args.b l nan) in
    let H = spread G (c.args.at + 2) c.args.m c.args.r (λ l. get_or c.args.c l nan) in
    lane c.copy_spread-3.new.d c.copy_spread-4.new.d H c.args.d (c.args.at + 3) c.args.m c.args.r
    (lane c.copy_spread-2.new.d c.copy_spread-3.new.d G c.args.c (c.args.at + 2) c.args.m c.args.r
    (lane c.copy_spread.new.d c.copy_spread-2.new.d F c.args.b (c.args.at + 1) c.args.m c.args.r
    (lane c.args.s.now c.copy_spread.new.d c.args.s.now c.args.a c.args.at c.args.m c.args.r refl c.copy_spread.ensures) c.copy_spread-2.ensures) c.copy_spread-3.ensures) c.copy_spread-4.ensures
