-- `encoder_linear::strip::Strip::two_columns` meets its contract: both are gathered before either is spread. Assumes nothing.
use mathlib.Core.Path.{◌≡◌, refl, ap, ◌∙◌}
use mathlib.Core.List.{List}
use Prim.Native.Nat.{ℕ, ◌+◌, ◌*◌, ◌<◌}
use native.Mathlib.Omega.{arith}
use lib.ListN.{length, get_or, replicate, length-replicate}
use lib.Ieee.{Float, nan}
use Rattle.number_floats.specs.Constants.{zero32}
use Rattle.buffers.specs.Rows.{tab}
use Rattle.buffers.proofs.Lists.{length-tab}
use Rattle.buffers.proofs.Regions.{length-region}
use Rattle.encoder_linear.specs.inner.Lanes.{lane_of, gone_sum, spread}
use Rattle.encoder_linear.proofs.Fills.{spread-ext}
use Rattle.encoder_linear.proofs.Pieces.{cell, room, before-it, column-lane}
use Rattle.encoder_linear.proofs.strip.Strip.two_columns.Goals as goal

pub copy_spread-requires : goal.copy_spread-requires
copy_spread-requires c =
    record { to = λ i h. simp length-replicate (omega (arith, c.requires.fits.rows)); from = cell (before-it c.requires refl) }

pub copy_spread-requires-2 : goal.copy_spread-requires-2
copy_spread-requires-2 c =
    record { to = λ i h. simp length-replicate (omega (arith, c.requires.fits.rows)); from = cell c.requires }

pub two_lanes-both-requires : goal.two_lanes-both-requires
two_lanes-both-requires c =
    let p = c.requires in
    let l : length c.part.result.now ≡ c.args.self.n = ap length c.part.ensures ∙ length-region c.args.w.now (c.args.c * c.args.self.nin + c.args.self.k) c.args.self.n (room (before-it p refl)) in
    let m : length c.part-2.result.now ≡ c.args.self.n = ap length c.part-2.ensures ∙ length-region c.args.w.now ((c.args.c + 1) * c.args.self.nin + c.args.self.k) c.args.self.n (room p) in
    record {
      first = c.copy_spread.auto.d ∙ simp length-replicate;
      second = c.copy_spread-2.auto.d ∙ simp length-replicate;
      tin = omega (arith, c.requires.fits.tin);
      same = omega arith;
    }

pub copy_spread-requires-3 : goal.copy_spread-requires-3
copy_spread-requires-3 c =
    let l : length c.two_lanes-both.result.first ≡ 16 = ap length c.two_lanes-both.ensures.0 ∙ length-tab 16 _ in
    record { to = cell (before-it c.requires refl); from = λ i h. omega (arith, c.requires.fits.rows, l) }

pub copy_spread-requires-4 : goal.copy_spread-requires-4
copy_spread-requires-4 c =
    let l : length c.two_lanes-both.result.second ≡ 16 = ap length c.two_lanes-both.ensures.1 ∙ length-tab 16 _ in
    record { to = λ i h. omega (arith, cell c.requires i h, c.copy_spread-3.auto.d); from = λ i h. omega (arith, c.requires.fits.rows, l) }

-- two columns spread, each the lanes of its own
both : (s u z : List Float) (y nout r c d : ℕ) (f g F G : ℕ → Float) → u ≡ spread s (y + c) nout r f → z ≡ spread u (y + d) nout r g
    → ((l : ℕ) → l < r → f l ≡ F l) → ((l : ℕ) → l < r → g l ≡ G l) → z ≡ spread (spread s (y + c) nout r F) (y + d) nout r G
both s u z y nout r c d f g F G eu ez h k =
    ez ∙ spread-ext u (y + d) nout r g G k ∙ ap (λ x. spread x (y + d) nout r G) (eu ∙ spread-ext s (y + c) nout r f F h)

pub returns : goal.returns
returns c =
    let p = c.requires in
    let q = before-it p refl in
    let lv : length c.part.result.now ≡ c.args.self.n = ap length c.part.ensures ∙ length-region c.args.w.now (c.args.c * c.args.self.nin + c.args.self.k) c.args.self.n (room q) in
    both c.args.s.now c.copy_spread-3.new.d c.copy_spread-4.new.d c.args.self.y c.args.self.nout c.args.self.r c.args.c (c.args.c + 1)
    (λ i. get_or c.two_lanes-both.result.first (0 + i * 1) nan) (λ i. get_or c.two_lanes-both.result.second (0 + i * 1) nan)
    (λ l. gone_sum c.args.s.now c.args.w.now c.args.xt.now c.args.self.y c.args.self.nin c.args.self.nout c.args.self.k c.args.self.n l c.args.c)
    (λ l. gone_sum c.args.s.now c.args.w.now c.args.xt.now c.args.self.y c.args.self.nin c.args.self.nout c.args.self.k c.args.self.n l (c.args.c + 1))
    c.copy_spread-3.ensures c.copy_spread-4.ensures
    (column-lane c.args.w.now c.args.xt.now c.args.self.y c.args.self.r c.args.self.nin c.args.self.nout c.args.self.k c.args.self.n c.args.s.now (replicate 16 zero32) c.copy_spread.new.d c.part.result.now c.two_lanes-both.result.first c.args.c
    c.requires.fits.rows (simp length-replicate) (room q) c.copy_spread.ensures c.part.ensures (c.two_lanes-both.ensures.0 ∙ ap (λ n. tab 16 (lane_of n c.copy_spread.new.d c.args.xt.now c.part.result.now)) lv))
    (column-lane c.args.w.now c.args.xt.now c.args.self.y c.args.self.r c.args.self.nin c.args.self.nout c.args.self.k c.args.self.n c.args.s.now (replicate 16 zero32) c.copy_spread-2.new.d c.part-2.result.now c.two_lanes-both.result.second (c.args.c + 1)
    c.requires.fits.rows (simp length-replicate) (room p) c.copy_spread-2.ensures c.part-2.ensures (c.two_lanes-both.ensures.1 ∙ ap (λ n. tab 16 (lane_of n c.copy_spread-2.new.d c.args.xt.now c.part-2.result.now)) lv))
