-- `encoder_linear::values::Values::weigh_wide` meets its contract: sixteen sums more, read past those before them. Assumes nothing.
use borrow.Author.Rules.{rules}
use Prim.Native.Nat.{ℕ, ◌+◌, ◌*◌, ◌≤◌}
use native.Mathlib.Omega.{arith}
use mathlib.Core.Path.{◌≡◌, refl, sym, ap, ◌∙◌}
use mathlib.Core.List.{List}
use native.Mathlib.Nat.{add_assoc, mul-one}
use lib.Ieee.{Float, nan}
use Rattle.buffers.specs.Rows.{tab}
use Rattle.buffers.specs.Region.{region, put}
use Rattle.buffers.proofs.Lists.{length-tab, tab-ext, tab-add}
use Rattle.buffers.proofs.Regions.{put-append, length-put, region-put, apart-sub, length-region}
use Rattle.encoder_linear.specs.inner.Lanes.{spread}
use Rattle.encoder_linear.specs.inner.Fits.{WeighFits}
use Rattle.encoder_linear.specs.Linear.{column_of, weighed_row}
use Rattle.encoder_linear.proofs.Fills.{spread-one}
use Rattle.encoder_linear.proofs.Columns.{lanes_put}
use lib.ListN.{length, get_or}
use Rattle.encoder_linear.proofs.values.Values.weigh_wide.Goals as goal

-- sixteen sums stored, read past the stores before them
step : (s b : List Float) (row v out t dim hd o d : ℕ) → WeighFits (length s) row v out t dim hd o → d + 16 ≤ hd
    → (let u = put s out (weighed_row t dim d o (region s row t) (region s v (t * dim))) in
    b ≡ tab 16 (λ l. column_of t dim (o + d + l) (region u row t) (region u v (t * dim)))
    → spread u (out + d) 1 16 (λ i. get_or b (0 + i * 1) nan) ≡ put s out (weighed_row t dim (d + 16) o (region s row t) (region s v (t * dim))))
unfolding weighed_row
step s b row v out t dim hd o d g h e =
    let G : ℕ → Float = λ i. column_of t dim (o + i) (region s row t) (region s v (t * dim)) in
    let n = length-tab d G in
    let u = put s out (tab d G) in
    let r = region-put s out (tab d G) row t (rw n (apart-sub g.rowout (omega arith) (omega arith) (omega arith) (omega arith))) in
    let q = region-put s out (tab d G) v (t * dim) (rw n (apart-sub g.vout (omega arith) (omega arith) (omega arith) (omega arith))) in
    let f : b ≡ tab 16 (λ l. G (d + l)) = e ∙ tab-ext 16 _ (λ l. G (d + l)) (λ l k. rw (r, q, add_assoc o d l) refl) in
    lanes_put u b (out + d) (λ l. G (d + l)) f
    ∙ put-append s out (tab d G) (tab 16 (λ l. G (d + l))) (out + d) (rw n refl)
    ∙ ap (put s out) (sym (tab-add d 16 G))

turn : (s u z b p q : List Float) (row v out t dim hd o d : ℕ) → WeighFits (length s) row v out t dim hd o → d + 16 ≤ hd
    → u ≡ put s out (weighed_row t dim d o (region s row t) (region s v (t * dim))) → p ≡ region u row t → q ≡ region u v (t * dim) → length p ≡ t
    → b ≡ tab 16 (λ l. column_of (length p) dim (o + d + l) p q) → z ≡ spread u (out + d) 1 16 (λ i. get_or b (0 + i * 1) nan)
    → z ≡ put s out (weighed_row t dim (d + 16) o (region s row t) (region s v (t * dim)))
turn s u z b p q row v out t dim hd o d g h eu ep eq el eb ez =
    let e = eb ∙ ap (λ n. tab 16 (λ l. column_of n dim (o + d + l) p q)) el ∙ ap (λ x. tab 16 (λ l. column_of t dim (o + d + l) x q)) (ep ∙ ap (λ x. region x row t) eu)
    ∙ ap (λ x. tab 16 (λ l. column_of t dim (o + d + l) (region (put s out (weighed_row t dim d o (region s row t) (region s v (t * dim)))) row t) x)) (eq ∙ ap (λ x. region x v (t * dim)) eu) in
    ez ∙ ap (λ x. spread x (out + d) 1 16 (λ i. get_or b (0 + i * 1) nan)) eu ∙ step s b row v out t dim hd o d g h e

pub loop-k-init : goal.loop-k-init
unfolding put tab weighed_row
loop-k-init c = search rules

pub wide-b-requires : goal.wide-b-requires
wide-b-requires c =
    let u = c.loop-k.s in
    let e : length c.part.result.now ≡ c.args.self.t = ap length c.part.ensures ∙ length-region u c.args.row c.args.self.t (omega arith) in
    (ap length c.part-in-loop-k.ensures ∙ length-region u c.args.self.v (c.args.self.t * c.args.self.dim) (omega arith) ∙ ap (λ m. m * c.args.self.dim) (sym e), omega arith)

pub copy_spread-requires : goal.copy_spread-requires
copy_spread-requires c = record {
  to = λ i h. omega (arith, mul-one i);
  from = λ i h. rw (c.wide-b.ensures, length-tab 16 _) (omega (arith, mul-one i));
}

pub loop-k-preserved : goal.loop-k-preserved
loop-k-preserved c =
    let e : length c.part.result.now ≡ c.args.self.t = ap length c.part.ensures ∙ length-region c.loop-k.s c.args.row c.args.self.t (omega arith) in
    let x = c.copy_spread.ensures in (
      ap length x ∙ ap length (spread-one _ _ _ _) ∙ length-put _ _ _ ∙ c.loop-k.invariant.0,
      turn c.args.s.now c.loop-k.s _ c.wide-b.result c.part.result.now c.part-in-loop-k.result.now c.args.row c.args.self.v c.args.out c.args.self.t c.args.self.dim c.args.self.hd c.args.self.o (c.loop-k.k * 16) c.requires (omega arith) c.loop-k.invariant.1 c.part.ensures c.part-in-loop-k.ensures e c.wide-b.ensures x
          ∙ ap (λ j. put c.args.s.now c.args.out (weighed_row c.args.self.t c.args.self.dim j c.args.self.o (region c.args.s.now c.args.row c.args.self.t) (region c.args.s.now c.args.self.v (c.args.self.t * c.args.self.dim)))) (omega arith),
    )

pub shape_of-s : goal.shape_of-s
shape_of-s c = c.loop-k.invariant.0

pub returns : goal.returns
returns c =
    (omega arith, c.loop-k.invariant.1 ∙ ap (λ j. put c.args.s.now c.args.out (weighed_row c.args.self.t c.args.self.dim (j * 16) c.args.self.o (region c.args.s.now c.args.row c.args.self.t) (region c.args.s.now c.args.self.v (c.args.self.t * c.args.self.dim)))) (omega arith))
