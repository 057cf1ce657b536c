-- `picture_patches::strip::mixed_line` meets its contract. The invariant: the patches passed are written. Assumes nothing.
use mathlib.Core.Path.{◌≡◌, refl, sym, ap, ◌∙◌, subst}
use Prim.Native.Nat.{ℕ, ◌+◌, ◌*◌, ◌-◌, ◌/◌, ◌≤◌, ◌<◌, min}
use native.Mathlib.Nat.{add-mul, mul-le-mul_right, div-mul-le_self, le-div_iff_mul-le}
use native.Mathlib.Omega.{arith}
use lib.ListN.{length}
use Rattle.buffers.specs.Rows.{rows}
use Rattle.buffers.specs.Region.{put}
use Rattle.buffers.proofs.Lists.{rows_more}
use Rattle.picture_samples.specs.Samples.{entry}
use Rattle.picture_samples.specs.inner.Clean.{Clean}
use Rattle.picture_limits.proofs.Places.{square}
use Rattle.picture_patches.specs.declared.rows.Frame.{Frame}
use Rattle.picture_patches.specs.Patches.{patch_at, patch_line}
use Rattle.picture_patches.specs.inner.Frame.{Framed, Inside, strip_frame, strip_view, viewed, mixed}
use Rattle.picture_patches.specs.inner.Strip.{span}
use Rattle.picture_patches.proofs.Patches.{length-patch}
use Rattle.picture_patches.proofs.Lines.{strip-framed, strip-line}
use Rattle.picture_patches.proofs.strip.mixed_line.Goals as goal

-- what the m patches of a strip take
record Cut (f : Frame) (b m : ℕ) : Type 0 where
  some : 1 ≤ m
  rest : b + m ≤ f.gw
  wide : m * f.p ≤ 256
  inside : b * f.p + m * f.p ≤ f.tw

cut_of : (f : Frame) (len b m : ℕ) → Framed f len → b < f.gw → m ≡ min (256 / f.p) (f.gw - b) → Cut f b m
cut_of f len b m g h e =
    let p = f.p in
    let q : 1 ≤ 256 / p = (le-div_iff_mul-le g.patch-low).1 (omega (arith, g.patch-high)) in
    let l : m ≤ 256 / p = omega arith in
    let w : b + m ≤ f.gw = omega arith in
    let d : 256 / p * p ≤ 256 = div-mul-le_self 256 p in
    let a : m * p ≤ 256 / p * p = mul-le-mul_right p l in
    let s : (b + m) * p ≤ f.gw * p = mul-le-mul_right p w in
    let t : (b + m) * p ≡ b * p + m * p = add-mul b m p in
    record { some = omega arith; rest = w; wide = omega arith; inside = omega (arith, g.grid-wide) }

pub loop-b-init : goal.loop-b-init
unfolding put rows
loop-b-init c = (omega arith, omega arith, refl, refl, refl, refl, refl)

pub nonzero_div-most : goal.nonzero_div-most
nonzero_div-most c = omega (arith, c.requires.0.frame.patch-low)

pub overflow_mul-b : goal.overflow_mul-b
overflow_mul-b c =
    let cut : Cut c.args.f c.loop-b.b c.min-m.result = cut_of c.args.f (length c.args.rgb.now) c.loop-b.b c.min-m.result c.requires.0.frame c.loop-b-test.true c.min-m.ensures in
    omega (arith, cut.inside, c.requires.0.frame.target-wide)

pub overflow_mul-m : goal.overflow_mul-m
overflow_mul-m c =
    let cut : Cut c.args.f c.loop-b.b c.min-m.result = cut_of c.args.f (length c.args.rgb.now) c.loop-b.b c.min-m.result c.requires.0.frame c.loop-b-test.true c.min-m.ensures in
    omega (arith, cut.wide)

pub fill_strip-requires : goal.fill_strip-requires
fill_strip-requires c =
    let cut : Cut c.args.f c.loop-b.b c.min-m.result = cut_of c.args.f (length c.args.rgb.now) c.loop-b.b c.min-m.result c.requires.0.frame c.loop-b-test.true c.min-m.ensures in
    let k = cut in
    (c.requires.0, c.requires.2, k.inside, record { columns = k.wide; left-long = c.loop-b.invariant.3 ∙ c.requires.4.left-long; right-long = c.loop-b.invariant.4 ∙ c.requires.4.right-long }, omega (arith, c.loop-b.invariant.5, c.requires.5))

pub strip_frame-requires : goal.strip_frame-requires
strip_frame-requires c =
    let cut : Cut c.args.f c.loop-b.b c.min-m.result = cut_of c.args.f (length c.args.rgb.now) c.loop-b.b c.min-m.result c.requires.0.frame c.loop-b-test.true c.min-m.ensures in
    (c.requires.0.frame.patch-high, cut.wide)

pub patch_line-requires : goal.patch_line-requires
patch_line-requires c =
    let cut : Cut c.args.f c.loop-b.b c.min-m.result = cut_of c.args.f (length c.args.rgb.now) c.loop-b.b c.min-m.result c.requires.0.frame c.loop-b-test.true c.min-m.ensures in
    let room : c.loop-b.o + c.min-m.result * (3 * (c.args.f.p * c.args.f.p)) ≤ length c.args.out.now = let n = 3 * (c.args.f.p * c.args.f.p) in
    let k = cut in
    omega (arith, c.requires.3, c.loop-b.invariant.1, mul-le-mul_right n k.rest, add-mul c.loop-b.b c.min-m.result n) in
    let k = cut in
    let p = c.args.f.p in
    let m = c.min-m.result in
    let long : length c.fill_strip.new.band ≡ 32 * span = c.fill_strip.auto.band ∙ c.loop-b.invariant.5 ∙ c.requires.5 in
    subst (λ (f : Frame). Framed f (length c.fill_strip.new.band) × Clean c.args.t.now × Inside f (strip_view p m) × (0 + f.p ≤ f.th) × (c.loop-b.o + f.gw * (3 * (f.p * f.p)) ≤ length c.loop-b.out))
    (sym c.strip_frame.ensures)
    (subst (λ (n : ℕ). Framed (strip_frame p m) n) (sym long) (strip-framed p m c.requires.0.frame.patch-low c.requires.0.frame.patch-high k.wide (omega (arith, k.rest, c.requires.0.frame.grid-wide-high))), c.requires.1, (omega (arith, c.requires.0.frame.patch-high), omega (arith, k.wide)), omega arith, omega (arith, room, c.loop-b.invariant.2))

pub overflow_mul-o : goal.overflow_mul-o
overflow_mul-o c = omega (arith, square c.args.f.p c.requires.0.frame.patch-high)

pub overflow_mul-o-in-loop-b : goal.overflow_mul-o-in-loop-b
overflow_mul-o-in-loop-b c = omega (arith, square c.args.f.p c.requires.0.frame.patch-high)

pub overflow_mul-o-in-loop-b-2 : goal.overflow_mul-o-in-loop-b-2
overflow_mul-o-in-loop-b-2 c =
    let cut : Cut c.args.f c.loop-b.b c.min-m.result = cut_of c.args.f (length c.args.rgb.now) c.loop-b.b c.min-m.result c.requires.0.frame c.loop-b-test.true c.min-m.ensures in
    let room : c.loop-b.o + c.min-m.result * (3 * (c.args.f.p * c.args.f.p)) ≤ length c.args.out.now = let n = 3 * (c.args.f.p * c.args.f.p) in
    let k = cut in
    omega (arith, c.requires.3, c.loop-b.invariant.1, mul-le-mul_right n k.rest, add-mul c.loop-b.b c.min-m.result n) in
    omega (arith, room, c.well_formed)

pub overflow_add-o : goal.overflow_add-o
overflow_add-o c =
    let cut : Cut c.args.f c.loop-b.b c.min-m.result = cut_of c.args.f (length c.args.rgb.now) c.loop-b.b c.min-m.result c.requires.0.frame c.loop-b-test.true c.min-m.ensures in
    let room : c.loop-b.o + c.min-m.result * (3 * (c.args.f.p * c.args.f.p)) ≤ length c.args.out.now = let n = 3 * (c.args.f.p * c.args.f.p) in
    let k = cut in
    omega (arith, c.requires.3, c.loop-b.invariant.1, mul-le-mul_right n k.rest, add-mul c.loop-b.b c.min-m.result n) in
    omega (arith, room, c.well_formed)

pub overflow_add-b : goal.overflow_add-b
overflow_add-b c =
    let cut : Cut c.args.f c.loop-b.b c.min-m.result = cut_of c.args.f (length c.args.rgb.now) c.loop-b.b c.min-m.result c.requires.0.frame c.loop-b-test.true c.min-m.ensures in
    omega (arith, cut.rest, c.requires.0.frame.grid-wide-high)

pub loop-b-smaller : goal.loop-b-smaller
loop-b-smaller c =
    let cut : Cut c.args.f c.loop-b.b c.min-m.result = cut_of c.args.f (length c.args.rgb.now) c.loop-b.b c.min-m.result c.requires.0.frame c.loop-b-test.true c.min-m.ensures in
    omega (arith, cut.some, c.loop-b-test.true)

pub loop-b-preserved : goal.loop-b-preserved
loop-b-preserved c =
    let cut : Cut c.args.f c.loop-b.b c.min-m.result = cut_of c.args.f (length c.args.rgb.now) c.loop-b.b c.min-m.result c.requires.0.frame c.loop-b-test.true c.min-m.ensures in
    let k = cut in
    let p = c.args.f.p in
    let n = 3 * (p * p) in
    let m = c.min-m.result in
    let t = entry c.args.t.now in
    let band = c.fill_strip.new.band in
    let wrote = c.patch_line.ensures ∙ ap (λ (f : Frame). put c.loop-b.out c.loop-b.o (patch_line f.p f.gw (viewed t f (strip_view p m) band) 0)) c.strip_frame.ensures ∙ ap (put c.loop-b.out c.loop-b.o) (strip-line t c.args.rgb.now c.args.f c.args.r c.loop-b.b m band c.fill_strip.ensures) in (
      k.rest,
      omega (arith, c.loop-b.invariant.1, add-mul c.loop-b.b m n),
      c.patch_line.auto.out ∙ c.loop-b.invariant.2,
      c.fill_strip.auto.left ∙ c.loop-b.invariant.3,
      c.fill_strip.auto.right ∙ c.loop-b.invariant.4,
      c.fill_strip.auto.band ∙ c.loop-b.invariant.5,
      rows_more (λ e. patch_at p (mixed t c.args.f c.args.rgb.now) c.args.r (e * p)) n (λ e. length-patch p (mixed t c.args.f c.args.rgb.now) c.args.r (e * p)) c.args.out.now c.loop-b.out _ c.args.at c.loop-b.o c.loop-b.b m c.loop-b.invariant.6 c.loop-b.invariant.1 wrote,
    )

pub shape_of-out : goal.shape_of-out
shape_of-out c = c.loop-b.invariant.2

pub shape_of-left : goal.shape_of-left
shape_of-left c = c.loop-b.invariant.3

pub shape_of-right : goal.shape_of-right
shape_of-right c = c.loop-b.invariant.4

pub shape_of-band : goal.shape_of-band
shape_of-band c = c.loop-b.invariant.5

pub returns : goal.returns
returns c =
    let e : c.loop-b.b ≡ c.args.f.gw = omega (arith, c.loop-b.invariant.0, c.loop-b-test.false) in
    c.loop-b.invariant.6 ∙ ap (λ (n : ℕ). put c.args.out.now c.args.at (rows n (λ k. patch_at c.args.f.p (mixed (entry c.args.t.now) c.args.f c.args.rgb.now) c.args.r (k * c.args.f.p)))) e
