-- `encoder_linear::linear::linear_rows` meets its contract. Assumes nothing.
use mathlib.Core.Path.{◌≡◌, refl, sym, ap, ◌∙◌}
use mathlib.Core.List.{List, [], ◌∷◌, ◌++◌}
use Prim.Native.Nat.{ℕ, suc, ◌+◌, ◌-◌, ◌*◌, ◌≤◌, ◌<◌}
use native.Mathlib.Omega.{arith}
use lib.ListN.{length, set, length-set}
use lib.Ieee.{Float}
use Rattle.buffers.specs.Region.{region, put}
use Rattle.buffers.specs.inner.Apart.{Apart, before, after}
use Rattle.buffers.proofs.Regions.{region-region}
use Rattle.std.proofs.lemmas.List.{set-append_left, set-append_right}
use Rattle.encoder_linear.specs.Linear.{linear_of}
use Rattle.encoder_linear.proofs.Sums.{length-linear}
use Rattle.encoder_linear.proofs.linear.linear_rows.Goals as goal

-- what is written inside one half of a list
left : (a b ys : List Float) (at : ℕ) → at + length ys ≤ length a → put (a ++ b) at ys ≡ put a at ys ++ b
unfolding put
left a b [] at h = refl
left a b (y ∷ ys) at h =
    ap (λ t. put t (suc at) ys) (set-append_left a b at y (omega arith)) ∙ left (set a at y) b ys (suc at) (rw length-set (omega arith))

right : (a b ys : List Float) (n at : ℕ) → length a ≡ n → put (a ++ b) (n + at) ys ≡ a ++ put b at ys
unfolding put
right a b [] n at h = refl
right a b (y ∷ ys) n at h =
    let e : (n + at) - n ≡ at = omega arith in
    let f : suc (n + at) ≡ n + suc at = omega arith in
    ap (λ t. put t (suc (n + at)) ys) (set-append_right a b n (n + at) y h (omega arith))
    ∙ ap (λ k. put (a ++ set b k y) (suc (n + at)) ys) e
    ∙ ap (λ k. put (a ++ set b at y) k ys) f
    ∙ right a (set b at y) ys n (suc at) h

-- sums that do not stand behind the rows end before them
beside : {x n y m l : ℕ} → Apart x n y m → y < x + n → l ≡ x → y + m ≤ l
beside (before h) g e = omega arith
beside (after h) g e = omega arith

pub returns-then-x-many : goal.returns-then-x-many
returns-then-x-many c =
    let h = c.split_at_mut-rows.ensures in
    let f = c.split_at_mut-rows.result.0.now in
    let m = c.args.n * c.args.nin in
    let L : List Float → List Float = linear_of c.args.n c.args.nin c.args.nout c.args.w.now in
    let x : c.part.result.now ≡ region c.args.s.now c.args.x m =
    c.part.ensures ∙ ap (λ t. region t c.args.x m) h.front ∙ region-region c.args.s.now 0 c.args.y c.args.x m (omega (arith, c.if-x-many.true)) ∙ ap (λ k. region c.args.s.now k m) (omega arith) in
    ap (λ t. f ++ t) (c.from_rows.ensures ∙ ap (λ t. put c.split_at_mut-rows.result.1.now 0 (L t)) x)
    ∙ sym (right f c.split_at_mut-rows.result.1.now (L (region c.args.s.now c.args.x m)) c.args.y 0 h.front_len)
    ∙ ap (λ t. put t (c.args.y + 0) (L (region c.args.s.now c.args.x m))) (sym h.value)
    ∙ ap (λ k. put c.args.s.now k (L (region c.args.s.now c.args.x m))) (omega arith)

pub returns-else-x-many : goal.returns-else-x-many
returns-else-x-many c =
    let h = c.split_at_mut-sums.ensures in
    let m = c.args.n * c.args.nin in
    let L : List Float → List Float = linear_of c.args.n c.args.nin c.args.nout c.args.w.now in
    let X = region c.args.s.now c.args.x m in
    let x : c.part-else-x-many.result.now ≡ X = c.part-else-x-many.ensures ∙ ap (λ t. region t 0 m) h.back in
    let a : c.args.y + length (L X) ≤ length c.split_at_mut-sums.result.0.now =
    rw (length-linear c.args.n c.args.nin c.args.nout c.args.w.now X) (beside c.requires.apart (omega (arith, c.if-x-many.false)) (omega (arith, h.front_len))) in
    ap (λ t. t ++ c.split_at_mut-sums.result.1.now) (c.from_rows-else-x-many.ensures ∙ ap (λ t. put c.split_at_mut-sums.result.0.now c.args.y (L t)) x)
    ∙ sym (left c.split_at_mut-sums.result.0.now c.split_at_mut-sums.result.1.now (L X) c.args.y a)
    ∙ ap (λ t. put t c.args.y (L X)) (sym h.value)
