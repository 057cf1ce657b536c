-- `root::root_number` meets its contract. The invariant: x's size times 2 ^ 24 is m * 2 ^ k. The measure is k. Assumes nothing.
use Rattle.std.proofs.Common.{◌≡◌, ℕ, ◌+◌, ◌*◌, ◌/◌, ◌%◌, ◌^◌, ◌<◌, ◌≤◌, sym, ap, ◌∙◌, subst, ap₂, ⊎_elim, lt_of_lt_of_le, mod-eq_of_lt, arith, lit≤}
use lib.Bits.{bit_and, and_mask}
use Rattle.number_floats.specs.Size.{count}
use Rattle.number_bf16_half_root.specs.Root.{NearRoot, Rooted}
use Rattle.number_bf16_half_root.proofs.root.Scale.{size-pos, start-normal, start_small, left, turn, scaled-from, scaled-to, rooted}
use Rattle.number_bf16_half_root.proofs.root.root_number.Goals as goal

-- the code's shift loses nothing
shifted : (m k : ℕ) → m < 2 ^ 24 → m * 2 ^ (23 + bit_and k 1) % 2 ^ 64 ≡ m * 2 ^ (23 + k % 2)
shifted m k h = ap (λ (n : ℕ). m * 2 ^ (23 + n) % 2 ^ 64) (and_mask k 1) ∙ mod-eq_of_lt (lt_of_lt_of_le (scaled-to m k h) (lit≤ tt))

pub overflow_cast-e : goal.overflow_cast-e
overflow_cast-e c = omega arith

pub overflow_cast-t : goal.overflow_cast-t
overflow_cast-t c = omega (arith, and_mask c.args.x 23)

pub overflow_add-m : goal.overflow_add-m
overflow_add-m c = omega (arith, and_mask c.args.x 23)

pub overflow_add-k : goal.overflow_add-k
overflow_add-k c = omega arith

-- where the loop begins
abbrev Start : ℕ → ℕ → ℕ → Type 0
Start x m k = (count (2 ^ 23) x * 2 ^ 24 ≡ m * 2 ^ k) × (0 < m) × (m < 2 ^ 24) × (k ≤ 277)

begin-normal : (x m k : ℕ) → x < 0x7F80_0000 → 0 < x / 2 ^ 23 → m ≡ x % 2 ^ 23 + 2 ^ 23 → k ≡ 23 + x / 2 ^ 23 → Start x m k
begin-normal x m k h p e f = (start-normal x p ∙ sym (ap₂ (λ (a b : ℕ). a * 2 ^ b) e f), omega arith, omega arith, omega arith)

begin-small : (x m k : ℕ) → 0 < x → x / 2 ^ 23 ≤ 0 → m ≡ x % 2 ^ 23 → k ≡ 24 → Start x m k
begin-small x m k p h e f = (start_small x (omega arith) ∙ sym (ap₂ (λ (a b : ℕ). a * 2 ^ b) e f), omega arith, omega arith, omega arith)

pub loop-m-init : goal.loop-m-init
loop-m-init c =
    let x = c.args.x in
    ⊎_elim
    (λ w. begin-normal x c.if-e-gt0.m c.if-e-gt0.k c.requires.1 w.if-e-gt0.true (w.m-is ∙ ap (λ (n : ℕ). n + 2 ^ 23) (and_mask x 23)) w.k-is)
    (λ w. begin-small x c.if-e-gt0.m c.if-e-gt0.k c.requires.0 w.if-e-gt0.false (w.m-is ∙ and_mask x 23) w.k-is)
    c.if-e-gt0.branch-raw

pub overflow_mul-m : goal.overflow_mul-m
overflow_mul-m c = omega arith

pub overflow_sub-k : goal.overflow_sub-k
overflow_sub-k c =
    let k-pos : 0 < c.loop-m.k = left _ _ c.loop-m.k (size-pos _ c.requires.0) c.loop-m-test.true c.loop-m.invariant.0 in
    k-pos

pub loop-m-smaller : goal.loop-m-smaller
loop-m-smaller c =
    let k-pos : 0 < c.loop-m.k = left _ _ c.loop-m.k (size-pos _ c.requires.0) c.loop-m-test.true c.loop-m.invariant.0 in
    omega (arith, k-pos)

pub loop-m-preserved : goal.loop-m-preserved
loop-m-preserved c =
    let k-pos : 0 < c.loop-m.k = left _ _ c.loop-m.k (size-pos _ c.requires.0) c.loop-m-test.true c.loop-m.invariant.0 in
    (turn _ c.loop-m.m c.loop-m.k (k-pos) c.loop-m.invariant.0, omega arith, omega arith, omega arith)

pub overflow_add-k-2 : goal.overflow_add-k-2
overflow_add-k-2 c = omega (arith, and_mask c.loop-m.k 1)

pub overflow_shl-m : goal.overflow_shl-m
overflow_shl-m c = omega (arith, and_mask c.loop-m.k 1)

pub near_root-n-requires : goal.near_root-n-requires
near_root-n-requires c =
    subst (λ (n : ℕ). (2 ^ 46 ≤ n) × (n < 2 ^ 48)) (sym (shifted c.loop-m.m c.loop-m.k c.loop-m.invariant.2)) (scaled-from c.loop-m.m c.loop-m.k c.loop-m-test.false, scaled-to c.loop-m.m c.loop-m.k c.loop-m.invariant.2)

pub overflow_add-result : goal.overflow_add-result
overflow_add-result c = omega arith

pub overflow_add-result-2 : goal.overflow_add-result-2
overflow_add-result-2 c = omega (arith, c.near_root-n.ensures, c.loop-m.invariant.3)

pub overflow_cast-result : goal.overflow_cast-result
overflow_cast-result c = omega (arith, c.near_root-n.ensures, c.loop-m.invariant.3)

pub returns : goal.returns
returns c =
    let x = c.args.x in
    let e : (51 + c.loop-m.k / 2) * 2 ^ 23 % 2 ^ 64 ≡ (51 + c.loop-m.k / 2) * 2 ^ 23 = mod-eq_of_lt (omega (arith, c.loop-m.invariant.3)) in
    subst (λ (n : ℕ). Rooted x (n + c.near_root-n.result)) (sym e)
    (rooted x c.loop-m.m c.loop-m.k c.near_root-n.result c.loop-m.invariant.0 c.loop-m-test.false c.loop-m.invariant.2 c.near_root-n.ensures.0 c.near_root-n.ensures.1
    (subst (λ (n : ℕ). NearRoot n c.near_root-n.result) (shifted c.loop-m.m c.loop-m.k c.loop-m.invariant.2) c.near_root-n.ensures.2))
