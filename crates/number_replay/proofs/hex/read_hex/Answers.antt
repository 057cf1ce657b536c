-- `hex::read_hex` meets its contract: what the digits read so far stand for, n, and those that are left stand for the whole.
-- Assumes nothing.
use Rattle.std.proofs.Common.{◌≡◌, ℕ, ◌+◌, ◌-◌, ◌*◌, ◌^◌, ◌≤◌, ◌<◌, Bool, true, false, cond, leb, ltb, Option, Some, None, List, length, get_or, drop, refl, sym, ◌∙◌, lt_of_lt_of_le, add-one, arith, drop_of_length-le, drop-cons}
use borrow.Author.Tests.{leb-true, ltb-false}
use lib.Pow.{pow-add, pow_mono}
use Rattle.number_replay.specs.Hex.{digit_of, onward, word_from}
use Rattle.number_replay.proofs.hex.read_hex.Goals as goal

-- a digit
below : (b d : ℕ) → digit_of b ≡ Some d → d < 16
unfolding digit_of
below b d = go (ltb b 48) refl (leb b 57) refl (ltb b 97) refl (leb b 102) refl
  where
    go : (r : Bool) → ltb b 48 ≡ r → (s : Bool) → leb b 57 ≡ s → (t : Bool) → ltb b 97 ≡ t → (u : Bool) → leb b 102 ≡ u
        → cond r None (cond s (Some (b - 48)) (cond t None (cond u (Some (b - 97 + 10)) None))) ≡ Some d → d < 16
    go true i s j t k u l e = absurd (let z : ◌≡◌ {A = ℕ} 0 1 = cc in omega arith)
    go false i true j t k u l e = let x : b - 48 ≡ d = cc in omega (arith, x, ltb-false b 48 i, leb-true b 57 j)
    go false i false j true k u l e = absurd (let z : ◌≡◌ {A = ℕ} 0 1 = cc in omega arith)
    go false i false j false k true l e = let x : b - 97 + 10 ≡ d = cc in omega (arith, x, ltb-false b 97 k, leb-true b 102 l)
    go false i false j false k false l e = absurd (let z : ◌≡◌ {A = ℕ} 0 1 = cc in omega arith)

-- four more binary digits
room : (i n d : ℕ) → n < 2 ^ (4 * i) → d < 16 → n * 16 + d < 2 ^ (4 * (i + 1))
room i n d hn hd =
    let e : 4 * (i + 1) ≡ 4 * i + 4 = omega arith in rw (e, pow-add 2 (4 * i) 4) (omega arith)

-- the next byte
next : (s : List ℕ) (n i : ℕ) (r : Option ℕ) → i < length s → r ≡ digit_of (get_or s i 0) → word_from n (drop i s) ≡ onward r (λ d. word_from (n * 16 + d) (drop (i + 1) s))
unfolding word_from
next s n i r h e = rw (add-one i, drop-cons s i 0, e)

pub returns-in_err-d : goal.returns-in_err-d
unfolding onward
returns-in_err-d c =
    let h : c.loop-b.b-index < length c.args.s.now = omega arith in
    c.from_residual.ensures ∙ sym (c.loop-b.invariant.1 ∙ next _ c.loop-b.n c.loop-b.b-index c.digit.result h c.digit.ensures ∙ rw c.in_err-d.was)

pub overflow_mul-n : goal.overflow_mul-n
overflow_mul-n c =
    let m : 4 * (c.loop-b.b-index + 1) ≤ 32 = omega arith in
    let small : c.loop-b.n * 16 + c.in_ok-d.d < 2 ^ 32 = lt_of_lt_of_le (room c.loop-b.b-index c.loop-b.n c.in_ok-d.d c.loop-b.invariant.0 (below _ _ (sym c.digit.ensures ∙ c.in_ok-d.was))) (pow_mono m) in
    omega (arith, small)

pub overflow_add-n : goal.overflow_add-n
overflow_add-n c =
    let m : 4 * (c.loop-b.b-index + 1) ≤ 32 = omega arith in
    let small : c.loop-b.n * 16 + c.in_ok-d.d < 2 ^ 32 = lt_of_lt_of_le (room c.loop-b.b-index c.loop-b.n c.in_ok-d.d c.loop-b.invariant.0 (below _ _ (sym c.digit.ensures ∙ c.in_ok-d.was))) (pow_mono m) in
    omega (arith, small)

pub loop-b-preserved : goal.loop-b-preserved
unfolding onward
loop-b-preserved c =
    let h : c.loop-b.b-index < length c.args.s.now = omega arith in
    (room c.loop-b.b-index c.loop-b.n c.in_ok-d.d c.loop-b.invariant.0 (below _ _ (sym c.digit.ensures ∙ c.in_ok-d.was)), c.loop-b.invariant.1 ∙ next _ c.loop-b.n c.loop-b.b-index c.digit.result h c.digit.ensures ∙ rw c.in_ok-d.was)

pub returns : goal.returns
unfolding word_from
returns c =
    let s = c.args.s.now in
    sym (c.loop-b.invariant.1 ∙ rw (drop_of_length-le s {i = c.loop-b.b-index} (omega arith)))
