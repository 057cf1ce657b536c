-- A picture that is not resized keeps its bytes. Assumes nothing.
use Rattle.std.proofs.Common.{◌≡◌, ℕ, ◌+◌, ◌-◌, ◌*◌, ◌^◌, ◌<◌, ◌≤◌, min, Bool, cond, List, length, get_or, sym, refl, ap, ◌∙◌, subst, mul-one, arith, lit≤}
use lib.Ieee.Casts.{to_unsigned-lt}
use native.Mathlib.Nat.{min-eq_left, sub_self}
use lib.Ieee.{Float, binary64, add, sub, mul, lt, of_bits, to_unsigned}
use Rattle.number_floats.specs.Whole.{away}
use Rattle.picture_resize.specs.declared.Near.{Near}
use Rattle.buffers.specs.Rows.{tab}
use Rattle.buffers.specs.Lent.{Bytes}
use Rattle.picture_resize.specs.Resize.{whole, place, low_of, near_to, near, blend, clamp, to_byte, pixel, mix, resized_at}
use Rattle.number_floats.specs.Constants.{one64}
use Rattle.picture_limits.specs.Places.{picture}
use Rattle.buffers.proofs.Lists.{rows_ext, tab-ext, rows-mul, tab-mul, tab-self}
use Rattle.picture_resize.proofs.Wholes.{Is, is_whole, mul_is, add_is, sub_is, div_self, floor-is, away-is, not-lt, cast-back}

-- ---- the place of an index, where the sides are the same
place_same : (n i : ℕ) → 0 < n → n ≤ 2 ^ 53 → i < n → place n n i ≡ whole i
place_same n i p h l =
    ap (λ (f : Float). mul binary64 (whole i) f) (div_self (whole n) n p (is_whole n h))
    ∙ mul_is (whole i) (whole 1) i 1 (is_whole i (omega arith)) (is_whole 1 (lit≤ tt)) ∙ ap whole (mul-one i)

low_same : (n i : ℕ) → n ≤ 2 ^ 53 → i < n → low_of n (whole i) ≡ i
low_same n i h l =
    ap (λ (f : Float). min (to_unsigned 64 f) (n - 1)) (floor-is (whole i) i (is_whole i (omega arith)))
    ∙ ap (λ (k : ℕ). min k (n - 1)) (cast-back 64 i (omega arith) (omega arith)) ∙ min-eq_left (omega arith)

record At (n i : ℕ) (r : Near) : Type 0 where
  low : r.low ≡ i
  part : r.part ≡ whole 0

near_same : (n i : ℕ) → 0 < n → n ≤ 2 ^ 53 → i < n → At n i (near n n i)
unfolding near
near_same n i p h l =
    subst (λ (y : Float). At n i (near_to n y)) (sym (place_same n i p h l))
    (record {
      low = low_same n i h l;
      part = ap (λ (k : ℕ). sub binary64 (whole i) (whole k)) (low_same n i h l) ∙ sub_is (whole i) (whole i) i i (omega arith) (is_whole i (omega arith)) (is_whole i (omega arith)) ∙ ap whole (sub_self i);
    })

-- ---- the four neighbours, at a place with no fraction
unit : Is one64 1
unfolding of_bits
unit = (refl, refl)

rest : sub binary64 one64 (whole 0) ≡ whole 1
rest = sub_is one64 (whole 0) 1 0 (lit≤ tt) unit (is_whole 0 (lit≤ tt))

times : (a b : ℕ) → a < 256 → b ≤ 1 → mul binary64 (whole a) (whole b) ≡ whole (a * b)
times a b h k = mul_is (whole a) (whole b) a b (is_whole a (omega arith)) (is_whole b (omega arith))

twice : (v a b n : ℕ) → v < 256 → a ≤ 1 → b ≤ 1 → v * a < 256 → v * a * b ≡ n → mul binary64 (mul binary64 (whole v) (whole a)) (whole b) ≡ whole n
twice v a b n h i j k e = ap (λ (f : Float). mul binary64 f (whole b)) (times v a h i) ∙ times (v * a) b k j ∙ ap whole e

plus : (a b n : ℕ) → a < 256 → b < 256 → a + b ≡ n → add binary64 (whole a) (whole b) ≡ whole n
plus a b n h k e = add_is (whole a) (whole b) a b (is_whole a (omega arith)) (is_whole b (omega arith)) ∙ ap whole e

blend-same : (a b c d : ℕ) → a < 256 → b < 256 → c < 256 → d < 256 → blend (whole a) (whole b) (whole c) (whole d) (whole 0) (whole 0) ≡ whole a
unfolding blend
blend-same a b c d i j k l =
    rw (rest, twice a 1 1 a i (omega arith) (omega arith) (omega arith) (omega arith), twice b 0 1 0 j (omega arith) (omega arith) (omega arith) (omega arith), twice c 1 0 0 k (omega arith) (omega arith) (omega arith) (omega arith), twice d 0 0 0 l (omega arith) (omega arith) (omega arith) (omega arith), plus a 0 a i (omega arith) (omega arith), plus a 0 a i (omega arith) (omega arith)) (plus a 0 a i (omega arith) (omega arith))

zero_is : Is (of_bits binary64 0) 0
unfolding of_bits
zero_is = (refl, refl)

top-is : Is (of_bits binary64 0x406F_E000_0000_0000) 255
unfolding of_bits
top-is = (refl, refl)

-- a byte, clamped and cast, is the byte
pub clamp-same : (b : ℕ) → b < 256 → to_unsigned 8 (clamp (whole b)) ≡ b
clamp-same b h =
    let i = is_whole b (omega arith) in
    ap (λ (t : Bool). to_unsigned 8 (cond t (of_bits binary64 0) (cond (lt (of_bits binary64 0x406F_E000_0000_0000) (whole b)) (of_bits binary64 0x406F_E000_0000_0000) (whole b)))) (not-lt (whole b) (of_bits binary64 0) b 0 (omega arith) i zero_is)
    ∙ ap (λ (t : Bool). to_unsigned 8 (cond t (of_bits binary64 0x406F_E000_0000_0000) (whole b))) (not-lt (of_bits binary64 0x406F_E000_0000_0000) (whole b) 255 b (omega arith) top-is i)
    ∙ cast-back 8 b (omega arith) (omega arith)

pub byte_at : (x : Float) (b : ℕ) → b < 256 → away x ≡ whole b → to_byte x ≡ b
unfolding to_byte
byte_at x b h e = ap (λ (f : Float). to_unsigned 8 (clamp f)) e ∙ clamp-same b h

byte-same : (b : ℕ) → b < 256 → to_byte (whole b) ≡ b
byte-same b h = byte_at (whole b) b h (away-is (whole b) b (is_whole b (omega arith)))

-- ---- so a byte of the picture stays
pub pixel-same : (rgb : List ℕ) (h w y x c : ℕ) → Bytes rgb → h ≤ 2 ^ 53 → w ≤ 2 ^ 53 → y < h → x < w → resized_at rgb h w h w y x c ≡ pixel rgb w y x c
unfolding mix
pixel-same rgb h w y x c b p q i j =
    let u = near_same h y (omega arith) p i in
    let v = near_same w x (omega arith) q j in
    rw (u.part, v.part)
    (ap to_byte (blend-same _ _ _ _ (b _) (b _) (b _) (b _)) ∙ byte-same _ (b _)
    ∙ ap (λ (k : ℕ). pixel rgb w k (near w w x).low c) u.low ∙ ap (λ (k : ℕ). pixel rgb w y k c) v.low)

pub picture-self : (rgb : List ℕ) (h w : ℕ) → length rgb ≡ h * w * 3 → picture h w (pixel rgb w) ≡ rgb
picture-self rgb h w e =
    sym (rows-mul h w (λ k. tab 3 (λ c. get_or rgb (k * 3 + c) 0)))
    ∙ sym (tab-mul (h * w) 3 (λ k. get_or rgb k 0)) ∙ tab-self rgb (h * w * 3) 0 e

pub picture-same : (rgb : List ℕ) (h w : ℕ) → Bytes rgb → h ≤ 2 ^ 53 → w ≤ 2 ^ 53 → length rgb ≡ h * w * 3 → picture h w (resized_at rgb h w h w) ≡ rgb
picture-same rgb h w b p q e =
    rows_ext h _ _ (λ y i. rows_ext w _ _ (λ x j. tab-ext 3 _ _ (λ c k. pixel-same rgb h w y x c b p q i j)))
    ∙ picture-self rgb h w e

-- ---- what is resized is a byte
pub byte-below : (rgb : List ℕ) (h w th tw y x c : ℕ) → resized_at rgb h w th tw y x c < 256
unfolding mix to_byte
byte-below rgb h w th tw y x c = to_unsigned-lt 8 _
