-- The limits that a text in the form keeps. Assumes nothing.
use mathlib.Core.Path.{◌≡◌, refl, ap}
use mathlib.Core.Bool.{Bool, true, false, cond}
use mathlib.Core.List.{List, [], ◌∷◌}
use Rattle.std.specs.Prelude.{Option, None, Some, ◌+◌, ◌-◌, ◌<◌}
use Prim.Native.Nat.{ℕ, ◌*◌, ◌≤◌}
use native.Mathlib.Nat.{mul-le-mul_right, mul-le-mul_left}
use native.Mathlib.Omega.{arith}
use borrow.Author.Tests.{leb-true, ltb-false}
use lib.Dec.{leb, ltb}
use lib.ListN.{length}
use Rattle.unpatch_form.specs.Words.{word, ◌>>=◌, one_piece, end, behind}
use Rattle.unpatch_form.specs.Decimal.{decimal}
use Rattle.unpatch_form.specs.Hex.{nibble}
use Rattle.unpatch_form.specs.Form.{Request, fields, lines, small, as_pair, with_two, two, three, read_vision, read_picture, read_rows, request_of, pictured, form}
use Rattle.unpatch_form.proofs.Fields.{limit-some}

pub some-injective : {A : Type 0} (x y : A) → Some x ≡ Some y → x ≡ y
some-injective x y e = cc

pub none-ne-some : {A : Type 0} (x : A) → None ≡ Some x → ⊥
none-ne-some x e = cc

module _ {A B : Type 0} where
  -- what is read was found, and read on
  pub read-on : (o : Option A) (g : A → Option B) (b : B) → (o >>= g) ≡ Some b → (a : A) × (o ≡ Some a) × (g a ≡ Some b)
  read-on None g b e = absurd (none-ne-some b e)
  read-on (Some a) g b e = (a, refl, e)

  pub read_first : (f : List ℕ → Option A) (g : A → List (List ℕ) → Option B) (ps : List (List ℕ)) (b : B) → one_piece f g ps ≡ Some b
      → (p : List ℕ) × (qs : List (List ℕ)) × (a : A) × (f p ≡ Some a) × (g a qs ≡ Some b)
  read_first f g [] b e = absurd (none-ne-some b e)
  read_first f g (p ∷ ps) b e = let r = read-on (f p) (λ a. g a ps) b e in (p, ps, r.0, r.1, r.2)

pub read-end : {A : Type 0} (o : Option A) (ps : List (List ℕ)) (a : A) → end o ps ≡ Some a → o ≡ Some a
read-end o [] a e = e
read-end o (p ∷ ps) a e = absurd (none-ne-some a e)

small-le : (p : List ℕ) (n : ℕ) → small p ≡ Some n → n ≤ 64
small-le p n e = (limit-some 64 n (decimal p) e).1

pub two-small : (ps : List (List ℕ)) (r : ℕ × ℕ) → two ps ≡ Some r → (r.0 ≤ 64) × (r.1 ≤ 64)
two-small ps r e =
    let x = read_first small (λ a. one_piece small λ b. end (as_pair a b)) ps r e in
    let y = read_first small (λ b. end (as_pair x.2 b)) x.1 r x.4 in
    let d = some-injective (x.2, y.2) r (read-end (as_pair x.2 y.2) y.1 r y.4) in
    let f = ap (λ (z : ℕ × ℕ). z.0) d in
    let g = ap (λ (z : ℕ × ℕ). z.1) d in
    (omega (arith, f, small-le x.0 x.2 x.3), omega (arith, g, small-le y.0 y.2 y.3))

pub three-small : (ps : List (List ℕ)) (r : ℕ × ℕ × ℕ) → three ps ≡ Some r → (r.0 ≤ 64) × (r.1 ≤ 64) × (r.2 ≤ 64)
three-small ps r e =
    let x = read_first small (λ a fs. two fs >>= with_two a) ps r e in
    let y = read-on (two x.1) (with_two x.2) r x.4 in
    let d = some-injective (x.2, y.0.0, y.0.1) r y.2 in
    let f = ap (λ (z : ℕ × ℕ × ℕ). z.0) d in
    let g = ap (λ (z : ℕ × ℕ × ℕ). z.1) d in
    let h = ap (λ (z : ℕ × ℕ × ℕ). z.2) d in
    let t = two-small x.1 y.0 y.1 in
    (omega (arith, f, small-le x.0 x.2 x.3), omega (arith, g, t.0), omega (arith, h, t.1))

-- so a product of two is small
pub product_small : (a b : ℕ) → a ≤ 64 → b ≤ 64 → a * b ≤ 4096
product_small a b h k = omega (arith, mul-le-mul_right b h, mul-le-mul_left 64 k)

-- ---- the lines
abbrev checked : ℕ × ℕ × ℕ → Option (ℕ × ℕ × ℕ)
checked r = cond (leb (r.0 * r.1) 64) (Some r) None

checked-le : (r q : ℕ × ℕ × ℕ) → checked r ≡ Some q → (r ≡ q) × (r.0 * r.1 ≤ 64)
checked-le r q e = go (leb (r.0 * r.1) 64) refl e
  where
    go : (t : Bool) → leb (r.0 * r.1) 64 ≡ t → cond t (Some r) None ≡ Some q → (r ≡ q) × (r.0 * r.1 ≤ 64)
    go true f g = (some-injective r q g, leb-true (r.0 * r.1) 64 f)
    go false f g = absurd (none-ne-some q g)

record Settings (r : ℕ × ℕ × ℕ) : Type 0 where
  patch : r.0 ≤ 64
  merge : r.1 ≤ 64
  image : r.2 ≤ 64
  align : r.0 * r.1 ≤ 64

vision-small : (l : List ℕ) (r : ℕ × ℕ × ℕ) → read_vision l ≡ Some r → Settings r
unfolding read_vision
vision-small l r e =
    let x = read-on (behind (word "vision") (fields l) >>= three) checked r e in
    let y = read-on (behind (word "vision") (fields l)) three x.0 x.1 in
    let t = three-small y.0 x.0 y.2 in
    let k = checked-le x.0 r x.2 in
    rw k.0 at (made x.0 t k.1)
  where
    made : (r : ℕ × ℕ × ℕ) → ((r.0 ≤ 64) × (r.1 ≤ 64) × (r.2 ≤ 64)) → r.0 * r.1 ≤ 64 → Settings r
    made r t a = record { patch = t.0; merge = t.1; image = t.2; align = a }

picture-small : (l : List ℕ) (r : ℕ × ℕ) → read_picture l ≡ Some r → (r.0 ≤ 64) × (r.1 ≤ 64)
unfolding read_picture
picture-small l r e = let y = read-on (behind (word "picture") (fields l)) two r e in two-small y.0 r y.2

-- ---- the whole
pub record Limits (q : Request) : Type 0 where
  pub patch : q.patch ≤ 64
  pub merge : q.merge ≤ 64
  pub image : q.image ≤ 64
  pub align : q.patch * q.merge ≤ 64
  pub height : q.height ≤ 64
  pub width : q.width ≤ 64

pub form-limits : (t : List ℕ) (q : Request) → form t ≡ Some q → Limits q
unfolding form
form-limits t q e = go (leb (length t) 49152) e
  where
    made : (s : ℕ × ℕ × ℕ) (p : ℕ × ℕ) (bs : List ℕ) → Settings s → ((p.0 ≤ 64) × (p.1 ≤ 64)) → Limits (record { patch = s.0; merge = s.1; image = s.2; height = p.0; width = p.1; rgb = bs })
    made s p bs a b = record { patch = a.patch; merge = a.merge; image = a.image; align = a.align; height = b.0; width = b.1 }

    go : (b : Bool) → cond b (one_piece read_vision (λ s. pictured s) (lines t)) None ≡ Some q → Limits q
    go false f = absurd (none-ne-some q f)
    go true f =
        let x = read_first read_vision (λ s. pictured s) (lines t) q f in
        let y = read_first read_picture (λ p ls. read_rows 0 ls >>= request_of x.2 p) x.1 q x.4 in
        let z = read-on (read_rows 0 y.1) (request_of x.2 y.2) q y.4 in
        let a = vision-small x.0 x.2 x.3 in
        let b = picture-small y.0 y.2 y.3 in
        rw (some-injective _ q z.2) at (made x.2 y.2 z.0 a b)

-- a digit
pub nibble-small : (a x : ℕ) → nibble a ≡ Some x → x < 16
unfolding nibble
nibble-small a x = go (ltb a 48) refl (leb a 57) refl (ltb a 97) refl (leb a 102) refl
  where
    go : (p : Bool) → ltb a 48 ≡ p → (q : Bool) → leb a 57 ≡ q → (r : Bool) → ltb a 97 ≡ r → (s : Bool) → leb a 102 ≡ s
        → cond p None (cond q (Some (a - 48)) (cond r None (cond s (Some (a - 87)) None))) ≡ Some x → x < 16
    go true i q j r k s l e = absurd (none-ne-some x e)
    go false i true j r k s l e = omega (arith, some-injective (a - 48) x e, ltb-false a 48 i, leb-true a 57 j)
    go false i false j true k s l e = absurd (none-ne-some x e)
    go false i false j false k true l e = omega (arith, some-injective (a - 87) x e, ltb-false a 97 k, leb-true a 102 l)
    go false i false j false k false l e = absurd (none-ne-some x e)
