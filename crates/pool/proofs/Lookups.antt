-- Laws of keys: where one stands, whether it is held, what is looked up and left out by it. Assumes nothing.
use mathlib.Core.Path.{◌≡◌, refl, sym, ap}
use mathlib.Core.Bool.{Bool, true, false, ◌||◌, cond, true≢false}
use mathlib.Core.List.{List, [], ◌∷◌}
use Prim.Native.Nat.{ℕ, suc, ◌+◌, ◌≤◌, ◌<◌}
use native.Mathlib.Omega.{arith}
use lib.Dec.{eqb}
use lib.ListN.{length}
use Rattle.picture_limits.specs.declared.Refusal as F
use Rattle.pool_books.specs.declared.Held.{Held}
use Rattle.std.specs.Prelude.{Ok, Err}
use Rattle.pool_books.specs.Lookup.{place}
use Rattle.pool_books.specs.Book.{floats, in_order, has, without, key_of}
use Rattle.pool_books.specs.Lookup.{lookup, found_start, found_len}
use Rattle.pool_books.specs.inner.Place.{place_in, left_out}
use Rattle.pool_books.proofs.Orders.{order-low, order-rest, order-cons, order-down, order-at}

-- ---- where a key stands, as the loop finds it

pub place-le : (k : ℕ) (es : List Held) → place_in k es ≤ length es
unfolding place_in
place-le k [] = omega arith
place-le k (h ∷ hs) = go (eqb h.key k) (place-le k hs)
  where
    go : (b : Bool) → place_in k hs ≤ length hs → cond b 0 (suc (place_in k hs)) ≤ suc (length hs)
    go true l = omega arith
    go false l = omega arith

pub place-held : (k : ℕ) (es : List Held) → place_in k es < length es → has key_of k es ≡ true
unfolding place_in has
place-held k [] l = absurd (omega arith)
place-held k (h ∷ hs) l = go (eqb h.key k) l (λ m. place-held k hs m)
  where
    go : (b : Bool) → cond b 0 (suc (place_in k hs)) < suc (length hs) → (place_in k hs < length hs → has key_of k hs ≡ true) → b || has key_of k hs ≡ true
    go true l r = refl
    go false l r = r (omega arith)

pub place_none : (k : ℕ) (es : List Held) → length es ≤ place_in k es → has key_of k es ≡ false
unfolding place_in has
place_none k [] l = refl
place_none k (h ∷ hs) l = go (eqb h.key k) l (λ m. place_none k hs m)
  where
    go : (b : Bool) → suc (length hs) ≤ cond b 0 (suc (place_in k hs)) → (length hs ≤ place_in k hs → has key_of k hs ≡ false) → b || has key_of k hs ≡ false
    go true l r = absurd (omega arith)
    go false l r = r (omega arith)

pub held_at : (k : ℕ) (es : List Held) → has key_of k es ≡ true → lookup k es ≡ Ok (place (found_start (lookup k es)) (found_len (lookup k es)))
unfolding has lookup
held_at k [] e = absurd (true≢false (sym e))
held_at k (h ∷ hs) e = go (eqb h.key k) e (λ f. held_at k hs f)
  where
    go : (b : Bool) → b || has key_of k hs ≡ true → (has key_of k hs ≡ true → lookup k hs ≡ Ok (place (found_start (lookup k hs)) (found_len (lookup k hs))))
        → cond b (Ok (place h.start h.len)) (lookup k hs)
        ≡ Ok (place (found_start (cond b (Ok (place h.start h.len)) (lookup k hs))) (found_len (cond b (Ok (place h.start h.len)) (lookup k hs))))
    go true e r = refl
    go false e r = r e

pub none-lookup : (k : ℕ) (es : List Held) → has key_of k es ≡ false → lookup k es ≡ Err F.Refusal.KeyUnknown
unfolding has lookup
none-lookup k [] e = refl
none-lookup k (h ∷ hs) e = go (eqb h.key k) e (λ f. none-lookup k hs f)
  where
    go : (b : Bool) → b || has key_of k hs ≡ false → (has key_of k hs ≡ false → lookup k hs ≡ Err F.Refusal.KeyUnknown)
        → cond b (Ok (place h.start h.len)) (lookup k hs) ≡ Err F.Refusal.KeyUnknown
    go true e r = absurd (true≢false e)
    go false e r = r e

pub place-without : (k : ℕ) (es : List Held) → left_out (place_in k es) es ≡ without key_of k es
unfolding place_in without
place-without k [] = refl
place-without k (h ∷ hs) = go (eqb h.key k) (place-without k hs)
  where
    go : (b : Bool) → left_out (place_in k hs) hs ≡ without key_of k hs → left_out (cond b 0 (suc (place_in k hs))) (h ∷ hs) ≡ cond b hs (h ∷ without key_of k hs)
    go true r = refl
    go false r = ap (λ (l : List Held). h ∷ l) r

-- ---- what is left without a key

pub without-none : {A : Type 0} (key : A → ℕ) (k : ℕ) (l : List A) → has key k l ≡ false → without key k l ≡ l
unfolding has without
without-none key k [] e = refl
without-none key k (a ∷ l) e = go (eqb (key a) k) e (λ f. without-none key k l f)
  where
    go : (b : Bool) → b || has key k l ≡ false → (has key k l ≡ false → without key k l ≡ l) → cond b l (a ∷ without key k l) ≡ a ∷ l
    go true e r = absurd (true≢false e)
    go false e r = ap (λ m. a ∷ m) (r e)

pub length_without : (k : ℕ) (es : List Held) → length (without key_of k es) ≤ length es
unfolding without
length_without k [] = omega arith
length_without k (h ∷ hs) = go (eqb h.key k) (length_without k hs)
  where
    go : (b : Bool) → length (without key_of k hs) ≤ length hs → length (cond b hs (h ∷ without key_of k hs)) ≤ suc (length hs)
    go true l = omega arith
    go false l = omega arith

pub order-without : (k at n : ℕ) (es : List Held) → in_order at n es ≡ true → in_order at n (without key_of k es) ≡ true
unfolding without
order-without k at n [] e = e
order-without k at n (h ∷ hs) e = go (eqb h.key k) (order-without k (h.start + h.len) n hs (order-rest at n h hs e))
  where
    go : (b : Bool) → in_order (h.start + h.len) n (without key_of k hs) ≡ true → in_order at n (cond b hs (h ∷ without key_of k hs)) ≡ true
    go true r = order-down at (h.start + h.len) n hs (omega (arith, order-low at n h hs e)) (order-rest at n h hs e)
    go false r = order-cons at n h (without key_of k hs) (order-low at n h hs e) r

pub floats-without : (k : ℕ) (es : List Held) → floats (without key_of k es) + found_len (lookup k es) ≡ floats es
unfolding without floats lookup
floats-without k [] = refl
floats-without k (h ∷ hs) = go (eqb h.key k) (floats-without k hs)
  where
    go : (b : Bool) → floats (without key_of k hs) + found_len (lookup k hs) ≡ floats hs
        → floats (cond b hs (h ∷ without key_of k hs)) + found_len (cond b (Ok (place h.start h.len)) (lookup k hs)) ≡ h.len + floats hs
    go true r = omega arith
    go false r = omega arith

-- what is looked up lies inside
pub lookup-inside : (k at n : ℕ) (es : List Held) → in_order at n es ≡ true → found_start (lookup k es) + found_len (lookup k es) ≤ n
unfolding lookup
lookup-inside k at n [] e = omega arith
lookup-inside k at n (h ∷ hs) e = go (eqb h.key k) (lookup-inside k (h.start + h.len) n hs (order-rest at n h hs e))
  where
    go : (b : Bool) → found_start (lookup k hs) + found_len (lookup k hs) ≤ n
        → found_start (cond b (Ok (place h.start h.len)) (lookup k hs)) + found_len (cond b (Ok (place h.start h.len)) (lookup k hs)) ≤ n
    go true r = order-at (h.start + h.len) n hs (order-rest at n h hs e)
    go false r = r
