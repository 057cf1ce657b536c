-- The answer of add, case by case. Assumes nothing.
use mathlib.Core.Path.{◌≡◌, refl, sym, ap, ◌∙◌}
use mathlib.Core.Bool.{Bool, true, false, ◌&&◌, ◌||◌, true≢false}
use mathlib.Core.List.{List, [], ◌∷◌, ◌++◌}
use Prim.Native.Nat.{ℕ, ◌+◌, ◌-◌, ◌≤◌, ◌<◌}
use native.Mathlib.Nat.{zero-add}
use native.Mathlib.Omega.{arith}
use borrow.Author.Tests.{lt-ltb, le-ltb, le-leb, lt-leb, eq-eqb, ne_eqb, leb-true, leb-false, ltb-true, ltb-false}
use lib.Dec.{leb, ltb}
use lib.ListN.{length}
use lib.Ieee.{Float}
use Rattle.buffers.specs.Region.{put}
use Rattle.buffers.proofs.Regions.{put-append, put-put}
use Rattle.picture_limits.specs.declared.Refusal as F
use Rattle.pool_books.specs.declared.Held.{Held}
use Rattle.pool_books.specs.declared.Pool.{Pool}
use Rattle.pool.specs.Pool.{Pooled}
use Rattle.pool_books.specs.Book.{held, entries, with, floats, end_of, well_made, laid, joined, has, key_of}
use Rattle.pool.specs.Pool.{refused, done, room_behind, ready, behind, add_answer, add_slice}
use Rattle.pool_books.proofs.Orders.{end-laid, with_entries, length-laid}

module _ (p : Pool) (s : List Float) (k : ℕ) (vs : List Float) where
  pub add-refused : (r : F.Refusal) (x : Pooled) → x ≡ refused p r → add_answer p s k vs ≡ refused p r → (x ≡ add_answer p s k vs) × (s ≡ add_slice p s k vs)
  add-refused r x e a = (e ∙ sym a, rw a)

  pub add-unmade : well_made p (length s) ≡ false → add_answer p s k vs ≡ refused p F.Refusal.PoolSlice
  unfolding add_answer
  add-unmade e = rw e

  module _ (m : well_made p (length s) ≡ true) where
    pub add-held : has key_of k (entries p) ≡ true → add_answer p s k vs ≡ refused p F.Refusal.KeyHeld
    unfolding add_answer
    add-held e = rw (m, e)

    module _ (h : has key_of k (entries p) ≡ false) where
      pub add_none : length vs ≡ 0 → add_answer p s k vs ≡ refused p F.Refusal.NoVectors
      unfolding add_answer
      add_none e = rw (m, h, eq-eqb (length vs) 0 e)

      module _ (n : length vs ≡ 0 → ⊥) where
        pub add-full : ltb p.count 64 && leb (floats (entries p) + length vs) (length s) ≡ false → add_answer p s k vs ≡ refused p F.Refusal.PoolFull
        unfolding add_answer
        add-full e = rw (m, h, ne_eqb (length vs) 0 n, e)

        pub add_done : ltb p.count 64 && leb (floats (entries p) + length vs) (length s) ≡ true
            → add_answer p s k vs ≡ done (with p (ready p (length s) (length vs) ++ (held k (behind p (length s) (length vs)) (length vs) ∷ [])))
        unfolding add_answer
        add_done e = rw (m, h, ne_eqb (length vs) 0 n, e)

-- the code's test for room
pub full-says : (c sum n m : ℕ) → sum ≤ n → leb 64 c || ltb (n - sum) m ≡ true → ltb c 64 && leb (sum + m) n ≡ false
full-says c sum n m l t = go (leb 64 c) refl t
  where
    go : (x : Bool) → leb 64 c ≡ x → x || ltb (n - sum) m ≡ true → ltb c 64 && leb (sum + m) n ≡ false
    go true e t = rw (le-ltb c 64 (leb-true 64 c e))
    go false e t = let h : n < sum + m = omega (arith, ltb-true (n - sum) m t) in rw (lt-leb (sum + m) n h) (right (ltb c 64))
      where
        right : (b : Bool) → b && false ≡ false
        right true = refl
        right false = refl

pub room_says : (c sum n m : ℕ) → sum ≤ n → leb 64 c || ltb (n - sum) m ≡ false → (c < 64) × (sum + m ≤ n)
room_says c sum n m l t = go (leb 64 c) refl t
  where
    go : (x : Bool) → leb 64 c ≡ x → x || ltb (n - sum) m ≡ false → (c < 64) × (sum + m ≤ n)
    go true e t = absurd (true≢false t)
    go false e t = (leb-false 64 c e, omega (arith, ltb-false (n - sum) m t))

pub room-is : (c sum n m : ℕ) → c < 64 → sum + m ≤ n → ltb c 64 && leb (sum + m) n ≡ true
room-is c sum n m a b = rw (lt-ltb c 64 a, le-leb (sum + m) n b)

-- more entries, behind those that are held
pub with-more : (p : Pool) (es fs : List Held) → with (with p es) (es ++ fs) ≡ with p (es ++ fs)
with-more p es fs =
    ap (λ (h : List Held). record { len = p.len; count = length (es ++ fs); held = h })
    (sym (put-append (put p.held 0 es) 0 es fs (length es) (sym (zero-add (length es))))
    ∙ ap (λ (h : List Held). put h (length es) fs) (put-put p.held 0 es es refl)
    ∙ put-append p.held 0 es fs (length es) (sym (zero-add (length es))))

-- without a slide, and with one
module _ (p : Pool) (s : List Float) (k : ℕ) (vs : List Float) where
  pub done-behind : (e : ℕ) (q : Pool) (t : List Float) → e ≡ end_of 0 (entries p) → e + length vs ≤ length s
      → q ≡ with p (entries p ++ (held k e (length vs) ∷ [])) → t ≡ put s e vs
      → add_answer p s k vs ≡ done (with p (ready p (length s) (length vs) ++ (held k (behind p (length s) (length vs)) (length vs) ∷ [])))
      → (done q ≡ add_answer p s k vs) × (t ≡ add_slice p s k vs)
  done-behind e q t g l a b d =
      let r : room_behind p (length s) (length vs) ≡ true = le-leb (end_of 0 (entries p) + length vs) (length s) (omega (arith, g)) in
      (rw (d, r, ← g) (ap done a), rw (d, r, ← g) b)

  pub done-slid : (f : ℕ) (q r : Pool) (t u : List Float) → f ≡ floats (entries p) → length (entries p) ≤ length p.held → length s < end_of 0 (entries p) + length vs
      → q ≡ with p (laid 0 (entries p)) → t ≡ put s 0 (joined s (entries p))
      → r ≡ with q (entries q ++ (held k f (length vs) ∷ [])) → u ≡ put t f vs
      → add_answer p s k vs ≡ done (with p (ready p (length s) (length vs) ++ (held k (behind p (length s) (length vs)) (length vs) ∷ [])))
      → (done r ≡ add_answer p s k vs) × (u ≡ add_slice p s k vs)
  done-slid f q r t u g w l a b x y d =
      let es = entries p in
      let n : room_behind p (length s) (length vs) ≡ false = lt-leb (end_of 0 es + length vs) (length s) l in
      let e : end_of 0 (laid 0 es) ≡ f = end-laid 0 es ∙ zero-add (floats es) ∙ sym g in
      let i : entries q ≡ laid 0 es = ap entries a ∙ with_entries p (laid 0 es) (omega (arith, length-laid 0 es)) in
      let z : r ≡ with p (laid 0 es ++ (held k f (length vs) ∷ [])) =
      x ∙ ap (λ (v : List Held). with q (v ++ (held k f (length vs) ∷ []))) i
      ∙ ap (λ (v : Pool). with v (laid 0 es ++ (held k f (length vs) ∷ []))) a
      ∙ with-more p (laid 0 es) (held k f (length vs) ∷ []) in
      (rw (d, n, e) (ap done z), rw (d, n, e) (y ∙ ap (λ (v : List Float). put v f vs) b))
