-- The two loops over the bookkeeping: what is known of the results passed, and what is left to ask of those behind. Assumes nothing.
use mathlib.Core.Path.{◌≡◌, refl, sym, ap, ◌∙◌}
use mathlib.Core.Bool.{Bool, true, false, not, ◌&&◌, ◌||◌, cond, true≢false}
use mathlib.Core.List.{List, ◌∷◌}
use Prim.Native.Nat.{ℕ, suc, ◌+◌, ◌≤◌, ◌<◌}
use native.Mathlib.Nat.{add-zero, zero-add, add_assoc}
use native.Mathlib.Numerals.{add-one}
use native.Mathlib.Omega.{arith}
use borrow.Author.Tests.{le-leb, lt-leb, ltb-true, ltb-false, leb-true, eqb-true, eq-eqb, ne_eqb}
use lib.Dec.{eqb, leb, ltb}
use lib.ListN.{length, drop, get_or}
use Rattle.pool_books.specs.declared.Held.{Held}
use Rattle.pool_books.specs.declared.Pool.{Pool}
use Rattle.pool_books.specs.declared.Books.{Books}
use Rattle.pool_books.specs.declared.Place.{Place}
use Rattle.std.specs.Prelude.{Result, Ok, Err, Option, Some, None}
use Rattle.picture_limits.specs.declared.Refusal as F
use Rattle.pool_books.specs.Book.{entries, floats, end_of, in_order, well_made}
use Rattle.pool_books.specs.Lookup.{place, lookup, found_start, found_len}
use Rattle.pool_books.specs.inner.Place.{place_in, books_in, books_of}
use Rattle.pool_books.proofs.Orders.{made-is, entry_at, entries-end, order-at}

-- ---- the order of the places

pub record Judged (p : Pool) (n sum end i : ℕ) : Type 0 where
  pub passed : i ≤ p.count
  pub fits : end ≤ 18446744073709551615
  pub less : sum ≤ end
  pub order : in_order 0 n (entries p) ≡ in_order end n (drop i (entries p))
  pub ends : end_of 0 (entries p) ≡ end_of end (drop i (entries p))
  pub sums : floats (entries p) ≡ sum + floats (drop i (entries p))

pub judged-none : (p : Pool) (n : ℕ) → Judged p n 0 0 0
judged-none p n =
    record { passed = omega arith; fits = omega arith; less = omega arith; order = refl; ends = refl; sums = sym (zero-add (floats (entries p))) }

module _ (p : Pool) (n sum end i : ℕ) (d : Held) (w : p.count ≤ length p.held) (l : i < p.count) (j : Judged p n sum end i) where
  pub judged-more : end ≤ (get_or p.held i d).start → (get_or p.held i d).start + (get_or p.held i d).len ≤ 18446744073709551615
      → Judged p n (sum + (get_or p.held i d).len) ((get_or p.held i d).start + (get_or p.held i d).len) (i + 1)
  unfolding in_order end_of floats
  judged-more a b =
      let h = get_or p.held i d in
      let e = entry_at p i d w l ∙ ap (λ (k : ℕ). h ∷ drop k (entries p)) (sym (add-one i)) in
      record {
        passed = omega arith;
        fits = b;
        less = omega (arith, j.less);
        order = j.order ∙ ap (in_order end n) e ∙ ap (λ (x : Bool). x && in_order (h.start + h.len) n (drop (i + 1) (entries p))) (le-leb end h.start a);
        ends = j.ends ∙ ap (end_of end) e;
        sums = j.sums ∙ ap (λ (x : List Held). sum + floats x) e ∙ sym (add_assoc sum h.len (floats (drop (i + 1) (entries p))));
      }

  -- one that starts before the end of those passed
  pub unordered : (get_or p.held i d).start < end → in_order 0 n (entries p) ≡ false
  unfolding in_order
  unordered a = j.order ∙ ap (in_order end n) (entry_at p i d w l) ∙ rw (lt-leb end (get_or p.held i d).start a)

  -- one that ends behind all numbers
  pub unending : n ≤ 18446744073709551615 → 18446744073709551615 < (get_or p.held i d).start + (get_or p.held i d).len → in_order 0 n (entries p) ≡ false
  unfolding in_order
  unending m a = j.order ∙ ap (in_order end n) (entry_at p i d w l) ∙ go (leb end h.start) (in_order (h.start + h.len) n (drop (suc i) (entries p))) refl
    where
      h : Held
      h = get_or p.held i d

      go : (x y : Bool) → in_order (h.start + h.len) n (drop (suc i) (entries p)) ≡ y → x && y ≡ false
      go false y e = refl
      go true false e = refl
      go true true e = let u = order-at (h.start + h.len) n (drop (suc i) (entries p)) e in absurd (omega arith)

module _ (p : Pool) (n sum end i : ℕ) (w : p.count ≤ length p.held) (m : p.count ≤ i) (j : Judged p n sum end i) where
  -- the last one does not end inside
  pub unfitting : n < end → in_order 0 n (entries p) ≡ false
  unfolding in_order
  unfitting a = j.order ∙ ap (in_order end n) (entries-end p i w j.passed m) ∙ lt-leb end n a

  pub fitting : end ≤ n → in_order 0 n (entries p) ≡ true
  unfolding in_order
  fitting a = j.order ∙ ap (in_order end n) (entries-end p i w j.passed m) ∙ le-leb end n a

  pub ends_so : end_of 0 (entries p) ≡ end
  unfolding end_of
  ends_so = j.ends ∙ ap (end_of end) (entries-end p i w j.passed m)

  pub sums-so : floats (entries p) ≡ sum
  unfolding floats
  sums-so = j.sums ∙ ap (λ (x : List Held). sum + floats x) (entries-end p i w j.passed m) ∙ add-zero sum

-- ---- where the key stands

pub record Sought (p : Pool) (k j : ℕ) : Type 0 where
  pub passed : j ≤ p.count
  pub stands : place_in k (entries p) ≡ j + place_in k (drop j (entries p))
  pub looks : lookup k (entries p) ≡ lookup k (drop j (entries p))

pub sought-none : (p : Pool) (k : ℕ) → Sought p k 0
sought-none p k = record { passed = omega arith; stands = sym (zero-add (place_in k (entries p))); looks = refl }

module _ (p : Pool) (k j : ℕ) (d : Held) (w : p.count ≤ length p.held) (l : j < p.count) (s : Sought p k j) where
  pub sought-here : (get_or p.held j d).key ≡ k → (place_in k (entries p) ≡ j) × (lookup k (entries p) ≡ Ok (place (get_or p.held j d).start (get_or p.held j d).len))
  unfolding place_in lookup
  sought-here e =
      let a = entry_at p j d w l in
      let t = eq-eqb (get_or p.held j d).key k e in
      (s.stands ∙ ap (λ (es : List Held). j + place_in k es) a ∙ rw t (add-zero j), s.looks ∙ ap (lookup k) a ∙ rw t)

  pub sought-more : ((get_or p.held j d).key ≡ k → ⊥) → Sought p k (j + 1)
  unfolding place_in lookup
  sought-more e =
      let a = entry_at p j d w l ∙ ap (λ (i : ℕ). get_or p.held j d ∷ drop i (entries p)) (sym (add-one j)) in
      let t = ne_eqb (get_or p.held j d).key k e in
      record {
        passed = omega arith;
        stands = s.stands ∙ ap (λ (es : List Held). j + place_in k es) a ∙ rw t (omega arith);
        looks = s.looks ∙ ap (lookup k) a ∙ rw t;
      }

pub sought-all : (p : Pool) (k j : ℕ) → p.count ≤ length p.held → p.count ≤ j → Sought p k j → (place_in k (entries p) ≡ p.count) × (lookup k (entries p) ≡ Err F.Refusal.KeyUnknown)
unfolding place_in lookup
sought-all p k j w m s =
    let e = entries-end p j w s.passed m in
    let c : j + 0 ≡ p.count = omega (arith, s.passed) in
    (s.stands ∙ ap (λ (es : List Held). j + place_in k es) e ∙ c, s.looks ∙ ap (lookup k) e)

-- ---- what is found

pub unmade : (p : Pool) (n k : ℕ) → in_order 0 n (entries p) ≡ false → None ≡ books_of p n k
unfolding books_of well_made
unmade p n k e = rw e (go (eqb p.len n && leb p.count 64))
  where
    go : (b : Bool)
        → None
        ≡ cond (b && false) (Some (books_in p k)) None
    go true = refl
    go false = refl

pub unmade-early : (p : Pool) (n k : ℕ) → not (eqb p.len n) || ltb 64 p.count ≡ true → None ≡ books_of p n k
unfolding books_of well_made
unmade-early p n k t = go (eqb p.len n) (leb p.count 64) refl t
  where
    go : (x y : Bool) → leb p.count 64 ≡ y → not x || ltb 64 p.count ≡ true
        → None
        ≡ cond ((x && y) && in_order 0 n (entries p)) (Some (books_in p k)) None
    go false y e t = refl
    go true false e t = refl
    go true true e t = let u = ltb-true 64 p.count t in let v = leb-true p.count 64 e in absurd (omega arith)

pub early : (len n count : ℕ) → not (eqb len n) || ltb 64 count ≡ false → (len ≡ n) × (count ≤ 64)
early len n count t = go (eqb len n) refl (ltb 64 count) refl t
  where
    go : (x : Bool) → eqb len n ≡ x → (y : Bool) → ltb 64 count ≡ y → not x || y ≡ false → (len ≡ n) × (count ≤ 64)
    go true e true f t = absurd (true≢false t)
    go true e false f t = (eqb-true len n e, ltb-false 64 count f)
    go false e y f t = absurd (true≢false t)

pub made-books : (p : Pool) (n k sum end at : ℕ) (found : Result Place F.Refusal) → p.len ≡ n → p.count ≤ 64 → in_order 0 n (entries p) ≡ true → floats (entries p) ≡ sum → end_of 0 (entries p) ≡ end
    → place_in k (entries p) ≡ at → lookup k (entries p) ≡ found → Some (record { floats = sum; end = end; place = at; start = found_start found; len = found_len found }) ≡ books_of p n k
unfolding books_of
made-books p n k sum end at found a b o s e q f = rw (made-is p n a b o, s, e, q, f)
