-- Laws of the bookkeeping: places in order, what is laid, joined and left out. Assumes nothing.
use mathlib.Core.Path.{◌≡◌, refl, sym, ap, ◌∙◌}
use mathlib.Core.Bool.{true, ◌&&◌}
use mathlib.Core.List.{List, [], ◌∷◌, ◌++◌}
use Prim.Native.Nat.{ℕ, suc, ◌+◌, ◌≤◌, ◌<◌}
use native.Mathlib.Nat.{add-zero, zero-add, add_assoc}
use native.Mathlib.Omega.{arith}
use borrow.Author.Tests.{leb-true, le-leb, eqb-true, eq-eqb}
use lib.Dec.{eqb, leb}
use lib.ListN.{length, take, drop, get_or, take-append-drop}
use lib.Seq.{length-take-le, drop-cons, get_or-take, drop-length}
use Rattle.buffers.specs.Region.{put}
use Rattle.buffers.proofs.Regions.{put-over, region-put-same}
use Rattle.buffers.proofs.Lists.{and_left, and_right}
use Rattle.pool_books.specs.declared.Held.{Held}
use Rattle.pool_books.specs.declared.Pool.{Pool}
use Rattle.pool_books.specs.Book.{held, entries, with, floats, end_of, in_order, well_made, laid}

-- ---- a pool for a slice of n

pub record Made (p : Pool) (n : ℕ) : Type 0 where
  pub for : p.len ≡ n
  pub few : p.count ≤ 64
  pub order : in_order 0 n (entries p) ≡ true

pub made-says : (p : Pool) (n : ℕ) → well_made p n ≡ true → Made p n
unfolding well_made
made-says p n e =
    let a = and_left (eqb p.len n && leb p.count 64) (in_order 0 n (entries p)) e in
    record {
      for = eqb-true p.len n (and_left (eqb p.len n) (leb p.count 64) a);
      few = leb-true p.count 64 (and_right (eqb p.len n) (leb p.count 64) a);
      order = and_right (eqb p.len n && leb p.count 64) (in_order 0 n (entries p)) e;
    }

pub made-is : (p : Pool) (n : ℕ) → p.len ≡ n → p.count ≤ 64 → in_order 0 n (entries p) ≡ true → well_made p n ≡ true
unfolding well_made
made-is p n a b c = rw (eq-eqb p.len n a, le-leb p.count 64 b, c)

-- ---- the entries

pub length-entries : (p : Pool) → p.count ≤ length p.held → length (entries p) ≡ p.count
length-entries p h = length-take-le p.count p.held h

-- what a loop over them reads
pub entry_at : (p : Pool) (i : ℕ) (d : Held) → p.count ≤ length p.held → i < p.count → drop i (entries p) ≡ get_or p.held i d ∷ drop (suc i) (entries p)
entry_at p i d h l =
    drop-cons (entries p) i d (rw (length-entries p h) l) ∙ ap (λ (e : Held). e ∷ drop (suc i) (entries p)) (get_or-take p.count p.held i d l)

pub entries-end : (p : Pool) (i : ℕ) → p.count ≤ length p.held → i ≤ p.count → p.count ≤ i → drop i (entries p) ≡ []
entries-end p i h l m =
    let e : length (entries p) ≡ i = length-entries p h ∙ (omega arith) in
    ap (λ (k : ℕ). drop k (entries p)) (sym e) ∙ drop-length (entries p)

pub put-take : {A : Type 0} (l : List A) (n : ℕ) → n ≤ length l → put l 0 (take n l) ≡ l
put-take l n h =
    put-over l (take n l) (rw (length-take-le n l h) h)
    ∙ ap (λ (k : ℕ). take n l ++ drop k l) (length-take-le n l h) ∙ take-append-drop n l

pub with_entries : (p : Pool) (es : List Held) → length es ≤ length p.held → entries (with p es) ≡ es
with_entries p es h = region-put-same p.held 0 es (length es) refl (rw zero-add h)

-- ---- places in order

module _ (at n : ℕ) (h : Held) (hs : List Held) where
  pub order-low : in_order at n (h ∷ hs) ≡ true → at ≤ h.start
  unfolding in_order
  order-low e = leb-true at h.start (and_left (leb at h.start) (in_order (h.start + h.len) n hs) e)

  pub order-rest : in_order at n (h ∷ hs) ≡ true → in_order (h.start + h.len) n hs ≡ true
  unfolding in_order
  order-rest e = and_right (leb at h.start) (in_order (h.start + h.len) n hs) e

  pub order-cons : at ≤ h.start → in_order (h.start + h.len) n hs ≡ true → in_order at n (h ∷ hs) ≡ true
  unfolding in_order
  order-cons l e = rw (le-leb at h.start l, e)

-- they end inside, and there is room for all of them before the last one's end
pub order-end : (at n : ℕ) (es : List Held) → in_order at n es ≡ true → end_of at es ≤ n
unfolding end_of in_order
order-end at n [] e = leb-true at n e
order-end at n (h ∷ hs) e = order-end (h.start + h.len) n hs (order-rest at n h hs e)

pub order-floats : (at n : ℕ) (es : List Held) → in_order at n es ≡ true → at + floats es ≤ end_of at es
unfolding floats end_of
order-floats at n [] e = omega arith
order-floats at n (h ∷ hs) e = omega (arith, order-low at n h hs e, order-floats (h.start + h.len) n hs (order-rest at n h hs e))

pub order-at : (at n : ℕ) (es : List Held) → in_order at n es ≡ true → at ≤ n
order-at at n es e = omega (arith, order-end at n es e, order-floats at n es e)

-- a lower start does
pub order-down : (b at n : ℕ) (es : List Held) → b ≤ at → in_order at n es ≡ true → in_order b n es ≡ true
unfolding in_order
order-down b at n [] l e = le-leb b n (omega (arith, leb-true at n e))
order-down b at n (h ∷ hs) l e = order-cons b n h hs (omega (arith, order-low at n h hs e)) (order-rest at n h hs e)

-- one more behind them
pub order-more : (at n : ℕ) (es : List Held) (h : Held) → in_order at n es ≡ true → end_of at es ≤ h.start → h.start + h.len ≤ n → in_order at n (es ++ (h ∷ [])) ≡ true
unfolding in_order end_of
order-more at n [] h e l m = rw (le-leb at h.start l, le-leb (h.start + h.len) n m)
order-more at n (g ∷ hs) h e l m = order-cons at n g (hs ++ (h ∷ [])) (order-low at n g hs e) (order-more (g.start + g.len) n hs h (order-rest at n g hs e) l m)

-- ---- laid one right behind the other

pub length-laid : (at : ℕ) (es : List Held) → length (laid at es) ≡ length es
unfolding laid
length-laid at [] = refl
length-laid at (h ∷ hs) = ap suc (length-laid (at + h.len) hs)

pub floats-laid : (at : ℕ) (es : List Held) → floats (laid at es) ≡ floats es
unfolding laid floats
floats-laid at [] = refl
floats-laid at (h ∷ hs) = ap (λ (k : ℕ). h.len + k) (floats-laid (at + h.len) hs)

pub end-laid : (at : ℕ) (es : List Held) → end_of at (laid at es) ≡ at + floats es
unfolding laid floats end_of
end-laid at [] = sym (add-zero at)
end-laid at (h ∷ hs) = end-laid (at + h.len) hs ∙ add_assoc at h.len (floats hs)

pub order-laid : (at n : ℕ) (es : List Held) → at + floats es ≤ n → in_order at n (laid at es) ≡ true
unfolding laid floats in_order
order-laid at n [] l = le-leb at n (omega arith)
order-laid at n (h ∷ hs) l = order-cons at n (held h.key at h.len) (laid (at + h.len) hs) (omega arith) (order-laid (at + h.len) n hs (omega arith))

pub floats-append : (es fs : List Held) → floats (es ++ fs) ≡ floats es + floats fs
unfolding floats
floats-append [] fs = sym (zero-add (floats fs))
floats-append (h ∷ hs) fs = omega (arith, floats-append hs fs)
