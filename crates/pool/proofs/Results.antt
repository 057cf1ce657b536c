-- Laws of what a pool stands for. Assumes nothing.
use mathlib.Core.Path.{◌≡◌, refl, sym, ap, ◌∙◌}
use mathlib.Core.Bool.{Bool, true, false, ◌||◌, cond}
use mathlib.Core.List.{List, [], ◌∷◌, ◌++◌}
use Prim.Native.Nat.{ℕ, suc, ◌+◌, ◌≤◌}
use native.Mathlib.Nat.{add-zero}
use native.Mathlib.Omega.{arith}
use lib.Dec.{eqb}
use lib.ListN.{length, take, length-append}
use lib.Seq.{take_at, drop_at, take_all}
use lib.Ieee.{Float}
use Rattle.buffers.specs.Region.{region, put}
use Rattle.buffers.specs.inner.Apart.{before}
use Rattle.buffers.proofs.Regions.{region-put, region-region, length-region}
use Rattle.pool_books.specs.declared.Held.{Held}
use Rattle.std.specs.Prelude.{Ok, Err}
use Rattle.pool_books.specs.Lookup.{place}
use Rattle.pool_books.specs.Book.{floats, end_of, in_order, laid, joined, has, without, key_of}
use Rattle.pool_books.specs.Lookup.{lookup, found_start, found_len}
use Rattle.pool.specs.Map.{Result, result, key_in, results, size, vectors_in}
use Rattle.pool_books.proofs.Orders.{order-rest, order-at, order-floats}

pub length-results : (s : List Float) (es : List Held) → length (results s es) ≡ length es
unfolding results
length-results s [] = refl
length-results s (h ∷ hs) = ap suc (length-results s hs)

pub has-results : (k : ℕ) (s : List Float) (es : List Held) → has key_in k (results s es) ≡ has key_of k es
unfolding results has
has-results k s [] = refl
has-results k s (h ∷ hs) = ap (λ (b : Bool). eqb h.key k || b) (has-results k s hs)

pub without-results : (k : ℕ) (s : List Float) (es : List Held) → results s (without key_of k es) ≡ without key_in k (results s es)
unfolding results without
without-results k s [] = refl
without-results k s (h ∷ hs) = go (eqb h.key k) (without-results k s hs)
  where
    go : (b : Bool) → results s (without key_of k hs) ≡ without key_in k (results s hs)
        → results s (cond b hs (h ∷ without key_of k hs)) ≡ cond b (results s hs) (result h.key (region s h.start h.len) ∷ without key_in k (results s hs))
    go true r = refl
    go false r = ap (λ (l : List Result). result h.key (region s h.start h.len) ∷ l) r

pub results-append : (s : List Float) (es fs : List Held) → results s (es ++ fs) ≡ results s es ++ results s fs
unfolding results
results-append s [] fs = refl
results-append s (h ∷ hs) fs = ap (λ (l : List Result). result h.key (region s h.start h.len) ∷ l) (results-append s hs fs)

pub size-results : (s : List Float) (at : ℕ) (es : List Held) → in_order at (length s) es ≡ true → size (results s es) ≡ floats es
unfolding results size floats
size-results s at [] e = refl
size-results s at (h ∷ hs) e =
    let r = order-rest at (length s) h hs e in
    omega (arith, length-region s h.start h.len (order-at (h.start + h.len) (length s) hs r), size-results s (h.start + h.len) hs r)

pub vectors-found : (k : ℕ) (s : List Float) (es : List Held) → region s (found_start (lookup k es)) (found_len (lookup k es)) ≡ vectors_in k (results s es)
unfolding results vectors_in lookup
vectors-found k s [] = refl
vectors-found k s (h ∷ hs) = go (eqb h.key k) (vectors-found k s hs)
  where
    go : (b : Bool) → region s (found_start (lookup k hs)) (found_len (lookup k hs)) ≡ vectors_in k (results s hs)
        → region s (found_start (cond b (Ok (place h.start h.len)) (lookup k hs))) (found_len (cond b (Ok (place h.start h.len)) (lookup k hs)))
        ≡ cond b (region s h.start h.len) (vectors_in k (results s hs))
    go true r = refl
    go false r = r

-- a write behind the last of them
pub results-put : (s : List Float) (at n b : ℕ) (ys : List Float) (es : List Held) → in_order at n es ≡ true → end_of at es ≤ b → results (put s b ys) es ≡ results s es
unfolding results end_of
results-put s at n b ys [] e l = refl
results-put s at n b ys (h ∷ hs) e l =
    let r = order-rest at n h hs e in
    let x = region-put s b ys h.start h.len (before (omega (arith, l, order-floats (h.start + h.len) n hs r))) in
    let y = results-put s (h.start + h.len) n b ys hs r l in
    cc

pub length-joined : (s : List Float) (at : ℕ) (es : List Held) → in_order at (length s) es ≡ true → length (joined s es) ≡ floats es
unfolding joined floats
length-joined s at [] e = refl
length-joined s at (h ∷ hs) e =
    let r = order-rest at (length s) h hs e in
    length-append (region s h.start h.len) (joined s hs)
    ∙ omega (arith, length-region s h.start h.len (order-at (h.start + h.len) (length s) hs r), length-joined s (h.start + h.len) hs r)

-- laid from b on, where their joined vectors stand there
pub results-laid : (s t : List Float) (at b : ℕ) (es : List Held) → in_order at (length s) es ≡ true → region t b (floats es) ≡ joined s es → results t (laid b es) ≡ results s es
unfolding results laid floats joined
results-laid s t at b [] e g = refl
results-laid s t at b (h ∷ hs) e g =
    let r = order-rest at (length s) h hs e in
    let len = length-region s h.start h.len (order-at (h.start + h.len) (length s) hs r) in
    let first : region t b h.len ≡ region s h.start h.len =
    sym (region-region t b (h.len + floats hs) 0 h.len (omega arith) ∙ ap (λ (x : ℕ). region t x h.len) (add-zero b))
    ∙ ap (λ (l : List Float). region l 0 h.len) g
    ∙ take_at (region s h.start h.len) (joined s hs) h.len len in
    let rest : region t (b + h.len) (floats hs) ≡ joined s hs =
    sym (region-region t b (h.len + floats hs) h.len (floats hs) (omega arith))
    ∙ ap (λ (l : List Float). region l h.len (floats hs)) g
    ∙ ap (take (floats hs)) (drop_at (region s h.start h.len) (joined s hs) h.len len)
    ∙ whole hs r in
    let y = results-laid s t (h.start + h.len) (b + h.len) hs r rest in
    cc
  where
    whole : (hs : List Held) → in_order (h.start + h.len) (length s) hs ≡ true → take (floats hs) (joined s hs) ≡ joined s hs
    whole hs r = take_all (floats hs) (joined s hs) (omega (arith, length-joined s (h.start + h.len) hs r))

pub has-laid : (k at : ℕ) (es : List Held) → has key_of k (laid at es) ≡ has key_of k es
unfolding laid has
has-laid k at [] = refl
has-laid k at (h ∷ hs) = ap (λ (b : Bool). eqb h.key k || b) (has-laid k (at + h.len) hs)
