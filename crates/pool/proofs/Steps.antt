-- Each call is a step on the map: what specs/Map.antt states. Assumes nothing.
use mathlib.Core.Path.{◌≡◌, refl, sym, ap, ◌∙◌}
use mathlib.Core.Bool.{Bool, true, false, not, ◌&&◌, ◌||◌, cond}
use mathlib.Core.List.{List, [], ◌∷◌, ◌++◌}
use Prim.Native.Nat.{ℕ, ◌+◌, ◌≤◌, ◌<◌}
use native.Mathlib.Omega.{arith}
use borrow.Author.Tests.{leb-true, ltb-true, eqb-true, eqb-false}
use lib.Dec.{eqb, leb, ltb}
use lib.ListN.{length, length-append}
use lib.Ieee.{Float}
use Rattle.buffers.specs.Region.{region, put}
use Rattle.buffers.proofs.Lists.{and_left, and_right}
use Rattle.buffers.proofs.Regions.{length-put, region-put-same}
use Rattle.picture_limits.specs.declared.Refusal as F
use Rattle.picture_limits.specs.Refusal as R
use Rattle.picture_limits.specs.Refusal.{unless}
use Rattle.pool_books.specs.declared.Held.{Held}
use Rattle.pool_books.specs.declared.Pool.{Pool}
use Rattle.std.specs.Prelude.{Ok, Err}
use Rattle.pool_books.specs.Lookup.{place}
use Rattle.pool_books.specs.Book.{held, entries, with, floats, end_of, in_order, well_made, joined, has, without, key_of}
use Rattle.pool.specs.Pool.{refused, done, room_behind, ready, ready_slice, behind, add_answer, find_answer, drop_answer}
use Rattle.pool_books.specs.Lookup.{lookup, found_number}
use Rattle.pool.specs.Map.{Result, result, key_in, results, map_of, add_number, Whole, Adds, AddSteps, Drops, DropSteps, FindSteps}
use Rattle.pool_books.proofs.Orders.{made-says, made-is, length-entries, with_entries, order-more, order-laid, end-laid, length-laid, floats-laid}
use Rattle.pool.proofs.Lookups.{lookup-inside, without-none, length_without, order-without}
use Rattle.pool.proofs.Adds.{add-held, add_none, add-full, add_done}
use Rattle.pool.proofs.Results.{length-results, has-results, without-results, results-append, size-results, vectors-found, results-put, length-joined, results-laid, has-laid}

-- ---- find

found_number_lem : (k : ℕ) (es : List Held) → found_number (lookup k es) ≡ unless (has key_of k es) 26 0
unfolding lookup has
found_number_lem k [] = refl
found_number_lem k (h ∷ hs) = go (eqb h.key k) (found_number_lem k hs)
  where
    go : (b : Bool) → found_number (lookup k hs) ≡ unless (has key_of k hs) 26 0 → found_number (cond b (Ok (place h.start h.len)) (lookup k hs)) ≡ unless (b || has key_of k hs) 26 0
    go true r = refl
    go false r = r

pub find-steps : FindSteps
unfolding find_answer
find-steps p s k w m =
    let es = entries p in
    record {
      number_is = rw m (found_number_lem k es ∙ ap (λ (b : Bool). unless b 26 0) (sym (has-results k s es)));
      inside = rw m (lookup-inside k 0 (length s) es (made-says p (length s) m).order);
      vectors-are = rw m (vectors-found k s es);
    }

-- ---- drop

pub whole_with : (p : Pool) (es : List Held) → Whole p → Whole (with p es)
whole_with p es w = length-put p.held 0 es ∙ w

pub made-with : (p : Pool) (n : ℕ) (es : List Held) → Whole p → p.len ≡ n → length es ≤ 64 → in_order 0 n es ≡ true → well_made (with p es) n ≡ true
made-with p n es w e l o = made-is (with p es) n e l (rw (with_entries p es (omega (arith, w))) o)

pub drop-done : (p : Pool) (n k : ℕ) → well_made p n ≡ true → has key_of k (entries p) ≡ true → drop_answer p n k ≡ done (with p (without key_of k (entries p)))
unfolding drop_answer
drop-done p n k m h = rw (m, h)

pub drop-refused : (p : Pool) (n k : ℕ) → well_made p n ≡ true → has key_of k (entries p) ≡ false → drop_answer p n k ≡ refused p F.Refusal.KeyUnknown
unfolding drop_answer
drop-refused p n k m h = rw (m, h)

-- what is left has at most 64
pub few-left : (p : Pool) (k : ℕ) → Whole p → p.count ≤ 64 → length (without key_of k (entries p)) ≤ 64
few-left p k w l = omega (arith, length_without k (entries p), length-entries p (omega (arith, w)))

pub drop-steps : DropSteps
drop-steps p s k w m = go (has key_of k (entries p)) refl
  where
    go : (b : Bool) → has key_of k (entries p) ≡ b → Drops p s k
    go true e =
        let d = drop-done p (length s) k m e in
        let q = made-says p (length s) m in
        let l = few-left p k w q.few in
        record {
          number_is = rw (d, has-results k s (entries p), e) refl;
          map_is = rw (d, with_entries p (without key_of k (entries p)) (omega (arith, w))) (without-results k s (entries p));
          whole = rw d (whole_with p (without key_of k (entries p)) w);
          made = rw d (made-with p (length s) (without key_of k (entries p)) w q.for l (order-without k 0 (length s) (entries p) q.order));
        }
    go false e =
        let d = drop-refused p (length s) k m e in
        record {
          number_is = rw (d, has-results k s (entries p), e) refl;
          map_is = rw d (sym (without-none key_in k (results s (entries p)) (has-results k s (entries p) ∙ e)));
          whole = rw d w;
          made = rw d m;
        }

-- ---- add

-- the held results before the new one is put behind them
pub record Readied (p : Pool) (s : List Float) (m : ℕ) : Type 0 where
  pub order : in_order 0 (length s) (ready p (length s) m) ≡ true
  pub same : results (ready_slice p s m) (ready p (length s) m) ≡ results s (entries p)
  pub long : length (ready_slice p s m) ≡ length s
  pub many : length (ready p (length s) m) ≡ length (entries p)
  pub fits : behind p (length s) m + m ≤ length s
  pub sums : floats (ready p (length s) m) ≡ floats (entries p)
  pub keys : (k : ℕ) → has key_of k (ready p (length s) m) ≡ has key_of k (entries p)

pub readied : (p : Pool) (s : List Float) (m : ℕ) → well_made p (length s) ≡ true → floats (entries p) + m ≤ length s → Readied p s m
readied p s m e l = go (room_behind p (length s) m) refl
  where
    go : (b : Bool) → room_behind p (length s) m ≡ b → Readied p s m
    go true r =
        record {
          order = rw r (made-says p (length s) e).order;
          same = rw r refl;
          long = rw r refl;
          many = rw r refl;
          fits = rw r (leb-true (end_of 0 (entries p) + m) (length s) r);
          sums = rw r refl;
          keys = λ k. rw r refl;
        }
    go false r =
        let es = entries p in
        let o = (made-says p (length s) e).order in
        let j = length-joined s 0 es o in
        record {
          order = rw r (order-laid 0 (length s) es (omega arith));
          same = rw r (results-laid s (put s 0 (joined s es)) 0 0 es o (region-put-same s 0 (joined s es) (floats es) (sym j) (omega (arith, j))));
          long = rw r (length-put s 0 (joined s es));
          many = rw r (length-laid 0 es);
          fits = rw r (omega (arith, end-laid 0 es));
          sums = rw r (floats-laid 0 es);
          keys = λ k. rw r (has-laid k 0 es);
        }

-- the map's number, by the bookkeeping
number_by : (p : Pool) (s : List Float) (k : ℕ) (vs : List Float) → Whole p → well_made p (length s) ≡ true
    → add_number (length s) (map_of p s) k vs
    ≡ unless (not (has key_of k (entries p))) 23 (unless (not (eqb (length vs) 0)) 24 (unless (ltb p.count 64 && leb (floats (entries p) + length vs) (length s)) 25 0))
unfolding add_number
number_by p s k vs w m =
    let q = made-says p (length s) m in
    let n : length (results s (entries p)) ≡ p.count = length-results s (entries p) ∙ length-entries p (omega (arith, w, q.few)) in
    rw (has-results k s (entries p), n, size-results s 0 (entries p) q.order)

refused-adds : (p : Pool) (s : List Float) (k : ℕ) (vs : List Float) (r : F.Refusal) → Whole p → well_made p (length s) ≡ true
    → add_answer p s k vs ≡ refused p r → add_number (length s) (map_of p s) k vs ≡ R.number r → eqb (R.number r) 0 ≡ false → Adds p s k vs
refused-adds p s k vs r w m a n z =
    record {
      number_is = rw a (sym n);
      map_is = rw (a, n, z) refl;
      whole = rw a w;
      made = rw a m;
      as_long = rw a refl;
    }

done-adds : (p : Pool) (s : List Float) (k : ℕ) (vs : List Float) → Whole p → well_made p (length s) ≡ true → p.count < 64 → floats (entries p) + length vs ≤ length s
    → add_answer p s k vs ≡ done (with p (ready p (length s) (length vs) ++ (held k (behind p (length s) (length vs)) (length vs) ∷ [])))
    → add_number (length s) (map_of p s) k vs ≡ 0 → Adds p s k vs
unfolding results
done-adds p s k vs w m c l a n =
    let q = made-says p (length s) m in
    let r = readied p s (length vs) m l in
    let b = behind p (length s) (length vs) in
    let es = ready p (length s) (length vs) in
    let t = ready_slice p s (length vs) in
    let new : List Held = held k b (length vs) ∷ [] in
    let i : length (es ++ new) ≤ 64 = omega (arith, length-append es new, r.many, length-entries p (omega (arith, w))) in
    let f : entries (with p (es ++ new)) ≡ es ++ new = with_entries p (es ++ new) (omega (arith, w)) in
    let x : results (put t b vs) es ≡ results s (entries p) = results-put t 0 (length s) b vs es r.order (omega arith) ∙ r.same in
    let y : region (put t b vs) b (length vs) ≡ vs = region-put-same t b vs (length vs) refl (omega (arith, r.fits, r.long)) in
    record {
      number_is = rw a (sym n);
      map_is =
          rw (a, n) (ap (results (put t b vs)) f ∙ results-append (put t b vs) es new ∙ ap (λ (z : List Result). z ++ results (put t b vs) new) x
          ∙ ap (λ (z : List Float). results s (entries p) ++ (result k z ∷ [])) y);
      whole = rw a (whole_with p (es ++ new) w);
      made = rw a (made-with p (length s) (es ++ new) w q.for i (order-more 0 (length s) es (held k b (length vs)) r.order (omega arith) r.fits));
      as_long = rw a (length-put t b vs ∙ r.long);
    }

pub add-steps : AddSteps
add-steps p s k vs w m = go (has key_of k (entries p)) refl (eqb (length vs) 0) refl (ltb p.count 64 && leb (floats (entries p) + length vs) (length s)) refl
  where
    go : (x : Bool) → has key_of k (entries p) ≡ x → (y : Bool) → eqb (length vs) 0 ≡ y → (z : Bool) → ltb p.count 64 && leb (floats (entries p) + length vs) (length s) ≡ z → Adds p s k vs
    go true e y f z g = refused-adds p s k vs F.Refusal.KeyHeld w m (add-held p s k vs m e) (number_by p s k vs w m ∙ rw e) refl
    go false e true f z g = refused-adds p s k vs F.Refusal.NoVectors w m (add_none p s k vs m e (eqb-true (length vs) 0 f)) (number_by p s k vs w m ∙ rw (e, f)) refl
    go false e false f false g = refused-adds p s k vs F.Refusal.PoolFull w m (add-full p s k vs m e (eqb-false (length vs) 0 f) g) (number_by p s k vs w m ∙ rw (e, f, g)) refl
    go false e false f true g =
        done-adds p s k vs w m
        (ltb-true p.count 64 (and_left (ltb p.count 64) (leb (floats (entries p) + length vs) (length s)) g))
        (leb-true (floats (entries p) + length vs) (length s) (and_right (ltb p.count 64) (leb (floats (entries p) + length vs) (length s)) g))
        (add_done p s k vs m e (eqb-false (length vs) 0 f) g) (number_by p s k vs w m ∙ rw (e, f, g))
