-- What is true after any calls since the pool was made: what specs/Calls.antt states. Assumes nothing.
use mathlib.Core.Path.{◌≡◌, refl, sym, ap, ◌∙◌}
use mathlib.Core.Bool.{Bool, true, false, not, ◌&&◌, ◌||◌, cond, true≢false}
use mathlib.Core.List.{List, [], ◌∷◌, ◌++◌}
use Prim.Native.Nat.{ℕ, ◌+◌, ◌-◌, ◌≤◌, ◌<◌}
use native.Mathlib.Nat.{add-zero}
use native.Mathlib.Omega.{arith}
use borrow.Author.Tests.{leb-true, ltb-true, eq-eqb, ne_eqb, eqb-true, eqb-false, le-leb, not-true}
use lib.Dec.{eqb, leb, ltb}
use lib.ListN.{length, length-append, length-replicate}
use lib.Ieee.{Float}
use Rattle.buffers.specs.Region.{region}
use Rattle.buffers.proofs.Lists.{and_left, and_right}
use Rattle.buffers.proofs.Regions.{length-region}
use Rattle.picture_limits.specs.declared.Refusal as F
use Rattle.pool_books.specs.declared.Held.{Held}
use Rattle.pool_books.specs.declared.Pool.{Pool}
use Rattle.pool.specs.Pool.{Pooled, Outcome}
use Rattle.std.specs.Prelude.{Ok, Err}
use Rattle.pool_books.specs.Lookup.{place}
use Rattle.pool_books.specs.Book.{held, entries, with, floats, in_order, well_made, laid, has, without, key_of}
use Rattle.pool.specs.Pool.{new_pool, refused, done, room_behind, ready, behind, add_answer, add_slice, find_answer, drop_answer, number}
use Rattle.pool_books.specs.Lookup.{lookup, found_start, found_len}
use Rattle.pool.specs.Map.{Adds, add_number, Result, result, key_in, map_of, vectors_in, Whole}
use Rattle.pool.specs.Calls as C
use Rattle.pool.specs.Calls.{Since, if_done, differ, Sound, Balance, Full, Gone, AddMoves, DropMoves, Lent, Kept, Keeps}
use Rattle.pool_books.proofs.Orders.{made-says, made-is, length-entries, with_entries, floats-append}
use Rattle.pool.proofs.Lookups.{held_at, none-lookup, floats-without, order-without}
use Rattle.pool.proofs.Adds.{add-unmade, add-held, add_none, add-full, add_done}
use Rattle.pool.proofs.Answers.{drop-unmade}
use Rattle.pool.proofs.Results.{has-results, has-laid}
use Rattle.pool.proofs.Steps.{readied, add-steps, drop-steps, find-steps, drop-done, drop-refused, few-left, made-with}

-- ---- no key twice

has-append : {A : Type 0} (key : A → ℕ) (k : ℕ) (l m : List A) → has key k (l ++ m) ≡ has key k l || has key k m
unfolding has
has-append key k [] m = refl
has-append key k (a ∷ l) m = ap (λ (b : Bool). eqb (key a) k || b) (has-append key k l m) ∙ go (eqb (key a) k)
  where
    go : (b : Bool) → b || (has key k l || has key k m) ≡ (b || has key k l) || has key k m
    go true = refl
    go false = refl

or_left : (a b : Bool) → a || b ≡ false → a ≡ false
or_left true b e = e
or_left false b e = refl

or_right : (a b : Bool) → a || b ≡ false → b ≡ false
or_right true b e = absurd (true≢false e)
or_right false b e = e

differ-laid : (at : ℕ) (es : List Held) → differ (laid at es) ≡ differ es
unfolding laid differ
differ-laid at [] = refl
differ-laid at (h ∷ hs) = rw (has-laid h.key (at + h.len) hs, differ-laid (at + h.len) hs)

differ-ready : (p : Pool) (n m : ℕ) → differ (entries p) ≡ true → differ (ready p n m) ≡ true
differ-ready p n m e = go (room_behind p n m) refl
  where
    go : (b : Bool) → room_behind p n m ≡ b → differ (ready p n m) ≡ true
    go true r = rw r e
    go false r = rw r (differ-laid 0 (entries p) ∙ e)

differ-more : (x : Held) (es : List Held) → has key_of x.key es ≡ false → differ es ≡ true → differ (es ++ (x ∷ [])) ≡ true
unfolding has differ
differ-more x [] e d = refl
differ-more x (h ∷ hs) e d =
    let a : eqb x.key h.key ≡ false = ne_eqb x.key h.key (λ z. eqb-false h.key x.key (or_left (eqb h.key x.key) (has key_of x.key hs) e) (sym z)) in
    let b = not-true (has key_of h.key hs) (and_left (not (has key_of h.key hs)) (differ hs) d) in
    let c = differ-more x hs (or_right (eqb h.key x.key) (has key_of x.key hs) e) (and_right (not (has key_of h.key hs)) (differ hs) d) in
    rw (has-append key_of h.key hs (x ∷ []), b, a, c)

-- what was not held is not held without a key
none-without : {A : Type 0} (key : A → ℕ) (j k : ℕ) (l : List A) → has key j l ≡ false → has key j (without key k l) ≡ false
unfolding has without
none-without key j k [] e = refl
none-without key j k (a ∷ l) e =
    go (eqb (key a) k) (or_left (eqb (key a) j) (has key j l) e) (or_right (eqb (key a) j) (has key j l) e) (none-without key j k l (or_right (eqb (key a) j) (has key j l) e))
  where
    go : (b : Bool) → eqb (key a) j ≡ false → has key j l ≡ false → has key j (without key k l) ≡ false → has key j (cond b l (a ∷ without key k l)) ≡ false
    go true x y r = y
    go false x y r = rw (x, r)

differ-without : (k : ℕ) (es : List Held) → differ es ≡ true → differ (without key_of k es) ≡ true
unfolding differ without
differ-without k [] d = refl
differ-without k (h ∷ hs) d =
    let a = and_left (not (has key_of h.key hs)) (differ hs) d in
    let b = and_right (not (has key_of h.key hs)) (differ hs) d in
    go (eqb h.key k) b (none-without key_of h.key k hs (not-true (has key_of h.key hs) a)) (differ-without k hs b)
  where
    go : (b : Bool) → differ hs ≡ true → has key_of h.key (without key_of k hs) ≡ false → differ (without key_of k hs) ≡ true → differ (cond b hs (h ∷ without key_of k hs)) ≡ true
    go true x y r = x
    go false x y r = rw (y, r)

-- a key that is left out is held no longer
none_left : (k : ℕ) (es : List Held) → differ es ≡ true → has key_of k (without key_of k es) ≡ false
unfolding has differ without
none_left k [] d = refl
none_left k (h ∷ hs) d =
    go (eqb h.key k) refl (not-true (has key_of h.key hs) (and_left (not (has key_of h.key hs)) (differ hs) d)) (none_left k hs (and_right (not (has key_of h.key hs)) (differ hs) d))
  where
    go : (b : Bool) → eqb h.key k ≡ b → has key_of h.key hs ≡ false → has key_of k (without key_of k hs) ≡ false → has key_of k (cond b hs (h ∷ without key_of k hs)) ≡ false
    go true e x r = rw (eqb-true h.key k e) at x
    go false e x r = rw (e, r)

-- ---- a call is refused, or accepted

pub record Accepts (p : Pool) (s : List Float) (k : ℕ) (vs : List Float) : Type 0 where
  pub made : well_made p (length s) ≡ true
  pub new : has key_of k (entries p) ≡ false
  pub few : p.count < 64
  pub fits : floats (entries p) + length vs ≤ length s
  pub is : add_answer p s k vs ≡ done (with p (ready p (length s) (length vs) ++ (held k (behind p (length s) (length vs)) (length vs) ∷ [])))

pub data Case (p : Pool) (s : List Float) (k : ℕ) (vs : List Float) : Type 0 where
  refuses : (r : F.Refusal) → add_answer p s k vs ≡ refused p r → Case p s k vs
  accepts : Accepts p s k vs → Case p s k vs

pub add-case : (p : Pool) (s : List Float) (k : ℕ) (vs : List Float) → Case p s k vs
add-case p s k vs =
    go (well_made p (length s)) refl (has key_of k (entries p)) refl (eqb (length vs) 0) refl (ltb p.count 64 && leb (floats (entries p) + length vs) (length s)) refl
  where
    go : (m : Bool) → well_made p (length s) ≡ m → (x : Bool) → has key_of k (entries p) ≡ x → (y : Bool) → eqb (length vs) 0 ≡ y
        → (z : Bool) → ltb p.count 64 && leb (floats (entries p) + length vs) (length s) ≡ z → Case p s k vs
    go false m x e y f z g = refuses F.Refusal.PoolSlice (add-unmade p s k vs m)
    go true m true e y f z g = refuses F.Refusal.KeyHeld (add-held p s k vs m e)
    go true m false e true f z g = refuses F.Refusal.NoVectors (add_none p s k vs m e (eqb-true (length vs) 0 f))
    go true m false e false f false g = refuses F.Refusal.PoolFull (add-full p s k vs m e (eqb-false (length vs) 0 f) g)
    go true m false e false f true g =
        accepts record {
          made = m;
          new = e;
          few = ltb-true p.count 64 (and_left (ltb p.count 64) (leb (floats (entries p) + length vs) (length s)) g);
          fits = leb-true (floats (entries p) + length vs) (length s) (and_right (ltb p.count 64) (leb (floats (entries p) + length vs) (length s)) g);
          is = add_done p s k vs m e (eqb-false (length vs) 0 f) g;
        }

pub record Leaves (p : Pool) (n k : ℕ) : Type 0 where
  pub made : well_made p n ≡ true
  pub there : has key_of k (entries p) ≡ true
  pub is : drop_answer p n k ≡ done (with p (without key_of k (entries p)))

pub data DropCase (p : Pool) (n k : ℕ) : Type 0 where
  keeps-it : (r : F.Refusal) → drop_answer p n k ≡ refused p r → DropCase p n k
  leaves : Leaves p n k → DropCase p n k

pub drop-case : (p : Pool) (n k : ℕ) → DropCase p n k
drop-case p n k = go (well_made p n) refl (has key_of k (entries p)) refl
  where
    go : (m : Bool) → well_made p n ≡ m → (x : Bool) → has key_of k (entries p) ≡ x → DropCase p n k
    go false m x e = keeps-it F.Refusal.PoolSlice (sym (drop-unmade p n k m))
    go true m false e = keeps-it F.Refusal.KeyUnknown (drop-refused p n k m e)
    go true m true e = leaves record { made = m; there = e; is = drop-done p n k m e }

-- ---- 4. a refused call moves nothing

never : (r : F.Refusal) → ◌≡◌ {A = Outcome} (Ok tt) (Err r) → ⊥
never r e = let z : ◌≡◌ {A = ℕ} 0 1 = cc in omega arith

pub add-moves : AddMoves
add-moves p s k vs r e = go (add-case p s k vs)
  where
    go : Case p s k vs → ((add_answer p s k vs).pool ≡ p) × (add_slice p s k vs ≡ s)
    go (refuses q a) = (rw a refl, rw a refl)
    go (accepts a) = absurd (never r (rw a.is at e))

pub drop-moves : DropMoves
drop-moves p n k r e = go (drop-case p n k)
  where
    go : DropCase p n k → (drop_answer p n k).pool ≡ p
    go (keeps-it q a) = rw a refl
    go (leaves a) = absurd (never r (rw a.is at e))

-- ---- 1. and 2.

other_length : (p : Pool) (n m : ℕ) → p.len ≡ n → (m ≡ n → ⊥) → well_made p m ≡ false
unfolding well_made
other_length p n m e d = rw (ne_eqb p.len m (λ z. d (sym z ∙ e)))

found-is : (p : Pool) (n k : ℕ) → well_made p n ≡ true → find_answer p n k ≡ lookup k (entries p)
unfolding find_answer
found-is p n k m = rw m

pub balance : Balance
unfolding floats in_order differ
balance n p a d C.new =
    record {
      balance = refl;
      whole = length-replicate 64 (held 0 0 0);
      made = made-is (new_pool n) n refl (omega arith) (le-leb 0 n (omega arith));
      other = λ m e. other_length (new_pool n) n m refl e;
      keys = refl;
    }
balance n p a d (C.add {p = q} {a = b} {d = f} c s k vs) = go (add-case q s k vs) (balance n q b f c)
  where
    go : Case q s k vs → Sound n q b f → Sound n (add_answer q s k vs).pool (b + if_done (add_answer q s k vs).outcome (length vs)) f
    go (refuses r e) o = rw e (record { balance = o.balance ∙ sym (add-zero b); whole = o.whole; made = o.made; other = o.other; keys = o.keys })
    go (accepts x) o =
        let t = add-steps q s k vs o.whole x.made in
        let l : length s ≡ n = sym (made-says q (length s) x.made).for ∙ (made-says q n o.made).for in
        let r = readied q s (length vs) x.made x.fits in
        let es = ready q (length s) (length vs) in
        let new : List Held = held k (behind q (length s) (length vs)) (length vs) ∷ [] in
        let i = length-entries q (omega (arith, o.whole, x.few)) in
        let g : entries (with q (es ++ new)) ≡ es ++ new = with_entries q (es ++ new) (omega (arith, length-append es new, r.many, o.whole, x.few)) in
        record {
          balance = rw (x.is, g, floats-append es new, r.sums) (omega (arith, o.balance));
          whole = t.whole;
          made = rw l at t.made;
          other = λ m e. rw x.is (other_length (with q (es ++ new)) n m (made-says q n o.made).for e);
          keys = rw (x.is, g) (differ-more (held k (behind q (length s) (length vs)) (length vs)) es (r.keys k ∙ x.new) (differ-ready q (length s) (length vs) o.keys));
        }
balance n p a d (C.drop {p = q} {a = b} {d = f} c s k) = go (drop-case q (length s) k) (balance n q b f c)
  where
    go : DropCase q (length s) k → Sound n q b f → Sound n (drop_answer q (length s) k).pool b (f + if_done (drop_answer q (length s) k).outcome (found_len (find_answer q (length s) k)))
    go (keeps-it r e) o = rw e (record { balance = omega (arith, o.balance); whole = o.whole; made = o.made; other = o.other; keys = o.keys })
    go (leaves x) o =
        let t = drop-steps q s k o.whole x.made in
        let l : length s ≡ n = sym (made-says q (length s) x.made).for ∙ (made-says q n o.made).for in
        let es = without key_of k (entries q) in
        let g : entries (with q es) ≡ es = with_entries q es (omega (arith, few-left q k o.whole (made-says q n o.made).few, o.whole)) in
        record {
          balance = rw (x.is, g, found-is q (length s) k x.made) (omega (arith, o.balance, floats-without k (entries q)));
          whole = t.whole;
          made = ap (well_made (drop_answer q (length s) k).pool) (sym l) ∙ t.made;
          other = λ m e. rw x.is (other_length (with q es) n m (made-says q n o.made).for e);
          keys = rw (x.is, g) (differ-without k (entries q) o.keys);
        }

pub full : Full
full n p a d c s k vs l h v =
    let o = balance n p a d c in
    let m : well_made p (length s) ≡ true = ap (well_made p) l ∙ o.made in
    let e : a - d ≡ floats (entries p) = omega (arith, o.balance) in
    rw (e, ← l) (go m (ltb p.count 64 && leb (floats (entries p) + length vs) (length s)) refl)
  where
    go : well_made p (length s) ≡ true → (z : Bool) → ltb p.count 64 && leb (floats (entries p) + length vs) (length s) ≡ z → (add_answer p s k vs).outcome ≡ cond z (Ok tt) (Err F.Refusal.PoolFull)
    go m true g = rw (add_done p s k vs m h (λ z. omega arith) g) refl
    go m false g = rw (add-full p s k vs m h (λ z. omega arith) g) refl

-- ---- 3. a dropped key is unknown

pub gone : Gone
gone n p a d c k e = go (balance n p a d c) (drop-case p n k)
  where
    go : Sound n p a d → DropCase p n k → find_answer (drop_answer p n k).pool n k ≡ Err F.Refusal.KeyUnknown
    go o (keeps-it r x) = absurd (never r (sym (rw x at e)))
    go o (leaves x) =
        let es = without key_of k (entries p) in
        let q = made-says p n o.made in
        let f = few-left p k o.whole q.few in
        let m = made-with p n es o.whole q.for f (order-without k 0 n (entries p) q.order) in
        let g : entries (with p es) ≡ es = with_entries p es (omega (arith, f, o.whole)) in
        rw (x.is, found-is (with p es) n k m, g) (none-lookup k es (none_left k (entries p) o.keys))

-- ---- 5. what was added is found

-- some calls since new led here
pub record Led (n : ℕ) (p : Pool) (s : List Float) : Type 0 where
  pub a : ℕ
  pub d : ℕ
  pub since : Since n p a d
  pub long : length s ≡ n

pub led-made : (n : ℕ) (p : Pool) (s : List Float) → Led n p s → Whole p × (well_made p (length s) ≡ true)
led-made n p s l = let o = balance n p l.a l.d l.since in (o.whole, ap (well_made p) l.long ∙ o.made)

pub led : (n : ℕ) (p : Pool) (s : List Float) → Lent n p s → Led n p s
led n p s (C.new t e) = record { a = 0; d = 0; since = C.new; long = e }
led n p s (C.add {p = q} {s = t} c k vs) =
    let l = led n q t c in
    let m = led-made n q t l in
    record { a = _; d = _; since = C.add l.since t k vs; long = (add-steps q t k vs m.0 m.1).as_long ∙ l.long }
led n p s (C.drop {p = q} {s = t} c k) = let l = led n q t c in record { a = _; d = _; since = C.drop l.since t k; long = l.long }

pub kept-lent : (n k : ℕ) (vs : List Float) (p : Pool) (s : List Float) → Kept n k vs p s → Lent n p s
kept-lent n k vs p s (C.added c e) = C.add c k vs
kept-lent n k vs p s (C.add {p = q} {s = t} c j ws) = C.add (kept-lent n k vs q t c) j ws
kept-lent n k vs p s (C.drop {p = q} {s = t} c j e) = C.drop (kept-lent n k vs q t c) j

-- laws of the map
found-last : (k : ℕ) (vs : List Float) (m : List Result) → has key_in k m ≡ false → vectors_in k (m ++ (result k vs ∷ [])) ≡ vs
unfolding has vectors_in
found-last k vs [] e = rw (eq-eqb k k refl)
found-last k vs (r ∷ m) e = rw (or_left (eqb r.key k) (has key_in k m) e) (found-last k vs m (or_right (eqb r.key k) (has key_in k m) e))

found_first : (k : ℕ) (m l : List Result) → has key_in k m ≡ true → vectors_in k (m ++ l) ≡ vectors_in k m
unfolding has vectors_in
found_first k [] l e = absurd (true≢false (sym e))
found_first k (r ∷ m) l e = go (eqb r.key k) e (λ f. found_first k m l f)
  where
    go : (b : Bool) → b || has key_in k m ≡ true → (has key_in k m ≡ true → vectors_in k (m ++ l) ≡ vectors_in k m) → cond b r.vectors (vectors_in k (m ++ l)) ≡ cond b r.vectors (vectors_in k m)
    go true e f = refl
    go false e f = f e

-- another key is left out
module _ (j k : ℕ) (d : j ≡ k → ⊥) where
  apart : (x : ℕ) → eqb x j ≡ true → eqb x k ≡ false
  apart x e = ne_eqb x k (λ z. d (sym (eqb-true x j e) ∙ z))

  other-left : (m : List Result) → (has key_in k (without key_in j m) ≡ has key_in k m) × (vectors_in k (without key_in j m) ≡ vectors_in k m)
  unfolding has without vectors_in
  other-left [] = (refl, refl)
  other-left (r ∷ m) = go (eqb r.key j) refl (other-left m)
    where
      go : (b : Bool) → eqb r.key j ≡ b → (has key_in k (without key_in j m) ≡ has key_in k m) × (vectors_in k (without key_in j m) ≡ vectors_in k m)
          → (has key_in k (cond b m (r ∷ without key_in j m)) ≡ eqb r.key k || has key_in k m) × (vectors_in k (cond b m (r ∷ without key_in j m)) ≡ cond (eqb r.key k) r.vectors (vectors_in k m))
      go true e i = (rw (apart r.key e) refl, rw (apart r.key e) refl)
      go false e i = (ap (λ (b : Bool). eqb r.key k || b) i.0, ap (cond (eqb r.key k) r.vectors) i.1)

has_last : (k : ℕ) (vs : List Float) (m : List Result) → has key_in k (m ++ (result k vs ∷ [])) ≡ true
unfolding has
has_last k vs [] = rw (eq-eqb k k refl)
has_last k vs (r ∷ m) = rw (has_last k vs m) (right (eqb r.key k))
  where
    right : (b : Bool) → b || true ≡ true
    right true = refl
    right false = refl

-- the map after an add that was accepted
stepped : (p : Pool) (s : List Float) (k : ℕ) (vs : List Float) → Adds p s k vs → Accepts p s k vs → map_of (add_answer p s k vs).pool (add_slice p s k vs) ≡ map_of p s ++ (result k vs ∷ [])
stepped p s k vs a x =
    let n : add_number (length s) (map_of p s) k vs ≡ 0 = sym a.number_is ∙ ap (λ (o : Pooled). number o.outcome) x.is in
    a.map_is ∙ rw n

pub held-so : (n k : ℕ) (vs : List Float) (p : Pool) (s : List Float) → Kept n k vs p s → (has key_in k (map_of p s) ≡ true) × (vectors_in k (map_of p s) ≡ vs)
held-so n k vs p s (C.added {p = q} {s = t} c e) = go (led-made n q t (led n q t c)) (add-case q t k vs)
  where
    go : Whole q × (well_made q (length t) ≡ true) → Case q t k vs → (has key_in k (map_of (add_answer q t k vs).pool (add_slice q t k vs)) ≡ true) × (vectors_in k (map_of (add_answer q t k vs).pool (add_slice q t k vs)) ≡ vs)
    go m (refuses r x) = absurd (never r (sym (rw x at e)))
    go m (accepts x) =
        let a = add-steps q t k vs m.0 m.1 in
        let z = stepped q t k vs a x in
        (ap (has key_in k) z ∙ has_last k vs (map_of q t), ap (vectors_in k) z ∙ found-last k vs (map_of q t) (has-results k t (entries q) ∙ x.new))
held-so n k vs p s (C.add {p = q} {s = t} c j ws) = go (led-made n q t (led n q t (kept-lent n k vs q t c))) (held-so n k vs q t c) (add-case q t j ws)
  where
    go : Whole q × (well_made q (length t) ≡ true) → (has key_in k (map_of q t) ≡ true) × (vectors_in k (map_of q t) ≡ vs) → Case q t j ws
        → (has key_in k (map_of (add_answer q t j ws).pool (add_slice q t j ws)) ≡ true) × (vectors_in k (map_of (add_answer q t j ws).pool (add_slice q t j ws)) ≡ vs)
    go m i (refuses r x) = rw x i
    go m i (accepts x) =
        let z = stepped q t j ws (add-steps q t j ws m.0 m.1) x in (
          ap (has key_in k) z ∙ has-append key_in k (map_of q t) (result j ws ∷ []) ∙ ap (λ (b : Bool). b || has key_in k (result j ws ∷ [])) i.0,
          ap (vectors_in k) z ∙ found_first k (map_of q t) (result j ws ∷ []) i.0 ∙ i.1,
        )
held-so n k vs p s (C.drop {p = q} {s = t} c j d) =
    let i = held-so n k vs q t c in
    let m = led-made n q t (led n q t (kept-lent n k vs q t c)) in
    let z = (drop-steps q t j m.0 m.1).map_is in
    let o = other-left j k d (map_of q t) in
    (ap (has key_in k) z ∙ o.0 ∙ i.0, ap (vectors_in k) z ∙ o.1 ∙ i.1)

pub keeps : Keeps
keeps n k vs p s c =
    let h = held-so n k vs p s c in
    let m = led-made n p s (led n p s (kept-lent n k vs p s c)) in
    let f = find-steps p s k m.0 m.1 in
    let g = found-is p (length s) k m.1 in
    let at = found_start (find_answer p (length s) k) in
    let len = found_len (find_answer p (length s) k) in
    let x : find_answer p (length s) k ≡ Ok (place at len) = rw g (held_at k (entries p) (sym (has-results k s (entries p)) ∙ h.0)) in
    let l : len ≡ length vs = sym (length-region s at len f.inside) ∙ ap length (f.vectors-are ∙ h.1) in
    record { at = at; found = x ∙ ap (λ (m : ℕ). Ok (place at m)) l; vectors = ap (region s at) (sym l) ∙ f.vectors-are ∙ h.1 }
