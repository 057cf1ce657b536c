-- What a record's call answers and leaves, by what it asks. Assumes nothing.
use mathlib.Core.Path.{◌≡◌, refl, ap, ◌∙◌}
use mathlib.Core.Bool.{Bool, true, false}
use mathlib.Core.List.{List, ◌∷◌, ◌++◌}
use Prim.Native.Nat.{ℕ, ◌+◌}
use borrow.Author.Tests.{eq-eqb, ne_eqb}
use lib.ListN.{length, take, drop, replicate}
use lib.Ieee.{Float}
use Rattle.buffers.specs.Region.{over}
use Rattle.pool_books.specs.declared.Pool.{Pool}
use Rattle.pool.specs.Pool as P
use Rattle.replay.specs.Marks.{seeded, floats}
use Rattle.replay.specs.Line.{read_of}
use Rattle.replay.specs.Pieces.{pieces}
use Rattle.replay.specs.Counts.{bump}
use Rattle.pool_replay.specs.declared.run.Ran.{Ran}
use Rattle.pool_replay.specs.declared.record.Told.{Told}
use Rattle.pool_replay.specs.declared.record.Judged.{Judged}
use Rattle.replay.specs.Hash.{float_hash}
use Rattle.replay.proofs.Lines.{read_whole}
use Rattle.pool_replay.specs.Run.{at, lent_of, part_of, vectors_of, pooled, placed, plain, counted, entered, ran_of, slice_of}
use Rattle.pool_replay.specs.Record.{differs, place_of, told_of, judged, judged_in, slice_in, tally}

module _ (p : Pool) (s : List Float) (v : List ℕ) where
  pub added : (n m k : ℕ) (fl t : List Float) (r : P.Pooled) → n ≡ lent_of (at v 1) (length s) → m ≡ lent_of (at v 3) 512 → fl ≡ floats (seeded (at v 4)) 512
      → r ≡ P.add_answer p (take n s) (at v 2) (take m fl) → t ≡ P.add_slice p (take n s) (at v 2) (take m fl) → k ≡ P.number r.outcome
      → (record { pool = r.pool; number = k; start = 0; len = 0 } ≡ pooled (P.add_answer p (part_of v s) (at v 2) (vectors_of v)))
      × (t ++ drop n s ≡ P.add_slice p (part_of v s) (at v 2) (vectors_of v) ++ drop (lent_of (at v 1) (length s)) s)
  added n m k fl t r a b f x y z =
      (rw (← a, ← b, ← f) (ap (λ (i : ℕ). record { pool = r.pool; number = i; start = 0; len = 0 }) z ∙ ap pooled x), rw (← a, ← b, ← f) (ap (λ (l : List Float). l ++ drop n s) y))

  pub ran-new : at v 0 ≡ 0 → (ran_of p s v ≡ plain (P.new_pool (at v 1))) × (slice_of p s v ≡ floats (seeded (at v 4)) (length s))
  unfolding ran_of slice_of
  ran-new e = (rw (eq-eqb (at v 0) 0 e), rw (eq-eqb (at v 0) 0 e))

  module _ (n0 : at v 0 ≡ 0 → ⊥) where
    pub ran-add : at v 0 ≡ 1
        → (ran_of p s v ≡ pooled (P.add_answer p (part_of v s) (at v 2) (vectors_of v)))
        × (slice_of p s v ≡ P.add_slice p (part_of v s) (at v 2) (vectors_of v) ++ drop (lent_of (at v 1) (length s)) s)
    unfolding ran_of slice_of
    ran-add e = (rw (ne_eqb (at v 0) 0 n0, eq-eqb (at v 0) 1 e), rw (ne_eqb (at v 0) 0 n0, eq-eqb (at v 0) 1 e))

    module _ (n1 : at v 0 ≡ 1 → ⊥) where
      pub slice_kept : slice_of p s v ≡ s
      unfolding slice_of
      slice_kept = rw (ne_eqb (at v 0) 0 n0, ne_eqb (at v 0) 1 n1)

      pub ran-find : at v 0 ≡ 2 → ran_of p s v ≡ placed p (P.find_answer p (length (part_of v s)) (at v 2))
      unfolding ran_of
      ran-find e = rw (ne_eqb (at v 0) 0 n0, ne_eqb (at v 0) 1 n1, eq-eqb (at v 0) 2 e)

      module _ (n2 : at v 0 ≡ 2 → ⊥) where
        pub ran-drop : at v 0 ≡ 3 → ran_of p s v ≡ pooled (P.drop_answer p (length (part_of v s)) (at v 2))
        unfolding ran_of
        ran-drop e = rw (ne_eqb (at v 0) 0 n0, ne_eqb (at v 0) 1 n1, ne_eqb (at v 0) 2 n2, eq-eqb (at v 0) 3 e)

        module _ (n3 : at v 0 ≡ 3 → ⊥) where
          pub ran-count : at v 0 ≡ 4 → ran_of p s v ≡ plain (counted p v)
          unfolding ran_of
          ran-count e = rw (ne_eqb (at v 0) 0 n0, ne_eqb (at v 0) 1 n1, ne_eqb (at v 0) 2 n2, ne_eqb (at v 0) 3 n3, eq-eqb (at v 0) 4 e)

          pub ran-entry : (at v 0 ≡ 4 → ⊥) → ran_of p s v ≡ plain (entered p v)
          unfolding ran_of
          ran-entry n4 = rw (ne_eqb (at v 0) 0 n0, ne_eqb (at v 0) 1 n1, ne_eqb (at v 0) 2 n2, ne_eqb (at v 0) 3 n3, ne_eqb (at v 0) 4 n4)

-- ---- a line that was not read, and one that was

module _ (p : Pool) (s : List Float) (line v : List ℕ) (t : Bool) (e : t ≡ (read_of 10 line).whole) where
  pub unread : t ≡ false → (judged differs p ≡ judged_in p s line) × (s ≡ slice_in p s line)
  unfolding judged_in slice_in
  unread f = (rw (← e, f), rw (← e, f))

  pub read : v ≡ over (read_of 10 line).list (replicate 10 0) → t ≡ true
      → (judged (place_of (told_of (ran_of p s v) (float_hash (slice_of p s v))) v) (ran_of p s v).pool ≡ judged_in p s line) × (slice_of p s v ≡ slice_in p s line)
  unfolding judged_in slice_in
  read o f = let w = read_whole 10 line (replicate 10 0) v t refl e o f in (rw w, rw w)

  -- what is made of its call, step by step
  pub read-so : (ran : Ran) (u : List Float) (h k : ℕ) (m : Told) → v ≡ over (read_of 10 line).list (replicate 10 0) → t ≡ true
      → ran ≡ ran_of p s v → u ≡ slice_of p s v → h ≡ float_hash u → m ≡ told_of ran h → k ≡ place_of m v
      → (judged k ran.pool ≡ judged_in p s line) × (u ≡ slice_in p s line)
  read-so ran u h k m o f a b x y z =
      let w : k ≡ place_of (told_of (ran_of p s v) (float_hash (slice_of p s v))) v =
      z ∙ ap (λ (i : Told). place_of i v) (y ∙ ap (told_of ran) (x ∙ ap float_hash b) ∙ ap (λ (r : Ran). told_of r (float_hash (slice_of p s v))) a) in
      let r = read o f in (
        ap (λ (i : ℕ). judged i ran.pool) w ∙ ap (λ (q : Ran). judged (place_of (told_of (ran_of p s v) (float_hash (slice_of p s v))) v) q.pool) a ∙ r.0,
        b ∙ r.1,
      )

-- the line of r bytes from `at` on is counted, and hands on pool and slice
pub turn : (text c : List ℕ) (p : Pool) (s : List Float) (at r : ℕ) (j : Judged) (u : List Float)
    → pieces 10 (drop at text) ≡ take r (drop at text) ∷ pieces 10 (drop (at + r) text)
    → j ≡ judged_in p s (take r (drop at text)) → u ≡ slice_in p s (take r (drop at text))
    → tally c p s (pieces 10 (drop at text)) ≡ tally (bump c j.place) j.pool u (pieces 10 (drop (at + r) text))
unfolding tally
turn text c p s at r j u first a b = rw (first, a, b)
