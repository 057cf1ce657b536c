-- The first piece of a text and the rest. Assumes nothing.
use Rattle.std.proofs.Common.{◌≡◌, ℕ, suc, ◌+◌, ◌-◌, ◌<◌, ◌≤◌, Bool, true, false, cond, eqb, List, [], ◌∷◌, length, take, drop, refl, ap, suc-le-suc, zero-le, le_refl, arith, length-drop, take_all, drop-drop}
use Rattle.replay.specs.Pieces.{onto, pieces, piece_len}

-- by whether b ends the piece, and n bytes of the rest belong to it if not
by-test : (stop b : ℕ) (bs : List ℕ) (n : ℕ) (t : Bool)
    → onto b (pieces stop bs) ≡ (b ∷ take n bs) ∷ pieces stop (drop n bs)
    → cond t ((b ∷ []) ∷ pieces stop bs) (onto b (pieces stop bs)) ≡ take (cond t 1 (suc n)) (b ∷ bs) ∷ pieces stop (drop (cond t 1 (suc n)) (b ∷ bs))
by-test stop b bs n true e = refl
by-test stop b bs n false e = e

first_piece : (stop : ℕ) (s : List ℕ) → 0 < length s → pieces stop s ≡ take (piece_len stop s) s ∷ pieces stop (drop (piece_len stop s) s)
unfolding pieces piece_len onto
first_piece stop [] h = absurd (omega arith)
first_piece stop (b ∷ []) h = by-test stop b [] 0 (eqb b stop) refl
first_piece stop (b ∷ (d ∷ bs)) h =
    by-test stop b (d ∷ bs) (piece_len stop (d ∷ bs)) (eqb b stop) (ap (onto b) (first_piece stop (d ∷ bs) (suc-le-suc zero-le)))

some-by : (t : Bool) (n : ℕ) → 0 < cond t 1 (suc n)
some-by true n = suc-le-suc zero-le
some-by false n = suc-le-suc zero-le

pub some : (stop : ℕ) (s : List ℕ) → 0 < length s → 0 < piece_len stop s
unfolding piece_len
some stop [] h = absurd (omega arith)
some stop (b ∷ bs) h = some-by (eqb b stop) (piece_len stop bs)

-- the first piece and the rest, as a text is split behind it
pub first_split : (stop : ℕ) (s front back : List ℕ) (n : ℕ) → 0 < length s → n ≡ piece_len stop s → front ≡ take n s → back ≡ drop n s → pieces stop s ≡ front ∷ pieces stop back
first_split stop s front back n h e f b = rw (f, b, e) (first_piece stop s h)

pub none_left : (stop : ℕ) (s : List ℕ) → length s ≤ 0 → pieces stop s ≡ []
unfolding pieces
none_left stop [] h = refl
none_left stop (b ∷ bs) h = absurd (omega (arith, h))

-- the whole of what is left from `at` on, as `&s[at..]` has it
pub rest : {A : Type 0} (s : List A) (at : ℕ) → take (length s - at) (drop at s) ≡ drop at s
rest s at = take_all (length s - at) (drop at s) (simp length-drop (le_refl (length s - at)))

-- r bytes from `at` on, as `piece_len` finds them
module _ (stop : ℕ) (s : List ℕ) (at r : ℕ) (l : at < length s) (e : r ≡ piece_len stop (take (length s - at) (drop at s))) where
  pub next-piece : pieces stop (drop at s) ≡ take r (drop at s) ∷ pieces stop (drop (at + r) s)
  next-piece =
      let h : 0 < length (drop at s) = simp length-drop (omega arith) in
      rw (e, rest s at, ← drop-drop (piece_len stop (drop at s)) at s) (first_piece stop (drop at s) h)

  pub next-some : 0 < r
  next-some =
      let h : 0 < length (drop at s) = simp length-drop (omega arith) in
      rw (e, rest s at) (some stop (drop at s) h)
