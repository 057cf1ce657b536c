-- Laws of the hash's turns, and of the front of a table. Assumes nothing.
use Rattle.std.proofs.Common.{◌≡◌, ℕ, ◌+◌, ◌<◌, ◌≤◌, List, length, get_or, take, drop, sym, ◌∙◌, lt_of_lt_of_le, add-one, drop_of_length-le, length-take-le, drop-cons, get_or-take, ext_get_or}
use Rattle.buffers.specs.Rows.{tab}
use Rattle.buffers.proofs.Lists.{length-tab, get_or-tab}
use Rattle.replay.specs.declared.hash.Lanes.{Lanes}
use Rattle.replay.specs.Hash.{added, lanes}

module _ {A : Type 0} (f : A → ℕ) (s : List A) (i : ℕ) where
  -- one more value is hashed
  pub lanes-turn : (h : Lanes) (d : A) → i < length s → lanes f h (drop i s) ≡ lanes f (added h (f (get_or s i d))) (drop (i + 1) s)
  unfolding lanes
  lanes-turn h d l = rw (add-one i, drop-cons s i d)

  pub lanes-done : (h : Lanes) → length s ≤ i → lanes f h (drop i s) ≡ h
  unfolding lanes
  lanes-done h l = rw (drop_of_length-le s {i = i} l)

-- the front of a table
pub take-tab : {A : Type 0} (d : A) (n m : ℕ) (f : ℕ → A) → n ≤ m → take n (tab m f) ≡ tab n f
take-tab d n m f l =
    let e : length (take n (tab m f)) ≡ n = length-take-le n (tab m f) (rw (length-tab m f) l) in
    ext_get_or d (take n (tab m f)) (tab n f) (e ∙ sym (length-tab n f))
    (λ i h. let k : i < n = rw e at h in get_or-take n (tab m f) i d k ∙ get_or-tab m i f d (lt_of_lt_of_le k l) ∙ sym (get_or-tab n i f d k))
