-- Laws of `region` and `put`. Assumes nothing.
use mathlib.Core.Path.{◌≡◌, refl, sym, ap, ◌∙◌}
use mathlib.Core.List.{List, [], ◌∷◌, ◌++◌, append_assoc, append-nil}
use Prim.Native.Nat.{ℕ, zero, suc, ◌+◌, ◌-◌, ◌≤◌, ◌<◌}
use native.Mathlib.Nat.{add-zero, zero-add, add-sub_of_le}
use native.Mathlib.Omega.{arith}
use lib.ListN.{length, get_or, take, drop, set, length-set, length-drop, drop_of_length-le}
use lib.Seq.{sets-eq, length-sets, sets, drop_at, take_at, take_all, take-nil, length-take-le, drop-set-lt, drop-set-add, take-set-le, take-take, drop-drop, get_or-take, get_or-drop, set_comm, set-set}
use Rattle.buffers.specs.Region.{region, put, over}
use Rattle.buffers.specs.inner.Apart.{Apart, before, after}

pub apart-sym : {x n at m : ℕ} → Apart x n at m → Apart at m x n
apart-sym (before h) = after h
apart-sym (after h) = before h

-- parts of what is apart are apart
pub apart-sub : {x n at m x' n' at' m' : ℕ} → Apart x n at m → x ≤ x' → x' + n' ≤ x + n → at ≤ at' → at' + m' ≤ at + m → Apart x' n' at' m'
apart-sub (before h) a b c d = before (omega arith)
apart-sub (after h) a b c d = after (omega arith)

module _ {A : Type 0} where
  pub length-put : (s : List A) (at : ℕ) (ys : List A) → length (put s at ys) ≡ length s
  unfolding put
  length-put s at [] = refl
  length-put s at (y ∷ ys) = length-put (set s at y) (suc at) ys ∙ length-set s at y

  pub put-nil : (s : List A) (at : ℕ) → put s at [] ≡ s
  unfolding put
  put-nil s at = refl

  pub put_one : (s : List A) (at : ℕ) (y : A) → put s at (y ∷ []) ≡ set s at y
  unfolding put
  put_one s at y = refl

  -- three stores are one write of three
  pub put_three : (s : List A) (at : ℕ) (x y z : A) → set (set (set s at x) (at + 1) y) (at + 2) z ≡ put s at (x ∷ y ∷ z ∷ [])
  unfolding put
  put_three s at x y z =
      let e : at + 2 ≡ suc (at + 1) = omega arith in
      let g : at + 1 ≡ suc at = omega arith in
      ap (λ (i : ℕ). set (set (set s at x) (at + 1) y) i z) e ∙ ap (λ (i : ℕ). set (set (set s at x) i y) (suc i) z) g

  -- one write after another, right behind it, is one write
  pub put-append : (s : List A) (at : ℕ) (ys zs : List A) (n : ℕ) → n ≡ at + length ys → put (put s at ys) n zs ≡ put s at (ys ++ zs)
  unfolding put
  put-append s at [] zs n e = ap (λ (k : ℕ). put s k zs) (e ∙ add-zero at)
  put-append s at (y ∷ ys) zs n e = put-append (set s at y) (suc at) ys zs n (omega arith)

  inner : (m i n : ℕ) (l : List A) → i + m ≤ n → take m (drop i (take n l)) ≡ take m (drop i l)
  inner m zero n l h = take-take m n l (omega arith)
  inner m (suc i) zero l h = absurd (omega arith)
  inner m (suc i) (suc n) [] h = refl
  inner m (suc i) (suc n) (a ∷ l) h = inner m i n l (omega arith)

  -- a part of a part
  pub region-region : (s : List A) (at n i m : ℕ) → i + m ≤ n → region (region s at n) i m ≡ region s (at + i) m
  region-region s at n i m h = inner m i n (drop at s) h ∙ ap (λ (l : List A). take m l) (drop-drop i at s)

  -- a store elsewhere
  pub region-set : (s : List A) (i : ℕ) (y : A) (x n : ℕ) → Apart x n i 1 → region (set s i y) x n ≡ region s x n
  region-set s i y x n (before h) =
      let e : x + (i - x) ≡ i = add-sub_of_le (omega arith) in
      ap (λ (k : ℕ). take n (drop x (set s k y))) (sym e)
      ∙ ap (λ (l : List A). take n l) (drop-set-add x s (i - x) y)
      ∙ take-set-le n (drop x s) (i - x) y (omega arith)
  region-set s i y x n (after h) = ap (λ (l : List A). take n l) (drop-set-lt x s i y (omega arith))

  -- a write elsewhere
  pub region-put : (s : List A) (at : ℕ) (ys : List A) (x n : ℕ) → Apart x n at (length ys) → region (put s at ys) x n ≡ region s x n
  unfolding put
  region-put s at [] x n h = refl
  region-put s at (y ∷ ys) x n (before h) = region-put (set s at y) (suc at) ys x n (before (omega arith)) ∙ region-set s at y x n (before h)
  region-put s at (y ∷ ys) x n (after h) =
      region-put (set s at y) (suc at) ys x n (after (omega arith)) ∙ region-set s at y x n (after (omega arith))

  put-sets : (s : List A) (at : ℕ) (ys : List A) → put s at ys ≡ sets s at ys
  unfolding put
  put-sets s at [] = refl
  put-sets s at (y ∷ ys) = put-sets (set s at y) (suc at) ys

  pub put-split : (s : List A) (at : ℕ) (ys : List A) → at + length ys ≤ length s → put s at ys ≡ take at s ++ (ys ++ drop (at + length ys) s)
  put-split s at ys h = put-sets s at ys ∙ sets-eq ys s at h ∙ simp append_assoc

  -- what was written
  pub region-put-same : (s : List A) (at : ℕ) (ys : List A) (n : ℕ) → n ≡ length ys → at + length ys ≤ length s → region (put s at ys) at n ≡ ys
  region-put-same s at ys n e h =
      rw (put-split s at ys h, drop_at (take at s) (ys ++ drop (at + length ys) s) at (length-take-le at s (omega arith)))
      (take_at ys (drop (at + length ys) s) n (sym e))

  -- an element of what was written, and one elsewhere
  pub get_or-put-same : (s : List A) (at : ℕ) (ys : List A) (i : ℕ) (d : A) → i < length ys → at + length ys ≤ length s → get_or (put s at ys) (at + i) d ≡ get_or ys i d
  get_or-put-same s at ys i d h k =
      sym (get_or-drop at (put s at ys) i d) ∙ sym (get_or-take (length ys) (drop at (put s at ys)) i d h)
      ∙ ap (λ (l : List A). get_or l i d) (region-put-same s at ys (length ys) refl k)

  pub get_or-put : (s : List A) (at : ℕ) (ys : List A) (i : ℕ) (d : A) → Apart i 1 at (length ys) → get_or (put s at ys) i d ≡ get_or s i d
  get_or-put s at ys i d h =
      ap (λ (n : ℕ). get_or (put s at ys) n d) (sym (add-zero i))
      ∙ sym (get_or-drop i (put s at ys) 0 d) ∙ sym (get_or-take 1 (drop i (put s at ys)) 0 d (omega arith))
      ∙ ap (λ (l : List A). get_or l 0 d) (region-put s at ys i 1 h)
      ∙ get_or-take 1 (drop i s) 0 d (omega arith) ∙ get_or-drop i s 0 d ∙ ap (λ (n : ℕ). get_or s n d) (add-zero i)

  -- a store and a write elsewhere change places
  pub put-set : (s : List A) (at : ℕ) (ys : List A) (i : ℕ) (v : A) → Apart i 1 at (length ys) → set (put s at ys) i v ≡ put (set s i v) at ys
  unfolding put
  put-set s at [] i v h = refl
  put-set s at (y ∷ ys) i v (before h) = put-set (set s at y) (suc at) ys i v (before (omega arith)) ∙ ap (λ (l : List A). put l (suc at) ys) (set_comm s at i y v (λ e. omega arith))
  put-set s at (y ∷ ys) i v (after h) = put-set (set s at y) (suc at) ys i v (after (omega arith)) ∙ ap (λ (l : List A). put l (suc at) ys) (set_comm s at i y v (λ e. omega arith))

  -- a write over another is the later one
  pub put-put : (s : List A) (at : ℕ) (ys zs : List A) → length ys ≡ length zs → put (put s at ys) at zs ≡ put s at zs
  unfolding put
  put-put s at [] [] h = refl
  put-put s at [] (z ∷ zs) h = absurd (omega arith)
  put-put s at (y ∷ ys) [] h = absurd (omega arith)
  put-put s at (y ∷ ys) (z ∷ zs) h =
      ap (λ (l : List A). put l (suc at) zs) (put-set (set s at y) (suc at) ys at z (before (omega arith)) ∙ ap (λ (l : List A). put l (suc at) ys) (set-set s at y z))
      ∙ put-put (set s at z) (suc at) ys zs (omega arith)

  -- writes apart change places
  pub put-comm : (s : List A) (at : ℕ) (ys : List A) (bt : ℕ) (zs : List A) → Apart bt (length zs) at (length ys) → put (put s at ys) bt zs ≡ put (put s bt zs) at ys
  unfolding put
  put-comm s at ys bt [] h = refl
  put-comm s at ys bt (z ∷ zs) h =
      ap (λ (l : List A). put l (suc bt) zs) (put-set s at ys bt z (apart-sub h (omega arith) (omega arith) (omega arith) (omega arith)))
      ∙ put-comm (set s bt z) at ys (suc bt) zs (apart-sub h (omega arith) (omega arith) (omega arith) (omega arith))

  -- what the loops write is what the definitions say
  pub put-over : (s ys : List A) → length ys ≤ length s → put s 0 ys ≡ over ys s
  put-over s ys h = put-split s 0 ys (rw zero-add h) ∙ ap (λ (k : ℕ). ys ++ drop k s) (zero-add (length ys))

  -- a write over all of it
  pub put_all : (s ys : List A) → length ys ≡ length s → put s 0 ys ≡ ys
  put_all s ys e = put-over s ys (omega arith) ∙ rw (drop_of_length-le s {i = length ys} (omega arith), append-nil)

  pub length-region : (s : List A) (x n : ℕ) → x + n ≤ length s → length (region s x n) ≡ n
  length-region s x n h = length-take-le n (drop x s) (rw length-drop (omega arith))

  pub get_or-region : (s : List A) (x n i : ℕ) (d : A) → i < n → get_or (region s x n) i d ≡ get_or s (x + i) d
  get_or-region s x n i d h = get_or-take n (drop x s) i d h ∙ get_or-drop x s i d

  -- past the end there is nothing, and less than asked where the end is near
  pub region-past : (s : List A) (x n : ℕ) → length s ≤ x → region s x n ≡ []
  region-past s x n h = rw (drop_of_length-le s {i = x} h) (take-nil n)

  pub region-rest : (s : List A) (x n : ℕ) → length s - x ≤ n → region s x n ≡ drop x s
  region-rest s x n h = take_all n (drop x s) (rw length-drop h)
