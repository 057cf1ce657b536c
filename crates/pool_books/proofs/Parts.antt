-- A write over a part that was lent, and a new entry. Assumes nothing.
use mathlib.Core.Path.{◌≡◌, refl, sym, ap, ◌∙◌}
use mathlib.Core.List.{List, [], ◌∷◌, ◌++◌, append-nil, map}
use Prim.Native.Nat.{ℕ, suc, ◌+◌, ◌≤◌, ◌<◌}
use native.Mathlib.Omega.{arith}
use borrow.Author.Tests.{le-leb}
use lib.ListN.{length, take, drop, set, length-append, drop_of_length-le}
use lib.Seq.{drop-drop}
use lib.Ieee.{Float}
use Rattle.buffers.specs.Region.{region, put, copied}
use Rattle.buffers.proofs.Regions.{put-split, put-append, put_one, length-region}
use Rattle.pool_books.specs.declared.Held.{Held}
use Rattle.pool_books.specs.declared.Pool.{Pool}
use Rattle.pool_books.specs.Book.{held, entries, with}
use Rattle.pool_books.proofs.Orders.{length-entries, put-take}

copied-whole : (ys old : List Float) → length ys ≡ length old → copied ys old ≡ ys
unfolding copied
copied-whole ys old e =
    let h : length ys ≤ length old = omega arith in
    rw (le-leb (length ys) (length old) h, drop_of_length-le old {i = length ys} (omega arith), append-nil)

-- what is copied over the k floats at at, where they are as many
pub part-copied : (s ys : List Float) (at k : ℕ) (zs : List Float) → k ≡ length ys → at + length ys ≤ length s → zs ≡ copied ys (region s at k) → take at s ++ (zs ++ drop k (drop at s)) ≡ put s at ys
part-copied s ys at k zs g b h =
    let l : length ys ≡ length (region s at k) = sym (length-region s at k (omega arith) ∙ g) in
    rw (h ∙ copied-whole ys (region s at k) l, g, drop-drop (length ys) at s) (sym (put-split s at ys b))

-- the length of an array, from what its type tells
pub mapped-long : {A B : Type 0} (f : A → B) (l : List A) (n : ℕ) → length (map f l) ≡ n → length l ≡ n
mapped-long {A} f l n e = sym (go l) ∙ e
  where
    go : (l : List A) → length (map f l) ≡ length l
    go [] = refl
    go (x ∷ l) = ap suc (go l)

-- one entry more
pub stored : (p : Pool) (k at n : ℕ) → p.count < length p.held
    → record { len = p.len; count = p.count + 1; held = set p.held p.count (held k at n) } ≡ with p (entries p ++ (held k at n ∷ []))
stored p k at n l =
    let x : List Held = held k at n ∷ [] in
    let m = length-entries p (omega arith) in
    let e : p.count + 1 ≡ length (entries p ++ x) = sym (length-append (entries p) x ∙ ap (λ (c : ℕ). c + 1) m) in
    let g : set p.held p.count (held k at n) ≡ put p.held 0 (entries p ++ x) =
    sym (put_one p.held p.count (held k at n))
    ∙ ap (λ (h : List Held). put h p.count x) (sym (put-take p.held p.count (omega arith)))
    ∙ put-append p.held 0 (entries p) x p.count (omega (arith, m)) in
    cc
