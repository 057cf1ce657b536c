-- Laws of a scratch whose front holds a list and which is +0 behind it. Assumes nothing.
use mathlib.Core.Path.{◌≡◌, sym, ap, ◌∙◌}
use mathlib.Core.List.{List, ◌++◌}
use Prim.Native.Nat.{ℕ, ◌+◌, ◌-◌, ◌≤◌}
use native.Mathlib.Omega.{arith}
use lib.ListN.{length, drop, length-append, take-append-drop}
use lib.Seq.{drop-append_seam}
use lib.Ieee.{Float}
use Rattle.buffers.specs.Rows.{tab}
use Rattle.buffers.specs.Region.{region, put, over, cleared}
use Rattle.number_floats.specs.Constants.{zero32}
use Rattle.buffers.specs.inner.Room.{inside, where_fits}
use Rattle.buffers.proofs.Lists.{length-tab, tab-add}
use Rattle.buffers.proofs.Regions.{length-region, region-put-same, put-append, put_all, put-over}
use Rattle.buffers.proofs.Rooms.{written}

abbrev zeros : ℕ → List Float
zeros n = tab n (λ _. zero32)

zeros-rest : (n m : ℕ) → n ≤ m → drop n (zeros m) ≡ zeros (m - n)
zeros-rest n m h =
    let e : n + (m - n) ≡ m = omega arith in
    let f : zeros m ≡ zeros n ++ zeros (m - n) = ap zeros (sym e) ∙ tab-add n (m - n) (λ _. zero32) in
    let g = length-tab n (λ _. zero32) in
    ap (drop n) f ∙ ap (λ (k : ℕ). drop k (zeros n ++ zeros (m - n))) (sym g) ∙ drop-append_seam (zeros n) (zeros (m - n))

behind : (s l : List Float) (n : ℕ) → length l ≡ n → n ≤ length s → put (put s 0 l) n (zeros (length s - n)) ≡ over l (cleared s)
behind s l n e h =
    let z = zeros (length s - n) in
    let k = length-tab (length s - n) (λ _. zero32) in
    let a : length (l ++ z) ≡ length s = length-append l z ∙ omega arith in
    put-append s 0 l z n (omega arith) ∙ put_all s (l ++ z) a
    ∙ ap (λ (v : List Float). l ++ v) (sym (ap (λ (j : ℕ). drop j (cleared s)) e ∙ zeros-rest n (length s) h))

-- the front as it was, and +0 behind it
pub front_kept : (s v : List Float) (n : ℕ) → n ≤ length s → v ≡ where_fits (inside (length s) n (length s - n)) s n (zeros (length s - n)) → v ≡ over (region s 0 n) (cleared s)
front_kept s v n h g =
    let l = region s 0 n in
    let k = length-region s 0 n (omega arith) in
    let e : put s 0 l ≡ s = put-over s l (omega (arith, k)) ∙ ap (λ (i : ℕ). l ++ drop i s) k ∙ take-append-drop n s in
    written s v (zeros (length s - n)) n (length s - n) (omega arith) g ∙ ap (λ (t : List Float). put t n (zeros (length s - n))) (sym e) ∙ behind s l n k h

-- what the front holds
pub front-is : (l old : List Float) (n : ℕ) → length l ≡ n → n ≤ length old → region (over l (cleared old)) 0 n ≡ l
front-is l old n e h =
    let k : length (cleared old) ≡ length old = length-tab (length old) (λ _. zero32) in
    ap (λ (v : List Float). region v 0 n) (sym (put-over (cleared old) l (omega (arith, e, k, h)))) ∙ region-put-same (cleared old) 0 l n (sym e) (omega (arith, e, k, h))
