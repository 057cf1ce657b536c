-- Laws of what an answer stands for. Assumes nothing.
use mathlib.Core.Path.{◌≡◌, refl, sym, ap, ◌∙◌}
use mathlib.Core.List.{List, append-nil}
use Rattle.std.specs.Prelude.{Option, None, Some}
use Prim.Native.Nat.{ℕ, ◌+◌, ◌-◌, ◌≤◌, ◌<◌}
use native.Mathlib.Omega.{arith}
use lib.ListN.{length, take, set, drop_of_length-le, length-append}
use lib.Seq.{length-take-le, take-append_seam}
use Rattle.buffers.specs.Rows.{tab}
use Rattle.buffers.specs.Region.{put}
use Rattle.buffers.proofs.Lists.{length-tab, tab-step}
use Rattle.buffers.proofs.Regions.{put-split}
use Rattle.unpatch_form.specs.Form.{Request, form}
use Rattle.unpatch_read.specs.Read.{reading, rows_of, filled}
use Rattle.unpatch_read.specs.inner.Steps.{Written, asked, bytes_read}
use Rattle.unpatch_read.specs.declared.read.Reading.{Reading}

-- what was wanted of a part is wanted of the whole
pub written_of : {r : Option ℕ} {at : ℕ} {old new : List ℕ} {len len' : ℕ} {want want' : Option (List ℕ)} → want ≡ want' → len ≤ len' → Written r at old new len want → Written r at old new len' want'
written_of e h w = record { answer = w.answer ∙ e; front = w.front; few = omega (arith, w.few) }

-- nothing was read, as was wanted
pub nothing_of : (r : Option ℕ) {at : ℕ} {old new : List ℕ} {len : ℕ} {want : Option (List ℕ)} → r ≡ None → want ≡ None → take at new ≡ take at old → Written r at old new len want
nothing_of None e f g = record { answer = sym f; front = g; few = omega arith }
nothing_of (Some n) e f g = absurd (let z : ◌≡◌ {A = ℕ} 0 1 = cc in omega arith)

pub outside_of : (r : Option Reading) (l : List ℕ) {want : Option Request} → r ≡ None → want ≡ None → (asked r l ≡ want) × (bytes_read r ≤ length l)
outside_of None l e f = (sym f, omega arith)
outside_of (Some n) l e f = absurd (let z : ◌≡◌ {A = ℕ} 0 1 = cc in omega arith)

-- ---- the whole text
-- an answer and the bytes say what was asked, and the other way round
pub reading-asked : (r : Option Reading) (l : List ℕ) → bytes_read r ≤ length l → r ≡ reading (asked r l)
reading-asked (Some r) l e = ap (λ (j : ℕ). Some (record { patch = r.patch; merge = r.merge; image = r.image; height = r.height; width = r.width; bytes = j })) (sym (length-take-le r.bytes l e))
reading-asked None l e = refl

pub rows-asked : (r : Option Reading) (l : List ℕ) → take (bytes_read r) l ≡ rows_of (asked r l)
rows-asked (Some r) l = refl
rows-asked None l = refl

pub asked-reading : (o : Option Request) {r : Option Reading} {l : List ℕ} → r ≡ reading o → l ≡ filled (rows_of o) → asked r l ≡ o
unfolding filled
asked-reading o e f = rw (e, f) (back o)
  where
    back : (o : Option Request) → asked (reading o) (filled (rows_of o)) ≡ o
    back None = refl
    back (Some q) = rw (take-append_seam q.rgb (tab (24576 - length q.rgb) (λ _. 0))) refl

pub bytes_inside : (o : Option Request) {r : Option Reading} {l : List ℕ} → r ≡ reading o → l ≡ filled (rows_of o) → bytes_read r ≤ length l
unfolding filled
bytes_inside o e f = rw (e, f) (inside o)
  where
    inside : (o : Option Request) → bytes_read (reading o) ≤ length (filled (rows_of o))
    inside None = omega arith
    inside (Some q) = omega (arith, length-append q.rgb (tab (24576 - length q.rgb) (λ _. 0)))

-- the contract of `read`, as a type of an answer and of the bytes at exit: any two that satisfy it are equal
abbrev pub Reads : List ℕ → Option Reading → List ℕ → Type 0
Reads t r l = (r ≡ reading (form t)) × (l ≡ filled (rows_of (form t)))

pub read-unique : (t : List ℕ) (r q : Option Reading) (x y : List ℕ) → Reads t r x → Reads t q y → (r ≡ q) × (x ≡ y)
read-unique t r q x y a b = (a.0 ∙ sym b.0, a.1 ∙ sym b.1)

-- one zero more behind the first n
pub zero-next : (l t : List ℕ) (n i : ℕ) → n ≤ i → t ≡ put l n (tab (i - n) (λ _. 0)) → set t i 0 ≡ put l n (tab (i + 1 - n) (λ _. 0))
zero-next l t n i h e =
    let a : n + (i - n) ≡ i = omega arith in
    let b : i - n + 1 ≡ i + 1 - n = omega arith in
    rw (a, b) at (tab-step l t n (i - n) (λ _. 0) 0 e refl)

-- all of them
pub zeros-put : (l : List ℕ) (n : ℕ) → length l ≡ 24576 → n ≤ 24576 → put l n (tab (24576 - n) (λ _. 0)) ≡ filled (take n l)
unfolding filled
zeros-put l n e h =
    let z : List ℕ = tab (24576 - n) (λ _. 0) in
    let k : length z ≡ 24576 - n = length-tab (24576 - n) (λ _. 0) in
    put-split l n z (omega (arith, k)) ∙ rw (drop_of_length-le l {i = n + length z} (omega (arith, k)), append-nil, length-take-le n l (omega arith)) refl
