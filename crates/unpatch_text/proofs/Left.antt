-- No text is longer than the room, and what a call leaves. Assumes nothing.
use mathlib.Core.Path.{◌≡◌, refl, ◌∙◌}
use mathlib.Core.Bool.{Bool, true, false, cond}
use mathlib.Core.List.{List}
use Rattle.std.specs.Prelude.{Option, None, Some}
use Prim.Native.Nat.{ℕ, ◌≤◌, ◌<◌}
use native.Mathlib.Nat.{zero-add}
use native.Mathlib.Omega.{arith}
use borrow.Author.Tests.{le-leb, lt-leb, leb-true}
use lib.Dec.{leb}
use lib.ListN.{length}
use Rattle.buffers.proofs.Regions.{put-over}
use Rattle.unpatch_form.specs.Form.{Request, form}
use Rattle.unpatch_text.specs.Answer.{settings, answered, answer, room, length_left, text_left}
use Rattle.unpatch_text.specs.inner.Steps.{Wrote}
use Rattle.unpatch_form.proofs.Limits.{form-limits}
use Rattle.unpatch_text.proofs.Rooms.{ran-short}

-- the text is never longer than the room
pub answer-short : (t : List ℕ) → length (answer t) ≤ room
unfolding answer
answer-short t = go (form t) refl
  where
    go : (o : Option Request) → form t ≡ o → length (answered o) ≤ room
    go None e = omega arith
    go (Some q) e = ran-short (settings q) q.rgb q.height q.width (form-limits t q e).image

-- where the room is there, the text over the front
pub wrote-left : (old new text : List ℕ) (r : ℕ) → room ≤ length old → length text ≤ room → Wrote old new 0 text r → (r ≡ length_left text old) × (new ≡ text_left text old)
wrote-left old new text r h k w =
    rw (le-leb room (length old) h) (w.next-is ∙ zero-add (length text), w.text-is ∙ put-over old text (omega arith))

-- and where it is not, nothing
pub nothing_left : (old text : List ℕ) → length old < room → (0 ≡ length_left text old) × (old ≡ text_left text old)
nothing_left old text h = rw (lt-leb room (length old) h) (refl, refl)

-- so the length that is answered lies inside the output
pub length-inside : (t old : List ℕ) → length_left (answer t) old ≤ length old
length-inside t old = go (leb room (length old)) refl
  where
    go : (b : Bool) → leb room (length old) ≡ b → cond b (length (answer t)) 0 ≤ length old
    go true e = omega (arith, answer-short t, leb-true room (length old) e)
    go false e = omega arith
