-- A loop that writes f of one element of x after another over the front of a buffer that held s. Assumes nothing.
use Rattle.std.proofs.Common.{◌≡◌, ℕ, ◌+◌, ◌<◌, ◌≤◌, min, List, length, get_or, set, refl, ap, ◌∙◌, arith, length-set}
use Rattle.buffers.specs.Rows.{tab}
use Rattle.buffers.specs.Region.{put, over}
use Rattle.buffers.proofs.Regions.{put-over}
use Rattle.buffers.proofs.Lists.{length-tab, tab-step-0}
use Rattle.number_bf16_half_root.specs.Packed.{front}

-- it is done for i elements, and the buffer holds t
pub record Begun (f : ℕ → ℕ) (x s t : List ℕ) (i : ℕ) : Type 0 where
  pub read : i ≤ length x
  pub room : i ≤ length s
  pub long : length t ≡ length s
  pub written : t ≡ put s 0 (tab i (λ k. f (get_or x k 0)))

pub begin : (f : ℕ → ℕ) (x s : List ℕ) → Begun f x s s 0
unfolding put tab
begin f x s = record { read = omega arith; room = omega arith; long = refl; written = refl }

module _ {f : ℕ → ℕ} {x s t : List ℕ} {i : ℕ} (b : Begun f x s t i) where
  pub go_on : (v : ℕ) → i < length x → i < length t → v ≡ f (get_or x i 0) → Begun f x s (set t i v) (i + 1)
  go_on v h k e = record {
    read = omega arith;
    room = omega (arith, b.long);
    long = simp length-set b.long;
    written = tab-step-0 s t i (λ k. f (get_or x k 0)) v b.written e;
  }

  pub ended : i ≡ min (length x) (length s) → t ≡ front f x s
  ended e =
      b.written ∙ ap (λ (n : ℕ). put s 0 (tab n (λ k. f (get_or x k 0)))) e
      ∙ put-over s (tab (min (length x) (length s)) (λ k. f (get_or x k 0))) (rw (length-tab (min (length x) (length s)) (λ k. f (get_or x k 0)), ← e) b.room)
