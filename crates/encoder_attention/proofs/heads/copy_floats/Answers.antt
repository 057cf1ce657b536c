-- `encoder_attention::heads::copy_floats` meets its contract. Assumes nothing.
use mathlib.Core.Path.{◌≡◌, sym, ap, ◌∙◌}
use mathlib.Core.List.{List, ◌++◌}
use Prim.Native.Nat.{ℕ, ◌+◌, ◌-◌, ◌≤◌}
use native.Mathlib.Omega.{arith}
use Rattle.std.proofs.Common.{append_assoc}
use lib.ListN.{length, get_or, take, drop}
use lib.Ieee.{Float, nan}
use Rattle.std.specs.List.{copy_within}
use Rattle.buffers.specs.Rows.{tab}
use Rattle.buffers.specs.Region.{region, put}
use Rattle.buffers.proofs.Lists.{tab-ext, tab-self}
use Rattle.buffers.proofs.Regions.{put-split, length-region, get_or-region}
use Rattle.encoder_attention.proofs.heads.copy_floats.Goals as goal

-- the n values at x, over those at y
copied : (s : List Float) (x y n : ℕ) → x + n ≤ length s → y + n ≤ length s → copy_within s x (x + n) y ≡ put s y (tab n (λ d. get_or s (x + d) nan))
copied s x y n h g =
    let V = region s x n in
    let l : length V ≡ n = length-region s x n h in
    let k : x + n - x ≡ n = omega arith in
    let e : tab n (λ d. get_or s (x + d) nan) ≡ V = tab-ext n (λ d. get_or s (x + d) nan) (λ d. get_or V d nan) (λ d i. sym (get_or-region s x n d nan i)) ∙ tab-self V n nan l in
    ap (λ m. (take y s ++ take m (drop x s)) ++ drop (y + m) s) k
    ∙ simp append_assoc (ap (λ m. take y s ++ (V ++ drop (y + m) s)) (sym l) ∙ sym (put-split s y V (rw l g)) ∙ ap (put s y) (sym e))

pub returns : goal.returns
returns c = c.copy_within.ensures.after ∙ copied c.args.s.now c.args.x c.args.y c.args.n c.requires.x_in c.requires.y_in
