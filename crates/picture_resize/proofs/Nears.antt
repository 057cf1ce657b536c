-- Where the neighbours lie. Assumes nothing.
use Rattle.std.proofs.Common.{◌≡◌, ℕ, ◌+◌, ◌*◌, ◌<◌, ◌≤◌, arith}
use Rattle.buffers.proofs.Lists.{fit}
use Rattle.picture_resize.specs.declared.Near.{Near}
use Rattle.picture_resize.specs.Resize.{near}

pub low-in : (from to i : ℕ) → 0 < from → (near from to i).low < from
unfolding near
low-in from to i h = omega arith

pub high-in : (from to i : ℕ) → 0 < from → (near from to i).high < from
unfolding near
high-in from to i h = omega arith

pub near-held : (r : Near) (from to i : ℕ) → r ≡ near from to i → 0 < from → (r.low < from) × (r.high < from)
near-held r from to i e h = (rw e (low-in from to i h), rw e (high-in from to i h))

pub row_in : (k h w len : ℕ) → len ≡ h * w * 3 → k < h → (k * w + w) * 3 ≤ len
row_in k h w len e l = omega (arith, fit w l)
