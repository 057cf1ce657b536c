-- The lengths of what is left. Assumes nothing.
use mathlib.Core.Path.{◌≡◌}
use mathlib.Core.List.{List}
use Prim.Native.Nat.{ℕ}
use lib.ListN.{length}
use lib.Ieee.{Float}
use Rattle.buffers.proofs.Lists.{length-tab}
use Rattle.encoder_elements.specs.Element.{rounded, added, gated, gelued}

pub length-rounded : (n : ℕ) (x : List Float) → length (rounded n x) ≡ n
unfolding rounded
length-rounded n x = simp length-tab

pub length-added : (n : ℕ) (x y : List Float) → length (added n x y) ≡ n
unfolding added
length-added n x y = simp length-tab

pub length-gated : (n : ℕ) (x y : List Float) → length (gated n x y) ≡ n
unfolding gated
length-gated n x y = simp length-tab

pub length-gelued : (n : ℕ) (x : List Float) → length (gelued n x) ≡ n
unfolding gelued
length-gelued n x = simp length-tab
