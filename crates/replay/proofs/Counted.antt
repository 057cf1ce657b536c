-- How large counts are. Assumes nothing.
use Rattle.std.proofs.Common.{ℕ, zero, suc, ◌+◌, ◌-◌, ◌<◌, ◌≤◌, List, [], ◌∷◌, get_or, replicate, le_refl, arith}
use Rattle.replay.specs.Counts.{bump}

pub zeros : (n k : ℕ) → get_or (replicate n 0) k 0 ≤ 0
zeros zero k = le_refl 0
zeros (suc n) zero = le_refl 0
zeros (suc n) (suc k) = zeros n k

-- a count more is at most one more
pub bumped : (c : List ℕ) (k m : ℕ) → ((j : ℕ) → get_or c j 0 ≤ m) → (j : ℕ) → get_or (bump c k) j 0 ≤ m + 1
bumped [] k m h j = omega arith
bumped (x ∷ xs) zero m h zero = omega (arith, h 0)
bumped (x ∷ xs) zero m h (suc j) = omega (arith, h (suc j))
bumped (x ∷ xs) (suc k) m h zero = omega (arith, h 0)
bumped (x ∷ xs) (suc k) m h (suc j) = bumped xs k m (λ i. h (suc i)) j

-- a count and what is left, a of it and then fewer, are at most m
pub spent : (c : List ℕ) (k a b m : ℕ) → ((j : ℕ) → get_or c j 0 + a ≤ m) → b < a → (j : ℕ) → get_or (bump c k) j 0 + b ≤ m
spent c k a b m h l j = omega (arith, l, h j, bumped c k (m - a) (λ i. omega (arith, h i)) j)
