-- `weights` meets its contract. Assumes nothing.
use mathlib.Core.Path.{◌≡◌, sym, ap, subst, ◌∙◌}
use mathlib.Core.List.{List}
use Prim.Native.Nat.{ℕ, ◌+◌, ◌-◌, ◌≤◌}
use native.Mathlib.Omega.{arith}
use native.Mathlib.Nat.{add-sub_cancel_left}
use lib.ListN.{length, take, drop, length-replicate}
use Rattle.buffers.specs.Region.{region}
use Rattle.buffers.proofs.Regions.{region-rest}
use Rattle.tensor_header.specs.Tensors.{tensors}
use Rattle.tensor_header.specs.Header.{header_length, data_of}
use Rattle.tensor_header.proofs.Unique.{opens}
use Rattle.weights.proofs.Sums.{few-tensors}
use Rattle.weights.proofs.Weighs.{when-refused, when-open}
use Rattle.std.proofs.lemmas.Result.{err_from_is_err_and}
use Rattle.weights.proofs.weights.Goals as goal

-- the data: all that is behind the header
rest : (file : List ℕ) (n : ℕ) → n ≡ header_length file → region file (8 + n) (length file - (8 + n)) ≡ data_of file
rest file n e = region-rest file (8 + n) (length file - (8 + n)) (omega arith) ∙ ap (λ (m : ℕ). drop (8 + m) file) e

pub overflow_add-e : goal.overflow_add-e
overflow_add-e c = let o = opens _ _ _ _ _ c.in_ok-n.ensures in omega (arith, o.long, o.inside, o.eight)

pub slice_bounds-read-end : goal.slice_bounds-read-end
slice_bounds-read-end c = let o = opens _ _ _ _ _ c.in_ok-n.ensures in omega (arith, o.long, o.inside, o.eight)

pub slice_bounds-read-count : goal.slice_bounds-read-count
slice_bounds-read-count c = let o = opens _ _ _ _ _ c.in_ok-n.ensures in omega (arith, o.long, o.inside, o.eight)

pub read-requires : goal.read-requires
read-requires c = let o = opens _ _ _ _ _ c.in_ok-n.ensures in record {
  s_value = o.settings;
  s_in_bounds = subst (λ (n : ℕ). length (tensors c.args.s) ≤ n) (sym (c.«open».auto.places ∙ length-replicate {A = ℕ} 440 0)) (few-tensors c.args.s o.settings);
}

pub returns : goal.returns
returns c = let o = opens _ _ _ _ _ c.in_ok-n.ensures in when-open c.args.s c.args.file.now _ _ c.args.out.now _ _ _ (subst (λ (n : ℕ). length (tensors c.args.s) ≤ n) (sym (length-replicate {A = ℕ} 440 0)) (few-tensors c.args.s o.settings)) c.in_ok-n.ensures _ _ (ap (λ (n : ℕ). take n (drop 8 c.args.file.now)) (add-sub_cancel_left 8 _ ∙ o.long)) (rest c.args.file.now _ o.long) c.read.ensures

pub returns-in_err-n : goal.returns-in_err-n
returns-in_err-n c = let p = err_from_is_err_and c.from_residual.result c.from_residual.ensures.1 in rw (p.1, p.2) (when-refused c.args.s c.args.file.now _ _ c.args.out.now _ c.in_err-n.ensures)
