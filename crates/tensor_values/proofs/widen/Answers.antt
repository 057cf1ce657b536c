-- `tensor_values::widen` meets its contract. Assumes nothing.
use mathlib.Core.Path.{◌≡◌, sym, ap, ◌∙◌}
use mathlib.Core.List.{List}
use Prim.Native.Nat.{ℕ, ◌/◌, ◌≤◌}
use lib.ListN.{length}
use Rattle.buffers.specs.Region.{put, copied}
use Rattle.tensor_values.specs.declared.Kind.{Kind}
use Rattle.tensor_values.specs.declared.Kind.TheVariants.{F32, BF16, F16}
use Rattle.tensor_values.specs.Values.{size_of, values_of}
use Rattle.tensor_values.proofs.Laws.{size-positive, fits, short}
use Rattle.tensor_values.proofs.widen.Goals as goal

-- the kind that was found has room, and what its loop leaves is what is asked
module _ (kind k : Kind) (b out : List ℕ) (m : ℕ) (s : m ≡ size_of kind) (e : kind ≡ k) (l : length b / m ≤ length out) where
  room : length b / size_of k ≤ length out
  room = rw (← e, ← s) l

  written : {t : List ℕ} → t ≡ put out 0 (values_of k b) → t ≡ copied (values_of kind b) out
  written g = g ∙ fits k b out room ∙ ap (λ (j : Kind). copied (values_of j b) out) (sym e)

pub nonzero_div-n : goal.nonzero_div-n
nonzero_div-n c = rw c.size_of.ensures (size-positive c.args.kind)

pub returns-then-out-n : goal.returns-then-out-n
returns-then-out-n c = short c.args.kind c.args.bytes.now c.args.out.now (rw (← c.size_of.ensures) c.if-out-n.true)

pub widen_f32-requires : goal.widen_f32-requires
widen_f32-requires c =
    room c.args.kind F32 c.args.bytes.now c.args.out.now c.size_of.result c.size_of.ensures c.in-F32.is c.if-out-n.false

pub widen_bf16-requires : goal.widen_bf16-requires
widen_bf16-requires c =
    room c.args.kind BF16 c.args.bytes.now c.args.out.now c.size_of.result c.size_of.ensures c.in-BF16.is c.if-out-n.false

pub widen_f16-requires : goal.widen_f16-requires
widen_f16-requires c =
    room c.args.kind F16 c.args.bytes.now c.args.out.now c.size_of.result c.size_of.ensures c.in-F16.is c.if-out-n.false

pub returns-in-F32 : goal.returns-in-F32
returns-in-F32 c =
    written c.args.kind F32 c.args.bytes.now c.args.out.now c.size_of.result c.size_of.ensures c.in-F32.is c.if-out-n.false c.widen_f32.ensures

pub returns-in-BF16 : goal.returns-in-BF16
returns-in-BF16 c =
    written c.args.kind BF16 c.args.bytes.now c.args.out.now c.size_of.result c.size_of.ensures c.in-BF16.is c.if-out-n.false c.widen_bf16.ensures

pub returns-in-F16 : goal.returns-in-F16
returns-in-F16 c =
    written c.args.kind F16 c.args.bytes.now c.args.out.now c.size_of.result c.size_of.ensures c.in-F16.is c.if-out-n.false c.widen_f16.ensures
