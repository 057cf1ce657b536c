-- Any two results that satisfy the contract of a public function are equal. Assumes nothing.
use mathlib.Core.Path.{◌≡◌}
use mathlib.Core.List.{List}
use Prim.Native.Nat.{ℕ}
use Rattle.number_bf16_half_root.specs.Bf16 as Bf16
use Rattle.number_bf16_half_root.specs.Half as Half
use Rattle.number_bf16_half_root.specs.Root as Root
use Rattle.number_exp_tanh.specs.Exp as Exp
use Rattle.number_exp_tanh.specs.Tanh as Tanh
use Rattle.number_bf16_half_root.specs.Packed.{packed, widened}
use Rattle.number_bf16_half_root.proofs.Unique as Bits
use Rattle.number_bf16_half_root.proofs.Unique.{Packs, Widens}
use Rattle.number_floats.proofs.Unique.{one}

pub kz-bf16-unique : (x : ℕ) (r r' : ℕ) → r ≡ Bf16.bf16 x → r' ≡ Bf16.bf16 x → r ≡ r'
kz-bf16-unique x r r' = one _

pub kz-half-unique : (h : ℕ) (r r' : ℕ) → r ≡ Half.half h → r' ≡ Half.half h → r ≡ r'
kz-half-unique h r r' = one _

pub kz-root-unique : (x : ℕ) (r r' : ℕ) → r ≡ Root.root x → r' ≡ Root.root x → r ≡ r'
kz-root-unique x r r' = one _

pub kz-exp-unique : (x : ℕ) (r r' : ℕ) → r ≡ Exp.exp_bits x → r' ≡ Exp.exp_bits x → r ≡ r'
kz-exp-unique x r r' = one _

pub kz-tanh-unique : (y : ℕ) (r r' : ℕ) → r ≡ Tanh.tanh_bits y → r' ≡ Tanh.tanh_bits y → r ≡ r'
kz-tanh-unique y r r' = one _

pub kz-bf16-pack-unique : (x : ℕ) (r r' : ℕ) → r ≡ packed x → r' ≡ packed x → r ≡ r'
kz-bf16-pack-unique x r r' = one _

pub kz-bf16-widen-unique : (b : ℕ) (r r' : ℕ) → r ≡ widened b → r' ≡ widened b → r ≡ r'
kz-bf16-widen-unique b r r' = one _

pub kz-bf16-pack-all-unique : (x out : List ℕ) (r r' : ℕ) (out' out'' : List ℕ) → Packs x out r out' → Packs x out r' out'' → (r ≡ r') × (out' ≡ out'')
kz-bf16-pack-all-unique = Bits.bf16-pack-all-unique

pub kz-bf16-widen-all-unique : (b out : List ℕ) (r r' : ℕ) (out' out'' : List ℕ) → Widens b out r out' → Widens b out r' out'' → (r ≡ r') × (out' ≡ out'')
kz-bf16-widen-all-unique = Bits.bf16-widen-all-unique
