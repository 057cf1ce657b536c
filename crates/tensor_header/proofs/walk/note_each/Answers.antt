-- `walk::note_each` meets its contract. Assumes nothing.
use mathlib.Core.Path.{◌≡◌, refl, ap, ◌∙◌}
use mathlib.Core.Bool.{Bool, cond}
use mathlib.Core.List.{List}
use Prim.Native.Nat.{ℕ}
use native.Mathlib.Omega.{arith}
use lib.ListN.{length, get_or, drop, length-set}
use Rattle.buffers.specs.Rows.{tab}
use Rattle.buffers.specs.Region.{put}
use Rattle.buffers.specs.inner.Apart.{after}
use Rattle.buffers.proofs.Lists.{length-tab, tab-step-0}
use Rattle.buffers.proofs.Regions.{put_all, get_or-put}
use Rattle.encoder_settings.specs.declared.EncoderSettings.{EncoderSettings}
use Rattle.tensor_header.specs.Tensors.{tensors}
use Rattle.tensor_header.specs.inner.Named.{names, named_at}
use Rattle.tensor_header.specs.inner.Walked.{noted}
use Rattle.tensor_header.proofs.walk.note_each.Goals as goal

pub loop-i-init : goal.loop-i-init
unfolding put tab
loop-i-init c = (omega arith, refl, refl)

abbrev noted-at : EncoderSettings → List ℕ → ℕ → List ℕ → ℕ → ℕ
noted-at s l v old k = cond (named_at (names (tensors s)) k l) v (get_or old k 0)

-- what is not yet written is as it was
untouched : (old new : List ℕ) (i : ℕ) (f : ℕ → ℕ) → new ≡ put old 0 (tab i f) → get_or new i 0 ≡ get_or old i 0
untouched old new i f e = ap (λ (l : List ℕ). get_or l i 0) e ∙ get_or-put old 0 (tab i f) i 0 (after (omega (arith, length-tab i f)))

picks : (t u : Bool) (v x y r : ℕ) → r ≡ cond t v x → t ≡ u → x ≡ y → r ≡ cond u v y
picks t u v x y r a b c = a ∙ ap (λ (z : Bool). cond z v x) b ∙ ap (cond u v) c

pub loop-i-preserved : goal.loop-i-preserved
loop-i-preserved c =
    (omega arith, simp length-set c.loop-i.invariant.1, tab-step-0 c.args.places.now c.loop-i.places c.loop-i.i (noted-at c.args.s (drop c.args.name c.args.h.now) c.args.value c.args.places.now) c.pick.result c.loop-i.invariant.2 (picks _ _ c.args.value _ _ _ c.pick.ensures c.tensor_is-is.ensures (untouched c.args.places.now c.loop-i.places c.loop-i.i (noted-at c.args.s (drop c.args.name c.args.h.now) c.args.value c.args.places.now) c.loop-i.invariant.2)))

pub shape_of-places : goal.shape_of-places
shape_of-places c = c.loop-i.invariant.1

pub returns : goal.returns
unfolding noted
returns c =
    let f = noted-at c.args.s (drop c.args.name c.args.h.now) c.args.value c.args.places.now in
    let e : c.loop-i.i ≡ length c.args.places.now = omega arith in
    c.loop-i.invariant.2 ∙ ap (λ (n : ℕ). put c.args.places.now 0 (tab n f)) e ∙ put_all c.args.places.now (tab (length c.args.places.now) f) (length-tab (length c.args.places.now) f)
