-- `picture_resize::held_of` meets its contract. Assumes nothing.
use Rattle.std.proofs.Common.{◌≡◌, Bool, cond, sym, ap, ◌∙◌, inl, inr}
use lib.Ieee.{Float, lt}
use Rattle.number_floats.specs.Constants.{zero64}
use Rattle.picture_resize.specs.Resize.{byte_top}
use Rattle.picture_resize.specs.inner.Weighed.{held_low, held}
use Rattle.picture_resize.proofs.held_of.Goals as goal

pub returns-then-low : goal.returns-then-low
unfolding held
returns-then-low c =
    let low : c.if-x.low ≡ held_low c.args.x = let x = c.args.x in
    elim c.if-x.branch-raw [
      | inl p ↦ p.low-is ∙ sym (ap (λ (b : Bool). cond b x zero64) p.if-x.true)
      | inr p ↦ p.low-is ∙ sym (ap (λ (b : Bool). cond b x zero64) p.if-x.false)
    ] in
    let e = low in
    let y = held_low c.args.x in
    e ∙ sym (ap (λ (b : Bool). cond b y byte_top) (ap (λ (z : Float). lt z byte_top) (sym e) ∙ c.if-low.true))

pub returns-else-low : goal.returns-else-low
unfolding held
returns-else-low c =
    let low : c.if-x.low ≡ held_low c.args.x = let x = c.args.x in
    elim c.if-x.branch-raw [
      | inl p ↦ p.low-is ∙ sym (ap (λ (b : Bool). cond b x zero64) p.if-x.true)
      | inr p ↦ p.low-is ∙ sym (ap (λ (b : Bool). cond b x zero64) p.if-x.false)
    ] in
    let e = low in
    let y = held_low c.args.x in
    sym (ap (λ (b : Bool). cond b y byte_top) (ap (λ (z : Float). lt z byte_top) (sym e) ∙ c.if-low.false))
