-- `hex::pair` meets its contract. Assumes nothing.
use Rattle.std.proofs.Common.{◌≡◌, ℕ, ◌+◌, ◌*◌, ◌<◌, refl, sym, ◌∙◌, arith}
use Rattle.unpatch_form.specs.Hex as Hex
use Rattle.unpatch_form.proofs.Limits.{nibble-small}
use Rattle.unpatch_read.proofs.hex.pair.Goals as goal

pub returns-in_err-x : goal.returns-in_err-x
unfolding Hex.pair
returns-in_err-x c =
    let e = sym c.nibble.ensures ∙ c.in_err-x.was in
    rw e c.from_residual.ensures

pub returns-in_err-y : goal.returns-in_err-y
unfolding Hex.pair
returns-in_err-y c =
    let e = sym c.nibble.ensures ∙ c.in_ok-x.was in
    let f = sym c.nibble-2.ensures ∙ c.in_err-y.was in
    rw (e, f) c.from_residual-in_err-y.ensures

pub overflow_mul-result : goal.overflow_mul-result
overflow_mul-result c = omega (arith, nibble-small _ _ (sym c.nibble.ensures ∙ c.in_ok-x.was))

pub overflow_add-result : goal.overflow_add-result
overflow_add-result c = omega (arith, nibble-small _ _ (sym c.nibble.ensures ∙ c.in_ok-x.was), nibble-small _ _ (sym c.nibble-2.ensures ∙ c.in_ok-y.was))

pub returns : goal.returns
unfolding Hex.pair
returns c =
    let e = sym c.nibble.ensures ∙ c.in_ok-x.was in
    let f = sym c.nibble-2.ensures ∙ c.in_ok-y.was in
    rw (e, f) refl
