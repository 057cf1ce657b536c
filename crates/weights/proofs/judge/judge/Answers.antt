-- `judge::judge` meets its contract. Assumes nothing.
use Rattle.std.proofs.Common.{◌≡◌, ap, ◌∙◌, rules}
use native.Mathlib.Omega.{arith}
use Rattle.std.specs.Prelude.{Ok}
use Rattle.weights.specs.File.{is_damaged, is_other, is_misplaced}
use Rattle.weights.specs.inner.Described.{summary, fails_damaged, fails_other, fails_misplaced}
use Rattle.weights.proofs.Tried.{damaged-found, other-found, misplaced-found}
use Rattle.weights.proofs.Answers.{place-high, is-16, is-17, is-18, is-5, is-0}
use Rattle.weights.proofs.judge.judge.Goals as goal

pub refused-requires : goal.refused-requires
refused-requires c = omega (arith, c.tensor_count-n.ensures.upper_bound)

pub returns-then-i-n : goal.returns-then-i-n
returns-then-i-n c = record { is = λ es o. c.refused.ensures (place-high c.args.s c.args.h.now c.args.places.now es o c.args.bytes c.args.room c.first_at-i.result (rw (← c.tensor_count-n.ensures.value) c.if-i-n.true)) ∙ is-16 c.args.s c.args.h.now c.args.places.now es o c.args.bytes c.args.room c.first_at-i.result (c.first_at-i.ensures.is (λ n f. is_damaged f) (λ x count b l m p. let told : b ≡ fails_damaged (summary x) = search rules in told ∙ damaged-found x) es o) (rw (← c.tensor_count-n.ensures.value) c.if-i-n.true) }

pub refused-requires-then-j-n : goal.refused-requires-then-j-n
refused-requires-then-j-n c = omega (arith, c.tensor_count-n.ensures.upper_bound)

pub returns-then-j-n : goal.returns-then-j-n
returns-then-j-n c = record { is = λ es o. c.refused-then-j-n.ensures (place-high c.args.s c.args.h.now c.args.places.now es o c.args.bytes c.args.room c.first_at-j.result (rw (← c.tensor_count-n.ensures.value) c.if-j-n.true)) ∙ is-17 c.args.s c.args.h.now c.args.places.now es o c.args.bytes c.args.room c.first_at-i.result (c.first_at-i.ensures.is (λ n f. is_damaged f) (λ x count b l m p. let told : b ≡ fails_damaged (summary x) = search rules in told ∙ damaged-found x) es o) (rw (← c.tensor_count-n.ensures.value) c.if-i-n.false) c.first_at-j.result (c.first_at-j.ensures.is is_other (λ x count b l m p. let told : b ≡ fails_other count (summary x) = search rules in told ∙ other-found count l m x) es o) (rw (← c.tensor_count-n.ensures.value) c.if-j-n.true) }

pub refused-requires-then-k-n : goal.refused-requires-then-k-n
refused-requires-then-k-n c = omega (arith, c.tensor_count-n.ensures.upper_bound)

pub returns-then-k-n : goal.returns-then-k-n
returns-then-k-n c = record { is = λ es o. c.refused-then-k-n.ensures (place-high c.args.s c.args.h.now c.args.places.now es o c.args.bytes c.args.room c.first_at-k.result (rw (← c.tensor_count-n.ensures.value) c.if-k-n.true)) ∙ is-18 c.args.s c.args.h.now c.args.places.now es o c.args.bytes c.args.room c.first_at-i.result (c.first_at-i.ensures.is (λ n f. is_damaged f) (λ x count b l m p. let told : b ≡ fails_damaged (summary x) = search rules in told ∙ damaged-found x) es o) (rw (← c.tensor_count-n.ensures.value) c.if-i-n.false) c.first_at-j.result (c.first_at-j.ensures.is is_other (λ x count b l m p. let told : b ≡ fails_other count (summary x) = search rules in told ∙ other-found count l m x) es o) (rw (← c.tensor_count-n.ensures.value) c.if-j-n.false) c.first_at-k.result (c.first_at-k.ensures.is (is_misplaced c.args.bytes) (λ x count b l m p. let told : b ≡ fails_misplaced c.args.bytes count (summary x) = search rules in told ∙ misplaced-found c.args.bytes count x) es o) (rw (← c.tensor_count-n.ensures.value) c.if-k-n.true) }

pub returns-then-room-floats : goal.returns-then-room-floats
returns-then-room-floats c = record { is = λ es o. is-5 c.args.s c.args.h.now c.args.places.now es o c.args.bytes c.args.room c.first_at-i.result (c.first_at-i.ensures.is (λ n f. is_damaged f) (λ x count b l m p. let told : b ≡ fails_damaged (summary x) = search rules in told ∙ damaged-found x) es o) (rw (← c.tensor_count-n.ensures.value) c.if-i-n.false) c.first_at-j.result (c.first_at-j.ensures.is is_other (λ x count b l m p. let told : b ≡ fails_other count (summary x) = search rules in told ∙ other-found count l m x) es o) (rw (← c.tensor_count-n.ensures.value) c.if-j-n.false) c.first_at-k.result (c.first_at-k.ensures.is (is_misplaced c.args.bytes) (λ x count b l m p. let told : b ≡ fails_misplaced c.args.bytes count (summary x) = search rules in told ∙ misplaced-found c.args.bytes count x) es o) (rw (← c.tensor_count-n.ensures.value) c.if-k-n.false) (rw (← c.total-floats.ensures) c.if-room-floats.true) }

pub returns : goal.returns
returns c = record { is = λ es o. ap Ok c.total-floats.ensures ∙ is-0 c.args.s c.args.h.now c.args.places.now es o c.args.bytes c.args.room c.first_at-i.result (c.first_at-i.ensures.is (λ n f. is_damaged f) (λ x count b l m p. let told : b ≡ fails_damaged (summary x) = search rules in told ∙ damaged-found x) es o) (rw (← c.tensor_count-n.ensures.value) c.if-i-n.false) c.first_at-j.result (c.first_at-j.ensures.is is_other (λ x count b l m p. let told : b ≡ fails_other count (summary x) = search rules in told ∙ other-found count l m x) es o) (rw (← c.tensor_count-n.ensures.value) c.if-j-n.false) c.first_at-k.result (c.first_at-k.ensures.is (is_misplaced c.args.bytes) (λ x count b l m p. let told : b ≡ fails_misplaced c.args.bytes count (summary x) = search rules in told ∙ misplaced-found c.args.bytes count x) es o) (rw (← c.tensor_count-n.ensures.value) c.if-k-n.false) (rw (← c.total-floats.ensures) c.if-room-floats.false) }
