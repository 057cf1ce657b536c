-- How a text is read, byte by byte. Assumes nothing.
use mathlib.Core.Path.{◌≡◌, refl, ap}
use mathlib.Core.Bool.{Bool, true, false}
use mathlib.Core.List.{List, [], ◌∷◌, ◌++◌}
use Prim.Native.Nat.{ℕ, ◌≤◌}
use native.Mathlib.Omega.{arith}
use borrow.Author.Tests.{le-leb, leb-true}
use Rattle.json_grammar.specs.inner.Machine.{Sym, height, Settled, took, empty, stuck, settle, ready, Out, past, stop, deep, at_end, limited, fine, onward, go}

-- the bytes of p are taken, with at most d brackets open, and γ is expected behind them
pub data Walk (d : ℕ) : List Sym → List ℕ → List Sym → Type 0 where
  here : {α : List Sym} → Walk d α [] α
  step : {α β γ : List Sym} {b : ℕ} {p : List ℕ} (o : Bool) → settle α b ≡ took o β → fine d o β ≡ true → Walk d β p γ → Walk d α (b ∷ p) γ

-- how reading ends, where α is expected and l is left
pub data End (d : ℕ) : List Sym → List ℕ → Out → Type 0 where
  passes-end : {α : List Sym} → ready α ≡ true → End d α [] (past [])
  stops_end : {α : List Sym} → ready α ≡ false → End d α [] (stop [])
  passes : {α : List Sym} {b : ℕ} {l : List ℕ} → settle α b ≡ empty → End d α (b ∷ l) (past (b ∷ l))
  stops : {α : List Sym} {b : ℕ} {l : List ℕ} → settle α b ≡ stuck → End d α (b ∷ l) (stop (b ∷ l))
  deepens : {α β : List Sym} {b : ℕ} {l : List ℕ} (o : Bool) → settle α b ≡ took o β → fine d o β ≡ false → End d α (b ∷ l) (deep (b ∷ l))

pub record Trace (d : ℕ) (α : List Sym) (l : List ℕ) (out : Out) : Type 0 where
  pub taken : List ℕ
  pub left : List ℕ
  pub expected : List Sym
  pub all : taken ++ left ≡ l
  pub walk : Walk d α taken expected
  pub ends : End d expected left out

module _ (d : ℕ) where
  trace-end : (α : List Sym) (t : Bool) → ready α ≡ t → Trace d α [] (at_end t)
  trace-end α true e = record { taken = []; left = []; expected = α; all = refl; walk = here; ends = passes-end e }
  trace-end α false e = record { taken = []; left = []; expected = α; all = refl; walk = here; ends = stops_end e }

  trace-took :
      {α : List Sym} (b : ℕ) (l : List ℕ) (o : Bool) (β : List Sym) →
      settle α b ≡ took o β →
      ((β : List Sym) → Trace d β l (go d β l)) →
      (t : Bool) → fine d o β ≡ t →
      Trace d α (b ∷ l) (limited t (go d β l) (b ∷ l))
  trace-took b l o β e ih true w =
      let k = ih β in
      record { taken = b ∷ k.taken; left = k.left; expected = k.expected; all = ap (λ (x : List ℕ). b ∷ x) k.all; walk = step o e w k.walk; ends = k.ends }
  trace-took {α} b l o β e ih false w = record { taken = []; left = b ∷ l; expected = α; all = refl; walk = here; ends = deepens o e w }

  trace-step : {α : List Sym} (b : ℕ) (l : List ℕ) → ((β : List Sym) → Trace d β l (go d β l)) → (t : Settled) → settle α b ≡ t → Trace d α (b ∷ l) (onward d (b ∷ l) (λ β. go d β l) t)
  trace-step b l ih (took o β) e = trace-took b l o β e ih (fine d o β) refl
  trace-step {α} b l ih empty e = record { taken = []; left = b ∷ l; expected = α; all = refl; walk = here; ends = passes e }
  trace-step {α} b l ih stuck e = record { taken = []; left = b ∷ l; expected = α; all = refl; walk = here; ends = stops e }

  -- every answer has its trace
  pub trace : (l : List ℕ) (α : List Sym) → Trace d α l (go d α l)
  unfolding go
  trace [] α = trace-end α (ready α) refl
  trace (b ∷ l) α = trace-step b l (λ β. trace l β) (settle α b) refl

-- reading goes as the walk does, whatever follows, and with more brackets too
fine_more : (d e : ℕ) (o : Bool) (β : List Sym) → d ≤ e → fine d o β ≡ true → fine e o β ≡ true
fine_more d e true β h w = le-leb (height β) e (omega (arith, leb-true (height β) d w))
fine_more d e false β h w = refl

pub walk-go : (d e : ℕ) {α β : List Sym} {p : List ℕ} → d ≤ e → Walk d α p β → (l : List ℕ) → go e α (p ++ l) ≡ go e β l
unfolding go
walk-go d e h here l = refl
walk-go d e h (step {β = β} {b = b} {p = p} o s w k) l = rw (s, fine_more d e o β h w) (walk-go d e h k l)
