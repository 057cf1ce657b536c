-- Any two results that satisfy the contract of a public function are equal: `name_is` and `code` equal what they are said
-- to, and the others are here. Assumes nothing.
use mathlib.Core.Path.{◌≡◌, refl, sym, ap, subst, ◌∙◌}
use mathlib.Core.List.{List, [], ◌∷◌}
use Prim.Native.Nat.{ℕ}
use native.Mathlib.Omega.{arith}
use Rattle.json_grammar.specs.Judge.{Read}
use Rattle.std.specs.Prelude.{Ok, Option, cond}
use Rattle.json_grammar.specs.inner.Machine.{value, key, colon}
use Rattle.json_grammar.specs.inner.Steps.{place, Lexes, Skips, Reads}
use Rattle.json_grammar.proofs.Unique.{skips-unique, lexes-unique, reads-unique}
use Rattle.json_read.specs.inner.Steps.{part_place, Parts}
use Rattle.json_read.specs.inner.Steps.{Part}
use Rattle.json_read.proofs.Unique.{part-unique}
use Rattle.json_members.specs.inner.Bytes.{name_is, size_at}
use Rattle.json_members.specs.inner.Turns.{Turn, Turns, nameless, valueless, unparted, last, more}
use Rattle.json_members.specs.declared.member.Member.{Member}

-- of `read_size`
pub size-unique : (l : List ℕ) (r q : Option ℕ) → r ≡ size_at l → q ≡ size_at l → r ≡ q
size-unique l r q x y = x ∙ sym y

-- of `behind`
pub rest-unique : (o r q : Option ℕ) → r ≡ o → q ≡ o → r ≡ q
rest-unique o r q x y = x ∙ sym y

-- of `noted`
pub noted-unique : (w l : List ℕ) (v found r q : ℕ) → r ≡ cond (name_is w l) v found → q ≡ cond (name_is w l) v found → r ≡ q
noted-unique w l v found r q x y = x ∙ sym y

-- ---- of `read_member`

past-place : {r : Read} (n : ℕ) → r ≡ Ok n → r ≡ Ok (place r)
past-place n e = e ∙ ap Ok (sym (ap place e))

-- two members from one place are one
record One (q v m q' v' m' : ℕ) : Type 0 where
  quote : q ≡ q'
  start : v ≡ v'
  end : m ≡ m'

one_of : {s : List ℕ} {at d q v m q' v' m' : ℕ} → Turn s at d q v m → Turn s at d q' v' m' → One q v m q' v' m'
one_of {s} {at} {d} {q} {v} {m} {q'} {v'} {m'} x y =
    let e : x.behind ≡ y.behind = ap place (lexes-unique (Ok x.behind) (Ok y.behind) x.name-is y.name-is) in
    let f : v ≡ v' = skips-unique v v' (subst (λ (i : ℕ). Skips s i v) e x.skipped) y.skipped in
    let g : m ≡ m' = ap place (reads-unique (Ok m) (Ok m') (subst (λ (i : ℕ). Reads s i d (value ∷ []) (Ok m)) f x.value-is) y.value-is) in
    record { quote = skips-unique q q' x.quote-is y.quote-is; start = f; end = g }

parts-one : {s : List ℕ} {m m' : ℕ} {r q : Part} → m ≡ m' → Parts s m 0x7D r → Parts s m' 0x7D q → r ≡ q
parts-one {s} {m} {m'} {r} {q} e x y = part-unique r q (subst (λ (i : ℕ). Parts s i 0x7D r) e x) y

module _ {s : List ℕ} {at d : ℕ} where
  -- where a member is read, there is a name and a value
  no_name : {r : Read} {q v m : ℕ} → Lexes s at (key ∷ (colon ∷ [])) r → (r ≡ Ok (place r) → ⊥) → Turn s at d q v m → ⊥
  no_name {r} x h t = h (past-place t.behind (lexes-unique r (Ok t.behind) x t.name-is))

  no_value : {r : Read} {n w q v m : ℕ} → Lexes s at (key ∷ (colon ∷ [])) (Ok n) → Skips s n w → Reads s w d (value ∷ []) r → (r ≡ Ok (place r) → ⊥) → Turn s at d q v m → ⊥
  no_value {r} {n} {w} {q} {v} {m} x y z h t =
      let e : n ≡ t.behind = ap place (lexes-unique (Ok n) (Ok t.behind) x t.name-is) in
      let f : w ≡ v = skips-unique w v (subst (λ (i : ℕ). Skips s i w) e y) t.skipped in
      h (past-place m (reads-unique r (Ok m) (subst (λ (i : ℕ). Reads s i d (value ∷ []) r) f z) t.value-is))

  pub member-unique : (a b : Option Member) → Turns s at d a → Turns s at d b → a ≡ b
  member-unique a b (nameless x h) (nameless y k) = refl
  member-unique a b (nameless x h) (valueless y z w k) = refl
  member-unique a b (nameless x h) (unparted y k) = refl
  member-unique a b (nameless x h) (last y k) = absurd (no_name x h y)
  member-unique a b (nameless x h) (more y k) = absurd (no_name x h y)
  member-unique a b (valueless x y z h) (nameless w k) = refl
  member-unique a b (valueless x y z h) (valueless w u o k) = refl
  member-unique a b (valueless x y z h) (unparted w k) = refl
  member-unique a b (valueless x y z h) (last w k) = absurd (no_value x y z h w)
  member-unique a b (valueless x y z h) (more w k) = absurd (no_value x y z h w)
  member-unique a b (unparted x h) (nameless y k) = refl
  member-unique a b (unparted x h) (valueless y z w k) = refl
  member-unique a b (unparted x h) (unparted y k) = refl
  member-unique a b (unparted x h) (last y k) = let e = parts-one (one_of x y).end h k in let z : ◌≡◌ {A = ℕ} 0 1 = cc in absurd (omega arith)
  member-unique a b (unparted x h) (more y k) = let e = parts-one (one_of x y).end h k in let z : ◌≡◌ {A = ℕ} 0 1 = cc in absurd (omega arith)
  member-unique a b (last x h) (nameless y k) = absurd (no_name y k x)
  member-unique a b (last x h) (valueless y z w k) = absurd (no_value y z w k x)
  member-unique a b (last x h) (unparted y k) = let e = parts-one (one_of x y).end h k in let z : ◌≡◌ {A = ℕ} 0 1 = cc in absurd (omega arith)
  member-unique a b (last x h) (last y k) = let o = one_of x y in rw (o.quote, o.start) refl
  member-unique a b (last x h) (more y k) = let e = parts-one (one_of x y).end h k in let z : ◌≡◌ {A = ℕ} 0 1 = cc in absurd (omega arith)
  member-unique a b (more x h) (nameless y k) = absurd (no_name y k x)
  member-unique a b (more x h) (valueless y z w k) = absurd (no_value y z w k x)
  member-unique a b (more x h) (unparted y k) = let e = parts-one (one_of x y).end h k in let z : ◌≡◌ {A = ℕ} 0 1 = cc in absurd (omega arith)
  member-unique a b (more x h) (last y k) = let e = parts-one (one_of x y).end h k in let z : ◌≡◌ {A = ℕ} 0 1 = cc in absurd (omega arith)
  member-unique a b (more x h) (more y k) = let o = one_of x y in rw (o.quote, o.start, ap part_place (parts-one o.end h k)) refl
