-- `pool::add` meets its contract. Assumes nothing.
use mathlib.Core.Path.{◌≡◌, refl, sym, ◌∙◌}
use mathlib.Core.Bool.{true}
use Prim.Native.Nat.{ℕ, ◌≤◌}
use native.Mathlib.Omega.{arith}
use lib.ListN.{length}
use Rattle.std.proofs.Common.{rules}
use Rattle.pool_books.specs.declared.Pool.{Pool}
use Rattle.pool_books.specs.Book.{well_made}
use Rattle.pool_books.proofs.Orders.{made-says}
use Rattle.picture_limits.specs.declared.Refusal as F
use Rattle.pool.proofs.Answers.{told, untold, held-there, held-nowhere}
use Rattle.pool.proofs.Adds.{add-refused, add-unmade, add-held}
use Rattle.pool.proofs.add.Goals as goal

room : (p : Pool) (n : ℕ) → length p.held ≡ 64 → well_made p n ≡ true → p.count ≤ length p.held
room p n h m = omega (arith, (made-says p n m).few)

pub returns-in_default : goal.returns-in_default
returns-in_default c = record {
  answer = (add-refused c.args.p.now c.args.s.now c.args.key c.args.vectors.now F.Refusal.PoolSlice _ refl
      (add-unmade c.args.p.now c.args.s.now c.args.key c.args.vectors.now (untold c.args.p.now (length c.args.s.now) c.args.key (sym c.scan.ensures.books ∙ c.in_default.is)))).0;
  output = (add-refused c.args.p.now c.args.s.now c.args.key c.args.vectors.now F.Refusal.PoolSlice _ refl
      (add-unmade c.args.p.now c.args.s.now c.args.key c.args.vectors.now (untold c.args.p.now (length c.args.s.now) c.args.key (sym c.scan.ensures.books ∙ c.in_default.is)))).1;
}

pub returns-then-books-p : goal.returns-then-books-p
returns-then-books-p c =
    let t = told c.args.p.now (length c.args.s.now) c.args.key _ (sym c.scan.ensures.books ∙ c.in-Some.is) in record {
      answer = (add-refused c.args.p.now c.args.s.now c.args.key c.args.vectors.now F.Refusal.KeyHeld _ refl
          (add-held c.args.p.now c.args.s.now c.args.key c.args.vectors.now t.made (held-there c.args.p.now (length c.args.s.now) c.args.key _ (room c.args.p.now (length c.args.s.now) (c.in-Some.ensures.whole refl) t.made) t.made t.stands c.if-books-p.true))).0;
      output = (add-refused c.args.p.now c.args.s.now c.args.key c.args.vectors.now F.Refusal.KeyHeld _ refl
          (add-held c.args.p.now c.args.s.now c.args.key c.args.vectors.now t.made (held-there c.args.p.now (length c.args.s.now) c.args.key _ (room c.args.p.now (length c.args.s.now) (c.in-Some.ensures.whole refl) t.made) t.made t.stands c.if-books-p.true))).1;
    }

pub add_new-requires : goal.add_new-requires
add_new-requires c =
    let t = told c.args.p.now (length c.args.s.now) c.args.key _ (sym c.scan.ensures.books ∙ c.in-Some.is) in
    (t.made, t.sums, t.ends, held-nowhere c.args.p.now (length c.args.s.now) c.args.key _ (room c.args.p.now (length c.args.s.now) (c.in-Some.ensures.whole refl) t.made) t.made t.stands c.if-books-p.false, c.in-Some.ensures.whole refl)
