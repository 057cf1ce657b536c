-- A byte is spotted right: by a guess that was tried on the whole table, and by halving in every allowed table; then what is
-- held to a pattern is the pattern's byte. Assumes nothing.
use mathlib.Core.Path.{◌≡◌, refl, sym, ap, ◌∙◌, subst}
use mathlib.Core.Bool.{Bool, true, false, cond, true≢false}
use mathlib.Core.List.{List}
use Prim.Native.Nat.{ℕ, ◌+◌, ◌*◌, ◌/◌, ◌%◌, ◌≤◌, ◌<◌}
use native.Mathlib.Omega.{arith}
use borrow.Author.Tests.{eqb-true, eq-eqb, ne_eqb, lt-ltb, le-ltb}
use lib.Dec.{T, eqb, ltb}
use lib.ListN.{get_or}
use lib.Ieee.{Float, nan, binary32, fits, of_bits, to_bits}
use lib.Ieee.Bits.{of_bits-to_bits}
use Rattle.buffers.proofs.Lists.{all-at}
use Rattle.picture_samples.specs.Samples.{channels_allowed, value, byte_of, entry}
use Rattle.picture_samples.proofs.Channels.{channel-of, distinct_of}
use Rattle.picture_samples.proofs.Finds.{found, missed, pattern-back}
use Rattle.std.specs.Prelude.{Option, Some, None}
use Rattle.std.specs.Option.{is_some}
use Rattle.picture_spot.specs.declared.Way.{Way}
use Rattle.picture_spot.specs.declared.Way.TheVariants.{Guess, Halve}
use Rattle.picture_spot.specs.inner.Spot.{guessed, guesses, halved, guessed_with, guessed_by, spotted, tried, or_none, scaled, way_of, Spots}
use Rattle.picture_spot.proofs.Halving.{halved-lt, halved-right}

-- ---- the guess
pub guessed-lt : (slope shift v : Float) → guessed slope shift v < 256
unfolding guessed
guessed-lt slope shift v = omega arith

-- a guess that was tried is right
tried-right : (slope shift : List Float) (t : List ℕ) → guesses slope shift t ≡ true
    → (c b : ℕ) → c < 3 → b < 256 → guessed (get_or slope c nan) (get_or shift c nan) (value (entry t) c b) ≡ b
unfolding guesses
tried-right slope shift t e c b h l =
    let i = c * 256 + b in
    let q : i / 256 ≡ c = omega arith in
    let r : i % 256 ≡ b = omega arith in
    let n : i < 768 = omega arith in
    let f : ℕ → ℕ → Bool = λ c j. eqb (guessed (get_or slope c nan) (get_or shift c nan) (of_bits binary32 (get_or t i 0))) j in
    let g : f (i / 256) (i % 256) ≡ true = all-at 768 (λ m. eqb (guessed (get_or slope (m / 256) nan) (get_or shift (m / 256) nan) (of_bits binary32 (get_or t m 0))) (m % 256)) e i n in
    eqb-true _ b (rw (q, r) at g)

-- ---- either way
below : (h : Bool) (n : ℕ) → n < 256 → cond h n 0 < 256
below true n l = l
below false n l = omega arith

pub spotted-lt : (w : Way) (k : ℕ → ℕ → ℕ) (c : ℕ) (v : Float) → spotted w k c v < 256
unfolding spotted
spotted-lt (Guess slope shift) k c v = below (ltb c 3) _ (guessed-lt (get_or slope c nan) (get_or shift c nan) v)
spotted-lt Halve k c v = below (ltb c 3) _ (halved-lt k c v)

pub no-spot : (w : Way) (k : ℕ → ℕ → ℕ) (c : ℕ) (v : Float) → 3 ≤ c → 0 ≡ spotted w k c v
unfolding spotted
no-spot (Guess slope shift) k c v h = rw (le-ltb c 3 h) refl
no-spot Halve k c v h = rw (le-ltb c 3 h) refl

-- the way of an allowed table spots its bytes
pub spots-of : (w : Way) (t : List ℕ) (mean deviation : List Float) → w ≡ way_of t mean deviation → channels_allowed (value (entry t)) ≡ true → Spots t (spotted w (entry t))
unfolding way_of spotted
spots-of w t mean deviation e a = subst (λ (u : Way). Spots t (spotted u (entry t))) (sym e) (go (guesses (scaled deviation) (scaled mean) t) refl)
  where
    go : (b : Bool) → guesses (scaled deviation) (scaled mean) t ≡ b → Spots t (spotted (cond b (Guess (scaled deviation) (scaled mean)) Halve) (entry t))
    go true g = record {
      allowed = a;
      low = λ c v. spotted-lt (Guess (scaled deviation) (scaled mean)) (entry t) c v;
      right = λ c b h l. rw (lt-ltb c 3 h) (tried-right (scaled deviation) (scaled mean) t g c b h l);
    }
    go false g = record {
      allowed = a;
      low = λ c v. spotted-lt Halve (entry t) c v;
      right = λ c b h l. rw (lt-ltb c 3 h) (halved-right (entry t) c (channel-of (entry t) a c h) b l);
    }

-- where it is by arithmetic
pub by-guess : (w : Way) (slope shift : List Float) (t : List ℕ) → w ≡ Guess slope shift → Spots t (spotted w (entry t)) → Spots t (guessed_by slope shift)
unfolding spotted
by-guess w slope shift t e s = record {
  allowed = s.allowed;
  low = λ c v. guessed-lt (get_or slope c nan) (get_or shift c nan) v;
  right = λ c b h l. rw (e, lt-ltb c 3 h) at (s.right c b h l);
}

-- ---- what is held to a pattern
pub tried-is : (k : ℕ → ℕ → ℕ) (g : ℕ → Float → ℕ) (c b : ℕ) → c < 3 → tried k g c b ≡ cond (eqb (k c (g c (of_bits binary32 b))) b) (Some (g c (of_bits binary32 b))) None
unfolding tried
tried-is k g c b h = rw (lt-ltb c 3 h) refl

pub no-channel : (k : ℕ → ℕ → ℕ) (g : ℕ → Float → ℕ) (c b : ℕ) → 3 ≤ c → None ≡ tried k g c b
unfolding tried
no-channel k g c b h = rw (le-ltb c 3 h) refl

-- in channel c that channel's slope and shift are enough
pub own-channel : (slope shift : List Float) (k : ℕ → ℕ → ℕ) (c b : ℕ) → tried k (guessed_with (get_or slope c nan) (get_or shift c nan)) c b ≡ tried k (guessed_by slope shift) c b
unfolding tried
own-channel slope shift k c b = refl

-- a float's pattern is read as the float
pub as-spotted : (g : ℕ → Float → ℕ) (c : ℕ) (v : Float) → T (fits binary32 v) → g c v ≡ g c (of_bits binary32 (to_bits binary32 v))
as-spotted g c v f = ap (g c) (sym (of_bits-to_bits binary32 v f))

-- ---- what spots every byte finds a pattern's byte, if it has one
module _ (t : List ℕ) (g : ℕ → Float → ℕ) (s : Spots t g) (c : ℕ) (h : c < 3) where
  pub tried-byte : (b : ℕ) → or_none (tried (entry t) g c b) ≡ byte_of (entry t) c b
  tried-byte b = ap or_none (tried-is (entry t) g c b h) ∙ go (eqb (entry t c (g c (of_bits binary32 b))) b) refl
    where
      go : (x : Bool) → eqb (entry t c (g c (of_bits binary32 b))) b ≡ x → or_none (cond x (Some (g c (of_bits binary32 b))) None) ≡ byte_of (entry t) c b
      go true e = sym (found (entry t) c b (g c (of_bits binary32 b)) (distinct_of (entry t) s.allowed c h) (s.low c (of_bits binary32 b)) (eqb-true _ b e))
      go false e =
          let n : entry t c (g c (of_bits binary32 b)) ≡ b → ⊥ = λ q. true≢false (sym (eq-eqb _ b q) ∙ e) in
          sym (missed (entry t) c b (λ j l q. n (ap (entry t c) (ap (λ (x : ℕ). g c (of_bits binary32 x)) (sym q) ∙ s.right c j h l) ∙ q)))

  -- whether it has one
  pub tried-known : (b : ℕ) → is_some (tried (entry t) g c b) ≡ ltb (byte_of (entry t) c b) 256
  tried-known b = ap is_some (tried-is (entry t) g c b h) ∙ go (eqb (entry t c (g c (of_bits binary32 b))) b) ∙ ap (λ (o : Option ℕ). ltb (or_none o) 256) (sym (tried-is (entry t) g c b h)) ∙ ap (λ (n : ℕ). ltb n 256) (tried-byte b)
    where
      go : (x : Bool) → is_some (cond x (Some (g c (of_bits binary32 b))) None) ≡ ltb (or_none (cond x (Some (g c (of_bits binary32 b))) None)) 256
      go true = sym (lt-ltb (g c (of_bits binary32 b)) 256 (s.low c (of_bits binary32 b)))
      go false = refl

  -- and what it spots of a float that has a byte is the byte
  pub spot-byte : (v : Float) → T (fits binary32 v) → byte_of (entry t) c (to_bits binary32 v) < 256 → g c v ≡ byte_of (entry t) c (to_bits binary32 v)
  spot-byte v f l =
      let b = byte_of (entry t) c (to_bits binary32 v) in
      as-spotted g c v f ∙ ap (λ (x : ℕ). g c (of_bits binary32 x)) (sym (pattern-back (entry t) c (to_bits binary32 v) l)) ∙ s.right c b h l
