-- The table of any means and deviations, and what an allowed channel gives: its values are in order, no two patterns are alike,
-- and none is a NaN's. Assumes nothing.
use mathlib.Core.Path.{◌≡◌, refl, sym, ap, ◌∙◌, subst}
use mathlib.Core.Bool.{Bool, true, false, not, ◌&&◌, ◌||◌}
use mathlib.Core.List.{List}
use Prim.Native.Nat.{ℕ, zero, suc, ◌+◌, ◌*◌, ◌/◌, ◌%◌, ◌<◌}
use native.Mathlib.Omega.{arith}
use native.Mathlib.Decide.{dec_lt}
use mathlib.Core.Logic.{◌⊎◌, inl, inr, ⊎_elim}
use lib.Dec.{T}
use lib.ListN.{get_or}
use lib.Ieee.{Float, nan, inf, fin, binary32, lt, is_nan, of_bits, nan_bits}
use lib.Ieee.Bits.{of_bits-to_bits, nan_bits_is}
use lib.Ieee.Fits.{div-fits}
use lib.Ieee.Scale.{finite}
use Rattle.number_floats.proofs.Order.{lt-self, lt_trans}
use Rattle.buffers.specs.Rows.{tab, grid, all}
use Rattle.buffers.proofs.Lists.{get_or-tab, tab-ext, tab-mul, rows_ext, all-at, all-ext, and_left, and_right}
use Rattle.std.specs.Prelude.{Result, Ok, Err}
use Rattle.picture_limits.specs.declared.PictureSettings.{PictureSettings}
use Rattle.picture_limits.specs.declared.Refusal.{Refusal}
use Rattle.picture_limits.specs.declared.Refusal.TheVariants.{Setting, Channel}
use Rattle.picture_limits.specs.Refusal.{unless}
use Rattle.picture_limits.specs.Settings.{allowed}
use Rattle.picture_samples.specs.Samples.{sample, sample_of, rising, falling, channel_allowed, channels_allowed, value, entry, sample_bits, sample_table, value_of, allowed_table, settings_tested, channels_tested}
use Rattle.picture_samples.specs.inner.Clean.{Clean}
use Rattle.picture_samples.proofs.Finds.{Distinct}

-- ---- equal values are allowed alike
channel-ext : (v w : ℕ → Float) → ((b : ℕ) → b < 256 → v b ≡ w b) → channel_allowed v ≡ channel_allowed w
unfolding channel_allowed rising falling
channel-ext v w e =
    let f = all-ext 256 (λ b. finite (v b)) (λ b. finite (w b)) (λ b l. ap finite (e b l)) in
    let r = all-ext 255 (λ b. lt (v b) (v (suc b))) (λ b. lt (w b) (w (suc b))) (λ b l. let x = e b (omega arith) in let y = e (suc b) (omega arith) in cc) in
    let d = all-ext 255 (λ b. lt (v (suc b)) (v b)) (λ b. lt (w (suc b)) (w b)) (λ b l. let x = e b (omega arith) in let y = e (suc b) (omega arith) in cc) in
    rw (f, r, d) refl

channels-ext : (v w : ℕ → ℕ → Float) → ((c b : ℕ) → c < 3 → b < 256 → v c b ≡ w c b) → channels_allowed v ≡ channels_allowed w
unfolding channels_allowed
channels-ext v w e = all-ext 3 (λ c. channel_allowed (v c)) (λ c. channel_allowed (w c)) (λ c h. channel-ext (v c) (w c) (λ b l. e c b h l))

-- ---- a table, place by place
pub flat : {A : Type 0} (f : ℕ → ℕ → A) → tab (3 * 256) (λ k. f (k / 256) (k % 256)) ≡ grid 3 256 f
flat f = tab-mul 3 256 (λ k. f (k / 256) (k % 256)) ∙ rows_ext 3 _ _ (λ c h. tab-ext 256 _ _ (λ b l. place c b l))
  where
    place : (c b : ℕ) → b < 256 → f ((c * 256 + b) / 256) ((c * 256 + b) % 256) ≡ f c b
    place c b l =
        let i : (c * 256 + b) / 256 ≡ c = omega arith in
        let j : (c * 256 + b) % 256 ≡ b = omega arith in
        rw (i, j) refl

module _ (ms ds : List Float) where
  pub value-is : (c b : ℕ) → value (sample_bits ms ds) c b ≡ sample_of ms ds c b
  unfolding sample
  value-is c b = of_bits-to_bits binary32 (sample_of ms ds c b) (div-fits binary32 _ _)

  pub allowed-bits : channels_allowed (value (sample_bits ms ds)) ≡ channels_allowed (sample_of ms ds)
  allowed-bits = channels-ext (value (sample_bits ms ds)) (sample_of ms ds) (λ c b _ _. value-is c b)

  module _ (t : List ℕ) (e : t ≡ sample_table ms ds) where
    pub entry-of : (c b : ℕ) → c < 3 → b < 256 → entry t c b ≡ sample_bits ms ds c b
    unfolding sample_table
    entry-of c b h l =
        let k = c * 256 + b in
        let i : k / 256 ≡ c = omega arith in
        let j : k % 256 ≡ b = omega arith in
        let n : k < 3 * 256 = omega arith in
        ap (λ (s : List ℕ). get_or s k 0) (e ∙ sym (flat (sample_bits ms ds))) ∙ get_or-tab (3 * 256) k (λ m. sample_bits ms ds (m / 256) (m % 256)) 0 n ∙ rw (i, j) refl

    pub value-of : (c b : ℕ) → c < 3 → b < 256 → value (entry t) c b ≡ sample_of ms ds c b
    value-of c b h l = ap (of_bits binary32) (entry-of c b h l) ∙ value-is c b

    -- the table's channels are allowed where the means and deviations are
    pub allowed_of : channels_allowed (value (entry t)) ≡ channels_allowed (sample_of ms ds)
    allowed_of = channels-ext (value (entry t)) (sample_of ms ds) value-of

-- each of three channels
pub three : (P : ℕ → Type 0) → P 0 → P 1 → P 2 → (c : ℕ) → c < 3 → P c
three P a b d zero h = a
three P a b d (suc zero) h = b
three P a b d (suc (suc zero)) h = d
three P a b d (suc (suc (suc c))) h = absurd (omega arith)

-- the means and deviations of three channels give the table
pub table_same : (ms ds ns es : List Float) → ((c : ℕ) → c < 3 → (get_or ms c nan ≡ get_or ns c nan) × (get_or ds c nan ≡ get_or es c nan)) → sample_table ms ds ≡ sample_table ns es
unfolding sample_table
table_same ms ds ns es e = rows_ext 3 _ _ (λ c h. tab-ext 256 _ _ (λ b l. let x = (e c h).0 in let y = (e c h).1 in cc))

-- ---- the values of an allowed channel are in order
either : (a b : Bool) → a || b ≡ true → (a ≡ true) ⊎ (b ≡ true)
either true b e = inl refl
either false b e = inr e

-- what each byte is to the next, it is to every later one
chain : (R : ℕ → ℕ → Type 0) → ((i j k : ℕ) → R i j → R j k → R i k) → ((b : ℕ) → b < 255 → R b (suc b)) → (i j : ℕ) → i < j → j < 256 → R i j
chain R t n i zero l m = absurd (omega arith)
chain R t n i (suc j) l m = last (dec_lt i j) (λ d. chain R t n i j d (omega arith))
  where
    last : Dec (i < j) → (i < j → R i j) → R i (suc j)
    last (yes d) r = t i j (suc j) (r d) (n j (omega arith))
    last (no d) r = let e : i ≡ j = omega arith in subst (λ (k : ℕ). R k (suc j)) (sym e) (n j (omega arith))

module _ (v : ℕ → Float) where
  pub rises : rising v ≡ true → (i j : ℕ) → i < j → j < 256 → T (lt (v i) (v j))
  unfolding rising
  rises r = chain (λ i j. T (lt (v i) (v j))) (λ i j k. lt_trans (v i) (v j) (v k)) (λ b l. subst T (sym (all-at 255 (λ b. lt (v b) (v (suc b))) r b l)) tt)

  pub falls : falling v ≡ true → (i j : ℕ) → i < j → j < 256 → T (lt (v j) (v i))
  unfolding falling
  falls r = chain (λ i j. T (lt (v j) (v i))) (λ i j k a b. lt_trans (v k) (v j) (v i) b a) (λ b l. subst T (sym (all-at 255 (λ b. lt (v (suc b)) (v b)) r b l)) tt)

  module _ (a : channel_allowed v ≡ true) where
    pub channel-finite : (b : ℕ) → b < 256 → finite (v b) ≡ true
    unfolding channel_allowed
    channel-finite = all-at 256 (λ b. finite (v b)) (and_left (all 256 (λ b. finite (v b))) (rising v || falling v) a)

    pub ordered : (rising v ≡ true) ⊎ (falling v ≡ true)
    unfolding channel_allowed
    ordered = either (rising v) (falling v) (and_right (all 256 (λ b. finite (v b))) (rising v || falling v) a)

    -- two bytes have two values
    apart : (i j : ℕ) → i < j → j < 256 → v i ≡ v j → ⊥
    apart i j l m e =
        let no : T (lt (v i) (v j)) → ⊥ = λ t. subst T (ap (lt (v i)) (sym e) ∙ lt-self (v i)) t in
        let on : T (lt (v j) (v i)) → ⊥ = λ t. subst T (ap (λ (x : Float). lt x (v i)) (sym e) ∙ lt-self (v i)) t in
        ⊎_elim (λ r. no (rises r i j l m)) (λ r. on (falls r i j l m)) ordered

    pub one_byte : (i j : ℕ) → i < 256 → j < 256 → v i ≡ v j → i ≡ j
    one_byte i j h k e = order (dec_lt i j) (dec_lt j i)
      where
        order : Dec (i < j) → Dec (j < i) → i ≡ j
        order (yes l) d = absurd (apart i j l k e)
        order (no l) (yes d) = absurd (apart j i d h (sym e))
        order (no l) (no d) = omega arith

module _ (k : ℕ → ℕ → ℕ) (a : channels_allowed (value k) ≡ true) where
  pub channel-of : (c : ℕ) → c < 3 → channel_allowed (value k c) ≡ true
  unfolding channels_allowed
  channel-of = all-at 3 (λ c. channel_allowed (value k c)) a

  pub distinct_of : (c : ℕ) → c < 3 → Distinct k c
  distinct_of c h i j l m e = one_byte (value k c) (channel-of c h) i j l m (ap (of_bits binary32) e)

no_nan : (x : Float) → finite x ≡ true → T (not (is_nan x))
unfolding is_nan
no_nan nan e = let z : ◌≡◌ {A = ℕ} 0 1 = cc in absurd (omega arith)
no_nan (inf s) e = tt
no_nan (fin s m n) e = tt

pub clean_of : (t : List ℕ) → channels_allowed (value (entry t)) ≡ true → Clean t
clean_of t a = record {
  clean = λ c b h l.
      subst (λ (x : Bool). T (not x)) (sym (nan_bits_is binary32 (entry t c b)))
      (no_nan (value (entry t) c b) (channel-finite (value (entry t) c) (channel-of (entry t) a c h) b l));
}

-- ---- the table of a call
pub record Tabled (s : PictureSettings) (t : List ℕ) : Type 0 where
  pub settings : allowed s ≡ true
  pub table : t ≡ sample_table s.mean s.deviation
  pub channels : channels_allowed (value (entry t)) ≡ true

-- what is said where there is one
pub table-says : (s : PictureSettings) (t : List ℕ) → Ok t ≡ allowed_table s → Tabled s t
unfolding allowed_table
table-says s t e = go (allowed s) (channels_allowed (value_of s)) refl refl e
  where
    no : (r : Refusal) → Ok t ≡ Err r → ⊥
    no r h = let z : ◌≡◌ {A = ℕ} 0 1 = cc in absurd (omega arith)

    go : (a d : Bool) → allowed s ≡ a → channels_allowed (value_of s) ≡ d → Ok t ≡ unless a (Err Setting) (unless d (Err Channel) (Ok (sample_table s.mean s.deviation))) → Tabled s t
    go false d x y h = absurd (no Setting h)
    go true false x y h = absurd (no Channel h)
    go true true x y h =
        let same : t ≡ sample_table s.mean s.deviation = cc in
        record { settings = x; table = same; channels = allowed_of s.mean s.deviation t same ∙ y }

-- a call that asks settings and channels first goes on to x where there is one, and has its refusal where there is none
module _ {A : Type 0} (s : PictureSettings) (x : Result A Refusal) where
  pub table-passes : (t : List ℕ) → Ok t ≡ allowed_table s → unless (allowed s) (Err Setting) (unless (channels_allowed (value_of s)) (Err Channel) x) ≡ x
  table-passes t e =
      let k = table-says s t e in
      let d : channels_allowed (value_of s) ≡ true = sym (allowed_of s.mean s.deviation t k.table) ∙ k.channels in
      rw (k.settings, d) refl

  pub table-refuses : (r : Refusal) → Err r ≡ allowed_table s → unless (allowed s) (Err Setting) (unless (channels_allowed (value_of s)) (Err Channel) x) ≡ Err r
  unfolding allowed_table
  table-refuses r e = go (allowed s) (channels_allowed (value_of s)) e
    where
      same : (u : Refusal) → ◌≡◌ {A = Result (List ℕ) Refusal} (Err r) (Err u) → ◌≡◌ {A = Result A Refusal} (Err u) (Err r)
      same u h = let z : r ≡ u = cc in ap Err (sym z)

      go : (a d : Bool) → Err r ≡ unless a (Err Setting) (unless d (Err Channel) (Ok (sample_table s.mean s.deviation))) → unless a (Err Setting) (unless d (Err Channel) x) ≡ Err r
      go false d h = same Setting h
      go true false h = same Channel h
      go true true h = let z : ◌≡◌ {A = ℕ} 0 1 = cc in absurd (omega arith)

-- ---- the two tests, one after the other, and the table between them
passed : (r : Refusal) {u : Unit {0}} (b : Bool) → ◌≡◌ {A = Result (Unit {0}) Refusal} (Ok u) (unless b (Err r) (Ok tt)) → b ≡ true
passed r true e = refl
passed r false e = let z : ◌≡◌ {A = ℕ} 0 1 = cc in absurd (omega arith)

barred : {r q : Refusal} (b : Bool) → ◌≡◌ {A = Result (Unit {0}) Refusal} (Err q) (unless b (Err r) (Ok tt)) → (b ≡ false) × (q ≡ r)
barred true e = let z : ◌≡◌ {A = ℕ} 0 1 = cc in absurd (omega arith)
barred false e = (refl, cc)

module _ (s : PictureSettings) where
  pub setting-refused : (r : Refusal) → Err r ≡ settings_tested s → Err r ≡ allowed_table s
  unfolding allowed_table
  setting-refused r e = let h = barred (allowed s) e in rw (h.0, h.1) refl

  module _ (t : List ℕ) (u : Unit {0}) (a : Ok u ≡ settings_tested s) (e : t ≡ sample_table s.mean s.deviation) where
    channels-same : channels_allowed (value_of s) ≡ channels_allowed (value (entry t))
    channels-same = sym (allowed_of s.mean s.deviation t e)

    pub channel-refused : (r : Refusal) → Err r ≡ channels_tested (value (entry t)) → Err r ≡ allowed_table s
    unfolding allowed_table
    channel-refused r b = let h = barred (channels_allowed (value (entry t))) b in rw (passed Setting (allowed s) a, channels-same ∙ h.0, h.1) refl

    pub table-made : (v : Unit {0}) → Ok v ≡ channels_tested (value (entry t)) → Ok t ≡ allowed_table s
    unfolding allowed_table
    table-made v b = rw (passed Setting (allowed s) a, channels-same ∙ passed Channel (channels_allowed (value (entry t))) b) (ap Ok e)
