-- What the functions inside keep of an entry. Assumes nothing.
use Rattle.std.specs.Prelude.{◌≡◌, Bool, true, false, cond, not, ◌&&◌, List, ℕ, suc, ◌+◌, ◌-◌, ◌*◌, ◌^◌, ◌≤◌, ◌<◌, eqb, leb, length, get_or, Option, None, Some, Result, Ok, Err}
use Rattle.buffers.specs.Rows.{first}
use Rattle.json_members.specs.Names.{Entry}
use Rattle.json_members.specs.inner.Turns.{place_of, Stands}
use Rattle.json_lists.specs.Lists.{product, held, said_of}
use Rattle.json_lists.specs.declared.Sizes.{Sizes}
use Rattle.encoder_settings.specs.declared.EncoderSettings.{EncoderSettings}
use Rattle.tensor_values.specs.declared.Kind.{Kind}
use Rattle.tensor_values.specs.Values.{size_of}
use Rattle.tensor_header.specs.Tensors.{tensors, entry_at, count_at}
use Rattle.weights.specs.File.{string_in, sizes_in, Found, missing, damaged, described, found_in, kind_of, is_damaged, is_other, is_misplaced, judged}
use Rattle.picture_limits.specs.declared.Refusal.{Refusal}
use Rattle.weights.specs.File.{Weighed, refuse}
use Rattle.weights.specs.declared.entry.Described.{Described}
use Rattle.weights.specs.declared.entry.Undescribed.{Undescribed}
use Rattle.weights.specs.declared.entry.Undescribed.TheVariants.{Missing, Damaged, Unknown}

-- ---- one by one

-- a dtype that is none of the three is unknown, and one that is no string damaged
abbrev pub dtype_by : Option Kind → Result Kind Undescribed
dtype_by None = Err Unknown
dtype_by (Some k) = Ok k

abbrev pub dtype_of : Option (List ℕ) → Result Kind Undescribed
dtype_of None = Err Damaged
dtype_of (Some t) = dtype_by (kind_of t)

-- at the place of what is found
pub record Dtyped (h : List ℕ) (at : ℕ) (r : Result Kind Undescribed) : Type 0 where
  pub is : (k : ℕ) (o : Option Entry) → Stands h k o → at ≡ place_of h o → r ≡ dtype_of (string_in o)

pub record Sized (h : List ℕ) (at : ℕ) (r : Option Sizes) : Type 0 where
  pub is : (k : ℕ) (o : Option Entry) → Stands h k o → at ≡ place_of h o → r ≡ said_of (sizes_in o)

-- ---- together

-- a tensor by its entry, or why it has none that can be read
abbrev pub Kept : Type 0
Kept = Result Described Undescribed

abbrev pub by_kind : Result Kind Undescribed → ℕ → ℕ → ℕ → Kept
by_kind (Ok k) count begin end = Ok (record { kind = k; count = count; begin = begin; end = end })
by_kind (Err why) count begin end = Err why

abbrev pub made_of : Result Kind Undescribed → Option Sizes → Option Sizes → Kept
made_of t (Some a) (Some b) = cond (eqb b.count 2) (by_kind t a.product b.first b.second) (Err Damaged)
made_of t (Some a) None = Err Damaged
made_of t None offsets = Err Damaged

abbrev pub summary_by : List ℕ → ℕ → ℕ → Option Kind → Kept
summary_by shape begin end k = by_kind (dtype_by k) (held (product shape)) begin end

abbrev pub summary : Found → Kept
summary missing = Err Missing
summary damaged = Err Damaged
summary (described dtype shape begin end) = summary_by shape begin end (kind_of dtype)

pub record Describes (h : List ℕ) (at : ℕ) (r : Kept) : Type 0 where
  pub is : (k : ℕ) (o : Option Entry) → k ≤ 32 → Stands h k o → at ≡ place_of h o → r ≡ summary (found_in o)

-- ---- the tests on what is kept

abbrev pub fails_damaged : Kept → Bool
fails_damaged (Err Missing) = false
fails_damaged (Err Damaged) = true
fails_damaged (Err Unknown) = false
fails_damaged (Ok d) = false

abbrev pub fails_other : ℕ → Kept → Bool
fails_other count (Err Missing) = true
fails_other count (Err Damaged) = false
fails_other count (Err Unknown) = true
fails_other count (Ok d) = not (eqb d.count count)

abbrev pub misplaced_is : ℕ → ℕ → ℕ → ℕ → Kind → Bool
misplaced_is bytes count begin end k = not (leb begin end && (leb end bytes && eqb (end - begin) (count * size_of k)))

abbrev pub fails_misplaced : ℕ → ℕ → Kept → Bool
fails_misplaced bytes count (Err why) = false
fails_misplaced bytes count (Ok d) = misplaced_is bytes count d.begin d.end d.kind

-- the places are those of the tensors' entries es in the header h
pub record Holds (s : EncoderSettings) (h places : List ℕ) (es : List Entry) : Type 0 where
  pub stands : (i : ℕ) → i < length (tensors s) → Stands h 32 (entry_at (tensors s) es i)
  pub place : (i : ℕ) → i < length (tensors s) → get_or places i 0 ≡ place_of h (entry_at (tensors s) es i)

-- the first tensor at which a test passes, by what the test answers of what is kept, where that is what f says of what is found
pub record Firsts (s : EncoderSettings) (h places : List ℕ) (answers : Kept → ℕ → Bool → Type 0) (r : ℕ) : Type 0 where
  pub is : (f : ℕ → Found → Bool) → ((x : Found) (count : ℕ) (b : Bool) → 0 < count → count < 2 ^ 64 → answers (summary x) count b → b ≡ f count x) → (es : List Entry) → Holds s h places es → r ≡ first (length (tensors s)) (λ i. f (count_at (tensors s) i) (found_in (entry_at (tensors s) es i)))

-- the answer for a header
pub record Judges (s : EncoderSettings) (h places : List ℕ) (bytes room : ℕ) (r : Weighed) : Type 0 where
  pub is : (es : List Entry) → Holds s h places es → r ≡ judged s h es bytes room

-- a refusal at tensor i, whose entry's value stands at a place of the header; 0 is none
abbrev pub refused_at : Refusal → ℕ → ℕ → Weighed
refused_at why n i = refuse why (suc i) (cond (eqb n 0) 0 (8 + n))
