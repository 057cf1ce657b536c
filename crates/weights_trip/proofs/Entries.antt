-- The entries of the plainest header are members of the grammar, and say what was written. Assumes nothing.
use Rattle.std.specs.Prelude.{Some}
use mathlib.Core.Path.{◌≡◌, refl, ap}
use mathlib.Core.List.{List, [], ◌∷◌, ◌++◌, append_assoc}
use Prim.Native.Nat.{ℕ, suc, ◌+◌, ◌^◌, ◌≤◌, ◌<◌}
use native.Mathlib.Omega.{arith}
use lib.ListN.{length}
use Rattle.json_grammar.specs.Grammar as G
use Rattle.json_grammar.specs.Grammar.{Value, Members}
use Rattle.json_members.specs.Names.{word, Entry, entry, members_of, entries_of, same, lookup}
use Rattle.tensor_values.specs.declared.Kind.{Kind}
use Rattle.tensor_values.specs.declared.Kind.TheVariants.{F32, BF16, F16}
use Rattle.tensor_header.specs.Tensors.{Tensor, decimal}
use Rattle.weights.specs.File.{string_of, described, found_by}
use Rattle.json_lists.specs.Lists.{sizes_of}
use Rattle.weights_trip.specs.Plainest.{dtype_of, bytes_in, entry_text, entries_text}
use Rattle.weights_trip.proofs.Texts.{Letters, letters, named, one, two}

-- ---- one entry

-- its value, and then r
abbrev pub body : List ℕ → ℕ → ℕ → ℕ → List ℕ → List ℕ
body dtype n a b r = word "{\"dtype\":\"" ++ (dtype ++ (word "\",\"shape\":[" ++ (decimal n ++ (word "],\"data_offsets\":[" ++ (decimal a ++ (word "," ++ (decimal b ++ (word "]}" ++ r))))))))

-- from the left as from the right
regroup :
    (q name brace dtype colon kind comma shape bracket count close offsets begin parted end last r : List ℕ) →
    q ++ name ++ q ++ brace
    ++ (q ++ dtype ++ q) ++ colon ++ (q ++ kind ++ q) ++ comma
    ++ (q ++ shape ++ q) ++ bracket ++ count ++ close
    ++ (q ++ offsets ++ q) ++ bracket ++ begin ++ parted ++ end ++ last ++ r
    ≡ q ++ (name ++ (q ++ (brace ++ (q ++ (dtype ++ (q ++ (colon ++ (q ++ (kind ++ (q ++ (comma ++ (q ++ (shape ++ (q ++ (bracket ++ (count ++ (close ++ (q ++ (offsets ++ (q ++ (bracket ++ (begin ++ (parted ++ (end ++ (last ++ r)))))))))))))))))))))))))
regroup q name brace dtype colon kind comma shape bracket count close offsets begin parted end last r = simp append_assoc

pub entry-parts : (k : Kind) (t : Tensor) (a : ℕ) (r : List ℕ) → entry_text k t a ++ r ≡ word "\"" ++ (t.name ++ (word "\":" ++ body (dtype_of k) t.count a (a + bytes_in k t) r))
unfolding entry_text
entry-parts k t a r =
    regroup (word "\"") t.name (word ":{") (word "dtype") (word ":") (dtype_of k) (word ",") (word "shape") (word ":[") (decimal t.count) (word "],")
    (word "data_offsets") (decimal a) (word ",") (decimal (a + bytes_in k t)) (word "]}") r

-- three members in their order
three :
    (x y z : Entry) {dtype : List ℕ} {n a b : ℕ} → x.name ≡ word "dtype" → y.name ≡ word "shape" → z.name ≡ word "data_offsets" →
    string_of x.value ≡ Some dtype → sizes_of y.value ≡ Some (n ∷ []) → sizes_of z.value ≡ Some (a ∷ (b ∷ [])) →
    found_by (x ∷ (y ∷ (z ∷ []))) ≡ described dtype (n ∷ []) a b
unfolding found_by lookup same
three x y z e f g u v w = rw (e, f, g, u, v, w) refl

record Described (d : ℕ) (l r dtype : List ℕ) (n a b : ℕ) : Type 0 where
  pub value : Value d l r
  pub says : found_by (entries_of value) ≡ described dtype (n ∷ []) a b

describe : (d : ℕ) (dtype : List ℕ) (n a b : ℕ) (r : List ℕ) → Letters dtype → n < 2 ^ 64 → a < 2 ^ 64 → b < 2 ^ 64 → Described (suc (suc d)) (body dtype n a b r) r dtype n a b
unfolding entries_of members_of string_of
describe d dtype n a b r p h i j =
    let o : List ℕ = word "\"data_offsets\":[" ++ (decimal a ++ (word "," ++ (decimal b ++ (word "]}" ++ r)))) in
    let m : List ℕ = word "\"shape\":[" ++ (decimal n ++ (word "]," ++ o)) in
    let x = named (letters (word "dtype") refl) (word ":\"" ++ (dtype ++ (word "\"," ++ m))) in
    let v = named p (word "," ++ m) in
    let y = named (letters (word "shape") refl) (word ":[" ++ (decimal n ++ (word "]," ++ o))) in
    let u = one d n (word "," ++ o) h in
    let z = named (letters (word "data_offsets") refl) (word ":[" ++ (decimal a ++ (word "," ++ (decimal b ++ (word "]}" ++ r))))) in
    let w = two d a b (word "}" ++ r) i j in
    record {
      value =
          G.object (G.members G.unspaced x.str G.unspaced G.unspaced (G.string v.str) G.unspaced
          (G.members G.unspaced y.str G.unspaced G.unspaced u.value G.unspaced
          (G.member G.unspaced z.str G.unspaced G.unspaced w.value G.unspaced)));
      says =
          three (entry x.str (G.string {d = suc d} v.str)) (entry y.str u.value) (entry z.str w.value)
          x.says y.says z.says (ap Some v.says) u.says w.says;
    }

-- ---- all of them

-- tensors whose names are of letters, and short
pub data Fine : List Tensor → Type 0 where
  no-tensors : Fine []
  fine : {t : Tensor} {ts : List Tensor} → Letters t.name → length t.name ≤ 150 → Fine ts → Fine (t ∷ ts)

-- the bytes of all
abbrev pub bytes_of_all : Kind → List Tensor → ℕ
bytes_of_all k [] = 0
bytes_of_all k (t ∷ ts) = bytes_in k t + bytes_of_all k ts

-- entries that say of each tensor its name, the kind, its count, and bytes that begin at a and where those before it end
pub data Listed (k : Kind) : ℕ → List Tensor → List Entry → Type 0 where
  nothing : {a : ℕ} → Listed k a [] []
  listed :
      {a : ℕ} {t : Tensor} {ts : List Tensor} {e : Entry} {es : List Entry} →
      e.name ≡ t.name → found_by (entries_of e.value) ≡ described (dtype_of k) (t.count ∷ []) a (a + bytes_in k t) →
      Listed k (a + bytes_in k t) ts es → Listed k a (t ∷ ts) (e ∷ es)

pub record Written (k : Kind) (d a : ℕ) (ts : List Tensor) (l r : List ℕ) : Type 0 where
  pub members : Members (suc (suc d)) l r
  pub says : Listed k a ts (members_of members)

kind-letters : (k : Kind) → Letters (dtype_of k)
kind-letters F32 = letters (word "F32") refl
kind-letters BF16 = letters (word "BF16") refl
kind-letters F16 = letters (word "F16") refl

pub few : (k : Kind) (t : Tensor) → t.count ≤ bytes_in k t
few F32 t = omega arith
few BF16 t = omega arith
few F16 t = omega arith

written_from : (k : Kind) (d a : ℕ) (t : Tensor) (ts : List Tensor) (r : List ℕ) → Fine (t ∷ ts) → a + bytes_of_all k (t ∷ ts) < 2 ^ 64 → Written k d a (t ∷ ts) (entries_text k (t ∷ ts) a ++ r) r
unfolding entries_text members_of
written_from k d a t [] r (fine p q f) h =
    let n = few k t in
    let b = a + bytes_in k t in
    let x = named p (word ":" ++ body (dtype_of k) t.count a b r) in
    let v = describe d (dtype_of k) t.count a b r (kind-letters k) (omega arith) (omega arith) (omega arith) in
    rw (entry-parts k t a r) (record { members = G.member G.unspaced x.str G.unspaced G.unspaced v.value G.unspaced; says = listed x.says v.says nothing })
written_from k d a t (u ∷ ts) r (fine p q f) h =
    let n = few k t in
    let b = a + bytes_in k t in
    let o : List ℕ = word "," ++ (entries_text k (u ∷ ts) b ++ r) in
    let x = named p (word ":" ++ body (dtype_of k) t.count a b o) in
    let v = describe d (dtype_of k) t.count a b o (kind-letters k) (omega arith) (omega arith) (omega arith) in
    let w = written_from k d b u ts r f (omega arith) in
    rw (append_assoc (entry_text k t a ++ word ",") (entries_text k (u ∷ ts) b) r, append_assoc (entry_text k t a) (word ",") (entries_text k (u ∷ ts) b ++ r), entry-parts k t a o)
    (record { members = G.members G.unspaced x.str G.unspaced G.unspaced v.value G.unspaced w.members; says = listed x.says v.says w.says })

pub written : (k : Kind) (d a : ℕ) (ts : List Tensor) (r : List ℕ) → 0 < length ts → Fine ts → a + bytes_of_all k ts < 2 ^ 64 → Written k d a ts (entries_text k ts a ++ r) r
written k d a [] r n f h = absurd (omega arith)
written k d a (t ∷ ts) r n f h = written_from k d a t ts r f h
