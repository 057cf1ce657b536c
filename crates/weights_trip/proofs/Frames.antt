-- A header behind eight bytes of its length, and data behind it, are the header and the data of the file. Assumes nothing.
use mathlib.Core.Path.{◌≡◌, refl, ap, ◌∙◌}
use mathlib.Core.Bool.{true}
use mathlib.Core.List.{List, ◌++◌, append_assoc}
use Prim.Native.Nat.{ℕ, zero, suc, ◌+◌, ◌-◌, ◌/◌, ◌^◌, ◌<◌}
use native.Mathlib.Omega.{arith}
use lib.Dec.{leb}
use lib.ListN.{length, take, drop, length-append}
use lib.Seq.{take_at, drop_at}
use borrow.Author.Tests.{le-leb}
use Rattle.buffers.specs.Region.{region}
use Rattle.buffers.proofs.Lists.{and_both}
use Rattle.tensor_values.specs.Values.{little, digits}
use Rattle.tensor_header.specs.Header.{header_length, framed, header_of, data_of}

length_digits : (n x : ℕ) → length (digits n x) ≡ n
unfolding digits
length_digits zero x = refl
length_digits (suc n) x = ap suc (length_digits n (x / 256))

eight-back : (x : ℕ) → x < 2 ^ 64 → little (digits 8 x) ≡ x
unfolding digits
eight-back x h = omega arith

module _ (header bytes : List ℕ) (short : length header < 2 ^ 64) where
  abbrev file : List ℕ
  file = digits 8 (length header) ++ header ++ bytes

  length-said : header_length file ≡ length header
  length-said =
      ap (λ (l : List ℕ). little (take 8 l)) (append_assoc (digits 8 (length header)) header bytes)
      ∙ ap little (take_at (digits 8 (length header)) (header ++ bytes) 8 (length_digits 8 (length header))) ∙ eight-back (length header) short

  long : length file ≡ 8 + length header + length bytes
  long = length-append (digits 8 (length header) ++ header) bytes ∙ ap (λ (n : ℕ). n + length bytes) (length-append (digits 8 (length header)) header ∙ ap (λ (n : ℕ). n + length header) (length_digits 8 (length header)))

  pub is_framed : framed file ≡ true
  is_framed = and_both (leb 8 (length file)) (leb (header_length file) (length file - 8)) (le-leb 8 (length file) (omega (arith, long))) (le-leb (header_length file) (length file - 8) (omega (arith, long, length-said)))

  pub header_is : header_of file ≡ header
  header_is =
      ap (region file 8) length-said ∙ ap (λ (l : List ℕ). region l 8 (length header)) (append_assoc (digits 8 (length header)) header bytes)
      ∙ ap (take (length header)) (drop_at (digits 8 (length header)) (header ++ bytes) 8 (length_digits 8 (length header))) ∙ take_at header bytes (length header) refl

  pub data_is : data_of file ≡ bytes
  data_is =
      ap (λ (n : ℕ). drop (8 + n) file) length-said
      ∙ drop_at (digits 8 (length header) ++ header) bytes (8 + length header) (length-append (digits 8 (length header)) header ∙ ap (λ (n : ℕ). n + length header) (length_digits 8 (length header)))
