-- A header and a file, byte by byte. Assumes nothing.
use mathlib.Core.Path.{◌≡◌, refl}
use mathlib.Core.List.{List, [], ◌∷◌, ◌++◌}
use Rattle.json_members.specs.Names.{word}
use Rattle.tensor_values.specs.declared.Kind.TheVariants.{F32, BF16}
use Rattle.tensor_values.specs.Values.{digits}
use Rattle.tensor_header.specs.Tensors.{Tensor, last_digits}
use Rattle.weights_trip.specs.Plainest.{entry_text, entries_text, header_text, file_of}

abbrev two : List Tensor
two = record { name = word "a.weight"; count = 3 } ∷ record { name = word "b"; count = 10 } ∷ []

pub header-of-two : header_text F32 two ≡ word "{\"a.weight\":{\"dtype\":\"F32\",\"shape\":[3],\"data_offsets\":[0,12]},\"b\":{\"dtype\":\"F32\",\"shape\":[10],\"data_offsets\":[12,52]}}"
unfolding header_text entries_text entry_text last_digits
header-of-two = refl

pub file-of-one : file_of BF16 (record { name = word "a"; count = 1 } ∷ []) (0x80 ∷ 0x3F ∷ []) ≡ (55 ∷ 0 ∷ 0 ∷ 0 ∷ 0 ∷ 0 ∷ 0 ∷ 0 ∷ []) ++ word "{\"a\":{\"dtype\":\"BF16\",\"shape\":[1],\"data_offsets\":[0,2]}}" ++ (0x80 ∷ 0x3F ∷ [])
unfolding file_of header_text entries_text entry_text last_digits digits
file-of-one = refl
