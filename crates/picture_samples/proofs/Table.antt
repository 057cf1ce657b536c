-- The table of the Rust's own means and deviations: its rule at every entry and the strict rise in each channel, each one test
-- that antt computes. Assumes nothing.
use mathlib.Core.Path.{◌≡◌, refl, sym, ap, ◌∙◌, subst}
use mathlib.Core.Bool.{Bool, true, false, ◌&&◌, ◌||◌}
use mathlib.Core.List.{List, [], ◌∷◌}
use Prim.Native.Nat.{ℕ, zero, suc, ◌+◌, ◌*◌, ◌/◌, ◌%◌, ◌<◌}
use native.Mathlib.Nat.{add-zero, zero-add, add-suc, suc-add, le_of_suc-le-suc, not-suc-le-zero}
use native.Mathlib.Omega.{arith}
use lib.Dec.{T, eqb, eqb→eq}
use lib.ListN.{length, get_or}
use lib.Ieee.{binary32, sub, div, lt, of_int, of_bits, to_bits}
use lib.Ieee.Bits.{is_true}
use lib.Ieee.Fits.{and_l, and_r}
use lib.Ieee.Scale.{finite}
use Rattle.buffers.specs.Rows.{all}
use Rattle.buffers.proofs.Lists.{rows_ext, tab-ext, tab-mul, tab-self, all_of, and_both}
use Rattle.picture_samples.specs.Samples.{sample, sample_of, own_means, own_deviations, rising, falling, channel_allowed, channels_allowed, sample_bits, entry, sample_table}
use Rattle.picture_samples.proofs.Channels.{value-is}

-- ---- a test of the pattern of each byte in each channel of a table
abbrev every : (ℕ → ℕ → ℕ → Bool) → ℕ → List ℕ → Bool
every f i [] = true
every f i (x ∷ xs) = f (i / 256) (i % 256) x && every f (suc i) xs

abbrev pub tested : (ℕ → ℕ → ℕ → Bool) → List ℕ → Bool
tested f t = every f 0 t

from : (f : ℕ → ℕ → ℕ → Bool) (xs : List ℕ) (i : ℕ) → T (every f i xs) → (k : ℕ) → k < length xs → T (f ((i + k) / 256) ((i + k) % 256) (get_or xs k 0))
from f [] i t k h = absurd (not-suc-le-zero h)
from f (x ∷ xs) i t zero h = subst (λ (m : ℕ). T (f (m / 256) (m % 256) x)) (sym (add-zero i)) (and_l (f (i / 256) (i % 256) x) (every f (suc i) xs) t)
from f (x ∷ xs) i t (suc k) h =
    subst (λ (m : ℕ). T (f (m / 256) (m % 256) (get_or xs k 0))) (suc-add i k ∙ sym (add-suc i k))
    (from f xs (suc i) (and_r (f (i / 256) (i % 256) x) (every f (suc i) xs) t) k (le_of_suc-le-suc h))

pub tested_at : (f : ℕ → ℕ → ℕ → Bool) (t : List ℕ) → length t ≡ 768 → T (tested f t) → (c b : ℕ) → c < 3 → b < 256 → T (f c b (entry t c b))
tested_at f t n e c b h l =
    let k = c * 256 + b in
    let r = from f t 0 e k (omega arith) in
    let z : 0 + k ≡ k = zero-add k in
    let i : k / 256 ≡ c = omega arith in
    let j : k % 256 ≡ b = omega arith in
    rw (z, i, j) at r

-- ---- the table: three channels of 256
unfoldable pub table : List ℕ
table =
    0xBFE568DC ∷ 0xBFE38A7F ∷ 0xBFE1AC23 ∷ 0xBFDFCDC6 ∷ 0xBFDDEF6A ∷ 0xBFDC110D ∷ 0xBFDA32B1 ∷ 0xBFD85454 ∷ 0xBFD675F8 ∷ 0xBFD4979B ∷ 0xBFD2B93F ∷ 0xBFD0DAE2 ∷ 0xBFCEFC86 ∷ 0xBFCD1E29 ∷ 0xBFCB3FCD ∷ 0xBFC96171 ∷
    0xBFC78314 ∷ 0xBFC5A4B8 ∷ 0xBFC3C65B ∷ 0xBFC1E7FF ∷ 0xBFC009A2 ∷ 0xBFBE2B46 ∷ 0xBFBC4CE9 ∷ 0xBFBA6E8D ∷ 0xBFB89030 ∷ 0xBFB6B1D4 ∷ 0xBFB4D377 ∷ 0xBFB2F51B ∷ 0xBFB116BE ∷ 0xBFAF3862 ∷ 0xBFAD5A06 ∷ 0xBFAB7BA9 ∷
    0xBFA99D4D ∷ 0xBFA7BEF0 ∷ 0xBFA5E094 ∷ 0xBFA40237 ∷ 0xBFA223DB ∷ 0xBFA0457E ∷ 0xBF9E6722 ∷ 0xBF9C88C5 ∷ 0xBF9AAA69 ∷ 0xBF98CC0C ∷ 0xBF96EDB0 ∷ 0xBF950F54 ∷ 0xBF9330F7 ∷ 0xBF91529B ∷ 0xBF8F743E ∷ 0xBF8D95E2 ∷
    0xBF8BB785 ∷ 0xBF89D929 ∷ 0xBF87FACC ∷ 0xBF861C70 ∷ 0xBF843E13 ∷ 0xBF825FB7 ∷ 0xBF80815A ∷ 0xBF7D45FC ∷ 0xBF798943 ∷ 0xBF75CC8A ∷ 0xBF720FD1 ∷ 0xBF6E5318 ∷ 0xBF6A965E ∷ 0xBF66D9A5 ∷ 0xBF631CEC ∷ 0xBF5F6033 ∷
    0xBF5BA37A ∷ 0xBF57E6C1 ∷ 0xBF542A08 ∷ 0xBF506D4F ∷ 0xBF4CB096 ∷ 0xBF48F3DD ∷ 0xBF453724 ∷ 0xBF417A6B ∷ 0xBF3DBDB2 ∷ 0xBF3A00F9 ∷ 0xBF364440 ∷ 0xBF328787 ∷ 0xBF2ECACE ∷ 0xBF2B0E15 ∷ 0xBF27515D ∷ 0xBF2394A4 ∷
    0xBF1FD7EB ∷ 0xBF1C1B32 ∷ 0xBF185E79 ∷ 0xBF14A1C0 ∷ 0xBF10E507 ∷ 0xBF0D284E ∷ 0xBF096B95 ∷ 0xBF05AEDC ∷ 0xBF01F223 ∷ 0xBEFC6AD5 ∷ 0xBEF4F163 ∷ 0xBEED77F1 ∷ 0xBEE5FE7F ∷ 0xBEDE850D ∷ 0xBED70B9B ∷ 0xBECF9229 ∷
    0xBEC818B7 ∷ 0xBEC09F46 ∷ 0xBEB925D4 ∷ 0xBEB1AC62 ∷ 0xBEAA32F0 ∷ 0xBEA2B97E ∷ 0xBE9B400C ∷ 0xBE93C69A ∷ 0xBE8C4D29 ∷ 0xBE84D3B7 ∷ 0xBE7AB48A ∷ 0xBE6BC1A6 ∷ 0xBE5CCEC2 ∷ 0xBE4DDBDF ∷ 0xBE3EE8FB ∷ 0xBE2FF617 ∷
    0xBE210333 ∷ 0xBE121050 ∷ 0xBE031D6C ∷ 0xBDE85510 ∷ 0xBDCA6F49 ∷ 0xBDAC8981 ∷ 0xBD8EA3BA ∷ 0xBD617BE5 ∷ 0xBD25B056 ∷ 0xBCD3C98E ∷ 0xBC3864E1 ∷ 0x3B5B256C ∷ 0x3C92FBCB ∷ 0x3D054975 ∷ 0x3D411504 ∷ 0x3D7CE092 ∷
    0x3D9C5620 ∷ 0x3DBA3BE7 ∷ 0x3DD821AE ∷ 0x3DF60776 ∷ 0x3E09F69F ∷ 0x3E18E982 ∷ 0x3E27DC66 ∷ 0x3E36CF4A ∷ 0x3E45C22E ∷ 0x3E54B511 ∷ 0x3E63A7F5 ∷ 0x3E729AD9 ∷ 0x3E80C6DE ∷ 0x3E884050 ∷ 0x3E8FB9C2 ∷ 0x3E973334 ∷
    0x3E9EACA6 ∷ 0x3EA62618 ∷ 0x3EAD9F89 ∷ 0x3EB518FB ∷ 0x3EBC926D ∷ 0x3EC40BDF ∷ 0x3ECB8551 ∷ 0x3ED2FEC3 ∷ 0x3EDA7835 ∷ 0x3EE1F1A6 ∷ 0x3EE96B18 ∷ 0x3EF0E48A ∷ 0x3EF85DFC ∷ 0x3EFFD76E ∷ 0x3F03A870 ∷ 0x3F076529 ∷
    0x3F0B21E2 ∷ 0x3F0EDE9B ∷ 0x3F129B54 ∷ 0x3F16580D ∷ 0x3F1A14C5 ∷ 0x3F1DD17E ∷ 0x3F218E37 ∷ 0x3F254AF0 ∷ 0x3F2907A9 ∷ 0x3F2CC462 ∷ 0x3F30811B ∷ 0x3F343DD4 ∷ 0x3F37FA8D ∷ 0x3F3BB746 ∷ 0x3F3F73FF ∷ 0x3F4330B8 ∷
    0x3F46ED71 ∷ 0x3F4AAA2A ∷ 0x3F4E66E3 ∷ 0x3F52239B ∷ 0x3F55E054 ∷ 0x3F599D0D ∷ 0x3F5D59C6 ∷ 0x3F61167F ∷ 0x3F64D338 ∷ 0x3F688FF1 ∷ 0x3F6C4CAA ∷ 0x3F700963 ∷ 0x3F73C61C ∷ 0x3F7782D5 ∷ 0x3F7B3F8E ∷ 0x3F7EFC47 ∷
    0x3F815C80 ∷ 0x3F833ADC ∷ 0x3F851939 ∷ 0x3F86F795 ∷ 0x3F88D5F2 ∷ 0x3F8AB44E ∷ 0x3F8C92AB ∷ 0x3F8E7107 ∷ 0x3F904F64 ∷ 0x3F922DC0 ∷ 0x3F940C1C ∷ 0x3F95EA79 ∷ 0x3F97C8D5 ∷ 0x3F99A732 ∷ 0x3F9B858E ∷ 0x3F9D63EB ∷
    0x3F9F4247 ∷ 0x3FA120A4 ∷ 0x3FA2FF00 ∷ 0x3FA4DD5D ∷ 0x3FA6BBB9 ∷ 0x3FA89A16 ∷ 0x3FAA7872 ∷ 0x3FAC56CF ∷ 0x3FAE352B ∷ 0x3FB01387 ∷ 0x3FB1F1E4 ∷ 0x3FB3D040 ∷ 0x3FB5AE9D ∷ 0x3FB78CF9 ∷ 0x3FB96B56 ∷ 0x3FBB49B2 ∷
    0x3FBD280F ∷ 0x3FBF066B ∷ 0x3FC0E4C8 ∷ 0x3FC2C324 ∷ 0x3FC4A181 ∷ 0x3FC67FDD ∷ 0x3FC85E3A ∷ 0x3FCA3C96 ∷ 0x3FCC1AF2 ∷ 0x3FCDF94F ∷ 0x3FCFD7AB ∷ 0x3FD1B608 ∷ 0x3FD39464 ∷ 0x3FD572C1 ∷ 0x3FD7511D ∷ 0x3FD92F7A ∷
    0x3FDB0DD6 ∷ 0x3FDCEC33 ∷ 0x3FDECA8F ∷ 0x3FE0A8EC ∷ 0x3FE28748 ∷ 0x3FE465A4 ∷ 0x3FE64401 ∷ 0x3FE8225D ∷ 0x3FEA00BA ∷ 0x3FEBDF16 ∷ 0x3FEDBD73 ∷ 0x3FEF9BCF ∷ 0x3FF17A2C ∷ 0x3FF35888 ∷ 0x3FF536E5 ∷ 0x3FF71541 ∷
    0xBFE044B8 ∷ 0xBFDE58F1 ∷ 0xBFDC6D2B ∷ 0xBFDA8165 ∷ 0xBFD8959F ∷ 0xBFD6A9D8 ∷ 0xBFD4BE12 ∷ 0xBFD2D24C ∷ 0xBFD0E685 ∷ 0xBFCEFABF ∷ 0xBFCD0EF9 ∷ 0xBFCB2333 ∷ 0xBFC9376C ∷ 0xBFC74BA6 ∷ 0xBFC55FE0 ∷ 0xBFC3741A ∷
    0xBFC18853 ∷ 0xBFBF9C8D ∷ 0xBFBDB0C7 ∷ 0xBFBBC500 ∷ 0xBFB9D93A ∷ 0xBFB7ED74 ∷ 0xBFB601AE ∷ 0xBFB415E7 ∷ 0xBFB22A21 ∷ 0xBFB03E5B ∷ 0xBFAE5295 ∷ 0xBFAC66CE ∷ 0xBFAA7B08 ∷ 0xBFA88F42 ∷ 0xBFA6A37B ∷ 0xBFA4B7B5 ∷
    0xBFA2CBEF ∷ 0xBFA0E029 ∷ 0xBF9EF462 ∷ 0xBF9D089C ∷ 0xBF9B1CD6 ∷ 0xBF993110 ∷ 0xBF974549 ∷ 0xBF955983 ∷ 0xBF936DBD ∷ 0xBF9181F6 ∷ 0xBF8F9630 ∷ 0xBF8DAA6A ∷ 0xBF8BBEA4 ∷ 0xBF89D2DD ∷ 0xBF87E717 ∷ 0xBF85FB51 ∷
    0xBF840F8B ∷ 0xBF8223C4 ∷ 0xBF8037FE ∷ 0xBF7C986F ∷ 0xBF78C0E3 ∷ 0xBF74E955 ∷ 0xBF7111C9 ∷ 0xBF6D3A3C ∷ 0xBF6962B0 ∷ 0xBF658B23 ∷ 0xBF61B397 ∷ 0xBF5DDC0A ∷ 0xBF5A047D ∷ 0xBF562CF1 ∷ 0xBF525564 ∷ 0xBF4E7DD8 ∷
    0xBF4AA64A ∷ 0xBF46CEBE ∷ 0xBF42F731 ∷ 0xBF3F1FA5 ∷ 0xBF3B4818 ∷ 0xBF37708C ∷ 0xBF3398FF ∷ 0xBF2FC172 ∷ 0xBF2BE9E6 ∷ 0xBF281259 ∷ 0xBF243ACD ∷ 0xBF206340 ∷ 0xBF1C8BB4 ∷ 0xBF18B427 ∷ 0xBF14DC9B ∷ 0xBF11050E ∷
    0xBF0D2D82 ∷ 0xBF0955F5 ∷ 0xBF057E68 ∷ 0xBF01A6DC ∷ 0xBEFB9E9F ∷ 0xBEF3EF86 ∷ 0xBEEC406C ∷ 0xBEE49153 ∷ 0xBEDCE23A ∷ 0xBED53321 ∷ 0xBECD8408 ∷ 0xBEC5D4EF ∷ 0xBEBE25D6 ∷ 0xBEB676BD ∷ 0xBEAEC7A4 ∷ 0xBEA7188B ∷
    0xBE9F6972 ∷ 0xBE97BA58 ∷ 0xBE900B3F ∷ 0xBE885C26 ∷ 0xBE80AD0D ∷ 0xBE71FBE8 ∷ 0xBE629DB6 ∷ 0xBE533F84 ∷ 0xBE43E151 ∷ 0xBE34831F ∷ 0xBE2524ED ∷ 0xBE15C6BB ∷ 0xBE066889 ∷ 0xBDEE14AD ∷ 0xBDCF5849 ∷ 0xBDB09BE4 ∷
    0xBD91DF80 ∷ 0xBD664637 ∷ 0xBD28CD6E ∷ 0xBCD6A94B ∷ 0xBC376F72 ∷ 0x3B79CEC3 ∷ 0x3C9A2B6A ∷ 0x3D0A8E7E ∷ 0x3D480747 ∷ 0x3D82C008 ∷ 0x3DA17C6C ∷ 0x3DC038D0 ∷ 0x3DDEF535 ∷ 0x3DFDB199 ∷ 0x3E0E36FF ∷ 0x3E1D9531 ∷
    0x3E2CF36B ∷ 0x3E3C519D ∷ 0x3E4BAFCF ∷ 0x3E5B0E01 ∷ 0x3E6A6C34 ∷ 0x3E79CA66 ∷ 0x3E84944C ∷ 0x3E8C4365 ∷ 0x3E93F27E ∷ 0x3E9BA197 ∷ 0x3EA350B0 ∷ 0x3EAAFFC9 ∷ 0x3EB2AEE3 ∷ 0x3EBA5DFC ∷ 0x3EC20D15 ∷ 0x3EC9BC2E ∷
    0x3ED16B47 ∷ 0x3ED91A60 ∷ 0x3EE0C979 ∷ 0x3EE87892 ∷ 0x3EF027AB ∷ 0x3EF7D6C4 ∷ 0x3EFF85DE ∷ 0x3F039A7B ∷ 0x3F077208 ∷ 0x3F0B4994 ∷ 0x3F0F2121 ∷ 0x3F12F8AE ∷ 0x3F16D03A ∷ 0x3F1AA7C7 ∷ 0x3F1E7F53 ∷ 0x3F2256E0 ∷
    0x3F262E6C ∷ 0x3F2A05F9 ∷ 0x3F2DDD85 ∷ 0x3F31B512 ∷ 0x3F358C9E ∷ 0x3F39642B ∷ 0x3F3D3BB8 ∷ 0x3F411344 ∷ 0x3F44EAD1 ∷ 0x3F48C25D ∷ 0x3F4C99EA ∷ 0x3F507176 ∷ 0x3F544903 ∷ 0x3F58208F ∷ 0x3F5BF81C ∷ 0x3F5FCFA9 ∷
    0x3F63A735 ∷ 0x3F677EC2 ∷ 0x3F6B564E ∷ 0x3F6F2DDB ∷ 0x3F730567 ∷ 0x3F76DCF4 ∷ 0x3F7AB480 ∷ 0x3F7E8C0D ∷ 0x3F8131CD ∷ 0x3F831D93 ∷ 0x3F850959 ∷ 0x3F86F520 ∷ 0x3F88E0E6 ∷ 0x3F8ACCAC ∷ 0x3F8CB872 ∷ 0x3F8EA439 ∷
    0x3F908FFF ∷ 0x3F927BC5 ∷ 0x3F94678B ∷ 0x3F965352 ∷ 0x3F983F18 ∷ 0x3F9A2ADE ∷ 0x3F9C16A5 ∷ 0x3F9E026B ∷ 0x3F9FEE31 ∷ 0x3FA1D9F7 ∷ 0x3FA3C5BE ∷ 0x3FA5B184 ∷ 0x3FA79D4A ∷ 0x3FA98910 ∷ 0x3FAB74D7 ∷ 0x3FAD609D ∷
    0x3FAF4C63 ∷ 0x3FB1382A ∷ 0x3FB323F0 ∷ 0x3FB50FB6 ∷ 0x3FB6FB7C ∷ 0x3FB8E743 ∷ 0x3FBAD309 ∷ 0x3FBCBECF ∷ 0x3FBEAA95 ∷ 0x3FC0965C ∷ 0x3FC28222 ∷ 0x3FC46DE8 ∷ 0x3FC659AF ∷ 0x3FC84575 ∷ 0x3FCA313B ∷ 0x3FCC1D01 ∷
    0x3FCE08C8 ∷ 0x3FCFF48E ∷ 0x3FD1E054 ∷ 0x3FD3CC1B ∷ 0x3FD5B7E1 ∷ 0x3FD7A3A7 ∷ 0x3FD98F6D ∷ 0x3FDB7B34 ∷ 0x3FDD66FA ∷ 0x3FDF52C0 ∷ 0x3FE13E86 ∷ 0x3FE32A4D ∷ 0x3FE51613 ∷ 0x3FE701D9 ∷ 0x3FE8EDA0 ∷ 0x3FEAD966 ∷
    0x3FECC52C ∷ 0x3FEEB0F2 ∷ 0x3FF09CB9 ∷ 0x3FF2887F ∷ 0x3FF47445 ∷ 0x3FF6600B ∷ 0x3FF84BD2 ∷ 0x3FFA3798 ∷ 0x3FFC235E ∷ 0x3FFE0F25 ∷ 0x3FFFFAEB ∷ 0x4000F359 ∷ 0x4001E93C ∷ 0x4002DF1F ∷ 0x4003D502 ∷ 0x4004CAE5 ∷
    0xBFBD77D8 ∷ 0xBFBBA5E1 ∷ 0xBFB9D3EB ∷ 0xBFB801F4 ∷ 0xBFB62FFD ∷ 0xBFB45E07 ∷ 0xBFB28C10 ∷ 0xBFB0BA1A ∷ 0xBFAEE823 ∷ 0xBFAD162D ∷ 0xBFAB4436 ∷ 0xBFA97240 ∷ 0xBFA7A049 ∷ 0xBFA5CE52 ∷ 0xBFA3FC5C ∷ 0xBFA22A65 ∷
    0xBFA0586F ∷ 0xBF9E8678 ∷ 0xBF9CB482 ∷ 0xBF9AE28B ∷ 0xBF991095 ∷ 0xBF973E9E ∷ 0xBF956CA7 ∷ 0xBF939AB1 ∷ 0xBF91C8BA ∷ 0xBF8FF6C4 ∷ 0xBF8E24CD ∷ 0xBF8C52D7 ∷ 0xBF8A80E0 ∷ 0xBF88AEEA ∷ 0xBF86DCF3 ∷ 0xBF850AFC ∷
    0xBF833905 ∷ 0xBF81670E ∷ 0xBF7F2A30 ∷ 0xBF7B8643 ∷ 0xBF77E256 ∷ 0xBF743E68 ∷ 0xBF709A7B ∷ 0xBF6CF68E ∷ 0xBF6952A1 ∷ 0xBF65AEB5 ∷ 0xBF620AC8 ∷ 0xBF5E66DB ∷ 0xBF5AC2EE ∷ 0xBF571F00 ∷ 0xBF537B13 ∷ 0xBF4FD726 ∷
    0xBF4C3339 ∷ 0xBF488F4C ∷ 0xBF44EB5F ∷ 0xBF414772 ∷ 0xBF3DA385 ∷ 0xBF39FF98 ∷ 0xBF365BAB ∷ 0xBF32B7BD ∷ 0xBF2F13D0 ∷ 0xBF2B6FE3 ∷ 0xBF27CBF6 ∷ 0xBF242809 ∷ 0xBF20841C ∷ 0xBF1CE02F ∷ 0xBF193C42 ∷ 0xBF159855 ∷
    0xBF11F467 ∷ 0xBF0E5079 ∷ 0xBF0AAC8C ∷ 0xBF07089F ∷ 0xBF0364B2 ∷ 0xBEFF818A ∷ 0xBEF839B0 ∷ 0xBEF0F1D6 ∷ 0xBEE9A9FB ∷ 0xBEE26221 ∷ 0xBEDB1A47 ∷ 0xBED3D26D ∷ 0xBECC8A93 ∷ 0xBEC542B8 ∷ 0xBEBDFADE ∷ 0xBEB6B304 ∷
    0xBEAF6B2A ∷ 0xBEA8234F ∷ 0xBEA0DB75 ∷ 0xBE99939B ∷ 0xBE924BC1 ∷ 0xBE8B03E7 ∷ 0xBE83BC0C ∷ 0xBE78E864 ∷ 0xBE6A58B0 ∷ 0xBE5BC8FB ∷ 0xBE4D3947 ∷ 0xBE3EA993 ∷ 0xBE3019DE ∷ 0xBE218A2A ∷ 0xBE12FA75 ∷ 0xBE046AC1 ∷
    0xBDEBB619 ∷ 0xBDCE96B0 ∷ 0xBDB17747 ∷ 0xBD9457DE ∷ 0xBD6E70EB ∷ 0xBD343219 ∷ 0xBCF3E68F ∷ 0xBC7ED1D8 ∷ 0xBAAEB487 ∷ 0x3C5324B6 ∷ 0x3CDE0FFE ∷ 0x3D2946D1 ∷ 0x3D6385A3 ∷ 0x3D8EE23A ∷ 0x3DAC01A3 ∷ 0x3DC9210C ∷
    0x3DE64075 ∷ 0x3E01AFEF ∷ 0x3E103FA3 ∷ 0x3E1ECF58 ∷ 0x3E2D5F0C ∷ 0x3E3BEEC1 ∷ 0x3E4A7E75 ∷ 0x3E590E29 ∷ 0x3E679DDE ∷ 0x3E762D92 ∷ 0x3E825EA3 ∷ 0x3E89A67E ∷ 0x3E90EE58 ∷ 0x3E983632 ∷ 0x3E9F7E0C ∷ 0x3EA6C5E6 ∷
    0x3EAE0DC4 ∷ 0x3EB5559E ∷ 0x3EBC9D79 ∷ 0x3EC3E553 ∷ 0x3ECB2D2D ∷ 0x3ED27507 ∷ 0x3ED9BCE2 ∷ 0x3EE104BC ∷ 0x3EE84C96 ∷ 0x3EEF9470 ∷ 0x3EF6DC4A ∷ 0x3EFE2425 ∷ 0x3F02B5FF ∷ 0x3F0659ED ∷ 0x3F09FDDA ∷ 0x3F0DA1C7 ∷
    0x3F1145B4 ∷ 0x3F14E9A1 ∷ 0x3F188D8E ∷ 0x3F1C317B ∷ 0x3F1FD568 ∷ 0x3F237955 ∷ 0x3F271D42 ∷ 0x3F2AC130 ∷ 0x3F2E651D ∷ 0x3F32090A ∷ 0x3F35ACF7 ∷ 0x3F3950E4 ∷ 0x3F3CF4D1 ∷ 0x3F4098BE ∷ 0x3F443CAB ∷ 0x3F47E098 ∷
    0x3F4B8486 ∷ 0x3F4F2873 ∷ 0x3F52CC60 ∷ 0x3F56704D ∷ 0x3F5A143A ∷ 0x3F5DB827 ∷ 0x3F615C14 ∷ 0x3F650001 ∷ 0x3F68A3EE ∷ 0x3F6C47DC ∷ 0x3F6FEBC9 ∷ 0x3F738FB6 ∷ 0x3F7733A3 ∷ 0x3F7AD790 ∷ 0x3F7E7B7D ∷ 0x3F810FB5 ∷
    0x3F82E1AC ∷ 0x3F84B3A2 ∷ 0x3F868599 ∷ 0x3F88578F ∷ 0x3F8A2986 ∷ 0x3F8BFB7C ∷ 0x3F8DCD73 ∷ 0x3F8F9F6A ∷ 0x3F917160 ∷ 0x3F934357 ∷ 0x3F95154D ∷ 0x3F96E744 ∷ 0x3F98B93A ∷ 0x3F9A8B31 ∷ 0x3F9C5D27 ∷ 0x3F9E2F1E ∷
    0x3FA00114 ∷ 0x3FA1D30B ∷ 0x3FA3A502 ∷ 0x3FA576F8 ∷ 0x3FA748EF ∷ 0x3FA91AE5 ∷ 0x3FAAECDC ∷ 0x3FACBED2 ∷ 0x3FAE90C9 ∷ 0x3FB062BF ∷ 0x3FB234B6 ∷ 0x3FB406AD ∷ 0x3FB5D8A3 ∷ 0x3FB7AA9A ∷ 0x3FB97C90 ∷ 0x3FBB4E87 ∷
    0x3FBD207D ∷ 0x3FBEF274 ∷ 0x3FC0C46A ∷ 0x3FC29661 ∷ 0x3FC46858 ∷ 0x3FC63A4E ∷ 0x3FC80C45 ∷ 0x3FC9DE3B ∷ 0x3FCBB032 ∷ 0x3FCD8228 ∷ 0x3FCF541F ∷ 0x3FD12615 ∷ 0x3FD2F80C ∷ 0x3FD4CA03 ∷ 0x3FD69BF9 ∷ 0x3FD86DF0 ∷
    0x3FDA3FE6 ∷ 0x3FDC11DD ∷ 0x3FDDE3D3 ∷ 0x3FDFB5CA ∷ 0x3FE187C0 ∷ 0x3FE359B7 ∷ 0x3FE52BAE ∷ 0x3FE6FDA4 ∷ 0x3FE8CF9C ∷ 0x3FEAA190 ∷ 0x3FEC7389 ∷ 0x3FEE457D ∷ 0x3FF01776 ∷ 0x3FF1E96A ∷ 0x3FF3BB63 ∷ 0x3FF58D58 ∷
    0x3FF75F50 ∷ 0x3FF93145 ∷ 0x3FFB033D ∷ 0x3FFCD532 ∷ 0x3FFEA72A ∷ 0x40003C8F ∷ 0x4001258C ∷ 0x40020E86 ∷ 0x4002F782 ∷ 0x4003E07D ∷ 0x4004C979 ∷ 0x4005B273 ∷ 0x40069B6F ∷ 0x4007846A ∷ 0x40086D66 ∷ 0x40095660 ∷ []

pub length-table : length table ≡ 768
unfolding table
length-table = refl

-- the formula's pattern, and a finite value
right : ℕ → ℕ → ℕ → Bool
right c b x = eqb x (sample_bits own_means own_deviations c b) && finite (of_bits binary32 x)

checked : T (tested right table)
unfolding table right sample div to_bits of_bits sub of_int
checked = tt

pub entry-is : (c b : ℕ) → c < 3 → b < 256 → entry table c b ≡ sample_bits own_means own_deviations c b
unfolding right
entry-is c b h l =
    let x = entry table c b in
    let y = sample_bits own_means own_deviations c b in
    eqb→eq x y (and_l (eqb x y) (finite (of_bits binary32 x)) (tested_at right table length-table checked c b h l))

-- the table is the definition's
pub table_is : table ≡ sample_table own_means own_deviations
unfolding sample_table
table_is =
    sym (tab-self table (3 * 256) 0 length-table)
    ∙ tab-mul 3 256 (λ k. get_or table k 0)
    ∙ rows_ext 3 _ _ (λ c h. tab-ext 256 _ _ (λ b l. entry-is c b h l))

-- ---- the strict rise in each channel
climbs : ℕ → ℕ → ℕ → Bool
climbs c b x = eqb b 255 || lt (of_bits binary32 x) (of_bits binary32 (entry table c (suc b)))

risen : T (tested climbs table)
unfolding table climbs of_bits lt
risen = tt

or_r : (a b : Bool) → T (a || b) → (T a → ⊥) → T b
or_r true b t n = absurd (n tt)
or_r false b t n = t

own_is : (c b : ℕ) → c < 3 → b < 256 → of_bits binary32 (entry table c b) ≡ sample_of own_means own_deviations c b
own_is c b h l = ap (of_bits binary32) (entry-is c b h l) ∙ value-is own_means own_deviations c b

pub rises : (c b : ℕ) → c < 3 → b < 255 → T (lt (sample_of own_means own_deviations c b) (sample_of own_means own_deviations c (suc b)))
unfolding climbs
rises c b h l =
    let x = of_bits binary32 (entry table c b) in
    let y = of_bits binary32 (entry table c (suc b)) in
    let t = or_r (eqb b 255) (lt x y) (tested_at climbs table length-table risen c b h (omega arith)) (λ z. omega (arith, eqb→eq b 255 z)) in
    rw (own_is c b h (omega arith), own_is c (suc b) h (omega arith)) at t

-- the Rust's own means and deviations are allowed
pub own-allowed : channels_allowed (sample_of own_means own_deviations) ≡ true
unfolding channels_allowed channel_allowed rising right
own-allowed =
    let v = sample_of own_means own_deviations in
    all_of 3 (λ c. channel_allowed (v c)) (λ c h.
    let f : all 256 (λ b. finite (v c b)) ≡ true = all_of 256 (λ b. finite (v c b)) (λ b l.
    ap finite (sym (own_is c b h l)) ∙ is_true (finite (of_bits binary32 (entry table c b))) (and_r (eqb (entry table c b) (sample_bits own_means own_deviations c b)) _ (tested_at right table length-table checked c b h l))) in
    let r : rising (v c) ≡ true = all_of 255 (λ b. lt (v c b) (v c (suc b))) (λ b l. is_true _ (rises c b h l)) in
    and_both (all 256 (λ b. finite (v c b))) (rising (v c) || falling (v c)) f (ap (λ (x : Bool). x || falling (v c)) r))
