-- What a record says, and the counts over a text. Assumes nothing.
use Rattle.std.specs.Prelude.{ℕ, ◌+◌, cond, List, [], ◌∷◌, eqb, ltb, length, get_or, take, drop, set, Option, Some, None}
use Rattle.number_bf16_half_root.specs.Bf16.{bf16}
use Rattle.number_bf16_half_root.specs.Half.{half}
use Rattle.number_bf16_half_root.specs.Root.{root}
use Rattle.number_bf16_half_root.specs.Packed.{packed, widened}
use Rattle.number_exp_tanh.specs.Exp.{exp_bits}
use Rattle.number_exp_tanh.specs.Tanh.{tanh_bits}
use Rattle.number_replay.specs.Hex.{word_of}
use Rattle.number_replay.specs.declared.record.Verdict.{Verdict}
use Rattle.number_replay.specs.declared.record.Verdict.TheVariants.{Same, Differs, Bad as Unread}

-- the rule of a letter, at x: b, h (whose inputs have 16 bits), r, e, t, p, w (16 bits again)
unfoldable pub answer_of : ℕ → ℕ → Option ℕ
answer_of letter x =
    cond (eqb letter 98) (Some (bf16 x))
    (cond (eqb letter 104) (cond (ltb x 65536) (Some (half x)) None)
    (cond (eqb letter 114) (Some (root x))
    (cond (eqb letter 101) (Some (exp_bits x))
    (cond (eqb letter 116) (Some (tanh_bits x))
    (cond (eqb letter 112) (Some (packed x))
    (cond (eqb letter 119) (cond (ltb x 65536) (Some (widened x)) None)
    None))))))

-- the Rust's answer beside ours
unfoldable pub besides : ℕ → ℕ → Option ℕ → Verdict
besides letter rust None = Unread
besides letter rust (Some ours) = cond (eqb ours rust) (Same letter) (Differs ours)

unfoldable pub verdict_from : ℕ → Option ℕ → Option ℕ → Verdict
verdict_from letter None a = Unread
verdict_from letter (Some x) None = Unread
verdict_from letter (Some x) (Some rust) = besides letter rust (answer_of letter x)

-- of a line: a letter, a space, 8 digits, a space, 8 digits, a newline
unfoldable pub verdict_of : List ℕ → Verdict
verdict_of s =
    cond (eqb (length s) 20)
    (cond (eqb (get_or s 1 0) 32)
    (cond (eqb (get_or s 10 0) 32)
    (cond (eqb (get_or s 19 0) 10)
    (verdict_from (get_or s 0 0) (word_of (take 8 (drop 2 s))) (word_of (take 8 (drop 11 s))))
    Unread)
    Unread)
    Unread)
    Unread

-- where a verdict is counted
unfoldable pub place_of : Verdict → ℕ
place_of (Same letter) =
    cond (eqb letter 98) 0
    (cond (eqb letter 104) 1
    (cond (eqb letter 114) 2
    (cond (eqb letter 101) 3
    (cond (eqb letter 116) 4
    (cond (eqb letter 112) 5
    (cond (eqb letter 119) 6
    7))))))
place_of (Differs ours) = 7
place_of Unread = 7

-- the counts after each of the lines
unfoldable pub tally : List ℕ → List (List ℕ) → List ℕ
tally c [] = c
tally c (l ∷ ls) = let k = place_of (verdict_of l) in tally (set c k (get_or c k 0 + 1)) ls
