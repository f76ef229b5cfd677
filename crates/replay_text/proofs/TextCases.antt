-- The run that the paper prints, and a line of every answer.
--     printed             the header and the line of case A
--     right               the line of each answer of the table
-- Assumes nothing.
use Rattle.std.specs.Prelude.{◌≡◌, refl, List, [], ◌∷◌, ◌++◌, map, ℕ}
use Prim.Native.String.{String}
use Rattle.replay_text.specs.Bytes.{bytes}
use Rattle.kinds.specs.Answer.{numbered, refuse}
use Rattle.kinds.specs.declared.answer.Answer.TheVariants.{Pass, Msi, Held, Ones, Drop, Refuse, Done}
use Rattle.kinds.specs.declared.answer.Numbers.{Numbers}
use Rattle.kinds.specs.declared.answer.Reason.TheVariants.{BadRequest, MmioStopped, OutsideMemory, Fenced}
use Rattle.replay_text.specs.Digits.{digits, places_from}
use Rattle.replay_text.specs.Name.{name_of}
use Rattle.replay_text.specs.Text.{head_of, tail_of, answer_line, header, bad_numbers}

pub printed : header ++ answer_line 1 (numbered (Pass (record { 0 = 0x1234_5abc }) (record { 0 = 2 }) 1)) ≡ bytes "n\tanswer\treason\tvalue\twords\n1\tpass\t0\t0000000012345abc\t1\n"
unfolding head_of tail_of name_of digits places_from
printed = refl

-- a number of an output line, an answer in numbers, and the line
pub record Row : Type 0 where
  pub n : ℕ
  pub numbers : Numbers
  pub text : String

unfoldable pub rows : List Row
rows =
    record { n = 9; numbers = numbered (Msi 7 3 5); text = "9\tmsi\t0\t0000000000000007\t0\n" }
    ∷ record { n = 10; numbers = numbered (Held 0x7ff); text = "10\theld\t0\t00000000000007ff\t0\n" }
    ∷ record { n = 99; numbers = numbered (Ones MmioStopped 0xffff); text = "99\tones\t11\t000000000000ffff\t0\n" }
    ∷ record { n = 98; numbers = numbered (Ones Fenced 0xff); text = "98\tones\t18\t00000000000000ff\t0\n" }
    ∷ record { n = 100; numbers = numbered (Drop MmioStopped); text = "100\tdrop\t11\t0000000000000000\t0\n" }
    ∷ record { n = 101; numbers = numbered (Drop Fenced); text = "101\tdrop\t18\t0000000000000000\t0\n" }
    ∷ record { n = 1000000; numbers = numbered (Refuse OutsideMemory 4 (record { 0 = 0x6028 })); text = "1000000\trefuse\t15\t0000000000000000\t4\n" }
    ∷ record { n = 18446744073709551615; numbers = numbered (refuse BadRequest); text = "18446744073709551615\trefuse\t2\t0000000000000000\t0\n" }
    ∷ record { n = 2; numbers = numbered Done; text = "2\tdone\t0\t0000000000000000\t0\n" }
    ∷ record { n = 3; numbers = bad_numbers; text = "3\tbad\t0\t0000000000000000\t0\n" }
    ∷ []

pub right : map (λ (r : Row). answer_line r.n r.numbers) rows ≡ map (λ (r : Row). bytes r.text) rows
unfolding rows head_of tail_of name_of digits places_from
right = refl
