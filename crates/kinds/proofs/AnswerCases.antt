-- The numbers of every answer and reason, in one table with one statement over it.
--     NumberCase          an answer and its eight numbers: name, reason, value, words, PE, server, priority, word
--     number_cases        the answers, each by numbers that differ; then every reason, in 01's order
--     numbers_hold        THE STATEMENT: each has the numbers of its row
-- Assumes nothing.
use Rattle.std.specs.Prelude.{◌≡◌, refl, List, [], ◌∷◌, map, ℕ}
use Rattle.kinds.specs.declared.answer.Answer.{Answer}
use Rattle.kinds.specs.declared.answer.Answer.TheVariants.{Pass, Msi, Held, Ones, Drop, Refuse, Done}
use Rattle.kinds.specs.declared.answer.Numbers.{Numbers}
use Rattle.kinds.specs.declared.answer.Reason.TheVariants.{TableLength, BadRequest, UnknownRequester, DmaStopped, AddressClass, BadEntry, OutsideWindow, TableWord, MsiRefused, NoWindow, MmioStopped, ErrorMessage, FrozenAsPeer, BadFirmware, OutsideMemory, AboveInstalled, Fenced}
use Rattle.kinds.specs.Answer.{numbered, refuse}

pub record NumberCase : Type 0 where
  pub answer : Answer
  pub numbers : Numbers

abbrev pub has : Answer → (name reason value words pe server priority word : ℕ) → NumberCase
has a n r v w p s y x = record { answer = a; numbers = record { name = n; reason = r; value = v; words = w; pe = p; server = s; priority = y; word = x } }

unfoldable pub number_cases : List NumberCase
number_cases =
    has (Pass (record { 0 = 0x5000 }) (record { 0 = 3 }) 2) 0 0 0x5000 2 3 0 0 0
    ∷ has (Msi 7 9 4) 1 0 7 0 0 9 4 0
    ∷ has (Held 7) 2 0 7 0 0 0 0 0
    ∷ has (Ones MmioStopped 0xFFFF) 3 11 0xFFFF 0 0 0 0 0
    ∷ has (Ones Fenced 0xFF) 3 18 0xFF 0 0 0 0 0
    ∷ has (Drop MmioStopped) 4 11 0 0 0 0 0 0
    ∷ has (Drop Fenced) 4 18 0 0 0 0 0 0
    ∷ has Done 6 0 0 0 0 0 0 0
    ∷ has (refuse TableLength) 5 1 0 0 0 0 0 0
    ∷ has (refuse BadRequest) 5 2 0 0 0 0 0 0
    ∷ has (refuse UnknownRequester) 5 3 0 0 0 0 0 0
    ∷ has (refuse DmaStopped) 5 4 0 0 0 0 0 0
    ∷ has (refuse AddressClass) 5 5 0 0 0 0 0 0
    ∷ has (refuse BadEntry) 5 6 0 0 0 0 0 0
    ∷ has (refuse OutsideWindow) 5 7 0 0 0 0 0 0
    ∷ has (Refuse TableWord 5 (record { 0 = 0x2018 })) 5 8 0 5 0 0 0 0x2018
    ∷ has (refuse MsiRefused) 5 9 0 0 0 0 0 0
    ∷ has (refuse NoWindow) 5 10 0 0 0 0 0 0
    ∷ has (refuse MmioStopped) 5 11 0 0 0 0 0 0
    ∷ has (refuse ErrorMessage) 5 12 0 0 0 0 0 0
    ∷ has (refuse FrozenAsPeer) 5 13 0 0 0 0 0 0
    ∷ has (refuse BadFirmware) 5 14 0 0 0 0 0 0
    ∷ has (Refuse OutsideMemory 1 (record { 0 = 0x6028 })) 5 15 0 1 0 0 0 0x6028
    ∷ has (Refuse AboveInstalled 3 (record { 0 = 0 })) 5 17 0 3 0 0 0 0
    ∷ has (refuse Fenced) 5 18 0 0 0 0 0 0
    ∷ []

pub numbers_hold : map (λ c. numbered c.answer) number_cases ≡ map (λ c. c.numbers) number_cases
unfolding number_cases
numbers_hold = refl
