-- 01, 'Cases': A to J as words, through a run over words; and words that name no request.
--     Said                the words of a request, and of its answer
--     said                a row for each row of `cases`
--     ran f m s w         a run over the request words w, with eight answer words that are 9 before it
--     words_hold          THE STATEMENT: the requests of `cases` have these words, and a run over them answers these words and leaves what `cases` says
--     nameless-refused    THE STATEMENT: words that name no request are 2, and 1 where the tables are bad; nothing changes
-- Assumes nothing.
use Rattle.std.specs.Prelude.{◌≡◌, refl, ℕ, replicate}
use mathlib.Core.List.{List, [], ◌∷◌, map, zip_with}
use Rattle.profile.proofs.Case.{Case, plain, short, idle, empty}
use Rattle.profile.proofs.Cases.{cases}
use Rattle.profile.proofs.Opened.{opened}
use Rattle.profile.specs.Tables.{Tables, Live}
use Rattle.request_words.specs.Layout.{answer_words, encoded, decoded, decoded_dma, decoded_clear, written}
use Rattle.request_words.proofs.LayoutCases.{eight, nameless}
use Rattle.request_words.specs.Run.{RunState, served, ran_on, ran_to}

pub record Said : Type 0 where
  pub request : List ℕ
  pub answer : List ℕ

abbrev says : (request answer : List ℕ) → Said
says w x = record { request = w; answer = x }

unfoldable pub ran : Tables → List ℕ → Live → List ℕ → RunState
unfolding opened decoded decoded_dma decoded_clear written ran_on
ran f m s w = ran_to f m w s (replicate answer_words 9) (served w (replicate answer_words 9))

unfoldable pub said : List Said
said =
    -- A
    says (eight 0 5 0 0x3ABC 4 0 0 0) (eight 0 0 0x12345ABC 1 2 0 0 0)
    -- B
    ∷ says (eight 0 5 1 0x1FFFFF 1 0 0 0) (eight 0 0 0x77777FFF 1 2 0 0 0)
    ∷ says (eight 0 5 0 0x1FFFFF 1 0 0 0) (eight 5 8 0 1 0 0 0 0x2FF8)
    -- C
    ∷ says (eight 0 5 0 0x200000 4 0 0 0) (eight 5 7 0 0 0 0 0 0)
    -- D
    ∷ says (eight 0 5 0 0x3FFF 2 0 0 0) (eight 5 2 0 0 0 0 0 0)
    ∷ says (eight 0 5 0 0x3FFF 1 0 0 0) (eight 0 0 0x12345FFF 1 2 0 0 0)
    ∷ says (eight 0 5 0 0x3000 0 0 0 0) (eight 5 2 0 0 0 0 0 0)
    ∷ says (eight 0 5 0 0x3000 4097 0 0 0) (eight 5 2 0 0 0 0 0 0)
    -- E
    ∷ says (eight 0 5 0 0xABCD 1 0 0 0) (eight 0 0 0x1234ABCD 1 2 0 0 0)
    -- F
    ∷ says (eight 0 5 1 0x403010 4 0 0 0) (eight 0 0 0x9010 2 2 0 0 0)
    -- G
    ∷ says (eight 0 5 0 0x0800000001000000 4 0 0 0) (eight 0 0 0x1000000 0 2 0 0 0)
    ∷ says (eight 0 5 0 0x0800000002000000 4 0 0 0) (eight 5 7 0 0 0 0 0 0)
    ∷ says (eight 0 5 0 0x0800000000FFFFFF 1 0 0 0) (eight 5 7 0 0 0 0 0 0)
    -- H
    ∷ says (eight 0 5 1 0x1000000000000070 4 3 0 0) (eight 1 0 7 0 0 5 6 0)
    ∷ says (eight 0 5 1 0xFFFF0070 4 0 0 0) (eight 1 0 7 0 0 5 6 0)
    -- I
    ∷ says (eight 1 0x100300010 4 0 0 0 0 0) (eight 0 0 0x80300010 0 1 0 0 0)
    -- J
    ∷ says (eight 3 1 0 0 0 0 0 0) (eight 6 0 0 0 0 0 0 0)
    ∷ []

pub words_hold : (map (λ (c : Case). encoded c.request) cases ≡ map (λ (w : Said). w.request) said)
    × (zip_with (λ (c : Case) (w : Said). ran c.tables c.memory c.live w.request) cases said
    ≡ zip_with (λ (c : Case) (w : Said). record { live = c.left; answers = w.answer }) cases said)
unfolding cases said encoded ran zip_with
words_hold = (refl, refl)

pub nameless-refused : (map (ran plain empty idle) nameless ≡ map (λ w. record { live = idle; answers = eight 5 2 0 0 0 0 0 0 }) nameless)
    × (map (ran short empty idle) nameless ≡ map (λ w. record { live = idle; answers = eight 5 1 0 0 0 0 0 0 }) nameless)
unfolding nameless ran
nameless-refused = (refl, refl)
