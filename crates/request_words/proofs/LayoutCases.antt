-- Requests in words, number by number: one of each kind, direction and part, and words that name none.
--     eight a b ..        eight words
--     rows                requests, each with its eight words
--     rows_hold           THE STATEMENT: these are the words of the requests
--     largest_brought     a caller can bring the largest data
--     answer-holds        THE STATEMENT: the numbers of an answer, each in its word
--     nameless            eight words each: kinds that are no request's, a direction, data and a part that are none
--     nameless_hold       THE STATEMENT: they name no request
--     too_few             THE STATEMENT: words too few for a request name none, and words too few for an answer stay
-- Assumes nothing.
use Rattle.std.specs.Prelude.{◌≡◌, refl, List, [], ◌∷◌, map, ℕ}
use mathlib.Core.List.Memᴰ
use Rattle.std.proofs.Common.{arith}
use Rattle.kinds.specs.declared.answer.Answer.TheVariants.{Done}
use Rattle.kinds.specs.declared.request.Direction.{Direction}
use Rattle.kinds.specs.declared.request.Direction.TheVariants.{Read, Write}
use Rattle.kinds.specs.declared.request.Part.TheVariants as part
use Rattle.kinds.specs.declared.request.Request.{Request}
use Rattle.kinds.specs.declared.request.Request.TheVariants.{Dma, Load, Store, Error, Clear, End, Priority, Fatal, FenceClear, Unnamed}
use Rattle.request_words.specs.Layout.{encoded, Brought, decoded, decoded_dma, decoded_clear, decoded_from, request_in, number_list, written_in}

abbrev pub eight : (a b c d e f g h : ℕ) → List ℕ
eight a b c d e f g h = a ∷ b ∷ c ∷ d ∷ e ∷ f ∷ g ∷ h ∷ []

pub record Row : Type 0 where
  pub request : Request
  pub words : List ℕ

abbrev row : Request → List ℕ → Row
row q w = record { request = q; words = w }

-- requester 11, address 12, length 13
abbrev dma : Direction → (word : ℕ) → Request
dma d v = Dma (record { requester = 11; direction = d; address = record { 0 = 12 }; length = 13; «data» = v })

unfoldable pub rows : List Row
rows =
    row (dma Read 14) (eight 0 11 0 12 13 14 0 0)
    ∷ row (dma Write 14) (eight 0 11 1 12 13 14 0 0)
    ∷ row (Load (record { 0 = 11 }) 12) (eight 1 11 12 0 0 0 0 0)
    ∷ row (Store (record { 0 = 11 }) 12) (eight 2 11 12 0 0 0 0 0)
    ∷ row (Error 11) (eight 3 11 0 0 0 0 0 0)
    ∷ row (Clear 11 part.Mmio) (eight 4 11 0 0 0 0 0 0)
    ∷ row (Clear 11 part.Dma) (eight 4 11 1 0 0 0 0 0)
    ∷ row (Clear 11 part.Record) (eight 4 11 2 0 0 0 0 0)
    ∷ row (End 11) (eight 5 11 0 0 0 0 0 0)
    ∷ row (Priority 11 12) (eight 6 11 12 0 0 0 0 0)
    ∷ row (Fatal 11) (eight 7 11 0 0 0 0 0 0)
    ∷ row FenceClear (eight 8 0 0 0 0 0 0 0)
    ∷ row Unnamed (eight 0xFFFFFFFFFFFFFFFF 0 0 0 0 0 0 0)
    ∷ []

pub rows_hold : map (λ (r : Row). encoded r.request) rows ≡ map (λ (r : Row). r.words) rows
unfolding rows encoded
rows_hold = refl

pub largest_brought : Brought (dma Write 0xFFFFFFFF ∷ [])
largest_brought q m = let e : q.«data» ≡ 0xFFFFFFFF = cc (Memᴰ.eq_of_singleton m) in omega arith

pub answer-holds : number_list (record { name = 11; reason = 12; value = 13; words = 14; pe = 15; server = 16; priority = 17; word = 18 }) ≡ eight 11 12 13 14 15 16 17 18
answer-holds = refl

unfoldable pub nameless : List (List ℕ)
nameless =
    eight 9 1 1 1 1 1 1 1
    ∷ eight 10 1 1 1 1 1 1 1
    ∷ eight 99 1 1 1 1 1 1 1
    ∷ eight 0 5 2 0x3ABC 4 0 0 0
    ∷ eight 0 5 0 0x3ABC 4 0x100000000 0 0
    ∷ eight 4 2 3 0 0 0 0 0
    ∷ []

pub nameless_hold : map (λ w. decoded_from w 0) nameless ≡ map (λ w. Unnamed) nameless
unfolding nameless decoded decoded_dma decoded_clear
nameless_hold = refl

pub too_few : (request_in (5 ∷ 11 ∷ []) 0 ≡ Unnamed) × (written_in (9 ∷ 9 ∷ []) 0 Done ≡ 9 ∷ 9 ∷ [])
unfolding request_in written_in
too_few = (refl, refl)
