-- Where a replay stands after a piece, in one table with one statement over it.
--     FeedCase            where it stood, the piece, where it stands, and the bytes taken
--     feed_cases          a line that ends, one that does not, an empty piece; no room in the output, no count left, no room in the tables; a full buffer
--     feed_hold           THE STATEMENT: each piece leaves and takes what its row says
--     end_hold            the same of the end of the input
-- Assumes nothing.
use Rattle.std.specs.Prelude.{◌≡◌, refl, List, [], ◌∷◌, map, ℕ, replicate}
use Prim.Native.String.{String}
use Rattle.std.proofs.lemmas.List.Edits.{sets}
use Rattle.replay_session.specs.Standing.{Standing, free, line_done}
use Rattle.replay_tables.specs.Lent.{Lent, lent, extent_of, room_for, after_in}
use Rattle.replay_text.specs.Bytes.{bytes}
use Rattle.replay_text.specs.Digits.{digits, places_from}
use Rattle.replay_text.specs.Field.{fields_of, number_from, number_of, only, is}
use Rattle.replay_text.specs.Line.{field, final, numbers, sized, dma, line_of}
use Rattle.replay_text.specs.Name.{name_of}
use Rattle.replay_text.specs.Session.{reply_to}
use Rattle.replay_text.specs.Text.{head_of, tail_of}
use Rattle.replay_text.specs.Word.{find}
use Rattle.replay_feed.specs.Feed.{Fed, kept_all, byte_in, feed_all, end_of}

abbrev zeros : ℕ → List ℕ
zeros n = replicate n 0

abbrev none : Lent
none = lent (extent_of 0 0 0 0) [] [] [] [] [] [] [] []

-- by the line's buffer, the pending bytes, the count, the output and its end
abbrev stands : List ℕ → (pending count : ℕ) → List ℕ → (at : ℕ) → Standing
stands b p n o a = record { lent = none; line = b; pending = p; count = n; out = o; at = a }

pub record FeedCase : Type 0 where
  pub from : Standing
  pub piece : List ℕ
  pub to : Fed

abbrev takes : Standing → String → Standing → ℕ → FeedCase
takes s l t n = record { from = s; piece = bytes l; to = record { standing = t; bytes = n } }

-- the line `ab`, in the buffer, and its answer in the output
abbrev ab : List ℕ
ab = sets (zeros 128) 0 (bytes "ab")

abbrev said : List ℕ
said = sets (zeros 100) 3 (bytes "8\tbad\t0\t0000000000000000\t0\n")

abbrev most : ℕ
most = 18446744073709551615

unfoldable pub feed_cases : List FeedCase
feed_cases =
    takes (stands (zeros 128) 0 7 (zeros 100) 3) "" (stands (zeros 128) 0 7 (zeros 100) 3) 0
    ∷ takes (stands (zeros 128) 0 7 (zeros 100) 3) "ab" (stands ab 2 7 (zeros 100) 3) 2
    ∷ takes (stands (zeros 128) 0 7 (zeros 100) 3) "ab\n" (stands ab 0 8 said 30) 3
    ∷ takes (stands (sets (zeros 128) 0 (bytes "a")) 1 7 (zeros 100) 3) "b\n" (stands ab 0 8 said 30) 2
    -- after the line the output has no room for another
    ∷ takes (stands (zeros 128) 0 7 (zeros 100) 3) "ab\nc\nd" (stands (sets ab 0 (bytes "c")) 1 8 said 30) 4
    -- 87 bytes free, and one less
    ∷ takes (stands ab 2 7 (zeros 90) 3) "\n" (stands ab 0 8 (sets (zeros 90) 3 (bytes "8\tbad\t0\t0000000000000000\t0\n")) 30) 1
    ∷ takes (stands ab 2 7 (zeros 89) 3) "\n" (stands ab 2 7 (zeros 89) 3) 0
    -- the last count, and the one before it
    ∷ takes (stands ab 2 18446744073709551614 (zeros 100) 3) "\n" (stands ab 0 most (sets (zeros 100) 3 (bytes "18446744073709551615\tbad\t0\t0000000000000000\t0\n")) 49) 1
    ∷ takes (stands ab 2 most (zeros 100) 3) "\n" (stands ab 2 most (zeros 100) 3) 0
    -- tables without room
    ∷ takes (stands (zeros 128) 0 7 (zeros 100) 3) "size\t1\t0\t1\t0\n" (stands (sets (zeros 128) 0 (bytes "size\t1\t0\t1\t0")) 12 7 (zeros 100) 3) 12
    -- a full buffer
    ∷ takes (stands (replicate 128 1) 127 7 (zeros 100) 3) "ab" (stands (sets (replicate 128 1) 127 (bytes "a")) 128 7 (zeros 100) 3) 2
    ∷ []

pub feed_hold : map (λ c. feed_all c.from c.piece) feed_cases ≡ map (λ c. c.to) feed_cases
unfolding feed_cases fields_of number_from number_of only is field final numbers sized dma line_of find digits places_from name_of head_of tail_of reply_to room_for after_in free line_done kept_all byte_in feed_all
feed_hold = refl

pub end_hold : (end_of (stands ab 0 7 [] 0) ≡ []) × (end_of (stands ab 1 7 [] 0) ≡ bytes "\n")
end_hold = (refl, refl)
