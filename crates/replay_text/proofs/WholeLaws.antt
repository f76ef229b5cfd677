-- A replay byte by byte, in pieces of any length, writes what the definition by lines says.
--     fed_append, said_append     a piece after a piece
--     bytes-lines                 the bytes of an input and its end write what its lines answer
--     pieces-joined               pieces write what they write joined
--     whole                       whatever the pieces: the header and what they write are the output of the whole input
-- Assumes nothing.
use Rattle.std.specs.Prelude.{◌≡◌, refl, true, false, cond, List, [], ◌∷◌, ◌++◌, ℕ, ltb, leb, eqb, length, take}
use Rattle.std.proofs.Common.{sym, ap, ◌∙◌, append_assoc, append-nil, arith, length-append, take_all, length-take-le, leb-true, leb-false, ltb-true, ltb-false, ne_eqb}
use Rattle.std.proofs.lemmas.List.{take-append-le}
use Rattle.kinds.proofs.Tests.{by_cases}
use Rattle.replay_text.specs.Line.{line_of}
use Rattle.replay_text.proofs.LineLaws.{first-bytes}
use Rattle.replay_text.specs.Text.{header}
use Rattle.replay_text.specs.SessionTables.{Session, start}
use Rattle.replay_text.specs.Session.{reply_to, after_line}
use Rattle.replay_text.specs.Bytes.{line_feed}
use Rattle.replay_text.specs.Replay.{lines_from, text_of, count_after, answers, output}
use Rattle.replay_text.specs.Whole.{joined, pieces_of, Whole}
use Rattle.replay_text.specs.Stream.{Stream, line_kept, held, ended, ending, fed, said, fed_all, said_all, closing, begin}

pub fed_append : (s : Stream) (l k : List ℕ) → fed_all s (l ++ k) ≡ fed_all (fed_all s l) k
unfolding fed_all
fed_append s [] k = refl
fed_append s (b ∷ l) k = fed_append (fed s b) l k

pub said_append : (s : Stream) (l k : List ℕ) → said_all s (l ++ k) ≡ said_all s l ++ said_all (fed_all s l) k
unfolding fed_all said_all
said_append s [] k = refl
said_append s (b ∷ l) k =
    rw (said_append (fed s b) l k) (sym (append_assoc (said s b) (said_all (fed s b) l) (said_all (fed_all (fed s b) l) k)))

-- the first bytes of a line: what they say, whether there are any, and one more
first-line : (q : List ℕ) → line_of (take line_kept q) ≡ line_of q
first-line q = first-bytes line_kept (omega arith) q

first-empty : (q : List ℕ) → eqb (length (take line_kept q)) 0 ≡ eqb (length q) 0
first-empty q =
    by_cases (leb (length q) line_kept)
    (λ t. ap (λ (l : List ℕ). eqb (length l) 0) (take_all line_kept q (leb-true (length q) line_kept t)))
    (λ t. let g = length-take-le line_kept q (omega (arith, leb-false (length q) line_kept t)) in
    ne_eqb (length (take line_kept q)) 0 (λ e. omega arith) ∙ sym (ne_eqb (length q) 0 (λ e. omega (arith, leb-false (length q) line_kept t))))

held_first : (q : List ℕ) (b : ℕ) → held (take line_kept q) b ≡ take line_kept (q ++ (b ∷ []))
held_first q b =
    by_cases (ltb (length q) line_kept)
    (λ t. let h = ltb-true (length q) line_kept t in
    rw (take_all line_kept q (omega (arith, h)), t, take_all line_kept (q ++ (b ∷ [])) (rw (length-append q (b ∷ [])) (omega (arith, h)))))
    (λ t. let h = ltb-false (length q) line_kept t in rw (length-take-le line_kept q h, take-append-le line_kept q (b ∷ []) h))

-- the stream whose line so far is q, of which the first bytes are kept
abbrev at : List ℕ → ℕ → Session → Stream
at q n s = record { pending = take line_kept q; count = n; session = s }

module _ (q : List ℕ) (n : ℕ) (s : Session) where
  -- the line q ended
  abbrev next : Stream
  next = at [] (count_after n (reply_to s (line_of q))) (after_line s (line_of q))

  abbrev text : List ℕ
  text = text_of n (reply_to s (line_of q))

  closing_at : closing (at q n s) ≡ cond (eqb (length q) 0) [] text
  unfolding closing ending
  closing_at = rw (first-empty q, first-line q)

  module _ (b : ℕ) (t : eqb b line_feed ≡ true) where
    fed-end : fed (at q n s) b ≡ next
    unfolding fed ended
    fed-end = rw (t, first-line q)

    said-end : said (at q n s) b ≡ text
    unfolding said ending
    said-end = rw (t, first-line q)

  module _ (b : ℕ) (t : eqb b line_feed ≡ false) where
    fed-more : fed (at q n s) b ≡ at (q ++ (b ∷ [])) n s
    unfolding fed
    fed-more = rw (t, ← held_first q b)

    said_more : said (at q n s) b ≡ []
    unfolding said
    said_more = rw t

  last_line : cond (eqb (length q) 0) [] text ≡ answers n s (lines_from q [])
  unfolding lines_from answers
  last_line = by_cases (eqb (length q) 0) (λ t. rw t) (λ t. rw t (sym (append-nil text)))

pub bytes-lines : (q : List ℕ) (n : ℕ) (s : Session) (l : List ℕ) → said_all (at q n s) l ++ closing (fed_all (at q n s) l) ≡ answers n s (lines_from q l)
unfolding said_all fed_all lines_from answers
bytes-lines q n s [] = rw (closing_at q n s) (last_line q n s)
bytes-lines q n s (b ∷ l) =
    by_cases (eqb b line_feed)
    (λ t. rw (said-end q n s b t, fed-end q n s b t, t, append_assoc)
    (ap (λ (x : List ℕ). text q n s ++ x) (bytes-lines [] (count_after n (reply_to s (line_of q))) (after_line s (line_of q)) l)))
    (λ t. rw (said_more q n s b t, fed-more q n s b t, t) (bytes-lines (q ++ (b ∷ [])) n s l))

pieces-joined : (s : Stream) (ps : List (List ℕ)) → pieces_of s ps ≡ said_all s (joined ps) ++ closing (fed_all s (joined ps))
unfolding pieces_of said_all fed_all
pieces-joined s [] = refl
pieces-joined s (p ∷ ps) =
    rw (said_append s p (joined ps), fed_append s p (joined ps), append_assoc) (ap (λ (x : List ℕ). said_all s p ++ x) (pieces-joined (fed_all s p) ps))

pub whole : Whole
unfolding output
whole = record { pieces = λ ps. rw (pieces-joined begin ps) (ap (λ (x : List ℕ). header ++ x) (bytes-lines [] 0 start (joined ps))) }
