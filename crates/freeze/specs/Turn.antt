-- A freeze as the code takes it: the failing PE first, then its peers, a PE to a turn.
--     recorded r v w l i  state l with the record of reason number r, value v and table word w written for the PE whose words start at place i
--     stopped r v w l k   state l with PE k stopped: both stop bits set, and such a record written if the reason was 0
--     as_peer_of v p l i x  how PE p's peers in vector v are stopped: word i, of value x, of the state l. PE p in its own vector is passed over
--     peers_stopped v p l  the state l after it
--     lists_nobody v      the four words of vector v are 0; zero_words v: the tests of each
--     turned b p l k      state l after the turn of PE k; b says whether PE k is in the vector; peer_turn v p: with vector v
--     end_of n b           where the words of the PEs below b end in a state of n words
--     froze_all w p e l   state l after a freeze, if every word is that of a PE below N
-- Assumes nothing.
use Rattle.std.specs.Prelude.{Bool, cond, not, ◌&&◌, List, [], ◌∷◌, ℕ, ◌+◌, ◌*◌, ◌/◌, ltb, eqb, set}
use Rattle.kinds.specs.Answer.{reason_number}
use Rattle.kinds.specs.Tests.{all}
use Rattle.kinds.specs.Words.{at, map_at, bit_of}
use Rattle.kinds.specs.declared.answer.Reason.TheVariants.{FrozenAsPeer}
use Rattle.kinds.specs.declared.number.PeNumber.{PeNumber}
use Rattle.kinds.specs.declared.outcome.ErrorRecord.{ErrorRecord}
use Rattle.profile.specs.Freeze.{as_peer, marked, frozen}
use Rattle.profile.specs.Tables.{state_words}

unfoldable pub recorded : (r v w : ℕ) → List ℕ → (first : ℕ) → List ℕ
recorded r v w l i = set (set (set l (i + 1) r) (i + 2) v) (i + 3) w

unfoldable pub stopped : (r v w : ℕ) → List ℕ → ℕ → List ℕ
stopped r v w l k =
    cond (eqb (at l (k * state_words + 1)) 0)
    (recorded r v w (set l (k * state_words) (at l (k * state_words) / 4 * 4 + 3)) (k * state_words))
    (set l (k * state_words) (at l (k * state_words) / 4 * 4 + 3))

unfoldable pub as_peer_of : List ℕ → PeNumber → List ℕ → (i x : ℕ) → ℕ
as_peer_of v p l i x =
    cond (bit_of v (i / state_words) && not (eqb (i / state_words) p.0)) (marked (as_peer p) (at l (i / state_words * state_words + 1)) i x) x

abbrev pub peers_stopped : List ℕ → PeNumber → List ℕ → List ℕ
peers_stopped v p l = map_at (as_peer_of v p l) 0 l

abbrev pub zero_words : List ℕ → List Bool
zero_words v = eqb (at v 0) 0 ∷ eqb (at v 1) 0 ∷ eqb (at v 2) 0 ∷ eqb (at v 3) 0 ∷ []

abbrev pub lists_nobody : List ℕ → Bool
lists_nobody v = all (zero_words v)

unfoldable pub turned : Bool → PeNumber → List ℕ → ℕ → List ℕ
turned b p l k = cond (b && not (eqb k p.0)) (stopped (reason_number FrozenAsPeer) p.0 0 l k) l

abbrev pub peer_turn : List ℕ → PeNumber → List ℕ → ℕ → List ℕ
peer_turn v p l k = turned (bit_of v k) p l k

unfoldable pub end_of : (words pes : ℕ) → ℕ
end_of n b = cond (ltb b (n / state_words + 1)) (b * state_words) n

abbrev pub froze_all : List ℕ → PeNumber → ErrorRecord → List ℕ → List ℕ
froze_all w p e l = map_at (frozen w p e l) 0 l
