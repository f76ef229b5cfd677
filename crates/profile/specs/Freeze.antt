-- 01, 'Answers', on stop bits, error records and freezing.
--     stop_word p, reason_word p, value_word p, failed_word p  the places of the words of PE p in the state: its stop bits, and its error record, the
--                         last word of which is the address of the table word that failed
--     mmio_stopped w      bit 0 of a stop word is set
--     dma_stopped w       bit 1 of a stop word is set
--     vector_in l p       the peer vector of PE p in the peers table l
--     vector f p          the same in tables f; PE k is in it where `bit_of (vector f p) k`
--     no_peers            the vector that lists nobody; taken b l p: the vector of PE p in the peers l, or `no_peers`
--     error_words e       the words of error record e; as_peer p: the record of a peer, 13 and the failing PE's number, without a table word
--     marked e o i x      word i, of value x, of a PE that is stopped: both stop bits set, the others kept; the record is written only if its reason,
--                         which was o, is 0
--     frozen v p e l      how a freeze of PE p with peer vector v and record e rewrites each word of the state l. The failing PE gets e, a peer the
--                         record of a peer, and a PE in its own vector counts as the failing one
--     of_pes n rule       a rule for the words of the PEs below n: the words after them stay
--     froze n v p e l     the state l after it. Bits for N and above are ignored, whatever words the state has
--     released c p l      the state after firmware cleared part c of PE p, alone
-- Assumes nothing.
use Rattle.std.specs.Prelude.{Bool, cond, List, [], ◌∷◌, ℕ, ◌+◌, ◌-◌, ◌*◌, ◌/◌, ◌%◌, ltb, eqb, set}
use Rattle.kinds.specs.Answer.{reason_number}
use Rattle.kinds.specs.Number.{no_word}
use Rattle.kinds.specs.Words.{at, map_at, bit_of}
use Rattle.kinds.specs.declared.answer.Reason.TheVariants.{FrozenAsPeer}
use Rattle.kinds.specs.declared.number.PeNumber.{PeNumber}
use Rattle.kinds.specs.declared.outcome.ErrorRecord.{ErrorRecord}
use Rattle.kinds.specs.declared.request.Part.{Part}
use Rattle.kinds.specs.declared.request.Part.TheVariants.{Mmio, Dma, Record}
use Rattle.profile.specs.Tables.{Tables, peer_words, state_words}

abbrev pub stop_word : PeNumber → ℕ
stop_word p = p.0 * state_words

abbrev pub reason_word : PeNumber → ℕ
reason_word p = p.0 * state_words + 1

abbrev pub value_word : PeNumber → ℕ
value_word p = p.0 * state_words + 2

abbrev pub failed_word : PeNumber → ℕ
failed_word p = p.0 * state_words + 3

abbrev pub mmio_stopped : ℕ → Bool
mmio_stopped w = eqb (w % 2) 1

abbrev pub dma_stopped : ℕ → Bool
dma_stopped w = eqb (w / 2 % 2) 1

abbrev pub vector_in : List ℕ → PeNumber → List ℕ
vector_in l p = at l (p.0 * peer_words) ∷ at l (p.0 * peer_words + 1) ∷ at l (p.0 * peer_words + 2) ∷ at l (p.0 * peer_words + 3) ∷ []

abbrev pub vector : Tables → PeNumber → List ℕ
vector f p = vector_in f.peers p

abbrev pub no_peers : List ℕ
no_peers = 0 ∷ 0 ∷ 0 ∷ 0 ∷ []

abbrev pub taken : Bool → List ℕ → PeNumber → List ℕ
taken b l p = cond b (vector_in l p) no_peers

abbrev pub error_words : ErrorRecord → List ℕ
error_words e = reason_number e.reason ∷ e.value ∷ e.word.0 ∷ []

abbrev pub as_peer : PeNumber → ErrorRecord
as_peer p = record { reason = FrozenAsPeer; value = p.0; word = no_word }

unfoldable pub marked : ErrorRecord → (o i x : ℕ) → ℕ
marked e o i x =
    cond (eqb (i % state_words) 0) (x / 4 * 4 + 3) (cond (eqb o 0) (at (error_words e) (i % state_words - 1)) x)

unfoldable pub frozen : List ℕ → PeNumber → ErrorRecord → List ℕ → (i x : ℕ) → ℕ
frozen v p e l i x =
    cond (eqb (i / state_words) p.0) (marked e (at l (i / state_words * state_words + 1)) i x)
    (cond (bit_of v (i / state_words)) (marked (as_peer p) (at l (i / state_words * state_words + 1)) i x) x)

abbrev pub of_pes : (n : ℕ) → ((i x : ℕ) → ℕ) → (i x : ℕ) → ℕ
of_pes n rule i x = cond (ltb (i / state_words) n) (rule i x) x

abbrev pub froze : (n : ℕ) → List ℕ → PeNumber → ErrorRecord → List ℕ → List ℕ
froze n v p e l = map_at (of_pes n (frozen v p e l)) 0 l

unfoldable pub released : Part → PeNumber → List ℕ → List ℕ
released Mmio p l = set l (stop_word p) (at l (stop_word p) / 2 * 2)
released Dma p l = set l (stop_word p) (at l (stop_word p) / 4 * 4 + at l (stop_word p) % 2)
released Record p l = set (set (set l (reason_word p) 0) (value_word p) 0) (failed_word p) 0
