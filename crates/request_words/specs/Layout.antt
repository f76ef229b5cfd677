-- Requests and answers as words, 8 for each. What a request does not use is 0 and is not read.
--     request_words, answer_words  the words of one request and of one answer
--     encoded q                   the words of request q, its kind first:
--                                 0 dma: requester, direction (0 read, 1 write), address, length, data; 1 load, 2 store: address, width;
--                                 3 error: requester; 4 clear: PE, part (0 mmio, 1 dma, 2 record); 5 end: interrupt; 6 priority: interrupt, priority;
--                                 7 fatal message: requester; 8 fence clear: nothing.
--                                 2 ^ 64 - 1 is the kind of no request, now and later: `Unnamed` has it. direction_number, part_number: those numbers
--     words_of l                   the words of the requests of list l, one after the other
--     Brought l                   requests that a caller can bring: the data of each DMA of list l are below 2 ^ 32
--     decoded k a b c d e         the request that the kind k and the numbers a to e name. Another kind, direction or part, and data of 2 ^ 32 or
--                                 more, name none; decoded_dma, decoded_clear: of kinds 0 and 4
--     decoded_from l i            the request whose words stand from place i of the list of words l
--     decoded_at l k              request k of the list of words l; request_in l k: none where its words are not all there
--     asked_from asked k n        n requests from request k, `asked` being what is asked as request k; requests_from l k n: those of the list of words l
--     number_list x               the 8 words of an answer: name, reason, value, words read, PE, server, priority, table word, as `numbered` has them
--     answer_list a               the words of answer a; answers_of l: of the answers of list l, one after the other
--     over y x                    the words y in the place of the first words of x
--     words_at x k                the words of answer k in the answer words x
--     written l k a               the list of words l with answer a written as its answer k; written_in l k a: nothing is
--                                 written where the words of answer k are not all there
-- Assumes nothing.
use Rattle.std.specs.Prelude.{cond, ℕ, zero, suc, ◌+◌, ◌-◌, ◌*◌, ◌/◌, ◌^◌, ◌<◌, ltb, eqb, length, take, drop}
use mathlib.Core.List.{List, [], ◌∷◌, ◌++◌, Memᴰ}
use Rattle.std.proofs.lemmas.List.Edits.{sets}
use Rattle.kinds.specs.Answer.{numbered}
use Rattle.kinds.specs.Words.{at}
use Rattle.kinds.specs.declared.answer.Answer.{Answer}
use Rattle.kinds.specs.declared.answer.Numbers.{Numbers}
use Rattle.kinds.specs.declared.request.Direction.{Direction}
use Rattle.kinds.specs.declared.request.Direction.TheVariants.{Read, Write}
use Rattle.kinds.specs.declared.request.DmaRequest.{DmaRequest}
use Rattle.kinds.specs.declared.request.Part.{Part}
use Rattle.kinds.specs.declared.request.Part.TheVariants as part
use Rattle.kinds.specs.declared.request.Request.{Request}
use Rattle.kinds.specs.declared.request.Request.TheVariants.{Dma, Load, Store, Error, Clear, End, Priority, Fatal, FenceClear, Unnamed}

abbrev pub request_words : ℕ
request_words = 8

abbrev pub answer_words : ℕ
answer_words = 8

-- ---- from requests to words

abbrev pub direction_number : Direction → ℕ
direction_number Read = 0
direction_number Write = 1

abbrev pub part_number : Part → ℕ
part_number part.Mmio = 0
part_number part.Dma = 1
part_number part.Record = 2

unfoldable pub encoded : Request → List ℕ
encoded (Dma q) = 0 ∷ q.requester ∷ direction_number q.direction ∷ q.address.0 ∷ q.length ∷ q.«data» ∷ 0 ∷ 0 ∷ []
encoded (Load a w) = 1 ∷ a.0 ∷ w ∷ 0 ∷ 0 ∷ 0 ∷ 0 ∷ 0 ∷ []
encoded (Store a w) = 2 ∷ a.0 ∷ w ∷ 0 ∷ 0 ∷ 0 ∷ 0 ∷ 0 ∷ []
encoded (Error r) = 3 ∷ r ∷ 0 ∷ 0 ∷ 0 ∷ 0 ∷ 0 ∷ 0 ∷ []
encoded (Clear p c) = 4 ∷ p ∷ part_number c ∷ 0 ∷ 0 ∷ 0 ∷ 0 ∷ 0 ∷ []
encoded (End i) = 5 ∷ i ∷ 0 ∷ 0 ∷ 0 ∷ 0 ∷ 0 ∷ 0 ∷ []
encoded (Priority i n) = 6 ∷ i ∷ n ∷ 0 ∷ 0 ∷ 0 ∷ 0 ∷ 0 ∷ []
encoded (Fatal r) = 7 ∷ r ∷ 0 ∷ 0 ∷ 0 ∷ 0 ∷ 0 ∷ 0 ∷ []
encoded FenceClear = 8 ∷ 0 ∷ 0 ∷ 0 ∷ 0 ∷ 0 ∷ 0 ∷ 0 ∷ []
encoded Unnamed = (2 ^ 64 - 1) ∷ 0 ∷ 0 ∷ 0 ∷ 0 ∷ 0 ∷ 0 ∷ 0 ∷ []

abbrev pub words_of : List Request → List ℕ
words_of [] = []
words_of (q ∷ l) = encoded q ++ words_of l

abbrev pub Brought : List Request → Type 0
Brought l = (q : DmaRequest) → Memᴰ (Dma q) l → q.«data» < 2 ^ 32

-- ---- from words to requests

abbrev dma : (requester : ℕ) → Direction → (address length word : ℕ) → Request
dma r d a n v = Dma (record { requester = r; direction = d; address = record { 0 = a }; length = n; «data» = v })

unfoldable pub decoded_dma : (requester direction address length word : ℕ) → Request
decoded_dma r d a n v = cond (ltb v (2 ^ 32)) (cond (eqb d 0) (dma r Read a n v) (cond (eqb d 1) (dma r Write a n v) Unnamed)) Unnamed

unfoldable pub decoded_clear : (pe part : ℕ) → Request
decoded_clear p c =
    cond (eqb c 0) (Clear p part.Mmio) (cond (eqb c 1) (Clear p part.Dma) (cond (eqb c 2) (Clear p part.Record) Unnamed))

unfoldable pub decoded : (k a b c d e : ℕ) → Request
decoded k a b c d e =
    cond (eqb k 0) (decoded_dma a b c d e)
    (cond (eqb k 1) (Load (record { 0 = a }) b)
    (cond (eqb k 2) (Store (record { 0 = a }) b)
    (cond (eqb k 3) (Error a)
    (cond (eqb k 4) (decoded_clear a b)
    (cond (eqb k 5) (End a)
    (cond (eqb k 6) (Priority a b)
    (cond (eqb k 7) (Fatal a)
    (cond (eqb k 8) FenceClear Unnamed))))))))

abbrev pub decoded_from : List ℕ → ℕ → Request
decoded_from l i = decoded (at l i) (at l (i + 1)) (at l (i + 2)) (at l (i + 3)) (at l (i + 4)) (at l (i + 5))

abbrev pub decoded_at : List ℕ → ℕ → Request
decoded_at l k = decoded_from l (k * request_words)

unfoldable pub request_in : List ℕ → ℕ → Request
request_in l k = cond (ltb k (length l / request_words)) (decoded_at l k) Unnamed

abbrev pub asked_from : {Q : Type 0} → (ℕ → Q) → (k n : ℕ) → List Q
asked_from asked k zero = []
asked_from asked k (suc n) = asked k ∷ asked_from asked (suc k) n

abbrev pub requests_from : List ℕ → (k n : ℕ) → List Request
requests_from l k n = asked_from (decoded_at l) k n

-- ---- answers

abbrev pub number_list : Numbers → List ℕ
number_list x = x.name ∷ x.reason ∷ x.value ∷ x.words ∷ x.pe ∷ x.server ∷ x.priority ∷ x.word ∷ []

abbrev pub answer_list : Answer → List ℕ
answer_list a = number_list (numbered a)

abbrev pub answers_of : List Answer → List ℕ
answers_of [] = []
answers_of (a ∷ l) = answer_list a ++ answers_of l

abbrev pub over : List ℕ → List ℕ → List ℕ
over y x = y ++ drop (length y) x

abbrev pub words_at : List ℕ → ℕ → List ℕ
words_at x k = take answer_words (drop (k * answer_words) x)

unfoldable pub written : List ℕ → ℕ → Answer → List ℕ
written l k a = sets l (k * answer_words) (answer_list a)

unfoldable pub written_in : List ℕ → ℕ → Answer → List ℕ
written_in l k a = cond (ltb k (length l / answer_words)) (written l k a) l
