-- The layout of answers loses nothing, and an answer is written where it belongs.
--     request_in_lem, written_in_lem  a request and an answer whose words are all there
--     reason_from n               the reason with number n; answer_from x: the answer with numbers x
--     numbered_injective          two answers with the same words are the same
--     words-at                    the words of answer k, which stand after v, the words of k answers; written_after: the words once it is written
--     written_from x k l          the list of words x with the answers of list l written as its answers k, k + 1 and so on
--     all-written                 answers that are written from the first one on are the first words, one answer after the other
-- Assumes nothing.
use Rattle.std.specs.Prelude.{◌≡◌, refl, List, [], ◌∷◌, ◌++◌, ℕ, suc, ◌+◌, ◌*◌, ◌/◌, ◌≤◌}
use Rattle.std.proofs.Common.{sym, ap, ◌∙◌, append_assoc, suc-mul, arith, drop-drop, lt-ltb}
use lib.ListN.{length, drop, length-append, length-drop}
use Rattle.std.proofs.lemmas.List.Edits.{sets-eq}
use Rattle.std.proofs.Math.Seq.{take-append_seam, drop-append_seam, drop-append-add}
use Rattle.kinds.specs.Answer.{reason_number}
use Rattle.kinds.specs.Words.{at}
use Rattle.kinds.specs.declared.answer.Answer.{Answer}
use Rattle.kinds.specs.declared.answer.Answer.TheVariants.{Pass, Msi, Held, Ones, Drop, Refuse, Done}
use Rattle.kinds.specs.declared.answer.Reason.{Reason}
use Rattle.kinds.specs.declared.answer.Reason.TheVariants.{TableLength, BadRequest, UnknownRequester, DmaStopped, AddressClass, BadEntry, OutsideWindow, TableWord, MsiRefused, NoWindow, MmioStopped, ErrorMessage, FrozenAsPeer, BadFirmware, OutsideMemory, AboveInstalled, Fenced}
use Rattle.request_words.specs.Layout.{request_words, answer_words, decoded_at, request_in, answer_list, answers_of, over, words_at, written, written_in}

pub request_in_lem : (l : List ℕ) (k : ℕ) → k * request_words + request_words ≤ length l → request_in l k ≡ decoded_at l k
unfolding request_in
request_in_lem l k h = rw (lt-ltb k (length l / request_words) (omega arith))

pub written_in_lem : (l : List ℕ) (k : ℕ) (a : Answer) → k * answer_words + answer_words ≤ length l → written_in l k a ≡ written l k a
unfolding written_in
written_in_lem l k a h = rw (lt-ltb k (length l / answer_words) (omega arith))

reasons : List Reason
reasons =
    TableLength ∷ TableLength ∷ BadRequest ∷ UnknownRequester ∷ DmaStopped ∷ AddressClass ∷ BadEntry ∷ OutsideWindow ∷ TableWord ∷ MsiRefused
    ∷ NoWindow ∷ MmioStopped ∷ ErrorMessage ∷ FrozenAsPeer ∷ BadFirmware ∷ OutsideMemory ∷ TableLength ∷ AboveInstalled
    ∷ Fenced ∷ []

reason_from : ℕ → Reason
reason_from n = lib.ListN.get_or reasons n TableLength

reason-back : (r : Reason) → reason_from (reason_number r) ≡ r
unfolding reason_from reasons
reason-back TableLength = refl
reason-back BadRequest = refl
reason-back UnknownRequester = refl
reason-back DmaStopped = refl
reason-back AddressClass = refl
reason-back BadEntry = refl
reason-back OutsideWindow = refl
reason-back TableWord = refl
reason-back MsiRefused = refl
reason-back NoWindow = refl
reason-back MmioStopped = refl
reason-back ErrorMessage = refl
reason-back FrozenAsPeer = refl
reason-back BadFirmware = refl
reason-back OutsideMemory = refl
reason-back AboveInstalled = refl
reason-back Fenced = refl

answer_from : List ℕ → Answer
answer_from w =
    lib.ListN.get_or
    (Pass (record { 0 = at w 2 }) (record { 0 = at w 4 }) (at w 3) ∷ Msi (at w 2) (at w 5) (at w 6) ∷ Held (at w 2)
    ∷ Ones (reason_from (at w 1)) (at w 2) ∷ Drop (reason_from (at w 1)) ∷ Refuse (reason_from (at w 1)) (at w 3) (record { 0 = at w 7 }) ∷ [])
    (at w 0) Done

answer_back : (a : Answer) → answer_from (answer_list a) ≡ a
unfolding answer_from
answer_back (Pass a p n) = refl
answer_back (Msi n s p) = refl
answer_back (Held n) = refl
answer_back (Ones r v) = rw (reason-back r)
answer_back (Drop r) = rw (reason-back r)
answer_back (Refuse r n w) = rw (reason-back r)
answer_back Done = refl

pub numbered_injective : (a b : Answer) → answer_list a ≡ answer_list b → a ≡ b
numbered_injective a b e = sym (answer_back a) ∙ ap answer_from e ∙ answer_back b

-- ---- answers one after the other

module _ (v x : List ℕ) (k : ℕ) (a : Answer) (e : length v ≡ k * answer_words) where
  -- the words of answer k, which stand after v
  pub words-at : words_at (v ++ (answer_list a ++ x)) k ≡ answer_list a
  words-at = rw (← e, drop-append_seam)

  pub written_after : answer_words ≤ length x → written (v ++ x) k a ≡ v ++ (answer_list a ++ drop answer_words x)
  unfolding written
  written_after h = rw (← e) (sets-eq (answer_list a) (v ++ x) (length v) (rw length-append (omega arith)) ∙ rw (take-append_seam, drop-append-add, append_assoc))

abbrev pub written_from : List ℕ → ℕ → List Answer → List ℕ
written_from x k [] = x
written_from x k (a ∷ l) = written_from (written x k a) (suc k) l

written_from_lem : (v x : List ℕ) (k : ℕ) → length v ≡ k * answer_words → (l : List Answer) → length l * answer_words ≤ length x
    → written_from (v ++ x) k l ≡ v ++ over (answers_of l) x
written_from_lem v x k e [] h = refl
written_from_lem v x k e (a ∷ l) h =
    let next : length (v ++ answer_list a) ≡ suc k * answer_words = rw (length-append, e) (omega (arith, suc-mul k answer_words)) in
    let fits : length l * answer_words ≤ length (drop answer_words x) = rw length-drop (omega (arith, suc-mul (length l) answer_words)) in
    let both : answer_words + length (answers_of l) ≡ length (answers_of (a ∷ l)) = omega arith in
    rw (written_after v x k a e (omega (arith, suc-mul (length l) answer_words)), ← append_assoc v (answer_list a) (drop answer_words x))
    (written_from_lem (v ++ answer_list a) (drop answer_words x) (suc k) next l fits ∙ simp (append_assoc, drop-drop, both))

pub all-written : (x : List ℕ) (l : List Answer) → length l * answer_words ≤ length x → written_from x 0 l ≡ over (answers_of l) x
all-written x l h = written_from_lem [] x 0 refl l h
