-- The words of requests are decoded as these requests, wherever they stand.
--     decoded-encoded     the words of a request, after v and before y
--     length_encoded      their number; length_words_of: of a list of requests
--     requests-back       the first n requests of the words of a list, whatever follows, are the first n of the list
-- Assumes nothing.
use Rattle.std.specs.Prelude.{◌≡◌, refl, List, [], ◌∷◌, ◌++◌, ℕ, zero, suc, ◌*◌, ◌^◌, ◌<◌, ◌≤◌, length, take}
use Rattle.std.proofs.Common.{ap, sym, subst, ◌∙◌, append_assoc, add-zero, suc-mul, le_of_suc-le-suc, arith, lt-ltb, length-append, get_or-append-add}
use mathlib.Core.List.Memᴰ
use Rattle.kinds.specs.declared.request.Direction.{Direction}
use Rattle.kinds.specs.declared.request.Direction.TheVariants.{Read, Write}
use Rattle.kinds.specs.declared.request.Part.{Part}
use Rattle.kinds.specs.declared.request.Part.TheVariants as part
use Rattle.kinds.specs.declared.request.Request.{Request}
use Rattle.kinds.specs.declared.request.Request.TheVariants.{Dma, Load, Store, Error, Clear, End, Priority, Fatal, FenceClear, Unnamed}
use Rattle.request_words.specs.Layout.{request_words, direction_number, part_number, encoded, words_of, Brought, decoded, decoded_dma, decoded_clear, decoded_from, decoded_at, requests_from}

-- ---- one request

dma-back : (r : ℕ) (d : Direction) (a n v : ℕ) → v < 2 ^ 32
    → decoded_dma r (direction_number d) a n v ≡ Dma (record { requester = r; direction = d; address = record { 0 = a }; length = n; «data» = v })
unfolding decoded_dma
dma-back r Read a n v h = rw (lt-ltb v (2 ^ 32) h)
dma-back r Write a n v h = rw (lt-ltb v (2 ^ 32) h)

clear-back : (p : ℕ) (c : Part) → decoded_clear p (part_number c) ≡ Clear p c
unfolding decoded_clear
clear-back p part.Mmio = refl
clear-back p part.Dma = refl
clear-back p part.Record = refl

first_back : (q : Request) → Brought (q ∷ []) → (y : List ℕ) → decoded_from (encoded q ++ y) 0 ≡ q
unfolding encoded decoded
first_back (Dma q) h y = dma-back q.requester q.direction q.address.0 q.length q.«data» (h q (Memᴰ.head refl))
first_back (Load a w) h y = refl
first_back (Store a w) h y = refl
first_back (Error r) h y = refl
first_back (Clear p c) h y = clear-back p c
first_back (End i) h y = refl
first_back (Priority i n) h y = refl
first_back (Fatal r) h y = refl
first_back FenceClear h y = refl
first_back Unnamed h y = refl

from-after : (v y : List ℕ) → decoded_from (v ++ y) (length v) ≡ decoded_from y 0
from-after v y = rw (
  rw add-zero at (get_or-append-add v y 0 0),
  get_or-append-add v y 1 0,
  get_or-append-add v y 2 0,
  get_or-append-add v y 3 0,
  get_or-append-add v y 4 0,
  get_or-append-add v y 5 0,
)

pub decoded-encoded : (v : List ℕ) (k : ℕ) → length v ≡ k * request_words → (q : Request) → Brought (q ∷ []) → (y : List ℕ)
    → decoded_at (v ++ (encoded q ++ y)) k ≡ q
decoded-encoded v k e q h y = rw (← e) (from-after v (encoded q ++ y) ∙ first_back q h y)

-- ---- a list

pub length_encoded : (q : Request) → length (encoded q) ≡ request_words
unfolding encoded
length_encoded (Dma q) = refl
length_encoded (Load a w) = refl
length_encoded (Store a w) = refl
length_encoded (Error r) = refl
length_encoded (Clear p c) = refl
length_encoded (End i) = refl
length_encoded (Priority i n) = refl
length_encoded (Fatal r) = refl
length_encoded FenceClear = refl
length_encoded Unnamed = refl

pub length_words_of : (l : List Request) → length (words_of l) ≡ length l * request_words
length_words_of [] = refl
length_words_of (q ∷ l) = rw (length-append, length_encoded, length_words_of l) (omega (arith, suc-mul (length l) request_words))

-- after v, which the words of k requests take
back_from : (v : List ℕ) (k : ℕ) → length v ≡ k * request_words → (l : List Request) → Brought l → (y : List ℕ) (n : ℕ) → n ≤ length l
    → requests_from (v ++ (words_of l ++ y)) k n ≡ take n l
back_from v k e l b y zero h = refl
back_from v k e [] b y (suc n) h = absurd (omega arith)
back_from v k e (q ∷ l) b y (suc n) h =
    let next : length (v ++ encoded q) ≡ suc k * request_words = rw (length-append, length_encoded, e) (omega (arith, suc-mul k request_words)) in
    let whole = v ++ (encoded q ++ (words_of l ++ y)) in
    let here : decoded_at whole k ≡ q = decoded-encoded v k e q (λ p m. b p (Memᴰ.append_left l m)) (words_of l ++ y) in
    let rest : requests_from whole (suc k) n ≡ take n l =
    subst (λ x. requests_from x (suc k) n ≡ take n l) (append_assoc v (encoded q) (words_of l ++ y))
    (back_from (v ++ encoded q) (suc k) next l (λ p m. b p (Memᴰ.tail m)) y n (le_of_suc-le-suc h)) in
    subst (λ (x : List ℕ). requests_from (v ++ x) k (suc n) ≡ take (suc n) (q ∷ l)) (sym (append_assoc (encoded q) (words_of l) y))
    (ap (λ (r : Request). r ∷ requests_from whole (suc k) n) here ∙ ap (λ (r : List Request). q ∷ r) rest)

pub requests-back : (l : List Request) → Brought l → (y : List ℕ) (n : ℕ) → n ≤ length l → requests_from (words_of l ++ y) 0 n ≡ take n l
requests-back l b y n h = back_from [] 0 refl l b y n h
