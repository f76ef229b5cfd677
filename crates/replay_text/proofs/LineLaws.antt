-- A long line is bad, so that the first bytes of a line tell what it says.
--     long-bad            a line of more than 73 bytes is bad
--     first-bytes         the first n bytes say what the line says, for any n above 73
-- Assumes nothing.
use Rattle.std.specs.Prelude.{◌≡◌, refl, List, [], ◌∷◌, ℕ, ◌+◌, ◌<◌, max, ltb, length, take, Option, None, Some}
use Rattle.std.proofs.Common.{sym, ◌∙◌, arith, take_all, length-take-le, ltb-true, ltb-false}
use Prim.Native.String.{String}
use Rattle.kinds.proofs.Tests.{by_cases}
use Rattle.replay_text.specs.Bytes.{bytes}
use Rattle.replay_text.specs.Field.{fields_of, number_of, only, is}
use Rattle.replay_text.proofs.FieldLaws.{is_same, is-other, number_long, total, total_fields}
use Rattle.replay_text.specs.Results.{Parsed, bad}
use Rattle.replay_text.specs.Line.{Form, given, field, final, numbers, formed, firmware_forms, request_forms, forms, tables, directions, parts, size_line, set_line, dma_line, clear_line, line_of}
use Rattle.replay_text.specs.Word.{find}

-- the length of the longest word
abbrev longest : {A : Type 0} → List (String × A) → ℕ
longest [] = 0
longest (w ∷ ws) = max (length (bytes w.0)) (longest ws)

find-long : {A : Type 0} (ws : List (String × A)) (f : List ℕ) → longest ws < length f → find ws f ≡ None
unfolding find
find-long [] f h = refl
find-long (w ∷ ws) f h = rw (is-other f (bytes w.0) (λ e. omega arith)) (find-long ws f (omega arith))

-- a form of n bytes at most
abbrev Within : ℕ → Form → Type 0
Within n form = (fs : List (List ℕ)) → n < total fs → form fs ≡ bad

given-bad : {A : Type 0} (o : Option A) (k : A → Parsed) → ((a : A) → k a ≡ bad) → given o k ≡ bad
given-bad None k h = refl
given-bad (Some a) k h = h a

-- a field of m bytes at most, and a form of n
within-field : {A : Type 0} (read : List ℕ → Option A) (m n : ℕ) (k : A → Form)
    → ((f : List ℕ) → m < length f → read f ≡ None) → ((a : A) → Within n (k a)) → Within (m + 1 + n) (field read k)
unfolding field
within-field read m n k long h [] g = refl
within-field read m n k long h (f ∷ fs) g =
    by_cases (ltb m (length f))
    (λ o. rw (long f (ltb-true m (length f) o)))
    (λ o. let z = ltb-false m (length f) o in given-bad (read f) (λ a. k a fs) (λ a. h a fs (omega arith)))

-- one field more, of m bytes at most
within-final : {A : Type 0} (read : List ℕ → Option A) (m : ℕ) (k : A → Parsed) → ((f : List ℕ) → m < length f → read f ≡ None) → Within (m + 1) (final read k)
unfolding final only
within-final read m k long [] g = refl
within-final read m k long (f ∷ []) g = rw (long f (omega arith))
within-final read m k long (f ∷ h ∷ fs) g = refl

within_number : (n : ℕ) (k : ℕ → Form) → ((v : ℕ) → Within n (k v)) → Within (17 + n) (field number_of k)
within_number n k h = within-field number_of 16 n k number_long h

within_name : {A : Type 0} (ws : List (String × A)) (n : ℕ) (k : A → Form) → ((a : A) → Within n (k a)) → Within (longest ws + 1 + n) (field (find ws) k)
within_name ws n k h = within-field (find ws) (longest ws) n k (find-long ws) h

one-within : (k : ℕ → Parsed) → Within 17 (final number_of k)
one-within k = within-final number_of 16 k number_long

two-within : (k : ℕ → ℕ → Parsed) → Within 34 (numbers k)
unfolding numbers
two-within k = within_number 17 _ (λ a. one-within (k a))

size_within : Within 68 size_line
size_within = within_number 51 _ (λ n. within_number 34 _ (λ m. two-within _))

set_within : Within 46 set_line
set_within = within_name tables 34 _ (λ t. two-within _)

dma-within : Within 70 dma_line
dma-within = within_number 53 _ (λ q. within_name directions 51 _ (λ d. within_number 34 _ (λ a. two-within _)))

clear_within : Within 24 clear_line
clear_within = within_number 7 _ (λ p. within-final (find parts) (longest parts) _ (find-long parts))

-- the forms of a list, each with its word and the byte that ends it
abbrev AllWithin : ℕ → List (String × Form) → Type 0
AllWithin n [] = Unit
AllWithin n (w ∷ ws) = ((fs : List (List ℕ)) → n < length (bytes w.0) + 1 + total fs → w.1 fs ≡ bad) × AllWithin n ws

formed-long : (n : ℕ) (ws : List (String × Form)) → AllWithin n ws → (f : List ℕ) (fs : List (List ℕ)) → n < length f + 1 + total fs → formed ws f fs ≡ bad
unfolding formed find
formed-long n [] a f fs h = refl
formed-long n (w ∷ ws) a f fs h =
    by_cases (is f (bytes w.0))
    (λ o. rw o (a.0 fs (rw (is_same f (bytes w.0) o) at h)))
    (λ o. rw o (formed-long n ws a.1 f fs h))

firmware_within : AllWithin 74 firmware_forms
firmware_within = (λ fs h. clear_within fs (omega arith), (λ fs h. one-within _ fs (omega arith), (λ fs h. two-within _ fs (omega arith), tt)))

requests-within : AllWithin 74 request_forms
requests-within = (λ fs h. dma-within fs (omega arith), (λ fs h. two-within _ fs (omega arith), (λ fs h. two-within _ fs (omega arith), (λ fs h. one-within _ fs (omega arith), firmware_within))))

all-within : AllWithin 74 forms
all-within = (λ fs h. size_within fs (omega arith), (λ fs h. set_within fs (omega arith), requests-within))

all-long : (fs : List (List ℕ)) → 74 < total fs → field (find forms) (λ form. form) fs ≡ bad
unfolding field formed
all-long [] h = refl
all-long (f ∷ fs) h = formed-long 74 forms all-within f fs h

pub long-bad : (l : List ℕ) → 73 < length l → line_of l ≡ bad
unfolding line_of
long-bad l h = all-long (fields_of l) (omega (arith, total_fields l))

pub first-bytes : (n : ℕ) → 73 < n → (l : List ℕ) → line_of (take n l) ≡ line_of l
first-bytes n h l =
    by_cases (ltb n (length l))
    (λ o. let z = ltb-true n (length l) o in
    long-bad (take n l) (rw (length-take-le n l (omega arith)) h) ∙ sym (long-bad l (omega arith)))
    (λ o. rw (take_all n l (ltb-false n (length l) o)))
