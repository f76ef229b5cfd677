-- What the fields that were read tell of a line.
--     line_then, line_none    a line by its first field, and a line of none
--     field_then, field_bad    a form that begins with a field, which was read or refused; final_then, final_else: a form of one field
--     field_else          such a form, whatever the field holds: the line is bad where what follows of it is
--     numbers_are         a form of two numbers is one of a number, and one of the last number
--     reads               these laws for a form
-- Assumes nothing.
use Rattle.std.specs.Prelude.{◌≡◌, List, [], ◌∷◌, ℕ, Option, Some, None, Result, Ok, Err, IsErr, ok_or, refl}
use Rattle.std.proofs.Common.{sym, ◌∙◌}
use Rattle.replay_text.specs.declared.BadLine.{BadLine}
use Rattle.replay_text.specs.Field.{number_of, only, fields_of}
use Rattle.replay_text.specs.Results.{Parsed, bad}
use Rattle.replay_text.specs.Line.{Form, given, field, final, numbers, forms, formed, line_of}
use Rattle.text_fields.proofs.FieldsLaws.{err_is}
use Rattle.text_fields.specs.Fields.{next_value, last_value, after_next}

pub line_then : (l : List ℕ) {s n : List (List ℕ)} {w : List ℕ} {y : Parsed} → s ≡ fields_of l → s ≡ w ∷ n → y ≡ formed forms w n → y ≡ line_of l
unfolding line_of field formed
line_then l e f h = rw (← e, f) h

pub line_none : (l : List ℕ) {s : List (List ℕ)} {y : Parsed} → s ≡ fields_of l → s ≡ [] → IsErr y → y ≡ line_of l
unfolding line_of field
line_none l {y = y} e f h = err_is y h ∙ rw (← e, f) refl

-- a value, and what follows of it
given_ok : {A : Type 0} {a : A} (o : Option A) (k : A → Parsed) → Ok a ≡ ok_or {E = BadLine} o (record {}) → given o k ≡ k a
given_ok None k e = cc
given_ok (Some b) k e = cc

given_err : {A : Type 0} {b : BadLine} (o : Option A) (k : A → Parsed) → Err b ≡ ok_or {E = BadLine} o (record {}) → given o k ≡ bad
given_err None k e = refl
given_err (Some a) k e = cc

pub field_then : {A : Type 0} (read : List ℕ → Option A) (go : A → Form) (fs : List (List ℕ)) {r : Result A BadLine} {n : List (List ℕ)} {a : A} {y : Parsed}
    → r ≡ next_value read fs → n ≡ after_next fs → r ≡ Ok a → y ≡ go a n → y ≡ field read go fs
unfolding field next_value
field_then read go [] v e h g = let z = sym h ∙ v in cc
field_then read go (f ∷ fs) v e h g = let z = sym h ∙ v in rw (given_ok (read f) (λ b. go b fs) z, ← e) g

pub field_bad : {A : Type 0} (read : List ℕ → Option A) (go : A → Form) (fs : List (List ℕ)) {r : Result A BadLine} {b : BadLine} {x : Parsed}
    → r ≡ next_value read fs → r ≡ Err b → IsErr x → x ≡ field read go fs
unfolding field next_value
field_bad read go [] {x = x} v h i = err_is x i
field_bad read go (f ∷ fs) {x = x} v h i = let z = sym h ∙ v in err_is x i ∙ sym (given_err (read f) (λ b. go b fs) z)

pub field_else : {A : Type 0} (read : List ℕ → Option A) (go : A → Form) (fs : List (List ℕ)) {r : Result A BadLine} {n : List (List ℕ)}
    → r ≡ next_value read fs → n ≡ after_next fs → ((a : A) → r ≡ Ok a → bad ≡ go a n) → bad ≡ field read go fs
field_else {A = A} read go fs {r = r} v e f = held r refl
  where
    held : (x : Result A BadLine) → r ≡ x → bad ≡ field read go fs
    held (Ok a) h = field_then read go fs v e h (f a h)
    held (Err b) h = field_bad read go fs v h refl

module _ {A : Type 0} (read : List ℕ → Option A) (k : A → Parsed) (fs : List (List ℕ)) {r : Result A BadLine} (v : r ≡ last_value read fs) where
  pub final_then : {a : A} {y : Parsed} → r ≡ Ok a → y ≡ k a → y ≡ final read k fs
  unfolding final
  final_then h g = let z = sym h ∙ v in rw (given_ok (only read fs) k z) g

  pub final_else : {b : BadLine} {x : Parsed} → r ≡ Err b → IsErr x → x ≡ final read k fs
  unfolding final
  final_else {x = x} h i = let z = sym h ∙ v in err_is x i ∙ sym (given_err (only read fs) k z)

pub numbers_are : (k : ℕ → ℕ → Parsed) (fs : List (List ℕ)) {y : Parsed} → y ≡ field number_of (λ a. final number_of (k a)) fs → y ≡ numbers k fs
unfolding numbers
numbers_are k fs h = h

pub ruleset reads = (field_then, field_bad, final_then, final_else, numbers_are)
