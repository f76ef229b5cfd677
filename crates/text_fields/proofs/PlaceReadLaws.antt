-- What the fields that were read tell of a line, each by where it ends in the bytes.
--     line-is             what a line says is what its first field and the fields after it say by the list of all forms
--     field-some, field-none    a form that begins with a field, which is read or not; ends_in: a field that is read ends in the line
--     by_value            the next value, and the fields after it, by what the field after a place holds; by_read: by the number that stands for it
--     read_after          the next value, where the field ends, and the fields after it, by the number that stands for the field after a place
--     inside              a field that is read begins in the line; at-end: a field that ends with the line does not end past it
--     numbers_then, numbers_else    a form of two numbers, which are read or not
-- Assumes nothing.
use Rattle.std.specs.Prelude.{◌≡◌, List, [], ℕ, ◌≤◌, ltb, length, Option, None, Some, MatchOption, Result, Ok, Err, ok_or, refl}
use Rattle.std.proofs.Common.{sym, ap, ◌∙◌, arith, ltb-true, ltb-false}
use Rattle.kinds.proofs.Tests.{by_cases}
use Rattle.replay_text.specs.declared.BadLine.{BadLine}
use Rattle.replay_text.specs.Field.{number_of}
use Rattle.replay_text.specs.Results.{Parsed, bad}
use Rattle.replay_text.specs.Line.{Form, field, numbers, forms, formed, line_of}
use Rattle.text_fields.specs.Fields.{next_value, last_value, after_next}
use Rattle.text_fields.specs.NamePlace.{fetch, NumberReads}
use Rattle.text_fields.specs.Place.{first_of, field_after, end_after, fields_after}
use Rattle.text_fields.proofs.PlaceLaws.{fields_first, fields_after_lem, fields_end, after-end, after-most}
use Rattle.text_fields.proofs.ReadLaws.{field_then, field_bad, final_then, final_else, numbers_are}

pub line-is : (l : List ℕ) {w : List ℕ} {y : Parsed} → w ≡ first_of l → y ≡ formed forms w (fields_after l (length w)) → y ≡ line_of l
unfolding line_of field formed
line-is l e h = rw (fields_first l, ← e) h

-- a field that is read, for any way of reading that takes no empty field
module _ {A : Type 0} (read : List ℕ → Option A) (empty : read [] ≡ None) (l : List ℕ) (p : ℕ) where
  pub field-some : (go : A → Form) (a : A) → read (field_after l p) ≡ Some a → field read go (fields_after l p) ≡ go a (fields_after l (end_after l p))
  unfolding field
  field-some go a e =
      by_cases (ltb p (length l))
      (λ o. rw (fields_after_lem l p (ltb-true p (length l) o), e))
      (λ o. let z : read [] ≡ Some a = rw (after-end l p (ltb-false p (length l) o)) at e in cc)

  pub field-none : (go : A → Form) → read (field_after l p) ≡ None → bad ≡ field read go (fields_after l p)
  unfolding field
  field-none go e =
      by_cases (ltb p (length l))
      (λ o. rw (fields_after_lem l p (ltb-true p (length l) o), e))
      (λ o. rw (fields_end l p (ltb-false p (length l) o)))

  pub ends_in : (a : A) → read (field_after l p) ≡ Some a → end_after l p ≤ length l
  ends_in a e =
      by_cases (ltb p (length l))
      (λ o. after-most l p (ltb-true p (length l) o))
      (λ o. let z : read [] ≡ Some a = rw (after-end l p (ltb-false p (length l) o)) at e in
      let y : ◌≡◌ {A = ℕ} 0 1 = cc in absurd (omega arith))

  module _ {r : Result A BadLine} {n : List (List ℕ)} (v : r ≡ next_value read (fields_after l p)) (m : n ≡ after_next (fields_after l p)) where
    value_is : r ≡ ok_or (read (field_after l p)) (record {})
    unfolding next_value
    value_is =
        v
        ∙ by_cases (ltb p (length l))
        (λ o. rw (fields_after_lem l p (ltb-true p (length l) o)) refl)
        (λ o. rw (fields_end l p (ltb-false p (length l) o), after-end l p (ltb-false p (length l) o), empty) refl)

    left_is : n ≡ fields_after l (end_after l p)
    left_is =
        m
        ∙ by_cases (ltb p (length l))
        (λ o. rw (fields_after_lem l p (ltb-true p (length l) o)) refl)
        (λ o. let h = ltb-false p (length l) o in rw (fields_end l p h, fields_end l (end_after l p) (omega arith)) refl)

    -- by what the field holds
    pub by_value : {P : Type 0} → (read (field_after l p) ≡ None → r ≡ Err (record {}) → P)
        → ((a : A) → read (field_after l p) ≡ Some a → r ≡ Ok a → n ≡ fields_after l (end_after l p) → P) → P
    by_value {P} f g = held (read (field_after l p)) refl
      where
        held : (o : Option A) → read (field_after l p) ≡ o → P
        held None e = f e (value_is ∙ rw e refl)
        held (Some a) e = g a e (value_is ∙ rw e refl) left_is

    pub inside : (a : A) → r ≡ Ok a → p ≤ length l
    inside a h = by_value (λ e u. let z = sym u ∙ h in cc) (λ b e u w. let z = ends_in b e in omega arith)

pub at-end : {a b : ℕ} → a ≡ b → a ≤ b
at-end e = omega arith

module _ {A : Type 0} {value : List ℕ → Option ℕ} {read : List ℕ → Option A} {take : ℕ → A} (s : NumberReads value read take) (l : List ℕ) (p : ℕ)
    {r : Result A BadLine} {n : List (List ℕ)} (v : r ≡ next_value read (fields_after l p)) (m : n ≡ after_next (fields_after l p)) where
  pub by_read : {P : Type 0} → (read (field_after l p) ≡ None → r ≡ Err (record {}) → P)
      → ((k : ℕ) → value (field_after l p) ≡ Some k → read (field_after l p) ≡ Some (take k) → r ≡ Ok (take k) → n ≡ fields_after l (end_after l p) → P) → P
  by_read {P} f g = held (value (field_after l p)) refl
    where
      held : (o : Option ℕ) → value (field_after l p) ≡ o → P
      held None e =
          let t = s.takes (field_after l p) ∙ ap (fetch take) e in
          f t (value_is read s.empty l p v m ∙ rw t refl)
      held (Some k) e =
          let t = s.takes (field_after l p) ∙ ap (fetch take) e in
          g k e t (value_is read s.empty l p v m ∙ rw t refl) (left_is read s.empty l p v m)

  pub read_after : MatchOption (value (field_after l p)) (r ≡ Err (record {})) (λ k. (r ≡ Ok (take k)) × (end_after l p ≤ length l) × (n ≡ fields_after l (end_after l p)))
  read_after = held (value (field_after l p)) refl
    where
      held : (o : Option ℕ) → value (field_after l p) ≡ o → MatchOption o (r ≡ Err (record {})) (λ k. (r ≡ Ok (take k)) × (end_after l p ≤ length l) × (n ≡ fields_after l (end_after l p)))
      held None e = value_is read s.empty l p v m ∙ rw (s.takes (field_after l p) ∙ ap (fetch take) e) refl
      held (Some k) e =
          let t = s.takes (field_after l p) ∙ ap (fetch take) e in
          (value_is read s.empty l p v m ∙ rw t refl, ends_in read s.empty l p (take k) t, left_is read s.empty l p v m)

-- two numbers
module _ (go : ℕ → ℕ → Parsed) (fs : List (List ℕ)) {r q : Result ℕ BadLine} {n : List (List ℕ)} (v : r ≡ next_value number_of fs) (m : n ≡ after_next fs) (w : q ≡ last_value number_of n) where
  pub numbers_then : {a b : ℕ} {y : Parsed} → r ≡ Ok a → q ≡ Ok b → y ≡ go a b → y ≡ numbers go fs
  numbers_then {a = a} i j g = numbers_are go fs (field_then number_of _ fs v m i (final_then number_of (go a) n w j g))

  pub numbers_else : ((a b : ℕ) → r ≡ Ok a → q ≡ Ok b → ⊥) → bad ≡ numbers go fs
  numbers_else f = first r refl
    where
      second : (a : ℕ) → r ≡ Ok a → (x : Result ℕ BadLine) → q ≡ x → bad ≡ numbers go fs
      second a i (Ok b) j = absurd (f a b i j)
      second a i (Err b) j = numbers_are go fs (field_then number_of _ fs v m i (final_else number_of (go a) n w j refl))

      first : (x : Result ℕ BadLine) → r ≡ x → bad ≡ numbers go fs
      first (Ok a) i = second a i q refl
      first (Err b) i = numbers_are go fs (field_bad number_of _ fs v i refl)
