-- The fields of a line are the parts of its bytes between its tabs.
--     first_is            the first field is what stands before the first tab, or the line where there is none
--     fields_first        the fields of a line: the first, and those after it
--     fields_after_lem    the fields after a place: the next, and those after it; fields_end: none from the end of the line on
--     after-end           the field after the end of the line is empty
--     after-most          a field that begins in the line ends in it
--     only-bad, only-more, only-last    what the one field after a place holds: a field that is not read, more than one field, the last field
-- Assumes nothing.
use Rattle.std.specs.Prelude.{◌≡◌, ℕ, ◌+◌, ◌≤◌, ◌<◌, ltb, eqb, length, take, drop, Option, None, ◌==◌}
use Rattle.std.specs.List.{position, position_or_len}
use Rattle.std.specs.Option.{unwrap_or}
use Rattle.std.proofs.Math.Path.{refl}
use Rattle.std.proofs.Common.{ap, add-one, arith, drop_of_length-le, length-drop, drop-cons, drop-drop, length-take-le, ltb-true, ltb-false}
use mathlib.Core.List.{List, [], ◌∷◌}
use Rattle.kinds.proofs.Tests.{by_cases}
use Rattle.replay_text.specs.Bytes.{tab}
use Rattle.replay_text.specs.Field.{push, fields_of, only}
use Rattle.text_fields.specs.Place.{cut_of, first_of, field_after, end_after, rest, fields_after}

cut_most : (l : List ℕ) → cut_of l ≤ length l
unfolding cut_of
cut_most [] = omega arith
cut_most (b ∷ l) = by_cases (eqb b tab) (λ o. rw o (omega arith)) (λ o. rw o (omega (arith, cut_most l)))

-- the place of the first tab, and the length where there is none
cut_is : (l : List ℕ) → position_or_len (λ b. b == tab) l ≡ cut_of l
unfolding cut_of
cut_is [] = refl
cut_is (b ∷ l) = by_cases (eqb b tab) (λ o. rw o refl) (λ o. rw (o, cut_is l) (omega arith))

cut_first : (l : List ℕ) → unwrap_or (position (λ b. b == tab) l) (length l) ≡ cut_of l
cut_first l =
    by_cases (ltb (position_or_len (λ b. b == tab) l) (length l))
    (λ o. rw o (cut_is l))
    (λ o. let h = ltb-false (position_or_len (λ b. b == tab) l) (length l) o in rw o (omega (arith, h, cut_is l, cut_most l)))

module _ (l : List ℕ) {r : Option ℕ} {n : ℕ} (p : r ≡ position (λ b. b == tab) l) (e : n ≡ unwrap_or r (length l)) where
  pub first_is : take n l ≡ first_of l
  unfolding first_of
  first_is = let h : n ≡ cut_of l = rw (e, p) (cut_first l) in rw h refl

first_length : (l : List ℕ) → length (first_of l) ≡ cut_of l
unfolding first_of
first_length l = length-take-le (cut_of l) l (cut_most l)

fields_cut : (l : List ℕ) → fields_of l ≡ take (cut_of l) l ∷ rest (drop (cut_of l) l)
unfolding fields_of cut_of
fields_cut [] = refl
fields_cut (b ∷ l) = by_cases (eqb b tab) (λ o. rw o) (λ o. rw o (ap (push b) (fields_cut l)))

pub fields_first : (l : List ℕ) → fields_of l ≡ first_of l ∷ fields_after l (length (first_of l))
unfolding first_of fields_after
fields_first l = rw (first_length l) (fields_cut l)

pub fields_after_lem : (l : List ℕ) (p : ℕ) → p < length l → fields_after l p ≡ field_after l p ∷ fields_after l (end_after l p)
unfolding fields_after field_after
fields_after_lem l p h =
    let m = drop (p + 1) l in
    rw (drop-cons l p 0 h, ← add-one p, fields_first m, ← drop-drop (length (first_of m)) (p + 1) l)

pub fields_end : (l : List ℕ) (p : ℕ) → length l ≤ p → fields_after l p ≡ []
unfolding fields_after
fields_end l p h = rw (drop_of_length-le l h)

pub after-end : (l : List ℕ) (p : ℕ) → length l ≤ p → field_after l p ≡ []
unfolding field_after first_of cut_of
after-end l p h = rw (drop_of_length-le l {i = p + 1} (omega arith))

pub after-most : (l : List ℕ) (p : ℕ) → p < length l → end_after l p ≤ length l
unfolding field_after
after-most l p h = let m = drop (p + 1) l in omega (arith, first_length m, cut_most m, length-drop (p + 1) l)

module _ {A : Type 0} (read : List ℕ → Option A) where
  only_none : (f : List ℕ) (fs : List (List ℕ)) → read f ≡ None → only read (f ∷ fs) ≡ None
  unfolding only
  only_none f [] h = h
  only_none f (g ∷ fs) h = refl

  module _ (l : List ℕ) (p : ℕ) where
    pub only-bad : read (field_after l p) ≡ None → only read (fields_after l p) ≡ None
    unfolding only
    only-bad e =
        by_cases (ltb p (length l))
        (λ o. rw (fields_after_lem l p (ltb-true p (length l) o)) (only_none (field_after l p) (fields_after l (end_after l p)) e))
        (λ o. rw (fields_end l p (ltb-false p (length l) o)))

    pub only-more : end_after l p < length l → only read (fields_after l p) ≡ None
    unfolding only
    only-more h = rw (fields_after_lem l p (omega arith), fields_after_lem l (end_after l p) h)

    pub only-last : read [] ≡ None → length l ≤ end_after l p → only read (fields_after l p) ≡ read (field_after l p)
    unfolding only
    only-last empty h =
        by_cases (ltb p (length l))
        (λ o. rw (fields_after_lem l p (ltb-true p (length l) o), fields_end l (end_after l p) h))
        (λ o. rw (fields_end l p (ltb-false p (length l) o), after-end l p (ltb-false p (length l) o), empty))
