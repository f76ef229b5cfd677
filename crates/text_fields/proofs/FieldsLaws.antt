-- The fields of a line by the place of its first tab.
--     text_then           with a tab at place i: the bytes before it are the first field, and those after it hold the others
--     text_last           with none: the line is its one field
-- Assumes nothing.
use Rattle.std.specs.Prelude.{◌≡◌, Bool, List, [], ◌∷◌, ℕ, ◌+◌, ◌-◌, ◌<◌, ◌≤◌, ltb, eqb, length, take, drop, Option, Some, None, MatchOption, Result, Ok, Err, IsErr, ok_or, refl, ◌==◌}
use Rattle.std.specs.Borrow.{Bor}
use Rattle.std.specs.List.{position, position_or_len, slice_split, onto_first}
use Rattle.std.proofs.Common.{sym, ◌∙◌, arith, ltb-true, ltb-false, take_all, length-drop, le_refl}
use Rattle.std.proofs.lemmas.List.Splits.{slice_split_first}
use Rattle.kinds.proofs.Tests.{by_cases, clash}
use Rattle.replay_text.specs.Bytes.{tab}
use Rattle.replay_text.specs.Field.{push, fields_of, only}
use Rattle.replay_text.specs.declared.BadLine.{BadLine}
use Rattle.text_fields.specs.Fields.{fields_in, next_value, last_value, after_next}

abbrev is_tab : ℕ → Bool
is_tab b = b == tab

pushed : (b x : ℕ) (fs : List (List ℕ)) → push b (onto_first x fs) ≡ onto_first b (onto_first x fs)
pushed b x [] = refl
pushed b x (f ∷ fs) = refl

push_is : (b : ℕ) (l : List ℕ) → push b (slice_split is_tab l) ≡ onto_first b (slice_split is_tab l)
push_is b [] = refl
push_is b (x ∷ l) = by_cases (eqb x tab) (λ o. rw o refl) (λ o. rw o (pushed b x (slice_split is_tab l)))

fields_are : (l : List ℕ) → fields_of l ≡ slice_split is_tab l
unfolding fields_of
fields_are [] = refl
fields_are (b ∷ l) =
    by_cases (eqb b tab)
    (λ o. rw (o, fields_are l) refl)
    (λ o. rw (o, fields_are l) (push_is b l))

some_is : (a b : ℕ) → ◌≡◌ {A = Option ℕ} (Some a) (Some b) → a ≡ b
some_is a b e = cc

some_none : (a : ℕ) → ◌≡◌ {A = Option ℕ} None (Some a) → ⊥
some_none a e = cc

abbrev first_tab : List ℕ → ℕ
first_tab l = position_or_len is_tab l

fields_split : (l : List ℕ) → first_tab l < length l → fields_of l ≡ take (first_tab l) l ∷ fields_of (drop (first_tab l + 1) l)
fields_split l h = rw (fields_are l, fields_are (drop (first_tab l + 1) l)) (slice_split_first is_tab l 0 h)

fields_whole : (l : List ℕ) → length l ≤ first_tab l → fields_of l ≡ l ∷ []
unfolding fields_of
fields_whole [] h = refl
fields_whole (b ∷ l) h =
    by_cases (eqb b tab)
    (λ o. let z = rw o at h in absurd (omega arith))
    (λ o. let z = rw o at h in rw (o, fields_whole l (omega arith)) refl)

module _ {s : List (List ℕ)} {o : Option (Bor (List ℕ))} {l : Bor (List ℕ)} {r : Option ℕ} (f : fields_in o ≡ s) (g : o ≡ Some l) (p : r ≡ position (λ b. b == tab) l.now) where
  of_line : s ≡ fields_of l.now
  of_line = rw (← f, g) refl

  pub text_then : {i : ℕ} → r ≡ Some i → s ≡ take i l.now ∷ fields_of (take (length l.now - (i + 1)) (drop (i + 1) l.now))
  text_then {i = i} h =
      let m = l.now in
      by_cases (ltb (first_tab m) (length m))
      (λ o. let n = some_is (first_tab m) i (sym (rw o at p) ∙ h) in
      of_line
      ∙ rw (take_all (length m - (i + 1)) (drop (i + 1) m) (rw (length-drop (i + 1) m) (le_refl _)), ← n) (fields_split m (ltb-true (first_tab m) (length m) o)))
      (λ o. absurd (some_none i (sym (rw o at p) ∙ h)))

  pub text_last : r ≡ None → s ≡ l.now ∷ []
  text_last h =
      let m = l.now in
      by_cases (ltb (first_tab m) (length m))
      (λ o. absurd (some_none (first_tab m) (sym (sym (rw o at p) ∙ h))))
      (λ o. of_line ∙ fields_whole m (ltb-false (first_tab m) (length m) o))

-- no line is without fields
push_empty : (b : ℕ) (fs : List (List ℕ)) → push b fs ≡ [] → fs ≡ []
push_empty b [] e = refl
push_empty b (f ∷ fs) e = cc

some_field : (l : List ℕ) → fields_of l ≡ [] → ⊥
unfolding fields_of
some_field [] e = cc
some_field (b ∷ l) e = by_cases (eqb b tab) (λ o. let z = rw o at e in cc) (λ o. some_field l (push_empty b (fields_of l) (rw o at e)))

pub err_is : {A : Type 0} (x : Result A BadLine) → IsErr x → x ≡ Err (record {})
err_is (Ok a) h = clash h refl
err_is (Err e) h = refl

ok_is : (a b : Bor (List ℕ)) → ◌≡◌ {A = Result (Bor (List ℕ)) BadLine} (Ok a) (Ok b) → a ≡ b
ok_is a b e = cc

-- the text of the next field, or a bad line
pub text_ok : {s n : List (List ℕ)} (o : Option (Bor (List ℕ))) {t : Result (Bor (List ℕ)) BadLine} {l : Bor (List ℕ)} →
    MatchOption o ((s ≡ []) × (n ≡ [])) (λ f. s ≡ f.now ∷ n) → t ≡ ok_or o (record {}) → t ≡ Ok l → s ≡ l.now ∷ n
text_ok None e f g = let z = sym g ∙ f in cc
text_ok (Some t) {l = l} e f g = rw (ok_is l t (sym g ∙ f)) e

pub text_bad : {s : List (List ℕ)} (n : List (List ℕ)) (o : Option (Bor (List ℕ))) {t : Result (Bor (List ℕ)) BadLine} {b : BadLine} →
    MatchOption o ((s ≡ []) × (n ≡ [])) (λ f. s ≡ f.now ∷ n) → t ≡ ok_or o (record {}) → t ≡ Err b → s ≡ []
text_bad n None e f g = e.0
text_bad n (Some t) e f g = let z = sym g ∙ f in cc

-- the next field
module _ {A : Type 0} (read : List ℕ → Option A) (s : List (List ℕ)) where
  pub next_some : {t : List ℕ} {n : List (List ℕ)} {a : Option A} {r : Result A BadLine} → s ≡ t ∷ n → a ≡ read t → r ≡ ok_or a (record {}) → r ≡ next_value read s
  unfolding next_value
  next_some e f g = g ∙ rw (e, f) refl

  pub next_none : {r : Result A BadLine} → s ≡ [] → IsErr r → r ≡ next_value read s
  unfolding next_value
  next_none {r = r} e h = err_is r h ∙ rw e refl

-- the last field
pub last_bad : {A : Type 0} (read : List ℕ → Option A) (s : List (List ℕ)) {r x : Result A BadLine} {b : BadLine} → r ≡ next_value read s → r ≡ Err b → IsErr x → x ≡ last_value read s
unfolding next_value only
last_bad read [] {x = x} v h i = err_is x i
last_bad read (f ∷ []) {x = x} v h i = err_is x i ∙ (sym h ∙ v)
last_bad read (f ∷ g ∷ fs) {x = x} v h i = err_is x i

pub last_more : {A : Type 0} (read : List ℕ → Option A) (s : List (List ℕ)) {n : List (List ℕ)} {o : Option (Bor (List ℕ))} {l : Bor (List ℕ)} → n ≡ after_next s → fields_in o ≡ n → o ≡ Some l → Err (record {}) ≡ last_value read s
unfolding only
last_more read [] {l = l} e f h = absurd (some_field l.now (rw h at f ∙ e))
last_more read (t ∷ []) {l = l} e f h = absurd (some_field l.now (rw h at f ∙ e))
last_more read (t ∷ g ∷ fs) e f h = refl

pub last_good : {A : Type 0} (read : List ℕ → Option A) (s : List (List ℕ)) {n : List (List ℕ)} {o : Option (Bor (List ℕ))} {r : Result A BadLine} {a : A}
    → r ≡ next_value read s → n ≡ after_next s → r ≡ Ok a → fields_in o ≡ n → o ≡ None → Ok a ≡ last_value read s
unfolding next_value only
last_good read [] v e h f g = let z = sym v ∙ h in cc
last_good read (t ∷ []) v e h f g = sym h ∙ v
last_good read (t ∷ u ∷ fs) v e h f g = let z = rw g at f ∙ e in cc
