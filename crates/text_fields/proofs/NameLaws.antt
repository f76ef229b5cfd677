-- What the first of a list of names that a text is stands for.
--     is_equal            bytes are the same where each is
--     found, not_found    the text is the first name, or it is another; none_found: no name is left
--     named               the text is the name w, whichever that is in the list
--     unnamed             no name is the text
-- Assumes nothing.
use Rattle.std.specs.Prelude.{◌≡◌, Bool, true, false, List, [], ◌∷◌, ℕ, nat_eq, Option, Some, None, eqb, refl}
use Rattle.std.specs.Cmp.Lexicographic.{pointwise}
use Rattle.std.proofs.Common.{sym, ◌∙◌}
use Prim.Native.String.{String}
use Rattle.kinds.proofs.Tests.{by_cases}
use Rattle.replay_text.specs.Bytes.{bytes}
use Rattle.replay_text.specs.Field.{is}
use Rattle.replay_text.proofs.FieldLaws.{is_same}
use Rattle.replay_text.specs.Word.{find}

pub is_equal : (f w : List ℕ) → is f w ≡ pointwise nat_eq f w
unfolding is
is_equal [] [] = refl
is_equal [] (b ∷ k) = refl
is_equal (a ∷ l) [] = refl
is_equal (a ∷ l) (b ∷ k) = by_cases (eqb a b) (λ o. rw o (is_equal l k)) (λ o. rw o refl)

module _ {A : Type 0} (f : List ℕ) (w : String) (a : A) (ws : List (String × A)) where
  pub found : is f (bytes w) ≡ true → find ((w, a) ∷ ws) f ≡ Some a
  unfolding find
  found e = rw e refl

  pub not_found : is f (bytes w) ≡ false → find ((w, a) ∷ ws) f ≡ find ws f
  unfolding find
  not_found e = rw e refl

  pub another : {b : Bool} {x : Option A} → b ≡ is f (bytes w) → b ≡ false → x ≡ find ws f → x ≡ find ((w, a) ∷ ws) f
  unfolding find
  another asked e h = rw (← asked, e) h

pub none_found : {A : Type 0} (f : List ℕ) → find {A = A} [] f ≡ None
unfolding find
none_found f = refl

pub none_left : (A : Type 0) (f : List ℕ) → None ≡ find {A = A} [] f
unfolding find
none_left A f = refl

pub named : {A : Type 0} (f : List ℕ) (ws : List (String × A)) {x : Option A} (w : List ℕ) {b : Bool} → b ≡ is f w → b ≡ true → x ≡ find ws w → x ≡ find ws f
named f ws w asked o h = rw (is_same f w (sym asked ∙ o)) h

pub ruleset unnamed = (another, none_left)
