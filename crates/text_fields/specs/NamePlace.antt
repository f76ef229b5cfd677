-- The names that a field can hold by their places in a list.
--     place_from n ws f   the place of word f in the list ws, counted from n
--     name_at ws a k      what the word at place k stands for; a past the end
--     fetch take o        what `take` makes of the number in o
--     NumberReads value read take    no empty field is read, and what `read` takes a text for is what `take` makes of the number that `value` takes it for
-- Assumes nothing.
use Rattle.std.specs.Prelude.{◌≡◌, cond, List, [], ◌∷◌, ℕ, zero, suc, Option, None, Some}
use Prim.Native.String.{String}
use Rattle.replay_text.specs.Bytes.{bytes}
use Rattle.replay_text.specs.Field.{is}

unfoldable pub place_from : {A : Type 0} → ℕ → List (String × A) → List ℕ → Option ℕ
place_from n [] f = None
place_from n (w ∷ ws) f = cond (is f (bytes w.0)) (Some n) (place_from (suc n) ws f)

abbrev pub name_at : {A : Type 0} → List (String × A) → A → ℕ → A
name_at [] a k = a
name_at (w ∷ ws) a zero = w.1
name_at (w ∷ ws) a (suc k) = name_at ws a k

abbrev pub fetch : {A : Type 0} → (ℕ → A) → Option ℕ → Option A
fetch take None = None
fetch take (Some v) = Some (take v)

pub record NumberReads {A : Type 0} (value : List ℕ → Option ℕ) (read : List ℕ → Option A) (take : ℕ → A) : Type 0 where
  pub empty : read [] ≡ None
  pub takes : (t : List ℕ) → read t ≡ fetch take (value t)
