-- A list of forms is gone through word by word.
--     form_then, form_else, form_none    a first field is the first word of a list of forms, or it is not, or no word is left; picks: these three
-- Assumes nothing.
use Rattle.std.specs.Prelude.{◌≡◌, refl, Bool, true, false, List, [], ◌∷◌, ℕ}
use Prim.Native.String.{String}
use Rattle.replay_text.specs.Bytes.{bytes}
use Rattle.replay_text.specs.Field.{is}
use Rattle.replay_text.specs.Results.{Parsed, bad}
use Rattle.replay_text.specs.Line.{Form, formed}
use Rattle.replay_text.specs.Word.{find}

-- a line's first field, looked for in a list of forms
module _ (f : List ℕ) (w : String) (form : Form) (fs : List (String × Form)) (rest : List (List ℕ)) {b : Bool} {y : Parsed} (asked : b ≡ is f (bytes w)) where
  pub form_then : b ≡ true → y ≡ form rest → y ≡ formed ((w, form) ∷ fs) f rest
  unfolding formed find
  form_then e h = rw (← asked, e) h

  pub form_else : b ≡ false → y ≡ formed fs f rest → y ≡ formed ((w, form) ∷ fs) f rest
  unfolding formed find
  form_else e h = rw (← asked, e) h

pub form_none : (f : List ℕ) (rest : List (List ℕ)) → bad ≡ formed [] f rest
unfolding formed find
form_none f rest = refl

pub ruleset picks = (form_else, form_then, form_none)
