-- A text written into a list of bytes.
--     placed m o a t      what is answered where text t is to be written into o at place a, and m bytes have to be free there: the place after it, or that there is no room
--     Wrote t o a q r     t was written into o at place a: q are the bytes afterwards, and r is the place after it
-- Assumes nothing.
use Rattle.std.specs.Prelude.{◌≡◌, cond, List, ℕ, ◌+◌, length, Result, Ok, Err}
use Rattle.std.proofs.lemmas.List.Edits.{sets}
use Rattle.text_report.specs.Written.{free_for}
use Rattle.replay_text.specs.declared.NoRoom.{NoRoom}

unfoldable pub placed : ℕ → List ℕ → ℕ → List ℕ → Result ℕ NoRoom
placed m o a t = cond (free_for m o a) (Ok (a + length t)) (Err (record {}))

pub record Wrote (t o : List ℕ) (a : ℕ) (q : List ℕ) (r : ℕ) : Type 0 where
  pub bytes : q ≡ sets o a t
  pub next : r ≡ a + length t
