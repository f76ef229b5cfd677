-- What the functions of the end of a line cite.
--     wrote               an output line, where there is room
--     closed_silent, closed_says, closed_none     what a reply writes, and the end of a line that ran
-- Assumes nothing.
use Rattle.std.specs.Prelude.{◌≡◌, refl, List, ℕ, ◌+◌, ◌≤◌, length, Option, Some, None, Result, Ok, Err, IsErr}
use Rattle.std.specs.Result.{result_unwrap_or}
use Rattle.std.proofs.Common.{sym, ◌∙◌, le-leb}
use Rattle.std.proofs.Math.Nat.{add-zero}
use Rattle.std.proofs.lemmas.List.Edits.{sets}
use Rattle.kinds.proofs.Tests.{clash}
use Rattle.kinds.specs.declared.answer.Numbers.{Numbers}
use Rattle.replay_text.specs.Text.{answer_line, line_most}
use Rattle.replay_text.proofs.TextLaws.{line-most}
use Rattle.replay_text.specs.Replay.{text_of}
use Rattle.replay_text.specs.declared.NoRoom.{NoRoom}
use Rattle.text_report.specs.Placed.{placed}
use Rattle.text_report.specs.Written.{written}
use Rattle.text_report.proofs.WrittenLaws.{written_is}
use Rattle.replay_tables.specs.declared.Replied.{Replied}
use Rattle.replay_session.specs.EndPromise.{ended_at, ran_by}
use Rattle.replay_session.specs.declared.Ended.{Ended}

module _ (o : List ℕ) (a n : ℕ) (x : Numbers) (h : a + line_most ≤ length o) where
  abbrev line : List ℕ
  line = answer_line n x

  placed_is : placed line_most o a line ≡ Ok (a + length line)
  unfolding placed
  placed_is = rw (le-leb (a + line_most) (length o) h) refl

  pub wrote : {w : Result ℕ NoRoom} {z : ℕ} {p : List ℕ} → z ≡ result_unwrap_or w a → (w ≡ placed line_most o a line) × (p ≡ written line_most o a line) →
      (z ≡ a + length line) × (p ≡ sets o a line)
  wrote e f = (e ∙ rw (f.0, placed_is) refl, f.1 ∙ sym (written_is line_most o a line h (line-most n x)))

err_is : {A : Type 0} (x : Result A NoRoom) → IsErr x → x ≡ Err (record {})
err_is (Ok a) h = clash h refl
err_is (Err e) h = refl

-- a reply
module _ (o : List ℕ) (a n : ℕ) (r : Replied) where
  pub closed_none : {b : NoRoom} {x : Result Ended NoRoom} → r.reply ≡ Err b → IsErr x → (x ≡ ran_by a n r) × (o ≡ sets o a (text_of n r.reply))
  closed_none {x = x} e h = rw e (err_is x h, refl)

  module _ {z : Option Numbers} {d : Ended} (e : r.reply ≡ Ok z) where
    pub closed_silent : z ≡ None → d ≡ ended_at r.extent n a → (Ok d ≡ ran_by a n r) × (o ≡ sets o a (text_of n r.reply))
    closed_silent g f = rw (e, g, f, add-zero a) (refl, refl)

    pub closed_says : {i : ℕ} {p : List ℕ} {x : Numbers} → z ≡ Some x → (i ≡ a + length (answer_line (n + 1) x)) × (p ≡ sets o a (answer_line (n + 1) x)) →
        d ≡ ended_at r.extent (n + 1) i → (Ok d ≡ ran_by a n r) × (p ≡ sets o a (text_of n r.reply))
    closed_says g w f = rw (e, g, f, w.0) (refl, w.1)
