-- The line's buffer, and room for a line.
--     fit-both            what fits has 128 bytes, and no more of them are pending
--     free-largest        on tables of the largest size a line can end where the count of output lines and the output have room for one more
-- Assumes nothing.
use Rattle.std.specs.Prelude.{◌≡◌, Bool, true, ◌&&◌, ℕ, ◌+◌, ◌≤◌, eqb, ltb, leb, length, take}
use Rattle.std.proofs.Common.{sym, ◌∙◌, eqb-true, leb-true}
use Rattle.kinds.proofs.Tests.{and_left, and_right, and-true}
use Rattle.replay_text.specs.Stream.{line_kept}
use Rattle.replay_text.specs.Text.{line_most}
use Rattle.replay_tables.specs.Lent.{lengths_in}
use Rattle.replay_tables.proofs.RoomLaws.{largest, line-room}
use Rattle.replay_session.specs.Standing.{Standing, last_count, free}

pub fit-both : (l p : ℕ) {f : Bool} → f ≡ (eqb l line_kept && leb p line_kept) → f ≡ true → (l ≡ line_kept) × (p ≤ line_kept)
fit-both l p e h =
    let t = sym e ∙ h in
    (eqb-true l line_kept (and_left _ (leb p line_kept) t), leb-true p line_kept (and_right (eqb l line_kept) _ t))

-- tables of the largest size have room for every line
pub free-largest : (s : Standing) → lengths_in s.lent ≡ largest → free s ≡ (ltb s.count last_count && leb (s.at + line_most) (length s.out))
unfolding free
free-largest s h = rw (h, line-room (take s.pending s.line)) (and-true _)
