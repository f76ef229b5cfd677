-- What the end of a line cites.
--     line_fits                               where there is room for a line, it can be written
--     ran_pending                             it ran
--     ended_ran, ended_full                   the output and the count have room for it, or not
-- Assumes nothing.
use Rattle.std.specs.Prelude.{◌≡◌, refl, Bool, true, false, ◌&&◌, List, ℕ, ◌+◌, ◌≤◌, ◌<◌, ltb, leb, length, take, Result, Ok, Err, is_ok}
use Rattle.std.proofs.Common.{sym, ap, ◌∙◌, ltb-true, leb-true}
use Rattle.std.proofs.lemmas.List.Edits.{sets}
use Rattle.kinds.proofs.Tests.{by_cases, and_left, and_right, clash}
use Rattle.replay_text.specs.Line.{line_of}
use Rattle.replay_text.specs.Results.{Parsed, Reply, no_room}
use Rattle.replay_text.specs.declared.NoRoom.{NoRoom}
use Rattle.replay_text.specs.declared.Line.TheVariants.{Size, Set, Request}
use Rattle.replay_text.specs.Text.{line_most}
use Rattle.replay_session.specs.Promise.{RanLine}
use Rattle.replay_text.specs.Session.{reply_to}
use Rattle.replay_text.proofs.SessionIsolation.{session-isolation}
use Rattle.replay_session.proofs.SessionLaws.{no_room_keeps}
use Rattle.replay_text.specs.Replay.{text_of}
use Rattle.replay_tables.specs.Lent.{Lent, lent, in_use, lengths_in, room_for, after_in}
use Rattle.replay_text.specs.SessionTables.{Session, settable}
use Rattle.replay_tables.specs.declared.Replied.{Replied}
use Rattle.replay_session.specs.EndPromise.{EndedTo, RanTo, ran_by, progress_after, at_after}
use Rattle.replay_session.specs.Standing.{Standing, Buffers, buffers, standing, last_count, line_in, reply_now, free, line_done}
use Rattle.replay_session.specs.declared.Ended.{Ended}
use Rattle.replay_session.specs.declared.Progress.{Progress}

-- every reply of the definition is of a line for which there was room
replies_room : (s : Session) (l : Parsed) → is_ok (reply_to s l) ≡ true
unfolding reply_to
replies_room s (Ok (Size n m r w)) = refl
replies_room s (Ok (Set t i v)) = by_cases (settable s t i v) (λ h. rw h refl) (λ h. rw h refl)
replies_room s (Ok (Request q)) = refl
replies_room s (Err e) = refl

pub line_fits : (n a l : ℕ) {h : Bool} → h ≡ (ltb n last_count && leb (a + line_most) l) → h ≡ true → (a + line_most ≤ l) × (n < last_count)
line_fits n a l asked f =
    (leb-true _ _ (and_right (ltb n last_count) _ (sym asked ∙ f)), ltb-true _ _ (and_left _ (leb (a + line_most) l) (sym asked ∙ f)))

-- `run_pending`
module _ (p : Progress) (b : Buffers) (a : ℕ) {x : List ℕ} (bytes : x ≡ take p.pending b.line) {l : Parsed} (parsed : l ≡ line_of x) {r : Replied}
    {q e m v n w g t : List ℕ} (ran : RanLine (standing p b a).lent l r.reply (lent r.extent q e m v n w g t)) where
  abbrev s : Standing
  s = standing p b a

  abbrev d : Result Ended NoRoom
  d = ran_by a p.count r

  abbrev after : Standing
  after = standing (progress_after p d) (buffers q e m v n w g t b.line (sets b.out a (text_of p.count r.reply))) (at_after a d)

  said : l ≡ line_in s
  said = parsed ∙ ap line_of bytes

  replied : r.reply ≡ reply_now s
  replied = ran.replies ∙ rw said refl

  left : lent r.extent q e m v n w g t ≡ after_in s.lent (line_in s)
  left = ran.leaves ∙ rw said refl

  with_room : room_for (line_in s) (lengths_in s.lent) ≡ true → RanTo s d after
  with_room o = by_reply r.reply refl
    where
      y : r.reply ≡ reply_to (in_use s.lent) (line_in s)
      y = replied ∙ rw o refl

      by_reply : (z : Reply) → r.reply ≡ z → RanTo s d after
      by_reply (Ok z) h = let k = sym y ∙ h in record { could = rw (h, o) refl; leaves = rw (o, h, left, k) refl }
      by_reply (Err z) h = let k = sym y ∙ h in let i = replies_room (in_use s.lent) (line_in s) in clash (rw k at i) refl

  without : room_for (line_in s) (lengths_in s.lent) ≡ false → RanTo s d after
  without o =
      let none : r.reply ≡ no_room = replied ∙ rw o refl in
      let kept : lent r.extent q e m v n w g t ≡ s.lent = left ∙ no_room_keeps s.lent (line_in s) o in
      let same : lent p.extent q e m v n w g t ≡ s.lent =
      ap (λ (k : Lent). lent p.extent k.requesters k.entries k.memory k.peers k.interrupts k.windows k.segments k.state) kept in
      record { could = rw (none, o) refl; leaves = rw (o, none, same) refl }

  pub ran_pending : {c : Result Ended NoRoom} {o : List ℕ} → (c ≡ d) × (o ≡ sets b.out a (text_of p.count r.reply)) →
      RanTo s c (standing (progress_after p c) (buffers q e m v n w g t b.line o) (at_after a c))
  ran_pending z = rw (z.0, z.1) (by_cases (room_for (line_in s) (lengths_in s.lent)) with_room without)

-- `end_line`
module _ (s : Standing) {h : Bool} (asked : h ≡ (ltb s.count last_count && leb (s.at + line_most) (length s.out))) where
  pub ended_full : {b : NoRoom} → h ≡ false → EndedTo s (Err b) s
  unfolding free line_done
  ended_full f = record { could = rw (← asked, f) refl; leaves = rw (← asked, f) refl; isolation = session-isolation }

  pub ended_ran : {d : Result Ended NoRoom} {t : Standing} → h ≡ true → RanTo s d t → EndedTo s d t
  unfolding free line_done
  ended_ran f z = record { could = rw (← asked, f) z.could; leaves = rw (← asked, f) z.leaves; isolation = session-isolation }
