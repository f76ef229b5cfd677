-- What a line of each form cites.
--     ran_size, ran_set, ran-request, ran-bad
-- Assumes nothing.
use mathlib.Core.Path.{◌≡◌, refl}
use Prim.Native.Nat.{ℕ}
use Rattle.kinds.specs.declared.answer.Numbers.{Numbers}
use Rattle.kinds.specs.declared.request.Request.{Request}
use Rattle.replay_text.specs.Results.{Parsed, Reply, says}
use Rattle.replay_text.specs.declared.Line.TheVariants.{Size, Set, Request as RequestLine}
use Rattle.replay_text.specs.declared.Table.{Table}
use Rattle.replay_text.specs.Text.{bad_numbers}
use Rattle.replay_tables.specs.Lent.{Lent, extent_of, room_for, after_in}
use Rattle.replay_tables.specs.Promise.{SetEnd, set_reply, SizedTo, DidSet}
use Rattle.std.specs.Prelude.{Ok, Err}
use Rattle.replay_text.specs.declared.Line.{Line}
use Rattle.replay_text.specs.declared.BadLine.{BadLine}
use Rattle.replay_session.specs.Promise.{RanLine, Requested}
use Rattle.replay_text.specs.Session.{reply_to}
use Rattle.replay_text.proofs.SessionIsolation.{session-isolation}

module _ (b : Lent) (l : Line) (r : Reply) (c : Lent) where
  pub ran_size : {n m q w : ℕ} → l ≡ Size n m q w → SizedTo b (extent_of n m q w) r c → RanLine b (Ok l) r c
  unfolding reply_to after_in
  ran_size e h = rw e (record { replies = h.0; leaves = h.1; isolation = session-isolation })

  pub ran_set : {u : Table} {i v : ℕ} (d : SetEnd) → l ≡ Set u i v → r ≡ set_reply d → DidSet b u i v d c → RanLine b (Ok l) r c
  unfolding room_for reply_to after_in
  ran_set d e f h = rw (e, f) (record { replies = h.0; leaves = h.1; isolation = session-isolation })

  pub ran-request : {q : Request} → l ≡ RequestLine q → Requested b q r c → RanLine b (Ok l) r c
  unfolding room_for after_in
  ran-request e h = rw e (record { replies = h.0; leaves = h.1; isolation = session-isolation })

pub ran-bad : (b : Lent) (l : Parsed) (x : Numbers) {e : BadLine} → l ≡ Err e → x ≡ bad_numbers → RanLine b l (says x) b
unfolding room_for reply_to after_in
ran-bad b l x f z = rw f (record { replies = rw z; leaves = refl; isolation = session-isolation })
