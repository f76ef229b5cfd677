use Rattle.std.specs.Prelude.{◌≡◌, ◌-◌, true, length}
use Rattle.replay_tables.specs.Whole.{Same}
use Rattle.replay_session.specs.Standing.{standing, lent_buffers, fits}
use Rattle.replay_feed.proofs.TakeLaws.{Here}
use Rattle.replay_feed.proofs.feed.Given as goal

abbrev pub invariant-loop-i : goal.invariant-loop-i
invariant-loop-i l = record {
  fit : fits (standing l.progress (lent_buffers l.lent l.line l.out) l.at) ≡ true;
  line : length l.line ≡ length l.initial.line;
  out : length l.out ≡ length l.initial.out;
  same : Same l.initial.lent l.lent;
  here : Here (standing l.initial.progress (lent_buffers l.initial.lent l.initial.line l.initial.out) l.initial.at) l.input (standing l.progress (lent_buffers l.lent l.line l.out) l.at) l.i l.limit;
}

abbrev pub decreases-loop-i : goal.decreases-loop-i
decreases-loop-i l = l.limit - l.i
