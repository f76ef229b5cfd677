-- `replay_feed::bytes::keep` meets its contract. Assumes nothing.
use lib.ListN.{length-drop}
use lib.Seq.{take_all}
use native.Mathlib.Nat.{le_refl}
use Rattle.replay_feed.proofs.TakeLaws.{keeps}
use Rattle.replay_feed.proofs.bytes.keep.Goals as goal

pub returns : goal.returns
returns c =
    keeps _ _ _ _ c.requires.0 c.requires.1 c.before-count.ensures c.min-end.ensures
    (take_all _ _ (rw (length-drop c.args.from c.args.input.now) (le_refl _)))
    c.copy_from_slice.ensures.after
