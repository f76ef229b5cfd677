-- `replay_tables::size_to` meets its contract. Assumes nothing.
use Rattle.replay_tables.proofs.SizeLaws.{sized_room}
use Rattle.replay_tables.specs.Whole.{whole}
use Rattle.replay_tables.proofs.size_to.Goals as goal

pub returns-then-room_for-clause-sized : goal.returns-then-room_for-clause-sized
returns-then-room_for-clause-sized c =
    sized_room c.args.asked (whole c.args.extent c.args.lent.now) (rw c.lengths.ensures at c.room_for.ensures) c.if-room_for.true (c.clear_all.ensures.cleared c.args.asked)
