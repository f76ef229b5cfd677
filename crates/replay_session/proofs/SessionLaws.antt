-- The lent tables after a line, as a session.
--     no_room_keeps       a line without room for its tables leaves the lent tables as they were
--     in_use_after        the words in use after a line are the session after it; where there is no room for it, the same session
-- Assumes nothing.
use Rattle.std.specs.Prelude.{◌≡◌, refl, true, false, cond, Ok, Err}
use Rattle.kinds.proofs.Tests.{by_cases, clash}
use Rattle.replay_text.specs.Results.{Parsed}
use Rattle.replay_text.specs.declared.Line.TheVariants.{Size, Set, Request as RequestLine}
use Rattle.replay_tables.specs.Lent.{Lent, extent_of, in_use, lengths_in, room_for, after_in}
use Rattle.replay_tables.proofs.LentLaws.{sized_in_use, set_in_use, served_in_use}
use Rattle.replay_text.specs.SessionTables.{settable}
use Rattle.replay_text.specs.Session.{after_line}

pub no_room_keeps : (b : Lent) (l : Parsed) → room_for l (lengths_in b) ≡ false → after_in b l ≡ b
unfolding after_in room_for
no_room_keeps b (Ok (Size n m r w)) h = rw h
no_room_keeps b (Ok (Set t i v)) h = clash refl h
no_room_keeps b (Ok (RequestLine q)) h = clash refl h
no_room_keeps b (Err e) h = refl

room_after_lem : (b : Lent) (l : Parsed) → room_for l (lengths_in b) ≡ true → in_use (after_in b l) ≡ after_line (in_use b) l
unfolding after_in after_line
room_after_lem b (Ok (Size n m r w)) h = rw h (sized_in_use (extent_of n m r w) b h)
room_after_lem b (Ok (Set t i v)) h = by_cases (settable (in_use b) t i v) (λ o. rw o (set_in_use b i v t o)) (λ o. rw o)
room_after_lem b (Ok (RequestLine q)) h = served_in_use b q
room_after_lem b (Err e) h = refl

pub in_use_after : (b : Lent) (l : Parsed) → in_use (after_in b l) ≡ cond (room_for l (lengths_in b)) (after_line (in_use b) l) (in_use b)
in_use_after b l = by_cases (room_for l (lengths_in b)) (λ o. rw o (room_after_lem b l o)) (λ o. rw (o, no_room_keeps b l o))
