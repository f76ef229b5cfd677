-- What a line of a session is promised to do.
--     reply_in b l        what line l answers on lent tables b: no_room where the lists have no room for the tables of a size line
--     RanLine b l r c     on lent tables b, line l answered r and left c; and isolation holds of the definition of a session
--     Requested b q r c   the same of a request
--     ServedParts f m s ..  the same of a request, with its answer in numbers, on tables f and memory m, where s are the lent lists of state and interrupts: the words in use are
--                         their first ones (cut_live), and only those are changed (front_live)
-- Assumes nothing.
use Rattle.std.specs.Prelude.{◌≡◌, cond, List, ℕ, ◌*◌, take, Ok}
use Rattle.kinds.specs.Answer.{numbered}
use Rattle.kinds.specs.declared.request.Request.{Request}
use Rattle.replay_text.specs.Results.{Parsed, Reply, no_room}
use Rattle.replay_text.specs.declared.Line.TheVariants.{Request as RequestLine}
use Rattle.profile.specs.Step.{answered, after}
use Rattle.profile.specs.Tables.{Tables, Live, interrupt_words}
use Rattle.replay_tables.specs.Lent.{Lent, state_used, in_use, lengths_in, room_for, front, served_in, after_in}
use Rattle.kinds.specs.declared.answer.Numbers.{Numbers}
use Rattle.replay_text.specs.Session.{reply_to}
use Rattle.replay_text.specs.SessionIsolation.{SessionIsolation}

abbrev pub reply_in : Lent → Parsed → Reply
reply_in b l = cond (room_for l (lengths_in b)) (reply_to (in_use b) l) no_room

pub record RanLine (b : Lent) (l : Parsed) (r : Reply) (c : Lent) : Type 0 where
  pub replies : r ≡ reply_in b l
  pub leaves : c ≡ after_in b l
  pub isolation : SessionIsolation

abbrev pub Requested : Lent → Request → Reply → Lent → Type 0
Requested b q r c = (r ≡ reply_to (in_use b) (Ok (RequestLine q))) × (c ≡ served_in q b)

-- the words of state and interrupts that a bridge with tables f has
abbrev pub cut_live : Tables → Live → Live
cut_live f s = record { state = take (state_used f.sizes.pes) s.state; interrupts = take (f.sizes.interrupts * interrupt_words) s.interrupts }

-- lists s, the words of which that are in use became t
abbrev pub front_live : Tables → Live → Live → Live
front_live f t s = record {
  state = front (state_used f.sizes.pes) t.state s.state;
  interrupts = front (f.sizes.interrupts * interrupt_words) t.interrupts s.interrupts;
}

pub record ServedParts (f : Tables) (m : List ℕ) (s : Live) (q : Request) (r : Numbers) (t : Live) : Type 0 where
  pub answers : r ≡ numbered (answered f m (cut_live f s) q)
  pub leaves : t ≡ front_live f (after f m (cut_live f s) q) s
