-- A piece does what the definition by bytes says.
--     byte-fed            one byte that is not stuck
--     in_text             THE LAW, of every piece
-- Assumes nothing.
use Rattle.std.specs.Prelude.{◌≡◌, true, false, ◌&&◌, List, [], ◌∷◌, ℕ, suc, ◌+◌, ◌≤◌, ◌<◌, eqb, ltb, length, take, get_or}
use Rattle.std.proofs.Math.Path.{refl}
use Rattle.std.proofs.Common.{sym, ◌∙◌, add_assoc, suc-add, zero-add, arith, length-set, length-append, length-take-le}
use Rattle.std.proofs.Math.Nat.{add-zero}
use Rattle.std.proofs.Math.Dec.{leb}
use Rattle.std.proofs.lemmas.List.Edits.{sets}
use Rattle.std.proofs.Math.Seq.{length-sets, take-suc-set}
use Rattle.text_report.proofs.WrittenLaws.{sets_append}
use borrow.Author.Tests.{eqb-true, eq-eqb, leb-true, le-leb, ltb-true}
use Rattle.replay_text.specs.Bytes.{line_feed}
use Rattle.kinds.proofs.Tests.{by_cases, and_left, and_right, clash}
use Rattle.replay_session.specs.Standing.{Standing, line_in, reply_now, last_count, free, answered, line_done, fits}
use Rattle.replay_text.specs.Text.{line_most}
use Rattle.replay_session.proofs.SessionLaws.{in_use_after}
use Rattle.replay_text.specs.Stream.{line_kept, reply, ended, ending, fed, said, fed_all, said_all}
use Rattle.replay_tables.specs.Lent.{lengths_in, room_for}
use Rattle.replay_tables.proofs.LentLaws.{after-lengths}
use Rattle.replay_feed.specs.Feed.{kept, buffer_of, with_buffer, byte_in, stuck, Fed, stopped, later, feed_all}
use Rattle.replay_feed.specs.InText.{InText, FedText, stream_in}

module _ (s : Standing) (f : fits s ≡ true) where
  full : length s.line ≡ line_kept
  full = eqb-true (length s.line) line_kept (and_left _ (leb s.pending line_kept) f)

  few : s.pending ≤ line_kept
  few = leb-true s.pending line_kept (and_right (eqb (length s.line) line_kept) _ f)

-- one byte: the stream, what it says, and what stays
pub record OneByte (s : Standing) (x : ℕ) (t : Standing) : Type 0 where
  pub stream : stream_in t ≡ fed (stream_in s) x
  pub at : t.at ≡ s.at + length (said (stream_in s) x)
  pub out : t.out ≡ sets s.out s.at (said (stream_in s) x)
  pub fit : fits t ≡ true
  pub lengths : lengths_in t.lent ≡ lengths_in s.lent

-- a line feed whose line can end
module _ (s : Standing) (f : fits s ≡ true) (o : free s ≡ true) where
  room : room_for (line_in s) (lengths_in s.lent) ≡ true
  unfolding free
  room = and_right (ltb s.count last_count && leb (s.at + line_most) (length s.out)) _ o

  replied : reply_now s ≡ reply (stream_in s)
  replied = rw room

  line-ended : OneByte s line_feed (answered s)
  unfolding fed said ended ending
  line-ended = record {
    stream = rw (replied, in_use_after s.lent (line_in s), room);
    at = rw replied;
    out = rw replied;
    fit = rw (eq-eqb (length s.line) line_kept (full s f));
    lengths = after-lengths s.lent (line_in s);
  }

-- another byte
module _ (s : Standing) (f : fits s ≡ true) (x : ℕ) (h : eqb x line_feed ≡ false) where
  pending_length : length (take s.pending s.line) ≡ s.pending
  pending_length = length-take-le s.pending s.line (omega (arith, full s f, few s f))

  byte_more : ltb s.pending line_kept ≡ true → OneByte s x (with_buffer s (kept (buffer_of s) x))
  unfolding fed said
  byte_more o =
      let n = ltb-true s.pending line_kept o in
      rw o
      (record {
        stream = rw (h, pending_length, o, take-suc-set s.line s.pending x (omega (arith, full s f, n)));
        at = rw (h, add-zero s.at);
        out = rw h;
        fit = rw (length-set, eq-eqb (length s.line) line_kept (full s f), le-leb (suc s.pending) line_kept (omega (arith, n)));
        lengths = refl;
      })

  byte-over : ltb s.pending line_kept ≡ false → OneByte s x (with_buffer s (kept (buffer_of s) x))
  unfolding fed said
  byte-over o = rw o (record { stream = rw (h, pending_length, o); at = rw (h, add-zero s.at); out = rw h; fit = f; lengths = refl })

pub byte-fed : (s : Standing) → fits s ≡ true → (x : ℕ) → stuck s x ≡ false → OneByte s x (byte_in s x)
unfolding byte_in line_done
byte-fed s f x h =
    by_cases (eqb x line_feed)
    (λ o. by_cases (free s)
    (λ p. rw (o, p, eqb-true x line_feed o) (line-ended s f p))
    (λ p. clash refl (rw (o, p) at h)))
    (λ o. rw o (by_cases (ltb s.pending line_kept) (byte_more s f x o) (byte-over s f x o)))

-- no byte was taken
none-taken : (s : Standing) (l : List ℕ) → fits s ≡ true → (0 < length l → stuck s (get_or l 0 0) ≡ true) → FedText s l (stopped s)
unfolding fed_all said_all
none-taken s l f h = record {
  stream = refl;
  at = sym (add-zero s.at);
  out = refl;
  fit = f;
  lengths = refl;
  out_length = refl;
  most = omega arith;
  stop = h;
}

-- one was, and then those of t
one-taken : (s : Standing) (x : ℕ) (l : List ℕ) {t : Standing} → OneByte s x t → {r : Fed} → FedText t l r → FedText s (x ∷ l) (later 1 r)
unfolding fed_all said_all
one-taken s x l b h = rw (suc-add, zero-add) (record {
  stream = h.stream ∙ rw b.stream;
  at = h.at ∙ rw (b.stream, b.at) (add_assoc s.at (length (said (stream_in s) x)) _ ∙ rw (length-append (said (stream_in s) x)));
  out = h.out ∙ rw (b.stream, b.at, b.out) (sym (sets_append s.out s.at (said (stream_in s) x) _));
  fit = h.fit;
  lengths = h.lengths ∙ b.lengths;
  out_length = h.out_length ∙ rw b.out (length-sets s.out s.at (said (stream_in s) x));
  most = omega (arith, h.most);
  stop = λ g. h.stop (omega (arith, g));
})

pieces : (s : Standing) (l : List ℕ) → fits s ≡ true → FedText s l (feed_all s l)
unfolding feed_all
pieces s [] f = none-taken s [] f (λ g. absurd (omega (arith, g)))
pieces s (x ∷ l) f =
    by_cases (stuck s x)
    (λ o. rw o (none-taken s (x ∷ l) f (λ g. o)))
    (λ o. let b = byte-fed s f x o in rw o (one-taken s x l b (pieces (byte_in s x) l b.fit)))

pub in_text : InText
in_text = record { pieces = pieces }
