-- What the functions that write lines are proved from, a law to a `return` or a turn. Assumes nothing.
use mathlib.Core.Path.{◌≡◌, refl, sym, ◌∙◌}
use lib.Dec.{leb}
use borrow.Rule.Slice.PartMut.{put_mid}
use Rattle.std.specs.Prelude.{Ok, Err}
use mathlib.Core.Bool.{Bool, true, false}
use mathlib.Core.List.{List, [], ◌∷◌, ◌++◌}
use Prim.Native.Nat.{ℕ, ◌+◌, ◌-◌, ◌≤◌, ◌<◌}
use native.Mathlib.Omega.{arith}
use lib.ListN.{length, set, length-append}
use Rattle.std.proofs.Common.{append_assoc}
use lib.Seq.{length-sets, sets-eq, drop-drop}
use borrow.Author.Tests.{leb-true}
use Rattle.replay_text.specs.Digits.{decimal, hexadecimal, ended_by, decimal_room, hexadecimal_room}
use Rattle.replay_text.proofs.DigitsLaws.{length_ended, decimal-room, hexadecimal-room}
use Rattle.text_report.specs.Written.{written}
use Rattle.replay_text.specs.Bytes.{tab, line_feed}
use Rattle.replay_text.proofs.NameLaws.{name_most_lem}
use Rattle.replay_text.specs.Name.{name_of}
use Rattle.replay_text.specs.Text.{head_of, tail_of, name_room, head_most, tail_most, line_most}
use Rattle.replay_text.proofs.TextLaws.{head_most_lem}
use Rattle.text_report.specs.Placed.{placed, Wrote}
use Rattle.text_report.proofs.WrittenLaws.{sets_append, written_is}

-- one text after another
pub wrote_then : {s t l m q : List ℕ} {a i r : ℕ} → Wrote s l a m i → Wrote t m i q r → Wrote (s ++ t) l a q r
wrote_then {s} {t} {l} {a = a} f g =
    record {
      bytes = rw (sets_append l a s t, ← f.next, ← f.bytes) g.bytes;
      next = rw (length-append s t) (omega (arith, f.next, g.next));
    }

-- after a text of k bytes at most, c more bytes are free
wrote_room : (k c : ℕ) {t l m : List ℕ} {a i : ℕ} → Wrote t l a m i → length t ≤ k → a + (k + c) ≤ length l → i + c ≤ length m
wrote_room k c {t} {l} {a = a} f g h = rw (f.bytes, length-sets l a t) (omega (arith, f.next))

-- the name of answer number x, and a tab
module _ (x : ℕ) {t : List ℕ} (e : t ≡ name_of x) where
  pub letters_room : (a : ℕ) (l : List ℕ) → a + name_room ≤ length l → a + length t < length l
  letters_room a l h = rw e (omega (arith, name_most_lem x))

  pub name_wrote : {a : ℕ} {l q : List ℕ} {r : ℕ} → Wrote (ended_by tab t) l a q r → Wrote (ended_by tab (name_of x)) l a q r
  name_wrote h = rw e at h

-- the first two fields of a line; f is the first
module _ (l : List ℕ) (a n : ℕ) {m : List ℕ} {i : ℕ} (f : Wrote (ended_by tab (decimal n)) l a m i) where
  pub name_free : a + head_most ≤ length l → i + name_room ≤ length m
  name_free room = wrote_room decimal_room name_room f (decimal-room tab n) room

  pub head_wrote : (x : ℕ) {q : List ℕ} {r : ℕ} → Wrote (ended_by tab (name_of x)) m i q r → Wrote (head_of n x) l a q r
  unfolding head_of
  head_wrote x h = wrote_then f h

  -- the other three: f is the reason
  pub end-free : a + tail_most ≤ length l → i + (hexadecimal_room + decimal_room) ≤ length m
  end-free room = wrote_room decimal_room (hexadecimal_room + decimal_room) f (decimal-room tab n) (omega arith)

  pub tail_wrote : (v w : ℕ) {q : List ℕ} {r : ℕ} → Wrote (ended_by tab (hexadecimal v) ++ ended_by line_feed (decimal w)) m i q r → Wrote (tail_of n v w) l a q r
  unfolding tail_of
  tail_wrote v w h = wrote_then f h

pub words-free : (l : List ℕ) (a v : ℕ) {m : List ℕ} {i : ℕ} → Wrote (ended_by tab (hexadecimal v)) l a m i → a + (hexadecimal_room + decimal_room) ≤ length l → i + decimal_room ≤ length m
words-free l a v f room = wrote_room hexadecimal_room decimal_room f (hexadecimal-room tab v) room

pub tail_free : (l : List ℕ) (a n x : ℕ) {m : List ℕ} {i : ℕ} → a + line_most ≤ length l → Wrote (head_of n x) l a m i → i + tail_most ≤ length m
tail_free l a n x h f = wrote_room head_most tail_most f (head_most_lem n x) h

-- where has_room answered b
module _ (m : ℕ) (o : List ℕ) (a : ℕ) (t : List ℕ) {b : Bool} (e : b ≡ leb (a + m) (length o)) where
  pub not_placed : b ≡ false → Err (record {}) ≡ placed m o a t
  unfolding placed
  not_placed h = rw (← e, h) refl

  pub not_written : b ≡ false → o ≡ written m o a t
  unfolding written
  not_written h = rw (← e, h) refl

  pub has_bytes : b ≡ true → a + m ≤ length o
  has_bytes h = leb-true (a + m) (length o) (sym e ∙ h)

  pub text_placed : {q : List ℕ} {r : ℕ} → b ≡ true → Wrote t o a q r → Ok r ≡ placed m o a t
  unfolding placed
  text_placed h f = rw (← e, h, f.next) refl

  pub text_written : {q : List ℕ} {r : ℕ} → b ≡ true → length t ≤ m → Wrote t o a q r → q ≡ written m o a t
  text_written h k f = f.bytes ∙ written_is m o a t (has_bytes h) k

-- a text copied, and the byte e
pub put_wrote : (o t : List ℕ) (a e : ℕ) {k : List ℕ} → a + length t < length o → k ≡ t → Wrote (ended_by e t) o a (set (put_mid a (a + length t - a) o k) (a + length t) e) (a + length t + 1)
put_wrote o t a e h c = record {
  bytes =
      let g : a + length t - a ≡ length t = omega arith in
      rw (sets_append o a t (e ∷ []), sets-eq t o a (omega arith), append_assoc, c, g, drop-drop (length t) a o) refl;
  next = rw (length_ended e t) (omega arith);
}
