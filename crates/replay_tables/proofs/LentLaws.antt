-- Lent lists and the session that their words in use are.
--     start-lent          with no sizes asked for, the lent lists are the session at the start, whatever they hold
--     sized_in_use        lists cleared for an extent that they have room for are the session of its tables, all words 0
--     set_in_use          a word set in a list, where a set line may set it, is set in the session
--     served_in_use       what a request leaves in the session is what it leaves of the words in use
--     after-lengths       no line changes the length of a list
-- Assumes nothing.
use Rattle.std.specs.Prelude.{◌≡◌, refl, Bool, true, false, cond, ◌&&◌, List, ◌∷◌, ℕ, zero, suc, ◌*◌, ◌≤◌, leb, ltb, length, take, drop, set, replicate, Ok, Err}
use Rattle.std.proofs.Common.{sym, ap, append-nil, one-mul, arith, length-set, length-take, drop_of_length-le, take_all, take_at, length-take-le}
use Rattle.std.proofs.lemmas.List.{length-replicate}
use Rattle.std.proofs.Math.Seq.{length_front, take-set-lt}
use borrow.Author.Tests.{leb-true, leb-false, ltb-true, ne_eqb}
use Rattle.kinds.proofs.Tests.{and_left, and_right, all_true, by_cases}
use Rattle.kinds.specs.declared.request.Request.{Request}
use Rattle.replay_text.specs.Results.{Parsed}
use Rattle.replay_text.specs.declared.Line.TheVariants.{Size, Set, Request as RequestLine}
use Rattle.replay_text.specs.declared.Table.{Table}
use Rattle.replay_text.specs.declared.Table.TheVariants.{Requesters, Entries, Memory, Peers, Interrupts, Windows, Segments, State}
use Rattle.profile.proofs.EventLaws as events
use Rattle.profile.specs.Step.{after}
use Rattle.profile.specs.Tables.{Live, entry_words, peer_words, interrupt_words, window_words, segment_count, state_length}
use Rattle.table_lists.specs.Once.{once}
use Rattle.replay_tables.specs.Lent.{Lent, lent, extent_of, used_by, list_of, used_of, in_use, lengths_in, pe_rooms, other_rooms, pe_room, other_room, room_for, cleared, cleared_to, size_line, with_list, front, served_in, after_in}
use Rattle.replay_text.specs.SessionTables.{start, emptied, table_of, fits, stored_in, stored, settable}
use Rattle.replay_tables.specs.declared.Extent.{Extent}

pub start-lent : (q e m p n w g t : List ℕ) → in_use (lent (extent_of 0 0 0 0) q e m p n w g t) ≡ start
start-lent q e m p n w g t = refl

-- ---- a size line

take_zeros : (k l : ℕ) → k ≤ l → take {A = ℕ} k (replicate l 0) ≡ replicate k 0
take_zeros zero l h = refl
take_zeros (suc k) zero h = absurd (omega arith)
take_zeros (suc k) (suc l) h = ap (λ (r : List ℕ). 0 ∷ r) (take_zeros k l (omega arith))

module _ (x : Extent) (b : Lent) (h : room_for (size_line x) (lengths_in b) ≡ true) where
  some-pes : 1 ≤ x.sizes.pes
  unfolding room_for
  some-pes = leb-true _ _ (and_left _ (pe_room x.sizes.pes (lengths_in b)) (and_left _ _ h))

  pes : pe_room x.sizes.pes (lengths_in b) ≡ true
  unfolding room_for
  pes = and_right (leb 1 x.sizes.pes) _ (and_left _ _ h)

  others : other_room x.sizes.interrupts x.sizes.requesters x.memory (lengths_in b) ≡ true
  unfolding room_for
  others = and_right (leb 1 x.sizes.pes && pe_room x.sizes.pes (lengths_in b)) _ h

  there : (k : ℕ) → once x.sizes.pes * k ≡ k
  there k = rw (ne_eqb x.sizes.pes 0 (λ z. omega (arith, some-pes)), one-mul k)

  zeroed : (k : ℕ) (l : List ℕ) → leb k (length l) ≡ true → take k (cleared l) ≡ replicate k 0
  zeroed k l r = take_zeros k (length l) (leb-true k (length l) r)

  pub sized_in_use : in_use (cleared_to x b) ≡ emptied x.sizes.pes x.sizes.interrupts x.sizes.requesters x.memory
  sized_in_use =
      let f = all_true (pe_rooms x.sizes.pes (lengths_in b)) in
      let o = all_true (other_rooms x.sizes.interrupts x.sizes.requesters x.memory (lengths_in b)) in
      rw (
        there window_words,
        there segment_count,
        zeroed (x.sizes.pes * entry_words) b.entries (f 0 pes),
        zeroed (x.sizes.pes * peer_words) b.peers (f 1 pes),
        there (state_length x.sizes.pes),
        zeroed (state_length x.sizes.pes) b.state (f 2 pes),
        zeroed (x.sizes.interrupts * interrupt_words) b.interrupts (o 0 others),
        zeroed x.sizes.requesters b.requesters (o 1 others),
        zeroed x.memory b.memory (o 2 others),
        zeroed window_words b.windows (o 3 others),
        zeroed segment_count b.segments (o 4 others),
      )

-- ---- a set line

module _ (b : Lent) (i v : ℕ) where
  took : (t : Table) → settable (in_use b) t i v ≡ true → table_of (in_use b) t ≡ used_of b t → take (used_by b.extent t) (set (list_of b t) i v) ≡ set (used_of b t) i v
  took t h e =
      take-set-lt (used_by b.extent t) (list_of b t) i v
      (omega (arith, ltb-true i (length (used_of b t)) (rw e at (and_left (ltb i (length (table_of (in_use b) t))) (fits t v) h)), length-take (used_by b.extent t) (list_of b t)))

  pub set_in_use : (t : Table) → settable (in_use b) t i v ≡ true → in_use (with_list b t (set (list_of b t) i v)) ≡ stored (in_use b) t i v
  unfolding table_of stored_in
  set_in_use Requesters h = rw (took Requesters h refl)
  set_in_use Entries h = rw (took Entries h refl)
  set_in_use Memory h = rw (took Memory h refl)
  set_in_use Peers h = rw (took Peers h refl)
  set_in_use Interrupts h = rw (took Interrupts h refl)
  set_in_use Windows h = rw (took Windows h refl)
  set_in_use Segments h = rw (took Segments h refl)
  set_in_use State h = rw (took State h refl)

-- ---- a request

module _ (n : ℕ) (l k : List ℕ) (h : length k ≡ length (take n l)) where
  front_take : take n (front n k l) ≡ k
  front_take =
      by_cases (leb n (length l))
      (λ t. take_at k (drop n l) n (omega (arith, h, length-take-le n l (leb-true n (length l) t))))
      (λ t. let g = leb-false n (length l) t in
      rw (drop_of_length-le l {i = n} (omega arith), append-nil k) (take_all n k (omega (arith, h, ap length (take_all n l (omega arith))))))

module _ (b : Lent) (q : Request) where
  abbrev left : Live
  left = after (in_use b).tables (in_use b).memory (in_use b).live q

  same : (length (in_use b).live.state ≡ length left.state) × (length (in_use b).live.interrupts ≡ length left.interrupts)
  same = events.after-lengths (in_use b).tables (in_use b).memory (in_use b).live q

  pub served_in_use : in_use (served_in q b) ≡ record { tables = (in_use b).tables; memory = (in_use b).memory; live = left }
  served_in_use = rw (
    front_take (used_by b.extent Interrupts) b.interrupts left.interrupts (sym same.1),
    front_take (used_by b.extent State) b.state left.state (sym same.0),
  )

  served-lengths : lengths_in (served_in q b) ≡ lengths_in b
  served-lengths = rw (
    length_front b.interrupts left.interrupts (used_by b.extent Interrupts) (sym same.1),
    length_front b.state left.state (used_by b.extent State) (sym same.0),
  )

-- ---- lengths

cleared-lengths : (x : Extent) (b : Lent) → lengths_in (cleared_to x b) ≡ lengths_in b
cleared-lengths x b = simp length-replicate

list-lengths : (b : Lent) (t : Table) (i v : ℕ) → lengths_in (with_list b t (set (list_of b t) i v)) ≡ lengths_in b
list-lengths b Requesters i v = simp length-set
list-lengths b Entries i v = simp length-set
list-lengths b Memory i v = simp length-set
list-lengths b Peers i v = simp length-set
list-lengths b Interrupts i v = simp length-set
list-lengths b Windows i v = simp length-set
list-lengths b Segments i v = simp length-set
list-lengths b State i v = simp length-set

-- one of two lists, each of the same lengths
either : (o : Bool) (c b : Lent) → lengths_in c ≡ lengths_in b → lengths_in (cond o c b) ≡ lengths_in b
either true c b h = h
either false c b h = refl

pub after-lengths : (b : Lent) (l : Parsed) → lengths_in (after_in b l) ≡ lengths_in b
unfolding after_in
after-lengths b (Ok (Size n m r w)) = either (room_for (Ok (Size n m r w)) (lengths_in b)) (cleared_to (extent_of n m r w) b) b (cleared-lengths (extent_of n m r w) b)
after-lengths b (Ok (Set t i v)) = either (settable (in_use b) t i v) (with_list b t (set (list_of b t) i v)) b (list-lengths b t i v)
after-lengths b (Ok (RequestLine q)) = served-lengths b q
after-lengths b (Err e) = refl
