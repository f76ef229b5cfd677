-- Two bridges that agree in the words that are public or the group's meet the premises of demand 3, and a run of each answers the group alike and leaves it the same.
--     viewed              with exact marks, `SeenAlike` gives `View`: what demand 3 asks of two bridges
--     isolated_run        THE STATEMENT: where the group is `closed`, the marks are `Exact`, every `seen` word is equal in both and so are the places
--                         of the requests, the answers are equal, and the group's stop bits, error records and interrupt records and the fence word are left equal
-- Assumes nothing.
use Rattle.std.specs.Prelude.{◌≡◌, List, ℕ, ◌+◌, ◌*◌, ◌/◌, ◌%◌, ◌<◌, ltb, length}
use Rattle.std.proofs.Math.Path.{refl, ap}
use Rattle.std.proofs.Common.{sym, ◌∙◌, add-zero}
use Rattle.std.proofs.Math.Bool.{true}
use native.Mathlib.Omega.{arith}
use Rattle.std.proofs.Math.Dec.{eqb}
use Rattle.std.proofs.Math.ListN.{get_or-eq_default}
use Rattle.std.proofs.Math.Seq.{ext_get_or}
use borrow.Author.Tests.{ltb-true, ltb-false, eq-eqb, ne_eqb}
use Rattle.kinds.proofs.Tests.{by_cases}
use Rattle.kinds.specs.Words.{at, no_pe, pe_at}
use Rattle.kinds.proofs.WordsLaws.{pe_in}
use Rattle.kinds.specs.declared.number.PeNumber.{PeNumber}
use Rattle.kinds.specs.declared.record.Lengths.{Lengths}
use Rattle.profile.specs.Agree.{pe_of, interrupt_pe, seen_word}
use Rattle.profile.specs.Fence.{fence_word}
use Rattle.profile.specs.Entry.{entry}
use Rattle.profile.specs.Msi.{interrupt}
use Rattle.profile.specs.Tables.{entry_words, record_words, interrupt_words, state_words}
use Rattle.isolation.specs.View.{Bridge, bridge_lengths, Public, Written, View}
use Rattle.request_words.specs.Run.{served, ran_to}
use Rattle.request_words.specs.RunIsolation.{run_places, own_answers}
use Rattle.request_words.proofs.RunIsolation.{run_isolation}
use Rattle.isolation_groups.specs.Member.{group}
use Rattle.isolation_tests.specs.Group.{closed}
use Rattle.isolation_tests.proofs.GroupLaws.{closed_is}
use Rattle.isolation_reach.specs.Footprint.{Exact}
use Rattle.isolation_tests.specs.SeenAlike.{SeenAlike}
use Rattle.isolation_tests.specs.Seen.{interrupt_seen, state_seen, seen}

-- two tables of one length with the same word
pe-same : (l k : List ℕ) (i : ℕ) → length l ≡ length k → at l i ≡ at k i → pe_at l i ≡ pe_at k i
pe-same l k i e h =
    by_cases (ltb i (length l))
    (λ o. let b = ltb-true i (length l) o in sym (pe_in l i b) ∙ h ∙ pe_in k i (omega arith))
    (λ o. let b = ltb-false i (length l) o in get_or-eq_default l no_pe b ∙ sym (get_or-eq_default k no_pe (omega arith)))

module _ (g t : List ℕ) (a b : Bridge) (s : SeenAlike g t a b) where
  same_length : (P : Lengths → ℕ) → P (bridge_lengths a) ≡ P (bridge_lengths b)
  same_length P = ap P s.all-lengths

  -- the word of an interrupt that is its PE, and one whose PE is a member
  pe-word : (i : ℕ) → (interrupt a.live i).pe ≡ (interrupt b.live i).pe
  unfolding seen interrupt_seen
  pe-word i =
      pe-same a.live.interrupts b.live.interrupts (i * interrupt_words) (same_length (λ x. x.interrupts))
      (s.words 4 (i * interrupt_words) (rw (eq-eqb (i * interrupt_words % interrupt_words) 0 (omega arith))))

  interrupt-word : (i : ℕ) → group g (interrupt_pe a.live i) ≡ true → (j : ℕ) → j < interrupt_words
      → at a.live.interrupts (i * interrupt_words + j) ≡ at b.live.interrupts (i * interrupt_words + j)
  unfolding seen interrupt_seen
  interrupt-word i m j h =
      let e : (i * interrupt_words + j) / interrupt_words * interrupt_words ≡ i * interrupt_words = omega arith in
      s.words 4 (i * interrupt_words + j) (by_cases (eqb ((i * interrupt_words + j) % interrupt_words) 0) (λ o. rw o) (λ o. rw (o, e) m))

  -- what counts of the word, if it is not the fence word, of which all does
  word-seen : (i : ℕ) → group g (pe_of i) ≡ true → seen_word i (at a.live.state i) ≡ seen_word i (at b.live.state i)
  unfolding seen state_seen
  word-seen i m =
      let n = a.tables.sizes.pes in
      by_cases (eqb i (fence_word n))
      (λ o. ap (seen_word i) (rw o at (s.words 7 i (rw o))))
      (λ o. rw o at (s.words 7 i (rw o m)))

  state-word : (p : PeNumber) → group g p ≡ true → (j : ℕ) → j < state_words
      → seen_word (p.0 * state_words + j) (at a.live.state (p.0 * state_words + j)) ≡ seen_word (p.0 * state_words + j) (at b.live.state (p.0 * state_words + j))
  state-word p m j h = let e : (p.0 * state_words + j) / state_words ≡ p.0 = omega arith in word-seen (p.0 * state_words + j) (rw e m)

  fence-word : at a.live.state (fence_word a.tables.sizes.pes) ≡ at b.live.state (fence_word a.tables.sizes.pes)
  unfolding seen state_seen
  fence-word =
      let w = fence_word a.tables.sizes.pes in
      let o : eqb w w ≡ true = eq-eqb w w refl in
      rw o at (s.words 7 w (rw o))

  entry-word : (p : PeNumber) → group g p ≡ true → (j : ℕ) → j < entry_words
      → at a.tables.entries (p.0 * entry_words + j) ≡ at b.tables.entries (p.0 * entry_words + j)
  unfolding seen
  entry-word p m j h = let e : (p.0 * entry_words + j) / entry_words ≡ p.0 = omega arith in s.words 1 (p.0 * entry_words + j) (rw e m)

  public-same : Public a b
  unfolding seen
  public-same = record {
    sizes = s.sizes;
    installed = s.installed;
    all-lengths = s.all-lengths;
    requesters = ext_get_or 0 _ _ (same_length (λ x. x.requesters)) (λ i h. s.words 0 i refl);
    peers = ext_get_or 0 _ _ (same_length (λ x. x.peers)) (λ i h. s.words 3 i refl);
    windows = ext_get_or 0 _ _ (same_length (λ x. x.windows)) (λ i h. s.words 5 i refl);
    segments = ext_get_or 0 _ _ (same_length (λ x. x.segments)) (λ i h. s.words 6 i refl);
    fence = fence-word;
    interrupt-pe = λ i h. pe-word i;
  }

  written_same : Written (group g) a.tables.sizes.interrupts a.live b.live
  written_same = record {
    stop_bits_lem = λ p m. rw (add-zero, eq-eqb (p.0 * state_words % state_words) 0 (omega arith)) at (state-word p m 0 (omega arith));
    reason = λ p m. rw (ne_eqb ((p.0 * state_words + 1) % state_words) 0 (omega arith)) at (state-word p m 1 (omega arith));
    value = λ p m. rw (ne_eqb ((p.0 * state_words + 2) % state_words) 0 (omega arith)) at (state-word p m 2 (omega arith));
    failed = λ p m. rw (ne_eqb ((p.0 * state_words + 3) % state_words) 0 (omega arith)) at (state-word p m 3 (omega arith));
    interrupts = λ i h m. rw (pe-word i, interrupt-word i m 1 (omega arith), interrupt-word i m 2 (omega arith), interrupt-word i m 3 (omega arith));
  }

  entries-same : (p : PeNumber) → group g p ≡ true → (h : ℕ) → h < 2 → entry a.tables p h ≡ entry b.tables p h
  entries-same p m h k = rw (
    entry-word p m (h * record_words) (omega arith),
    entry-word p m (h * record_words + 1) (omega arith),
    entry-word p m (h * record_words + 2) (omega arith),
    entry-word p m (h * record_words + 3) (omega arith),
  )

  pub viewed : Exact g a.tables.sizes.pes a.tables.entries a.memory t → View (group g) a b
  unfolding seen
  viewed marks = record {
    public = public-same;
    written = written_same;
    entries = entries-same;
    table-words = λ k r. s.words 2 k (marks.needed a.tables refl refl k r);
  }

pub isolated_run : (g t : List ℕ) (a b : Bridge)
    -- what 1 from `celltimber_closed`, `celltimber_covers` and `celltimber_seen` means
    → closed a.tables.sizes.pes g a.tables.peers ≡ true → Exact g a.tables.sizes.pes a.tables.entries a.memory t → SeenAlike g t a b
    -- request words w on the first bridge and v on the second, with answer words l and k
    → (w v l k : List ℕ) → run_places (group g) a w (served w l) ≡ run_places (group g) b v (served v k)
    → (own_answers (group g) a w (ran_to a.tables a.memory w a.live l (served w l)).answers (served w l)
    ≡ own_answers (group g) b v (ran_to b.tables b.memory v b.live k (served v k)).answers (served v k))
    × Written (group g) a.tables.sizes.interrupts (ran_to a.tables a.memory w a.live l (served w l)).live
    (ran_to b.tables b.memory v b.live k (served v k)).live
    × (at (ran_to a.tables a.memory w a.live l (served w l)).live.state (fence_word a.tables.sizes.pes)
    ≡ at (ran_to b.tables b.memory v b.live k (served v k)).live.state (fence_word b.tables.sizes.pes))
isolated_run g t a b c marks s w v l k e = run_isolation.isolated (group g) a b (closed_is g a.tables c) (viewed g t a b s marks) w v l k e
