-- The way back: two bridges that meet the premises of demand 3 agree in the words that are public or the group's. So a test that fails is a premise that fails.
--     alike               THE STATEMENT: `View` gives `SeenAlike`, with exact marks, where the interrupts have the words of M records
-- Assumes nothing.
use Rattle.std.specs.Prelude.{◌≡◌, true, false, ltb, eqb, length}
use Rattle.std.proofs.Math.Path.{refl, ap}
use Rattle.std.proofs.Common.{sym, ◌∙◌, add-zero}
use mathlib.Core.List.{List}
use Prim.Native.Nat.{ℕ, zero, suc, ◌+◌, ◌*◌, ◌/◌, ◌%◌, ◌<◌}
use native.Mathlib.Omega.{arith}
use borrow.Author.Tests.{ltb-true, eqb-true, eqb-false}
use Rattle.kinds.proofs.Tests.{by_cases}
use Rattle.kinds.specs.Words.{at, pe_at}
use Rattle.kinds.proofs.WordsLaws.{at_out, pe_in}
use Rattle.kinds.specs.declared.number.PeNumber.{PeNumber}
use Rattle.kinds.specs.declared.record.Interrupt.{Interrupt}
use Rattle.kinds.specs.declared.record.Lengths.{Lengths}
use Rattle.kinds.specs.declared.record.TranslationEntry.{TranslationEntry}
use Rattle.profile.specs.Entry.{entry_in}
use Rattle.profile.specs.Fence.{fence_word}
use Rattle.profile.specs.Tables.{entry_words, record_words, interrupt_words}
use Rattle.isolation.specs.View.{Bridge, View}
use Rattle.isolation.proofs.ViewLaws.{state-word}
use Rattle.isolation_groups.specs.Member.{member_of, group}
use Rattle.isolation_reach.specs.Footprint.{Exact}
use Rattle.isolation_tests.specs.Seen.{interrupt_seen, state_seen, seen}
use Rattle.isolation_tests.specs.SeenAlike.{table_of, seen_of, SeenAlike}

-- word j of a record of a PE, by the record
entry-word : (l k : List ℕ) (p : PeNumber) (h : ℕ) → entry_in l p h ≡ entry_in k p h → (j : ℕ) → j < record_words
    → at l (p.0 * entry_words + (h * record_words + j)) ≡ at k (p.0 * entry_words + (h * record_words + j))
entry-word l k p h e zero b = rw (add-zero (h * record_words)) (ap (λ (x : TranslationEntry). x.base) e)
entry-word l k p h e (suc zero) b = ap (λ (x : TranslationEntry). x.levels) e
entry-word l k p h e (suc (suc zero)) b = ap (λ (x : TranslationEntry). x.table) e
entry-word l k p h e (suc (suc (suc zero))) b = ap (λ (x : TranslationEntry). x.page) e
entry-word l k p h e (suc (suc (suc (suc j)))) b = absurd (omega arith)

module _ (g t : List ℕ) (a b : Bridge) (v : View (group g) a b) where
  entries-seen : (i : ℕ) → member_of g (i / entry_words) ≡ true → at a.tables.entries i ≡ at b.tables.entries i
  entries-seen i m =
      let p : PeNumber = record { 0 = i / entry_words } in
      let e : i / entry_words * entry_words + (i / record_words % 2 * record_words + i % record_words) ≡ i = omega arith in
      rw e at (entry-word a.tables.entries b.tables.entries p (i / record_words % 2) (v.entries p m (i / record_words % 2) (omega arith)) (i % record_words) (omega arith))

  state-seen : (i : ℕ) → state_seen g a.tables.sizes.pes i ≡ true
      → seen_of a.tables.sizes.pes 7 i (at a.live.state i) ≡ seen_of a.tables.sizes.pes 7 i (at b.live.state i)
  unfolding state_seen
  state-seen i m =
      by_cases (eqb i (fence_word a.tables.sizes.pes))
      (λ o. let e = eqb-true i (fence_word a.tables.sizes.pes) o in rw o (rw (← e) at v.public.fence))
      (λ o. rw o (state-word v.written i (rw o at m)))

  same_length : length a.live.interrupts ≡ length b.live.interrupts
  same_length = ap (λ (x : Lengths). x.interrupts) v.public.all-lengths

  module _ (whole : length a.live.interrupts ≡ a.tables.sizes.interrupts * interrupt_words) where
    -- a word past the table is 0 in both
    past-seen : (i : ℕ) → ltb i (length a.live.interrupts) ≡ false → at a.live.interrupts i ≡ at b.live.interrupts i
    past-seen i o = at_out a.live.interrupts i o ∙ sym (at_out b.live.interrupts i (rw (← same_length) o))

    -- and the words of an interrupt below M
    pe-seen : (n : ℕ) → n < a.tables.sizes.interrupts → at a.live.interrupts (n * interrupt_words) ≡ at b.live.interrupts (n * interrupt_words)
    pe-seen n h =
        pe_in a.live.interrupts (n * interrupt_words) (omega (arith, whole)) ∙ v.public.interrupt-pe n h
        ∙ sym (pe_in b.live.interrupts (n * interrupt_words) (omega (arith, whole, same_length)))

    own-seen : (n : ℕ) → n < a.tables.sizes.interrupts → member_of g (pe_at a.live.interrupts (n * interrupt_words)) ≡ true → (j : ℕ) → 0 < j → j < interrupt_words
        → at a.live.interrupts (n * interrupt_words + j) ≡ at b.live.interrupts (n * interrupt_words + j)
    own-seen n h m zero p q = absurd (omega arith)
    own-seen n h m (suc zero) p q = ap (λ (x : Interrupt). x.server) (v.written.interrupts n h m)
    own-seen n h m (suc (suc zero)) p q = ap (λ (x : Interrupt). x.priority) (v.written.interrupts n h m)
    own-seen n h m (suc (suc (suc zero))) p q = ap (λ (x : Interrupt). x.bits) (v.written.interrupts n h m)
    own-seen n h m (suc (suc (suc (suc j)))) p q = absurd (omega arith)

    interrupts-seen : (i : ℕ) → interrupt_seen g a.live.interrupts i ≡ true → at a.live.interrupts i ≡ at b.live.interrupts i
    unfolding interrupt_seen
    interrupts-seen i m =
        let n = i / interrupt_words in
        by_cases (ltb i (length a.live.interrupts))
        (λ o. let h = ltb-true i (length a.live.interrupts) o in
        let few : n < a.tables.sizes.interrupts = omega (arith, whole) in
        by_cases (eqb (i % interrupt_words) 0)
        (λ z. let y = eqb-true (i % interrupt_words) 0 z in
        let e : n * interrupt_words ≡ i = omega arith in
        rw e at (pe-seen n few))
        (λ z. let y = eqb-false (i % interrupt_words) 0 z in
        let e : n * interrupt_words + i % interrupt_words ≡ i = omega arith in
        rw e at (own-seen n few (rw z at m) (i % interrupt_words) (omega arith) (omega arith))))
        (past-seen i)

    word-seen : Exact g a.tables.sizes.pes a.tables.entries a.memory t → (k i : ℕ) → seen g a.tables.sizes.pes a.live.interrupts t k i ≡ true
        → seen_of a.tables.sizes.pes k i (at (table_of a k) i) ≡ seen_of a.tables.sizes.pes k i (at (table_of b k) i)
    unfolding seen
    word-seen marks zero i m = ap (λ (l : List ℕ). at l i) v.public.requesters
    word-seen marks (suc zero) i m = entries-seen i m
    word-seen marks (suc (suc zero)) i m = v.table-words i (marks.only a.tables refl refl i m)
    word-seen marks (suc (suc (suc zero))) i m = ap (λ (l : List ℕ). at l i) v.public.peers
    word-seen marks (suc (suc (suc (suc zero)))) i m = interrupts-seen i m
    word-seen marks (suc (suc (suc (suc (suc zero))))) i m = ap (λ (l : List ℕ). at l i) v.public.windows
    word-seen marks (suc (suc (suc (suc (suc (suc zero)))))) i m = ap (λ (l : List ℕ). at l i) v.public.segments
    word-seen marks (suc (suc (suc (suc (suc (suc (suc zero))))))) i m = state-seen i m
    word-seen marks (suc (suc (suc (suc (suc (suc (suc (suc n)))))))) i m = refl

    pub alike : Exact g a.tables.sizes.pes a.tables.entries a.memory t → SeenAlike g t a b
    alike marks = record {
      sizes = v.public.sizes;
      installed = v.public.installed;
      all-lengths = v.public.all-lengths;
      words = word-seen marks;
    }
