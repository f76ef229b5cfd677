-- The marks made for a group are exact.
--     all_read            a word that a walk of a member reads has a mark
--     all-cases           a word that has a mark is read by a walk of a member
--     marks-exact         THE STATEMENT: where the lent lists have the length of memory, the marks are exact
-- Assumes nothing.
use Rattle.std.specs.Prelude.{◌≡◌, true, eqb, length, replicate}
use Rattle.std.proofs.Math.Path.{refl}
use Rattle.std.proofs.Common.{subst, ◌∙◌, arith}
use mathlib.Core.List.{List, Memᴰ}
use Prim.Native.Nat.{ℕ, zero, suc, ◌<◌}
use Rattle.std.proofs.lemmas.List.{length-replicate}
use borrow.Author.Tests.{eqb-true, eqb-false, eq-eqb}
use Rattle.kinds.proofs.Tests.{by_cases}
use Rattle.kinds.specs.Turns.{turns}
use Rattle.kinds.specs.declared.number.ByteAddress.{ByteAddress}
use Rattle.kinds.specs.declared.request.AddressClass.TheVariants.{Dma}
use Rattle.isolation_reach.specs.Marks.{marks_by}
use Rattle.isolation_groups.specs.Mark.{any_mark}
use Rattle.isolation_reach.proofs.EntryLaws.{by_length, by_kept, entry_read, entry-marked}
use Rattle.isolation_reach.proofs.PutLaws.{none-marked}
use Rattle.isolation_groups.specs.Member.{member_of}
use Rattle.profile.specs.Entry.{class_of, half, offset, entry_in}
use Rattle.profile.specs.Walk.{reads_by}
use Rattle.isolation_reach.specs.Footprint.{pe_turn, members_marks, Exact}

either : (h : ℕ) → h < 2 → (P : ℕ → Type 0) → P 0 → P 1 → P h
either zero b P x y = x
either (suc zero) b P x y = y
either (suc (suc h)) b P x y = absurd (omega arith)

module _ (g l m : List ℕ) where
  -- ---- one PE

  module _ (r : List ℕ) (p : ℕ) where
    pe_length : length (pe_turn g l m r p) ≡ length r
    unfolding pe_turn
    pe_length = by_cases (member_of g p) (λ o. rw o (by_length m _ 1 _ ∙ by_length m _ 0 r)) (λ o. rw o)

    pe-kept : (i : ℕ) → any_mark r i ≡ true → any_mark (pe_turn g l m r p) i ≡ true
    unfolding pe_turn
    pe-kept i h = by_cases (member_of g p) (λ o. rw o (by_kept m _ 1 _ i (by_kept m _ 0 r i h))) (λ o. rw o h)

    pe-read : member_of g p ≡ true → length r ≡ length m → (a : ByteAddress) → class_of a ≡ Dma
        → (i : ℕ) → Memᴰ i (reads_by (entry_in l (record { 0 = p }) (half a)) m (offset a)) → any_mark (pe_turn g l m r p) i ≡ true
    unfolding pe_turn
    pe-read o e a d i z =
        let s = marks_by m (entry_in l (record { 0 = p }) 0) 0 r in
        rw o
        (either (half a) (omega arith)
        (λ h. half a ≡ h → Memᴰ i (reads_by (entry_in l (record { 0 = p }) h) m (offset a))
        → any_mark (marks_by m (entry_in l (record { 0 = p }) 1) 1 s) i ≡ true)
        (λ b y. by_kept m (entry_in l (record { 0 = p }) 1) 1 s i (entry_read m (entry_in l (record { 0 = p }) 0) 0 r e a b d i y))
        (λ b y. entry_read m (entry_in l (record { 0 = p }) 1) 1 s (by_length m (entry_in l (record { 0 = p }) 0) 0 r ∙ e) a b d i y)
        refl z)

    pe-cases : {Z : Type 0} (i : ℕ) → any_mark (pe_turn g l m r p) i ≡ true → (any_mark r i ≡ true → Z)
        → (member_of g p ≡ true → (a : ByteAddress) → class_of a ≡ Dma → Memᴰ i (reads_by (entry_in l (record { 0 = p }) (half a)) m (offset a)) → Z) → Z
    unfolding pe_turn
    pe-cases i h f k =
        let s = marks_by m (entry_in l (record { 0 = p }) 0) 0 r in
        by_cases (member_of g p)
        (λ o. entry-marked m (entry_in l (record { 0 = p }) 1) 1 s (omega arith) i (rw o at h)
        (λ y. entry-marked m (entry_in l (record { 0 = p }) 0) 0 r (omega arith) i y f (λ a b d z. k o a d (rw b z)))
        (λ a b d z. k o a d (rw b z)))
        (λ o. f (rw o at h))

  -- ---- all PEs

  all_length : (r : List ℕ) (n : ℕ) → length (turns (pe_turn g l m) r n) ≡ length r
  unfolding turns
  all_length r zero = refl
  all_length r (suc n) = pe_length (turns (pe_turn g l m) r n) n ∙ all_length r n

  pub all_read : (r : List ℕ) (n p : ℕ) → p < n → member_of g p ≡ true → length r ≡ length m → (a : ByteAddress) → class_of a ≡ Dma
      → (i : ℕ) → Memᴰ i (reads_by (entry_in l (record { 0 = p }) (half a)) m (offset a))
      → any_mark (turns (pe_turn g l m) r n) i ≡ true
  unfolding turns
  all_read r zero p b o e a d i z = absurd (omega arith)
  all_read r (suc n) p b o e a d i z =
      let s = turns (pe_turn g l m) r n in
      by_cases (eqb p n)
      (λ u. rw (eqb-true p n u) at (pe-read s p o (all_length r n ∙ e) a d i z))
      (λ u. let y = eqb-false p n u in pe-kept s n i (all_read r n p (omega arith) o e a d i z))

  pub all-cases : {Z : Type 0} (r : List ℕ) (n i : ℕ) → any_mark (turns (pe_turn g l m) r n) i ≡ true → (any_mark r i ≡ true → Z)
      → ((p : ℕ) → p < n → member_of g p ≡ true → (a : ByteAddress) → class_of a ≡ Dma
      → Memᴰ i (reads_by (entry_in l (record { 0 = p }) (half a)) m (offset a)) → Z) → Z
  unfolding turns
  all-cases r zero i h f k = f h
  all-cases r (suc n) i h f k =
      pe-cases (turns (pe_turn g l m) r n) n i h
      (λ y. all-cases r n i y f (λ p b. k p (omega arith)))
      (k n (omega arith))

members-is : (g l m : List ℕ) (n : ℕ) → members_marks (length m) (length m) g l m n (length m) ≡ turns (pe_turn g l m) (replicate (length m) 0) n
unfolding members_marks
members-is g l m n = rw (eq-eqb (length m) (length m) refl)

pub marks-exact : (g l m : List ℕ) (n : ℕ) → Exact g n l m (members_marks (length m) (length m) g l m n (length m))
marks-exact g l m n = rw (members-is g l m n) record {
  needed = λ f s e k r.
      all_read g l m (replicate (length m) 0) n r.pe.0 (rw (← s) r.below) r.member (length-replicate {A = ℕ} (length m) 0) r.address r.dma k
      (subst (λ (x : List ℕ). Memᴰ k (reads_by (entry_in x r.pe (half r.address)) m (offset r.address))) e r.word);
  only = λ f s e k h.
      all-cases g l m (replicate (length m) 0) n k h (λ z. none-marked (length m) k z)
      (λ p b o a d z. record {
        pe = record { 0 = p };
        member = o;
        below = rw s b;
        address = a;
        dma = d;
        word = rw e z;
      });
}
