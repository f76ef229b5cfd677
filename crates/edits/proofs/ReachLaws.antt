-- Reach as a test, and memory under edits.
--     below-some, some_below_lem  a number below n of which the test holds, both ways
--     reach_reads, reads_reach      the test of reach is `Reads`, both ways
--     reach_in          only a word that memory has is in reach, so that an edit of another is nobody's
--     edit-away           an edit of a word out of reach is not seen
--     edit-same           the same edit of two memories, where the words that it brings into reach are equal
--     reads-alike         a member's walks are by the same entries on both bridges
-- Assumes nothing.
use Rattle.std.specs.Prelude.{◌≡◌, refl, true, ◌&&◌, eqb, ltb, length, set}
use Rattle.std.proofs.Common.{sym, ap, not-suc-le-zero, arith, length-set, eqb-true, ne_eqb, ltb-true}
use Rattle.std.proofs.Math.Bool.{Bool}
use mathlib.Core.List.Memᴰ
use mathlib.Core.List.{List, Memᴰ}
use Prim.Native.Nat.{ℕ, zero, suc, ◌/◌, ◌<◌, ◌^◌}
use Rattle.std.proofs.lemmas.Bool.{eqb-false}
use Rattle.kinds.specs.Has.{has}
use Rattle.kinds.proofs.Has.{has_of, of_has}
use Rattle.kinds.proofs.Tests.{by_cases, clash, and_left, and_right, and_both, or_cases, or_left, or_right}
use Rattle.kinds.specs.Words.{at}
use Rattle.kinds.proofs.WordsLaws.{at_set}
use Rattle.kinds.specs.declared.number.ByteAddress.{ByteAddress}
use Rattle.kinds.specs.declared.number.PageNumber.{PageNumber}
use Rattle.kinds.specs.declared.number.PeNumber.{PeNumber}
use Rattle.kinds.specs.declared.request.AddressClass.{AddressClass}
use Rattle.kinds.specs.declared.request.AddressClass.TheVariants.{Dma, Msi32, Msi64, Unserved}
use Rattle.profile.specs.Tables.{Tables}
use Rattle.profile.specs.Entry.{class_of, half, offset, entry, page_of, index_bits, walks}
use Rattle.profile.specs.Walk.{place, next_base, walk_from, reads_by, reads}
use Rattle.profile.proofs.WalkLaws.{walk_zero, walk_suc, walk-cases}
use Rattle.profile.specs.Agree.{Alike, Reads, Held}
use Rattle.profile.proofs.AgreeLaws.{half_agrees}
use Rattle.edits.specs.Reach.{is_dma, some_below, reads_at, in_reach}

pub below-some : (t : ℕ → Bool) (n : ℕ) → some_below t n ≡ true → (i : ℕ) × ((i < n) × (t i ≡ true))
unfolding some_below
below-some t zero e = clash e refl
below-some t (suc n) e =
    or_cases (t n) (some_below t n) e
    (λ o. (n, (omega arith, o)))
    (λ o. let x = below-some t n o in (x.0, (let h = x.1.0 in omega arith, x.1.1)))

pub some_below_lem : (t : ℕ → Bool) (n i : ℕ) → i < n → t i ≡ true → some_below t n ≡ true
unfolding some_below
some_below_lem t zero i h e = absurd (not-suc-le-zero h)
some_below_lem t (suc n) i h e =
    by_cases (eqb i n)
    (λ o. or_left (t n) (some_below t n) (rw (← eqb-true i n o) e))
    (λ o. let z = eqb-false i n o in or_right (t n) (some_below t n) (some_below_lem t n i (omega arith) e))

dma-is : (c : AddressClass) → is_dma c ≡ true → c ≡ Dma
dma-is Dma e = refl
dma-is Msi32 e = clash e refl
dma-is Msi64 e = clash e refl
dma-is Unserved e = clash e refl

class_low : (a : ByteAddress) → class_of a ≡ Dma → a.0 < 2 ^ 60
unfolding class_of
class_low a e =
    by_cases (eqb (a.0 / 2 ^ 60) 0)
    (λ o. let z = eqb-true (a.0 / 2 ^ 60) 0 o in omega arith)
    (λ o. by_cases (eqb (a.0 / 2 ^ 60) 1)
    (λ p. let y : Msi64 ≡ Dma = rw (o, p) at e in clash refl (ap is_dma (sym y)))
    (λ p. let y : Unserved ≡ Dma = rw (o, p) at e in clash refl (ap is_dma (sym y))))

-- the PE and the address with these numbers
abbrev pe : ℕ → PeNumber
pe p = record { 0 = p }

abbrev to : ℕ → ByteAddress
to a = record { 0 = a }

module _ {G : PeNumber → Bool} {f : Tables} where
  pub reach_reads : (m : List ℕ) (k : ℕ) → in_reach G f m k ≡ true → Reads G f m k
  unfolding in_reach reads_at
  reach_reads m k e =
      let some : ℕ → Bool = λ p. some_below (reads_at f m k p) (2 ^ 60) in
      let x = below-some (λ p. G (pe p) && some p) f.sizes.pes e in
      let y = below-some (reads_at f m k x.0) (2 ^ 60) (and_right (G (pe x.0)) (some x.0) x.1.1) in
      let dma = is_dma (class_of (to y.0)) in
      let word = has k (reads f m (pe x.0) (to y.0)) in
      record {
        pe = pe x.0;
        member = and_left (G (pe x.0)) (some x.0) x.1.1;
        below = x.1.0;
        address = to y.0;
        dma = dma-is (class_of (to y.0)) (and_left dma word y.1.1);
        word = of_has k (reads f m (pe x.0) (to y.0)) (and_right dma word y.1.1);
      }

  pub reads_reach : {m : List ℕ} {k : ℕ} → Reads G f m k → in_reach G f m k ≡ true
  unfolding in_reach reads_at
  reads_reach {m} {k} r =
      let some : ℕ → Bool = λ p. some_below (reads_at f m k p) (2 ^ 60) in
      some_below_lem (λ p. G (pe p) && some p) f.sizes.pes r.pe.0 r.below
      (and_both (G r.pe) (some r.pe.0) r.member
      (some_below_lem (reads_at f m k r.pe.0) (2 ^ 60) r.address.0 (class_low r.address r.dma)
      (and_both (is_dma (class_of r.address)) (has k (reads f m r.pe r.address)) (ap is_dma r.dma) (has_of r.word))))

-- ---- only words that memory has are read

walk_in : (m : List ℕ) (l n : ℕ) (b : ByteAddress) (q : PageNumber) (i : ℕ) → Memᴰ i (walk_from m l n b q).reads → i < length m
walk_in m zero n b q i h = absurd (Memᴰ.not-nil (rw (walk_zero m n b q) at h))
walk_in m (suc k) n b q i h =
    by_cases (ltb (place k n b q) (length m))
    (λ o. walk-cases m k n b q i h (λ e. rw e (ltb-true (place k n b q) (length m) o)) (λ _ z. walk_in m k n (next_base (at m (place k n b q))) q i z))
    (λ o. absurd (Memᴰ.not-nil (rw (walk_suc m k n b q, o) at h)))

pub reads_in_lem : (f : Tables) (m : List ℕ) (p : PeNumber) (a : ByteAddress) (k : ℕ) → Memᴰ k (reads f m p a) → k < length m
unfolding reads_by
reads_in_lem f m p a k h =
    let e = entry f p (half a) in
    by_cases (walks e (offset a))
    (λ o. walk_in m e.levels (index_bits e) (record { 0 = e.base }) (page_of e (offset a)) k (rw o at h))
    (λ o. absurd (Memᴰ.not-nil (rw o at h)))

pub reach_in : (G : PeNumber → Bool) (f : Tables) (m : List ℕ) (k : ℕ) → in_reach G f m k ≡ true → k < length m
reach_in G f m k o = let r = reach_reads {G = G} {f = f} m k o in reads_in_lem f m r.pe r.address k r.word

-- ---- memory under edits

module _ {G : PeNumber → Bool} {f : Tables} where
  pub edit-away : (m : List ℕ) (k v : ℕ) → (Reads G f m k → ⊥) → Held G f m (set m k v)
  edit-away m k v o = record {
    memory_length = sym (length-set m k v);
    table-word = λ j r. rw (at_set, ne_eqb j k (λ e. o (rw e at r)));
  }

  pub edit-same : {m n : List ℕ} → Held G f m n → (k v : ℕ)
      → ((j : ℕ) → Reads G f (set m k v) j → (Reads G f m j → ⊥) → at m j ≡ at n j) → Held G f (set m k v) (set n k v)
  edit-same {m} {n} h k v fresh = record {
    memory_length = simp length-set h.memory_length;
    table-word = λ j r. simp (at_set, h.memory_length)
        (by_cases (eqb j k && ltb j (length n))
        (λ o. rw o)
        (λ o. rw o (by_cases (in_reach G f m j)
        (λ p. h.table-word j (reach_reads m j p))
        (λ p. fresh j r (λ q. clash (reads_reach q) p)))));
  }

pub reads-alike : {G : PeNumber → Bool} {f g : Tables} → Alike G f g → {m : List ℕ} {k : ℕ} → Reads G f m k → Reads G g m k
reads-alike w r = record {
  pe = r.pe;
  member = r.member;
  below = rw (← w.sizes) r.below;
  address = r.address;
  dma = r.dma;
  word = rw (← half_agrees w r.pe r.member r.address) r.word;
}
