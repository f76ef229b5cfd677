-- The relations of `Agree` are equivalences, and what they give of an entry, of a walk, of the words of a member.
--     same_refl, same_sym, same_trans     so a request that the group does not see may stand on either side; alike_refl
--     stop_agrees, reason_agrees  the stop bits and the reason of a member
--     interrupt_agrees    the record of an interrupt of a member
--     entry_agrees        the translation entries of a member; half_agrees: the one that an address picks
--     translation_agrees  a member's translation is the same over both memories; reads_agrees: so it reads the same places
--     held_refl, held_sym, held_trans     `Held` is an equivalence too: its premise on the words of the first memory is none on the second's
-- Assumes nothing.
use Rattle.std.specs.Prelude.{◌≡◌, refl, Bool, true, ℕ, ◌+◌, ◌*◌, ◌/◌, ◌%◌, ◌<◌}
use Rattle.std.proofs.Common.{sym, ◌∙◌, arith, eq-eqb, ne_eqb}
use mathlib.Core.List.{List, Memᴰ}
use Rattle.kinds.specs.Words.{at}
use Rattle.kinds.specs.declared.number.ByteAddress.{ByteAddress}
use Rattle.kinds.specs.declared.number.PeNumber.{PeNumber}
use Rattle.kinds.specs.declared.record.Sizes.{Sizes}
use Rattle.kinds.specs.declared.request.AddressClass.TheVariants.{Dma}
use Rattle.kinds.specs.declared.request.Direction.{Direction}
use Rattle.profile.specs.Tables.{Tables, Live, record_words, state_words}
use Rattle.profile.specs.Freeze.{stop_word}
use Rattle.profile.specs.Entry.{class_of, half, offset, entry}
use Rattle.profile.specs.Walk.{translated, reads}
use Rattle.profile.proofs.WalkLaws.{translated-reads, reads-reads}
use Rattle.profile.specs.Msi.{interrupt}
use Rattle.profile.specs.Agree.{pe_of, interrupt_pe, Same, Alike, Reads, Held}

module _ {G : PeNumber → Bool} {z : Sizes} where
  pub same_refl : (s : Live) → Same G z s s
  same_refl s = record {
    state_length_lem = refl;
    interrupts_length = refl;
    state-word = λ i g. refl;
    fence-word = refl;
    interrupt-pe = λ i h. refl;
    interrupt-word = λ i h g j l b. refl;
  }

  pub same_sym : {s t : Live} → Same G z s t → Same G z t s
  same_sym r = record {
    state_length_lem = sym r.state_length_lem;
    interrupts_length = sym r.interrupts_length;
    state-word = λ i g. sym (r.state-word i g);
    fence-word = sym r.fence-word;
    interrupt-pe = λ i h. sym (r.interrupt-pe i h);
    interrupt-word = λ i h g j l b. sym (r.interrupt-word i h (rw (r.interrupt-pe i h) g) j l b);
  }

  pub same_trans : {s t u : Live} → Same G z s t → Same G z t u → Same G z s u
  same_trans r q = record {
    state_length_lem = r.state_length_lem ∙ q.state_length_lem;
    interrupts_length = r.interrupts_length ∙ q.interrupts_length;
    state-word = λ i g. r.state-word i g ∙ q.state-word i g;
    fence-word = r.fence-word ∙ q.fence-word;
    interrupt-pe = λ i h. r.interrupt-pe i h ∙ q.interrupt-pe i h;
    interrupt-word = λ i h g j l b. r.interrupt-word i h g j l b ∙ q.interrupt-word i h (rw (← r.interrupt-pe i h) g) j l b;
  }

  module _ {s t : Live} (r : Same G z s t) where
    pub stop_agrees : (p : PeNumber) → G p ≡ true → at s.state (stop_word p) % 4 ≡ at t.state (stop_word p) % 4
    stop_agrees p g =
        let d : p.0 * state_words / state_words ≡ p.0 = omega arith in
        rw (eq-eqb (p.0 * state_words % state_words) 0 (omega arith)) at (r.state-word (stop_word p) (rw d g))

    -- the reason word of the PE of word i
    pub reason_agrees : (i : ℕ) → G (pe_of i) ≡ true → at s.state (i / state_words * state_words + 1) ≡ at t.state (i / state_words * state_words + 1)
    reason_agrees i g =
        let d : (i / state_words * state_words + 1) / state_words ≡ i / state_words = omega arith in
        rw (ne_eqb ((i / state_words * state_words + 1) % state_words) 0 (omega arith)) at (r.state-word (i / state_words * state_words + 1) (rw d g))

    pub interrupt_agrees : (i : ℕ) → i < z.interrupts → G (interrupt_pe s i) ≡ true → interrupt s i ≡ interrupt t i
    interrupt_agrees i h g =
        rw (
          r.interrupt-pe i h,
          r.interrupt-word i h g 1 (omega arith) (omega arith),
          r.interrupt-word i h g 2 (omega arith) (omega arith),
          r.interrupt-word i h g 3 (omega arith) (omega arith),
        )

pub alike_refl : {G : PeNumber → Bool} (f : Tables) → Alike G f f
alike_refl f = record {
  sizes = refl;
  installed = refl;
  requesters = refl;
  peers = refl;
  windows = refl;
  segments = refl;
  entries_length = refl;
  entry-word = λ p u j h. refl;
}

module _ {G : PeNumber → Bool} {f g : Tables} (w : Alike G f g) where
  pub entry_agrees : (p : PeNumber) → G p ≡ true → (h : ℕ) → h < 2 → entry f p h ≡ entry g p h
  entry_agrees p u h b =
      rw (
        w.entry-word p u (h * record_words) (omega arith),
        w.entry-word p u (h * record_words + 1) (omega arith),
        w.entry-word p u (h * record_words + 2) (omega arith),
        w.entry-word p u (h * record_words + 3) (omega arith),
      )

  pub half_agrees : (p : PeNumber) → G p ≡ true → (a : ByteAddress) → entry f p (half a) ≡ entry g p (half a)
  half_agrees p u a = entry_agrees p u (half a) (omega arith)

module _ {G : PeNumber → Bool} {f : Tables} where
  module _ {m n : List ℕ} (h : Held G f m n) (p : PeNumber) (u : G p ≡ true) (b : p.0 < f.sizes.pes) (a : ByteAddress) (c : class_of a ≡ Dma) where
    word_agrees : (k : ℕ) → Memᴰ k (reads f m p a) → at m k ≡ at n k
    word_agrees k z = h.table-word k (record { pe = p; member = u; below = b; address = a; dma = c; word = z })

    pub translation_agrees : (d : Direction) → translated m (entry f p (half a)) d (offset a) ≡ translated n (entry f p (half a)) d (offset a)
    translation_agrees = translated-reads m n h.memory_length (entry f p (half a)) (offset a) word_agrees

    pub reads_agrees : reads f m p a ≡ reads f n p a
    reads_agrees = reads-reads m n h.memory_length (entry f p (half a)) (offset a) word_agrees

  -- a member's walk reads word k in the one memory where it does in the other
  on : {m n : List ℕ} → Held G f m n → (k : ℕ) → Reads G f m k → Reads G f n k
  on h k r = record {
    pe = r.pe;
    member = r.member;
    below = r.below;
    address = r.address;
    dma = r.dma;
    word = rw (← reads_agrees h r.pe r.member r.below r.address r.dma) r.word;
  }

  back : {m n : List ℕ} → Held G f m n → (k : ℕ) → Reads G f n k → Reads G f m k
  back h k r = record {
    pe = r.pe;
    member = r.member;
    below = r.below;
    address = r.address;
    dma = r.dma;
    word = rw (reads_agrees h r.pe r.member r.below r.address r.dma) r.word;
  }

  pub held_refl : (m : List ℕ) → Held G f m m
  held_refl m = record { memory_length = refl; table-word = λ k r. refl }

  pub held_sym : {m n : List ℕ} → Held G f m n → Held G f n m
  held_sym h = record { memory_length = sym h.memory_length; table-word = λ k r. sym (h.table-word k (back h k r)) }

  pub held_trans : {m n o : List ℕ} → Held G f m n → Held G f n o → Held G f m o
  held_trans h i = record {
    memory_length = h.memory_length ∙ i.memory_length;
    table-word = λ k r. h.table-word k r ∙ i.table-word k (on h k r);
  }
