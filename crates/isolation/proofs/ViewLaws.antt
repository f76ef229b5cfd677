-- What a group sees of two bridges is what the laws of one request are written in.
--     state-word          what `Written` gives of a word of the state, by its place
--     agreed, viewed      from `View` to `Agreed`, and back: they say the same
--     written             what `Same` gives of the words that are written
-- Assumes nothing.
use Rattle.std.specs.Prelude.{◌≡◌, Bool, true, ℕ, zero, suc, ◌+◌, ◌*◌, ◌/◌, ◌%◌, ◌<◌, eqb}
use Rattle.std.proofs.Common.{ap, add-zero, arith, eqb-true, ne_eqb}
use Rattle.std.proofs.lemmas.Bool.{eqb-false}
use Rattle.kinds.proofs.Tests.{by_cases}
use Rattle.kinds.specs.Words.{at}
use Rattle.kinds.specs.declared.number.PeNumber.{PeNumber}
use Rattle.kinds.specs.declared.record.Interrupt.{Interrupt}
use Rattle.kinds.specs.declared.record.Lengths.{Lengths}
use Rattle.kinds.specs.declared.record.Sizes.{Sizes}
use Rattle.kinds.specs.declared.record.TranslationEntry.{TranslationEntry}
use Rattle.profile.specs.Tables.{Tables, Live, entry_words, record_words, interrupt_words, state_words}
use Rattle.profile.specs.Freeze.{stop_word, reason_word, value_word, failed_word}
use Rattle.profile.specs.Entry.{entry}
use Rattle.profile.specs.Msi.{interrupt}
use Rattle.profile.specs.Agree.{pe_of, seen_word, Same, Alike, Held}
use Rattle.profile.proofs.AgreeLaws.{stop_agrees, interrupt_agrees, entry_agrees}
use Rattle.isolation.specs.View.{Bridge, Public, Written, View, Agreed}

-- ---- the words of the state, by PE and by place

module _ {G : PeNumber → Bool} {n : ℕ} {s t : Live} where
  pub state-word : Written G n s t → (i : ℕ) → G (pe_of i) ≡ true → seen_word i (at s.state i) ≡ seen_word i (at t.state i)
  state-word w i g =
      by_cases (eqb (i % state_words) 0)
      (λ o. let z = eqb-true (i % state_words) 0 o in let e : stop_word (pe_of i) ≡ i = omega arith in rw o (rw e at (w.stop_bits_lem (pe_of i) g)))
      (λ o. rw o (by_cases (eqb (i % state_words) 1)
      (λ p. let z = eqb-true (i % state_words) 1 p in let e : reason_word (pe_of i) ≡ i = omega arith in rw e at (w.reason (pe_of i) g))
      (λ p. by_cases (eqb (i % state_words) 2)
      (λ q. let z = eqb-true (i % state_words) 2 q in let e : value_word (pe_of i) ≡ i = omega arith in rw e at (w.value (pe_of i) g))
      (λ q. let x = eqb-false (i % state_words) 0 o in let y = eqb-false (i % state_words) 1 p in let z = eqb-false (i % state_words) 2 q in
      let e : failed_word (pe_of i) ≡ i = omega arith in rw e at (w.failed (pe_of i) g)))))

module _ {G : PeNumber → Bool} {z : Sizes} {s t : Live} where
  -- a word of PE p that is no stop word
  record_word : Same G z s t → (p : PeNumber) → G p ≡ true → (j : ℕ) → 0 < j → j < state_words
      → at s.state (p.0 * state_words + j) ≡ at t.state (p.0 * state_words + j)
  record_word r p g j lo hi =
      let e : (p.0 * state_words + j) / state_words ≡ p.0 = omega arith in
      rw (ne_eqb ((p.0 * state_words + j) % state_words) 0 (omega arith)) at (r.state-word (p.0 * state_words + j) (rw e g))

  pub written : Same G z s t → Written G z.interrupts s t
  written r = record {
    stop_bits_lem = stop_agrees r;
    reason = λ p g. record_word r p g 1 (omega arith) (omega arith);
    value = λ p g. record_word r p g 2 (omega arith) (omega arith);
    failed = λ p g. record_word r p g 3 (omega arith) (omega arith);
    interrupts = interrupt_agrees r;
  }

-- ---- a record, field by field and word by word

-- each word but the PE's
interrupt-word : (s t : Live) (i : ℕ) → interrupt s i ≡ interrupt t i → (j : ℕ) → 0 < j → j < interrupt_words
    → at s.interrupts (i * interrupt_words + j) ≡ at t.interrupts (i * interrupt_words + j)
interrupt-word s t i e zero l h = absurd (omega arith)
interrupt-word s t i e (suc zero) l h = ap (λ (x : Interrupt). x.server) e
interrupt-word s t i e (suc (suc zero)) l h = ap (λ (x : Interrupt). x.priority) e
interrupt-word s t i e (suc (suc (suc zero))) l h = ap (λ (x : Interrupt). x.bits) e
interrupt-word s t i e (suc (suc (suc (suc j)))) l h = absurd (omega arith)

entry-word : (f g : Tables) (p : PeNumber) (h : ℕ) → entry f p h ≡ entry g p h → (j : ℕ) → j < record_words
    → at f.entries (p.0 * entry_words + (h * record_words + j)) ≡ at g.entries (p.0 * entry_words + (h * record_words + j))
entry-word f g p h e zero b = rw add-zero (ap (λ (x : TranslationEntry). x.base) e)
entry-word f g p h e (suc zero) b = ap (λ (x : TranslationEntry). x.levels) e
entry-word f g p h e (suc (suc zero)) b = ap (λ (x : TranslationEntry). x.table) e
entry-word f g p h e (suc (suc (suc zero))) b = ap (λ (x : TranslationEntry). x.page) e
entry-word f g p h e (suc (suc (suc (suc j)))) b = absurd (omega arith)

-- ---- `View` and `Agreed` say the same

module _ {G : PeNumber → Bool} {a b : Bridge} where
  tables_agree : View G a b → Alike G a.tables b.tables
  tables_agree v = record {
    sizes = v.public.sizes;
    installed = v.public.installed;
    requesters = v.public.requesters;
    peers = v.public.peers;
    windows = v.public.windows;
    segments = v.public.segments;
    entries_length = ap (λ (x : Lengths). x.entries) v.public.all-lengths;
    entry-word = λ p g j h.
        let e : j / record_words * record_words + j % record_words ≡ j = omega arith in
        rw e at (entry-word a.tables b.tables p (j / record_words) (v.entries p g (j / record_words) (omega arith)) (j % record_words) (omega arith));
  }

  live_agrees : View G a b → Same G a.tables.sizes a.live b.live
  live_agrees v = record {
    state_length_lem = ap (λ (x : Lengths). x.state) v.public.all-lengths;
    interrupts_length = ap (λ (x : Lengths). x.interrupts) v.public.all-lengths;
    state-word = state-word v.written;
    fence-word = v.public.fence;
    interrupt-pe = v.public.interrupt-pe;
    interrupt-word = λ i h g j l u. interrupt-word a.live b.live i (v.written.interrupts i h g) j l u;
  }

  memory_agrees : View G a b → Held G a.tables a.memory b.memory
  memory_agrees v = record { memory_length = ap (λ (x : Lengths). x.memory) v.public.all-lengths; table-word = v.table-words }

  pub agreed : View G a b → Agreed G a b
  agreed v = record { tables = tables_agree v; live = live_agrees v; memory = memory_agrees v }

  public_agrees : Agreed G a b → Public a b
  public_agrees r = record {
    sizes = r.tables.sizes;
    installed = r.tables.installed;
    all-lengths = rw (
      r.tables.requesters,
      r.tables.entries_length,
      r.memory.memory_length,
      r.tables.peers,
      r.live.interrupts_length,
      r.tables.windows,
      r.tables.segments,
      r.live.state_length_lem,
    );
    requesters = r.tables.requesters;
    peers = r.tables.peers;
    windows = r.tables.windows;
    segments = r.tables.segments;
    fence = r.live.fence-word;
    interrupt-pe = r.live.interrupt-pe;
  }

  pub viewed : Agreed G a b → View G a b
  viewed r = record {
    public = public_agrees r;
    written = written r.live;
    entries = entry_agrees r.tables;
    table-words = r.memory.table-word;
  }
