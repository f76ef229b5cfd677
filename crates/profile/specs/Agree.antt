-- What two bridges share that a group of PEs sees: the relations that the laws of one request are written in.
--     owned G o           the owner o is a PE of group G
--     belongs G f s q     request q belongs to a PE of the group
--     obeyed f m s q      the fatal message or fence clear that request q is, if it is one and is answered done
--     Closed G f          no PE outside the group lists a member in its peer vector; members may list PEs outside. A number of N and above
--                         may be in G: no request belongs to it, and bits for it are ignored
--     pe_of i             the PE that word i of the state belongs to
--     seen_word i x       what counts of word i, of value x, of the state: of a stop word the lowest two bits, of another word all
--     interrupt_pe s i    the PE that interrupt i belongs to
--     Same G z s t        state and interrupts, z being N, M and R: lengths, the group's words, the fence word, the PE word of each of M interrupts, the
--                         interrupt records of the group
--     Alike G f g         the fixed tables: sizes, the installed size, requesters, peers, windows, segments, the length of the entries, the entries of the group
--     Reads G f m k       memory word k is read by a walk of a member, a PE below N, for some address of the DMA class, whatever the stop bits are
--     Held G f m n        memories m and n: their lengths, and every word that a walk of a member reads in the first
-- Assumes nothing.
use Rattle.kinds.specs.Lookup.{Owner}
use Rattle.std.specs.Prelude.{◌≡◌, Bool, true, false, cond, ℕ, ◌+◌, ◌*◌, ◌/◌, ◌%◌, ◌<◌, eqb, length, Ok, Err}
use mathlib.Core.List.{List, Memᴰ}
use Rattle.std.proofs.Math.Option.{Option, none}
use Rattle.kinds.specs.Answer.{is_done}
use Rattle.kinds.specs.Words.{at, bit_of}
use Rattle.kinds.specs.declared.number.ByteAddress.{ByteAddress}
use Rattle.kinds.specs.declared.number.PeNumber.{PeNumber}
use Rattle.kinds.specs.declared.record.Sizes.{Sizes}
use Rattle.kinds.specs.declared.request.AddressClass.TheVariants.{Dma}
use Rattle.kinds.specs.declared.request.Request.{Request}
use Rattle.profile.specs.Tables.{Tables, Live, entry_words, interrupt_words, state_words}
use Rattle.profile.specs.Freeze.{vector}
use Rattle.profile.specs.Fence.{fence_word, Event, kind}
use Rattle.profile.specs.Entry.{class_of}
use Rattle.profile.specs.Walk.{reads}
use Rattle.profile.specs.Msi.{interrupt}
use Rattle.profile.specs.Owner.{owner}
use Rattle.profile.specs.Step.{answered}

abbrev pub owned : (PeNumber → Bool) → Owner → Bool
owned G (Ok p) = G p
owned G (Err r) = false

abbrev pub belongs : (PeNumber → Bool) → Tables → Live → Request → Bool
belongs G f s q = owned G (owner f s q)

abbrev pub obeyed : Tables → List ℕ → Live → Request → Option Event
obeyed f m s q = cond (is_done (answered f m s q)) (kind q) none

pub record Closed (G : PeNumber → Bool) (f : Tables) : Type 0 where
  pub unlisted : (p k : PeNumber) → p.0 < f.sizes.pes → k.0 < f.sizes.pes → G p ≡ false → G k ≡ true → bit_of (vector f p) k.0 ≡ false

abbrev pub pe_of : (place : ℕ) → PeNumber
pe_of i = record { 0 = i / state_words }

abbrev pub seen_word : (i x : ℕ) → ℕ
seen_word i x = cond (eqb (i % state_words) 0) (x % 4) x

abbrev pub interrupt_pe : Live → ℕ → PeNumber
interrupt_pe s i = record { 0 = (interrupt s i).pe }

pub record Same (G : PeNumber → Bool) (z : Sizes) (s t : Live) : Type 0 where
  pub state_length_lem : length s.state ≡ length t.state
  pub interrupts_length : length s.interrupts ≡ length t.interrupts
  pub state-word : (i : ℕ) → G (pe_of i) ≡ true → seen_word i (at s.state i) ≡ seen_word i (at t.state i)
  pub fence-word : at s.state (fence_word z.pes) ≡ at t.state (fence_word z.pes)
  pub interrupt-pe : (i : ℕ) → i < z.interrupts → (interrupt s i).pe ≡ (interrupt t i).pe
  pub interrupt-word : (i : ℕ) → i < z.interrupts → G (interrupt_pe s i) ≡ true → (j : ℕ) → 0 < j → j < interrupt_words
      → at s.interrupts (i * interrupt_words + j) ≡ at t.interrupts (i * interrupt_words + j)

pub record Alike (G : PeNumber → Bool) (f g : Tables) : Type 0 where
  pub sizes : f.sizes ≡ g.sizes
  pub installed : f.installed ≡ g.installed
  pub requesters : f.requesters ≡ g.requesters
  pub peers : f.peers ≡ g.peers
  pub windows : f.windows ≡ g.windows
  pub segments : f.segments ≡ g.segments
  pub entries_length : length f.entries ≡ length g.entries
  pub entry-word : (p : PeNumber) → G p ≡ true → (j : ℕ) → j < entry_words
      → at f.entries (p.0 * entry_words + j) ≡ at g.entries (p.0 * entry_words + j)

pub record Reads (G : PeNumber → Bool) (f : Tables) (m : List ℕ) (k : ℕ) : Type 0 where
  pub pe : PeNumber
  pub member : G pe ≡ true
  pub below : pe.0 < f.sizes.pes
  pub address : ByteAddress
  pub dma : class_of address ≡ Dma
  pub word : Memᴰ k (reads f m pe address)

pub record Held (G : PeNumber → Bool) (f : Tables) (m n : List ℕ) : Type 0 where
  pub memory_length : length m ≡ length n
  pub table-word : (k : ℕ) → Reads G f m k → at m k ≡ at n k
