-- What a group of PEs sees of a bridge, in the words of demand 3.
--     Bridge              the fixed tables, memory, and what is written
--     bridge_lengths a    the lengths of its tables
--     Public a b          equal in all that 01 calls public, and in the installed size and the fence word, which are public by 02, [7] and [9]
--     Written G n s t     the group's stop bits, error records and interrupt records are equal, n being M
--     View G a b          all that demand 3 asks of two bridges, G being the group
--     Agreed G a b        the relations that the laws of one request are written in, together
-- Assumes nothing.
use Rattle.std.specs.Prelude.{◌≡◌, Bool, true, List, ℕ, ◌%◌, ◌<◌, length}
use Rattle.kinds.specs.Words.{at}
use Rattle.kinds.specs.declared.number.PeNumber.{PeNumber}
use Rattle.kinds.specs.declared.record.Lengths.{Lengths}
use Rattle.profile.specs.Tables.{Tables, Live, lengths}
use Rattle.profile.specs.Freeze.{stop_word, reason_word, value_word, failed_word}
use Rattle.profile.specs.Fence.{fence_word}
use Rattle.profile.specs.Entry.{entry}
use Rattle.profile.specs.Msi.{interrupt}
use Rattle.profile.specs.Agree.{interrupt_pe, Same, Alike, Reads, Held}

pub record Bridge : Type 0 where
  pub tables : Tables
  pub memory : List ℕ
  pub live : Live

abbrev pub bridge_lengths : Bridge → Lengths
bridge_lengths a = lengths a.tables (length a.memory) a.live

pub record Public (a b : Bridge) : Type 0 where
  -- N, M and R
  pub sizes : a.tables.sizes ≡ b.tables.sizes
  -- the installed size
  pub installed : a.tables.installed ≡ b.tables.installed
  -- all lengths
  pub all-lengths : bridge_lengths a ≡ bridge_lengths b
  -- requesters, peers, windows, segments
  pub requesters : a.tables.requesters ≡ b.tables.requesters
  pub peers : a.tables.peers ≡ b.tables.peers
  pub windows : a.tables.windows ≡ b.tables.windows
  pub segments : a.tables.segments ≡ b.tables.segments
  -- the fence word
  pub fence : at a.live.state (fence_word a.tables.sizes.pes) ≡ at b.live.state (fence_word a.tables.sizes.pes)
  -- the PE word of each interrupt
  pub interrupt-pe : (i : ℕ) → i < a.tables.sizes.interrupts → (interrupt a.live i).pe ≡ (interrupt b.live i).pe

pub record Written (G : PeNumber → Bool) (n : ℕ) (s t : Live) : Type 0 where
  -- the group's stop bits: the lowest two of the word
  pub stop_bits_lem : (p : PeNumber) → G p ≡ true → at s.state (stop_word p) % 4 ≡ at t.state (stop_word p) % 4
  -- its error records
  pub reason : (p : PeNumber) → G p ≡ true → at s.state (reason_word p) ≡ at t.state (reason_word p)
  pub value : (p : PeNumber) → G p ≡ true → at s.state (value_word p) ≡ at t.state (value_word p)
  pub failed : (p : PeNumber) → G p ≡ true → at s.state (failed_word p) ≡ at t.state (failed_word p)
  -- its interrupt records
  pub interrupts : (i : ℕ) → i < n → G (interrupt_pe s i) ≡ true → interrupt s i ≡ interrupt t i

pub record View (G : PeNumber → Bool) (a b : Bridge) : Type 0 where
  -- equal in all that 01 calls public
  pub public : Public a b
  -- the group's stop bits, error records and interrupt records
  pub written : Written G a.tables.sizes.interrupts a.live b.live
  -- its translation entries, both of each PE
  pub entries : (p : PeNumber) → G p ≡ true → (h : ℕ) → h < 2 → entry a.tables p h ≡ entry b.tables p h
  -- every table word that its walks can read, in the first bridge
  pub table-words : (k : ℕ) → Reads G a.tables a.memory k → at a.memory k ≡ at b.memory k

pub record Agreed (G : PeNumber → Bool) (a b : Bridge) : Type 0 where
  pub tables : Alike G a.tables b.tables
  pub live : Same G a.tables.sizes a.live b.live
  pub memory : Held G a.tables a.memory b.memory
