-- Two bridges that agree in the words that are public or the group's.
--     table_of a n         table n of bridge a, in the order of 01's list
--     seen_of n k i x     what counts of word i, of value x, of table k, n being N: of a stop word the lowest two bits, of another word all
--     SeenAlike g t a b   sizes, the installed size and lengths are equal, and so is what counts of every word that is seen in the first bridge, t being the marks of its
--                         memory
-- Assumes nothing.
use Rattle.std.specs.Prelude.{◌≡◌, true, cond, List, [], ℕ, zero, suc, eqb}
use Rattle.kinds.specs.Words.{at}
use Rattle.isolation.specs.View.{Bridge, bridge_lengths}
use Rattle.profile.specs.Agree.{seen_word}
use Rattle.profile.specs.Fence.{fence_word}
use Rattle.isolation_tests.specs.Seen.{seen}

abbrev pub table_of : Bridge → ℕ → List ℕ
table_of a zero = a.tables.requesters
table_of a (suc zero) = a.tables.entries
table_of a (suc (suc zero)) = a.memory
table_of a (suc (suc (suc zero))) = a.tables.peers
table_of a (suc (suc (suc (suc zero)))) = a.live.interrupts
table_of a (suc (suc (suc (suc (suc zero))))) = a.tables.windows
table_of a (suc (suc (suc (suc (suc (suc zero)))))) = a.tables.segments
table_of a (suc (suc (suc (suc (suc (suc (suc zero))))))) = a.live.state
table_of a (suc (suc (suc (suc (suc (suc (suc (suc n)))))))) = []

abbrev pub seen_of : (pes table index word : ℕ) → ℕ
seen_of n k i x = cond (eqb k 7) (cond (eqb i (fence_word n)) x (seen_word i x)) x

pub record SeenAlike (g t : List ℕ) (a b : Bridge) : Type 0 where
  pub sizes : a.tables.sizes ≡ b.tables.sizes
  pub installed : a.tables.installed ≡ b.tables.installed
  pub all-lengths : bridge_lengths a ≡ bridge_lengths b
  pub words : (k i : ℕ) → seen g a.tables.sizes.pes a.live.interrupts t k i ≡ true
      → seen_of a.tables.sizes.pes k i (at (table_of a k) i) ≡ seen_of a.tables.sizes.pes k i (at (table_of b k) i)
