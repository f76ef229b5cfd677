-- 02, [8]: whether a word of memory is in reach of a group, as a test.
--     is_dma c            c is the DMA class
--     some_below t n      test t holds of some number below n
--     reads_at f m k p a  a walk of PE p for address a, which is of the DMA class, reads word k
--     in_reach G f m k    some walk of a member, a PE below N, can read word k: `Reads` as a test. It is never computed
-- Assumes nothing.
use Rattle.std.specs.Prelude.{Bool, true, false, ◌&&◌, ◌||◌, List, ℕ, zero, suc, ◌^◌}
use Rattle.kinds.specs.Has.{has}
use Rattle.kinds.specs.declared.number.PeNumber.{PeNumber}
use Rattle.kinds.specs.declared.request.AddressClass.{AddressClass}
use Rattle.kinds.specs.declared.request.AddressClass.TheVariants.{Dma, Msi32, Msi64, Unserved}
use Rattle.profile.specs.Tables.{Tables}
use Rattle.profile.specs.Entry.{class_of}
use Rattle.profile.specs.Walk.{reads}

abbrev pub is_dma : AddressClass → Bool
is_dma Dma = true
is_dma Msi32 = false
is_dma Msi64 = false
is_dma Unserved = false

-- stays shut: n may be huge
unfoldable pub some_below : (ℕ → Bool) → ℕ → Bool
some_below t zero = false
some_below t (suc n) = t n || some_below t n

unfoldable pub reads_at : Tables → List ℕ → (k p a : ℕ) → Bool
reads_at f m k p a = is_dma (class_of (record { 0 = a })) && has k (reads f m (record { 0 = p }) (record { 0 = a }))

-- every address of the DMA class is below 2 ^ 60
unfoldable pub in_reach : (PeNumber → Bool) → Tables → List ℕ → ℕ → Bool
in_reach G f m k = some_below (λ p. G (record { 0 = p }) && some_below (reads_at f m k p) (2 ^ 60)) f.sizes.pes
