-- What an invalidate by address names. Assumes nothing.
use mathlib.Core.Path.{◌≡◌, ◌∙◌}
use mathlib.Core.List.{List}
use Prim.Native.Nat.{ℕ}
use Rattle.kinds.specs.declared.number.ByteAddress.{ByteAddress}
use Rattle.kinds.specs.declared.request.Scope.{Scope}
use Rattle.kinds.specs.declared.request.Scope.TheVariants.{Address}
use Rattle.cache.specs.Cache.{names}
use Rattle.cache.specs.Slots.{sweep}
use Rattle.cache_sweeps.specs.Drops.{of_entries, page_slot}
use Rattle.cache_sweeps.proofs.DropsLaws.{page_is}

pub page_named : (n : ℕ) (e c : List ℕ) {x : Scope} {p : ℕ} {a : ByteAddress} {c' : List ℕ} → x ≡ Address p a → c' ≡ sweep (page_slot e (record { 0 = p }) a) c
    → c' ≡ sweep (names (of_entries n e) x) c
page_named n e c {x} {p} {a} z f = f ∙ rw (z, page_is (of_entries n e) p a)
