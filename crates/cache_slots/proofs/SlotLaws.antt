-- What the rule of `cache_slots` is proved from. Assumes nothing.
use mathlib.Core.Path.{◌≡◌, sym}
use Prim.Native.Nat.{ℕ, ◌+◌, ◌*◌, ◌/◌, ◌%◌}
use native.Mathlib.Nat.{mul-add-mod_self_right}
use native.Mathlib.Omega.{arith}
use Rattle.kinds.specs.declared.number.PageNumber.{PageNumber}
use Rattle.kinds.specs.declared.number.PeNumber.{PeNumber}
use Rattle.cache.specs.Slots.{slot_factor, slot_of}

pub slot_is : (p : PeNumber) (h : ℕ) (q : PageNumber) → (q.0 % 256 + slot_factor * (2 * p.0 + h % 256)) % 256 ≡ slot_of p h q
unfolding slot_of
slot_is p h q =
    let r = q.0 % 256 + 37 * (2 * p.0 + h % 256) in
    let k = q.0 / 256 + 37 * (h / 256) in
    let e : q.0 + 37 * (2 * p.0 + h) ≡ k * 256 + r = omega arith in
    rw e (sym (mul-add-mod_self_right k 256 r))
