-- What `access_formed` and `is_formed` are proved from.
--     formed-at ..        a width with the address a multiple of it; formed-case: the form of a request, by its kind
-- Assumes nothing.
use mathlib.Core.Path.{◌≡◌, sym, ap, ◌∙◌}
use mathlib.Core.Bool.{Bool, true, ◌||◌}
use Prim.Native.Nat.{ℕ, ◌%◌}
use native.Mathlib.Nat.{mod-one}
use lib.Dec.{eqb}
use Rattle.kinds.specs.declared.number.ByteAddress.{ByteAddress}
use Rattle.kinds.specs.declared.request.Request.{Request}
use Rattle.profile.specs.Step.{access_formed, formed}

module _ (a : ByteAddress) (w : ℕ) where
  pub formed-at : (k : ℕ) → w ≡ k → (eqb k 1 || eqb k 2 || eqb k 4 || eqb k 8) ≡ true → eqb (a.0 % k) 0 ≡ access_formed a w
  unfolding access_formed
  formed-at k e h = rw (e, h)

  pub formed-byte : w ≡ 1 → true ≡ access_formed a w
  unfolding access_formed
  formed-byte e = rw (e, mod-one a.0)

pub formed-case : (q : Request) {x : Request} {b : Bool} → q ≡ x → b ≡ formed x → b ≡ formed q
formed-case q e h = h ∙ sym (ap formed e)
