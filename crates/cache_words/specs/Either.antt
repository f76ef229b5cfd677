-- Lists of operations on the bridge with a cache or without one, which `cached` says: definitions over both bridges, by which one statement speaks of both: `Served`
-- of crates/cache_handle/specs/Promise.antt, and the laws of a span here and in proofs/.
--     either_answer, either_after  what an operation is answered and leaves; to the bridge without a cache an edit and an invalidate are words of no request, and
--                         the cache is not looked at
--     span .. r k n       on any machine, n requests from request k on, served on r
--     span_none, span-one no request, and one more; ran_on-span: after the first k requests
-- The theorems are in proofs/Either.antt. Assumes nothing.
use Rattle.std.specs.Prelude.{◌≡◌, Bool, true, false, List}
use Rattle.std.proofs.Math.Path.{refl}
use Prim.Native.Nat.{ℕ, zero, suc, ◌+◌}
use Rattle.std.proofs.Math.Nat.{add-zero}
use native.Mathlib.Omega.{arith}
use Rattle.kinds.specs.declared.answer.Answer.{Answer}
use Rattle.kinds.specs.declared.request.Operation.{Operation}
use Rattle.kinds.specs.declared.request.Operation.TheVariants.{Plain}
use Rattle.profile.specs.Tables.{Tables}
use Rattle.request_words.specs.Run.{Ran, ran_one_on, ran_on}
use Rattle.edits.specs.Edits.{bare_answer, bare_after}
use Rattle.cache.specs.Cache.{Cached, cached_answer, cached_after}
use Rattle.cache_words.specs.Operations.{plain_of, operation_at}

abbrev pub either_answer : (cached : Bool) → Tables → Cached → Operation → Answer
either_answer true f x q = cached_answer f x q
either_answer false f x q = bare_answer f x.bare (Plain (plain_of q))

abbrev pub either_after : (cached : Bool) → Tables → Cached → Operation → Cached
either_after true f x q = cached_after f x q
either_after false f x q = record { bare = bare_after f x.bare (Plain (plain_of q)); cache = x.cache }

module _ {S Q : Type 0} (next : S → Q → S) (answer : S → Q → Answer) (asked : ℕ → Q) where
  unfoldable pub span : Ran S → (k n : ℕ) → Ran S
  span r k zero = r
  span r k (suc n) = ran_one_on next answer asked (span r k n) (k + n)

  pub span_none : (r : Ran S) (k : ℕ) → span r k 0 ≡ r
  unfolding span
  span_none r k = refl

  pub span-one : (r : Ran S) (k n : ℕ) → span r k (suc n) ≡ ran_one_on next answer asked (span r k n) (k + n)
  unfolding span
  span-one r k n = refl

  pub ran_on-span : (s : S) (l : List ℕ) (k n : ℕ) → span (ran_on next answer asked s l k) k n ≡ ran_on next answer asked s l (k + n)
  unfolding span
  ran_on-span s l k zero = rw add-zero
  ran_on-span s l k (suc n) =
      let e : k + suc n ≡ suc (k + n) = omega arith in
      rw (e, ran_on-span s l k n) (unfold ran_on in refl)

abbrev pub either_span : (cached : Bool) → Tables → (requests : List ℕ) → Ran Cached → (k n : ℕ) → Ran Cached
either_span b f w r k n = span (either_after b f) (either_answer b f) (operation_at w) r k n
