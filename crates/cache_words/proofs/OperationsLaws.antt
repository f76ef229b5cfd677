-- Decoding what was encoded, and requests of the bridge as operations. Theorems of specs/OperationsLaws.antt.
--     operation-back      THE LAW: the words of an operation, wherever they stand in a list, name it
--     operation_in_lem    operation k of a list that has its words
--     plain-operation     words of the kinds of requests name the same request to both bridges; plain_of_lem: words that name an edit or an invalidate to the bridge
--                         with a cache name none to the one without; plain_at, maintained-at: in a list
-- Assumes nothing.
use Rattle.std.specs.Prelude.{◌≡◌, true, false, List, [], ◌++◌, ℕ, ◌+◌, ◌*◌, ◌/◌, ◌≤◌, eqb, length}
use Rattle.std.proofs.Math.Path.{refl, sym}
use Rattle.std.proofs.Common.{◌∙◌, add-zero, arith, get_or-append-add}
use borrow.Author.Tests.{lt-ltb, eqb-true}
use Rattle.kinds.proofs.Tests.{by_cases, or_first, or_second}
use Rattle.kinds.specs.Words.{at}
use Rattle.kinds.specs.declared.request.Operation.{Operation}
use Rattle.kinds.specs.declared.request.Operation.TheVariants.{Plain, Edit, Invalidate}
use Rattle.kinds.specs.declared.request.Request.{Request}
use Rattle.kinds.specs.declared.request.Request.TheVariants.{Dma, Load, Store, Error, Clear, End, Priority, Fatal, FenceClear, Unnamed}
use Rattle.kinds.specs.declared.request.Scope.{Scope}
use Rattle.kinds.specs.declared.request.Scope.TheVariants as scope
use Rattle.request_words.proofs.EncodedLaws.{decoded-encoded}
use Rattle.request_words.specs.Layout.{request_words, encoded, decoded, decoded_from, decoded_at}
use Rattle.cache_words.specs.Operations.{edit_kind, invalidate_kind, encoded_operation, decoded_invalidate, decoded_operation, of_cache, plain_of, maintained, operation_from, operation_at, operation_in, of_cache_in}
use Rattle.cache_words.specs.OperationsLaws.{Sendable}

pub operation_in_lem : (l : List ℕ) (k : ℕ) → k * request_words + request_words ≤ length l → operation_in l k ≡ operation_at l k
unfolding operation_in
operation_in_lem l k h = rw (lt-ltb k (length l / request_words) (omega arith))

-- the kind of a request of the bridge is neither of the two
plain-kind : (q : Request) (y : List ℕ) → operation_from (encoded q ++ y) 0 ≡ Plain (decoded_from (encoded q ++ y) 0)
unfolding encoded decoded_operation
plain-kind (Dma q) y = refl
plain-kind (Load a w) y = refl
plain-kind (Store a w) y = refl
plain-kind (Error r) y = refl
plain-kind (Clear p c) y = refl
plain-kind (End i) y = refl
plain-kind (Priority i n) y = refl
plain-kind (Fatal r) y = refl
plain-kind FenceClear y = refl
plain-kind Unnamed y = refl

scope_back : (x : Scope) (y : List ℕ) → operation_from (encoded_operation (Invalidate x) ++ y) 0 ≡ Invalidate x
unfolding encoded_operation decoded_operation decoded_invalidate
scope_back scope.All y = refl
scope_back (scope.Pe p) y = refl
scope_back (scope.Address p a) y = refl

first_back : (q : Operation) → Sendable q → (y : List ℕ) → operation_from (encoded_operation q ++ y) 0 ≡ q
unfolding encoded_operation
first_back (Plain q) h y = plain-kind q y ∙ rw (decoded-encoded [] 0 refl q h y)
first_back (Edit k v) h y = unfold decoded_operation in refl
first_back (Invalidate x) h y = scope_back x y

from-after : (v y : List ℕ) → operation_from (v ++ y) (length v) ≡ operation_from y 0
from-after v y = rw (
  rw add-zero at (get_or-append-add v y 0 0),
  get_or-append-add v y 1 0,
  get_or-append-add v y 2 0,
  get_or-append-add v y 3 0,
  get_or-append-add v y 4 0,
  get_or-append-add v y 5 0,
)

pub operation-back : (v : List ℕ) (k : ℕ) → length v ≡ k * request_words → (q : Operation) → Sendable q → (y : List ℕ)
    → operation_at (v ++ (encoded_operation q ++ y)) k ≡ q
operation-back v k e q h y = rw (← e) (from-after v (encoded_operation q ++ y) ∙ first_back q h y)

-- ---- the bridge without a cache

edit-unnamed : (a b c d e : ℕ) → decoded edit_kind a b c d e ≡ Unnamed
unfolding decoded
edit-unnamed a b c d e = refl

invalidate-unnamed : (a b c d e : ℕ) → decoded invalidate_kind a b c d e ≡ Unnamed
unfolding decoded
invalidate-unnamed a b c d e = refl

invalidate-plain : (s p a : ℕ) → plain_of (decoded_invalidate s p a) ≡ Unnamed
unfolding decoded_invalidate
invalidate-plain s p a =
    by_cases (eqb s 0) (λ o. rw o) (λ o. rw o (by_cases (eqb s 1) (λ u. rw u) (λ u. rw u (by_cases (eqb s 2) (λ v. rw v) (λ v. rw v)))))

module _ (k a b c d e : ℕ) where
  pub plain-operation : of_cache k ≡ false → decoded_operation k a b c d e ≡ Plain (decoded k a b c d e)
  unfolding of_cache decoded_operation
  plain-operation o = rw (or_first (eqb k edit_kind) (eqb k invalidate_kind) o, or_second (eqb k edit_kind) (eqb k invalidate_kind) o)

  pub plain_of_lem : plain_of (decoded_operation k a b c d e) ≡ decoded k a b c d e
  unfolding decoded_operation
  plain_of_lem =
      by_cases (eqb k edit_kind)
      (λ o. rw (o, eqb-true k edit_kind o) (sym (edit-unnamed a b c d e)))
      (λ o. rw o (by_cases (eqb k invalidate_kind)
      (λ p. rw (p, eqb-true k invalidate_kind p) (invalidate-plain a b c ∙ sym (invalidate-unnamed a b c d e)))
      (λ p. rw p)))

invalidate-kept : (s p a : ℕ) → maintained (decoded_invalidate s p a) ≡ decoded_invalidate s p a
unfolding decoded_invalidate
invalidate-kept s p a =
    by_cases (eqb s 0) (λ o. rw o) (λ o. rw o (by_cases (eqb s 1) (λ u. rw u) (λ u. rw u (by_cases (eqb s 2) (λ v. rw v) (λ v. rw v)))))

maintained-operation : (k a b c d e : ℕ) → of_cache k ≡ true → maintained (decoded_operation k a b c d e) ≡ decoded_operation k a b c d e
unfolding of_cache decoded_operation
maintained-operation k a b c d e o =
    by_cases (eqb k edit_kind)
    (λ p. rw p)
    (λ p. let i : eqb k invalidate_kind ≡ true = rw p at o in rw (p, i) (invalidate-kept a b c))

module _ (l : List ℕ) (k : ℕ) (h : k * request_words + request_words ≤ length l) where
  of_cache_in_lem : of_cache_in l k ≡ of_cache (at l (k * request_words))
  unfolding of_cache_in
  of_cache_in_lem = rw (lt-ltb k (length l / request_words) (omega arith))

  -- a request of the bridge, in a list
  pub plain_at : of_cache_in l k ≡ false → operation_at l k ≡ Plain (decoded_at l k)
  plain_at o = plain-operation (at l (k * request_words)) _ _ _ _ _ (sym of_cache_in_lem ∙ o)

  -- an operation of the bridge with a cache alone, in a list
  pub maintained-at : of_cache_in l k ≡ true → maintained (operation_at l k) ≡ operation_at l k
  maintained-at o = maintained-operation (at l (k * request_words)) _ _ _ _ _ (sym of_cache_in_lem ∙ o)
