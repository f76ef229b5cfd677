-- Operations on the bridge with a translation cache as words, 8 for each. Kinds 0 to 8 are the requests of the bridge.
--     edit_kind, invalidate_kind  9 edit: word number, value; 10 invalidate: scope (0 all, 1 PE, 2 address), PE, address
--     scope_words x       scope, PE and address of an invalidate; encoded_operation q: the words of operation q. What it does not use is 0 and is not read
--     decoded_invalidate s p a    the invalidate that a scope, a PE and an address name; another scope names none
--     decoded_operation k a b c d e   the operation that the kind k and the numbers a to e name
--     of_cache k          kind k is of the bridge with a cache alone: an edit or an invalidate; of_cache_in l k: that of operation k of the list of words l
--     plain_of q           what operation q is to the bridge without a cache: an edit and an invalidate are no request
--     maintained q        an edit or an invalidate as it is; a request is none of them
--     operation_from l i  the operation whose words stand from place i of the list of words l; operation_at l k: operation k; operation_in l k: none where its
--                         words are not all there; operations_from l k n: n of them, from operation k
-- Assumes nothing.
use Rattle.std.specs.Prelude.{Bool, false, cond, ◌||◌, List, [], ◌∷◌, ℕ, ◌+◌, ◌*◌, ◌/◌, ltb, eqb, length}
use Rattle.kinds.specs.Words.{at}
use Rattle.kinds.specs.declared.request.Operation.{Operation}
use Rattle.kinds.specs.declared.request.Operation.TheVariants.{Plain, Edit, Invalidate}
use Rattle.kinds.specs.declared.request.Request.{Request}
use Rattle.kinds.specs.declared.request.Request.TheVariants.{Unnamed}
use Rattle.kinds.specs.declared.request.Scope.{Scope}
use Rattle.kinds.specs.declared.request.Scope.TheVariants as scope
use Rattle.request_words.specs.Layout.{request_words, encoded, decoded, asked_from}

abbrev pub edit_kind : ℕ
edit_kind = 9

abbrev pub invalidate_kind : ℕ
invalidate_kind = 10

abbrev pub scope_words : Scope → List ℕ
scope_words scope.All = 0 ∷ 0 ∷ 0 ∷ []
scope_words (scope.Pe p) = 1 ∷ p ∷ 0 ∷ []
scope_words (scope.Address p a) = 2 ∷ p ∷ a.0 ∷ []

unfoldable pub encoded_operation : Operation → List ℕ
encoded_operation (Plain q) = encoded q
encoded_operation (Edit k v) = edit_kind ∷ k ∷ v ∷ 0 ∷ 0 ∷ 0 ∷ 0 ∷ 0 ∷ []
encoded_operation (Invalidate x) = invalidate_kind ∷ at (scope_words x) 0 ∷ at (scope_words x) 1 ∷ at (scope_words x) 2 ∷ 0 ∷ 0 ∷ 0 ∷ 0 ∷ []

unfoldable pub decoded_invalidate : (scope pe address : ℕ) → Operation
decoded_invalidate s p a =
    cond (eqb s 0) (Invalidate scope.All)
    (cond (eqb s 1) (Invalidate (scope.Pe p)) (cond (eqb s 2) (Invalidate (scope.Address p (record { 0 = a }))) (Plain Unnamed)))

unfoldable pub decoded_operation : (k a b c d e : ℕ) → Operation
decoded_operation k a b c d e =
    cond (eqb k edit_kind) (Edit a b) (cond (eqb k invalidate_kind) (decoded_invalidate a b c) (Plain (decoded k a b c d e)))

unfoldable pub of_cache : (kind : ℕ) → Bool
of_cache k = eqb k edit_kind || eqb k invalidate_kind

abbrev pub plain_of : Operation → Request
plain_of (Plain q) = q
plain_of (Edit k v) = Unnamed
plain_of (Invalidate x) = Unnamed

abbrev pub maintained : Operation → Operation
maintained (Plain q) = Plain Unnamed
maintained (Edit k v) = Edit k v
maintained (Invalidate x) = Invalidate x

abbrev pub operation_from : List ℕ → ℕ → Operation
operation_from l i = decoded_operation (at l i) (at l (i + 1)) (at l (i + 2)) (at l (i + 3)) (at l (i + 4)) (at l (i + 5))

abbrev pub operation_at : List ℕ → ℕ → Operation
operation_at l k = operation_from l (k * request_words)

unfoldable pub operation_in : List ℕ → ℕ → Operation
operation_in l k = cond (ltb k (length l / request_words)) (operation_at l k) (Plain Unnamed)

abbrev pub operations_from : List ℕ → (k n : ℕ) → List Operation
operations_from l k n = asked_from (operation_at l) k n

unfoldable pub of_cache_in : List ℕ → ℕ → Bool
of_cache_in l k = cond (ltb k (length l / request_words)) (of_cache (at l (k * request_words))) false
