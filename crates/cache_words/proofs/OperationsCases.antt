-- Words of operations, and what they name.
--     names_hold          kinds 9 and 10 with each scope, a scope above 2, and kinds that name a request or nothing
--     words_hold          the words of an edit and of each invalidate
--     kinds_hold          which kinds the bridge with a cache alone has
--     lists_hold          of a list of words that ends early
--     plain_hold          what these are to the bridge without a cache; maintained_hold: a request is no edit and no invalidate
-- Assumes nothing.
use Rattle.std.specs.Prelude.{◌≡◌, refl, true, false, List, [], ◌∷◌, map, ℕ}
use Rattle.kinds.specs.declared.request.Operation.{Operation}
use Rattle.kinds.specs.declared.request.Operation.TheVariants.{Plain, Edit, Invalidate}
use Rattle.kinds.specs.declared.request.Request.TheVariants.{Error, Unnamed}
use Rattle.kinds.specs.declared.request.Scope.TheVariants.{All, Pe, Address}
use Rattle.request_words.specs.Layout.{decoded}
use Rattle.cache_words.specs.Operations.{encoded_operation, decoded_invalidate, decoded_operation, of_cache, plain_of, maintained, operation_in, of_cache_in}

-- the operation that kind k names, with 5, 6 and 7 after it
unfoldable pub named : ℕ → Operation
unfolding decoded_operation decoded_invalidate decoded
named k = decoded_operation k 5 6 7 8 9

-- an invalidate of scope s of PE 6, by the address 7
unfoldable pub scoped : ℕ → Operation
unfolding decoded_operation decoded_invalidate
scoped s = decoded_operation 10 s 6 7 8 9

pub names_hold : (map named (3 ∷ 9 ∷ 11 ∷ []) ≡ Plain (Error 5) ∷ Edit 5 6 ∷ Plain Unnamed ∷ [])
    × (map scoped (0 ∷ 1 ∷ 2 ∷ 3 ∷ 4294967296 ∷ [])
    ≡ Invalidate All ∷ Invalidate (Pe 6) ∷ Invalidate (Address 6 (record { 0 = 7 })) ∷ Plain Unnamed ∷ Plain Unnamed ∷ [])
unfolding named scoped
names_hold = (refl, refl)

pub words_hold : map encoded_operation (Edit 5 6 ∷ Invalidate All ∷ Invalidate (Pe 6) ∷ Invalidate (Address 6 (record { 0 = 7 })) ∷ [])
    ≡ (9 ∷ 5 ∷ 6 ∷ 0 ∷ 0 ∷ 0 ∷ 0 ∷ 0 ∷ []) ∷ (10 ∷ 0 ∷ 0 ∷ 0 ∷ 0 ∷ 0 ∷ 0 ∷ 0 ∷ []) ∷ (10 ∷ 1 ∷ 6 ∷ 0 ∷ 0 ∷ 0 ∷ 0 ∷ 0 ∷ []) ∷ (10 ∷ 2 ∷ 6 ∷ 7 ∷ 0 ∷ 0 ∷ 0 ∷ 0 ∷ []) ∷ []
unfolding encoded_operation
words_hold = refl

pub kinds_hold : map of_cache (8 ∷ 9 ∷ 10 ∷ 11 ∷ []) ≡ false ∷ true ∷ true ∷ false ∷ []
unfolding of_cache
kinds_hold = refl

-- a list of one edit and half of another
abbrev short : List ℕ
short = 9 ∷ 5 ∷ 6 ∷ 0 ∷ 0 ∷ 0 ∷ 0 ∷ 0 ∷ 9 ∷ 5 ∷ 6 ∷ 0 ∷ []

pub lists_hold : (map (operation_in short) (0 ∷ 1 ∷ 2 ∷ []) ≡ Edit 5 6 ∷ Plain Unnamed ∷ Plain Unnamed ∷ [])
    × (map (of_cache_in short) (0 ∷ 1 ∷ 2 ∷ []) ≡ true ∷ false ∷ false ∷ [])
unfolding operation_in of_cache_in of_cache decoded_operation
lists_hold = (refl, refl)

pub plain_hold : map plain_of (Plain (Error 5) ∷ Edit 5 6 ∷ Invalidate All ∷ []) ≡ Error 5 ∷ Unnamed ∷ Unnamed ∷ []
plain_hold = refl

pub maintained_hold : map maintained (Plain (Error 5) ∷ Edit 5 6 ∷ Invalidate All ∷ []) ≡ Plain Unnamed ∷ Edit 5 6 ∷ Invalidate All ∷ []
maintained_hold = refl
