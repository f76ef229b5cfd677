-- What holds of every line: of a bad one, of a size line within its limits, of a set line, and of a request that is no fatal message and no fence clear.
--     every_line          THE LAW: no line says anything else
--     sized-cases         a size line says the sizes, or is bad
-- A new kind of line adds a form to forms_hold.
-- Assumes nothing.
use Rattle.std.specs.Prelude.{◌≡◌, refl, Bool, ◌&&◌, ℕ, ◌^◌, ltb, leb, Option, Some, None, Ok}
use mathlib.Core.List.{List, [], ◌∷◌}
use Rattle.std.proofs.Math.Option.{none}
use Prim.Native.String.{String}
use Rattle.kinds.proofs.Tests.{by_cases}
use Rattle.kinds.specs.declared.request.Request.{Request}
use Rattle.profile.specs.Fence.{kind}
use Rattle.replay_text.specs.Bytes.{bytes}
use Rattle.replay_text.specs.Field.{fields_of, number_of, only, is}
use Rattle.replay_text.specs.Line.{Form, given, field, final, numbers, most_pes, most_interrupts, most_requesters, most_memory, sized, dma, formed, forms, tables, directions, parts, size_line, set_line, dma_line, clear_line, line_of}
use Rattle.replay_text.specs.Word.{find}
use Rattle.replay_text.specs.Results.{Parsed, bad as bad_line}
use Rattle.replay_text.specs.declared.Line.TheVariants.{Size, Set, Request as RequestLine}
use Rattle.replay_text.specs.declared.Table.{Table}

-- a size line within its limits
abbrev pub within : (n m r w : ℕ) → Bool
within n m r w = leb 1 n && leb n most_pes && leb m most_interrupts && leb 1 r && leb r most_requesters && leb w most_memory

pub sized-cases : (P : Parsed → Type 0) (n m r w : ℕ) → P (Ok (Size n m r w)) → P bad_line → P (sized n m r w)
unfolding sized
sized-cases P n m r w s b = by_cases (within n m r w) (λ o. rw o s) (λ o. rw o b)

-- what holds of each kind of line
module _ (P : Parsed → Type 0) (bad : P bad_line) (sizes : (n m r w : ℕ) → P (sized n m r w)) (sets : (t : Table) (i v : ℕ) → P (Ok (Set t i v)))
    (requests : (q : Request) → kind q ≡ none → P (Ok (RequestLine q))) where
  -- a form, whatever its fields are
  abbrev Holds : Form → Type 0
  Holds form = (fs : List (List ℕ)) → P (form fs)

  given_holds : {A : Type 0} (o : Option A) (k : A → Parsed) → ((a : A) → P (k a)) → P (given o k)
  given_holds None k h = bad
  given_holds (Some a) k h = h a

  field-holds : {A : Type 0} (read : List ℕ → Option A) (k : A → Form) → ((a : A) → Holds (k a)) → Holds (field read k)
  unfolding field
  field-holds read k h [] = bad
  field-holds read k h (f ∷ fs) = given_holds (read f) (λ a. k a fs) (λ a. h a fs)

  final-holds : {A : Type 0} (read : List ℕ → Option A) (k : A → Parsed) → ((a : A) → P (k a)) → Holds (final read k)
  unfolding final
  final-holds read k h fs = given_holds (only read fs) k h

  numbers_hold : (k : ℕ → ℕ → Parsed) → ((a b : ℕ) → P (k a b)) → Holds (numbers k)
  unfolding numbers
  numbers_hold k h = field-holds number_of _ (λ a. final-holds number_of (k a) (h a))

  size_holds : Holds size_line
  size_holds = field-holds number_of _ (λ n. field-holds number_of _ (λ m. numbers_hold _ (λ r w. sizes n m r w)))

  set_holds : Holds set_line
  set_holds = field-holds (find tables) _ (λ t. numbers_hold _ (λ i v. sets t i v))

  dma-holds : Holds dma_line
  unfolding dma
  dma-holds =
      field-holds number_of _
      (λ q. field-holds (find directions) _
      (λ d. field-holds number_of _
      (λ a. numbers_hold _ (λ n x. by_cases (ltb x (2 ^ 32)) (λ o. rw o (requests _ refl)) (λ o. rw o bad)))))

  clear-holds : Holds clear_line
  clear-holds = field-holds number_of _ (λ p. final-holds (find parts) _ (λ c. requests _ refl))

  -- the forms of a list
  abbrev EachHolds : List (String × Form) → Type 0
  EachHolds [] = Unit
  EachHolds (w ∷ ws) = Holds w.1 × EachHolds ws

  formed-holds : (ws : List (String × Form)) → EachHolds ws → (f : List ℕ) → Holds (formed ws f)
  unfolding formed find
  formed-holds [] a f fs = bad
  formed-holds (w ∷ ws) a f fs = by_cases (is f (bytes w.0)) (λ o. rw o (a.0 fs)) (λ o. rw o (formed-holds ws a.1 f fs))

  forms_hold : EachHolds forms
  forms_hold =
      (size_holds, (set_holds, (dma-holds, (numbers_hold _ (λ a w. requests _ refl), (numbers_hold _ (λ a w. requests _ refl), (final-holds number_of _ (λ q. requests _ refl), (clear-holds, (final-holds number_of _ (λ i. requests _ refl), (numbers_hold _ (λ i p. requests _ refl), tt)))))))))

  fields_hold : (fs : List (List ℕ)) → P (field (find forms) (λ form. form) fs)
  unfolding field formed
  fields_hold [] = bad
  fields_hold (f ∷ fs) = formed-holds forms forms_hold f fs

  pub every_line : (l : List ℕ) → P (line_of l)
  unfolding line_of
  every_line l = fields_hold (fields_of l)
