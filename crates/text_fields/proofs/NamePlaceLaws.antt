-- What a field holds, by the place of its name in the list of names.
--     found               the name at a place is what the text is read as
--     number_reads, table-reads, direction-reads, part-reads    a number, and a name of each list
--     tables-last, directions-last, parts_last    a place that is none of the first ones
-- Assumes nothing.
use Rattle.std.specs.Prelude.{◌≡◌, List, [], ◌∷◌, ℕ, zero, suc, Option, None, Some, refl}
use Rattle.std.proofs.Common.{sym, ap}
use Prim.Native.String.{String}
use Rattle.kinds.proofs.Tests.{by_cases}
use Rattle.kinds.specs.declared.request.Direction.TheVariants.{Write}
use Rattle.kinds.specs.declared.request.Part.TheVariants.{Record}
use Rattle.replay_text.specs.Bytes.{bytes}
use Rattle.replay_text.specs.Field.{number_of, is}
use Rattle.replay_text.specs.declared.Table.TheVariants.{State}
use Rattle.replay_text.specs.Line.{tables, directions, parts}
use Rattle.replay_text.specs.Word.{find}
use Rattle.text_fields.specs.NamePlace.{place_from, name_at, fetch, NumberReads}

fetched : (o : Option ℕ) → o ≡ fetch (λ v. v) o
fetched None = refl
fetched (Some v) = refl

-- the words of a list from place n on stand for what `take` says
abbrev Placed : {A : Type 0} → (ℕ → A) → ℕ → List (String × A) → Type 0
Placed take n [] = Unit
Placed take n (w ∷ ws) = (take n ≡ w.1) × Placed take (suc n) ws

found : {A : Type 0} (take : ℕ → A) (n : ℕ) (ws : List (String × A)) (f : List ℕ) → Placed take n ws → find ws f ≡ fetch take (place_from n ws f)
unfolding find place_from
found take n [] f h = refl
found take n (w ∷ ws) f h = by_cases (is f (bytes w.0)) (λ o. rw o (ap Some (sym h.0))) (λ o. rw o (found take (suc n) ws f h.1))

pub number_reads : NumberReads number_of number_of (λ v. v)
unfolding number_of
number_reads = record { empty = refl; takes = λ t. fetched (number_of t) }

pub table-reads : NumberReads (place_from 0 tables) (find tables) (name_at tables State)
unfolding find is
table-reads = record { empty = refl; takes = λ t. found (name_at tables State) 0 tables t (refl, (refl, (refl, (refl, (refl, (refl, (refl, (refl, tt)))))))) }

pub direction-reads : NumberReads (place_from 0 directions) (find directions) (name_at directions Write)
unfolding find is
direction-reads = record { empty = refl; takes = λ t. found (name_at directions Write) 0 directions t (refl, (refl, tt)) }

pub part-reads : NumberReads (place_from 0 parts) (find parts) (name_at parts Record)
unfolding find is
part-reads = record { empty = refl; takes = λ t. found (name_at parts Record) 0 parts t (refl, (refl, (refl, tt))) }

-- the last name stands at every later place
pub tables-last : (n : ℕ) → (n ≡ 0 → ⊥) → (n ≡ 1 → ⊥) → (n ≡ 2 → ⊥) → (n ≡ 3 → ⊥) → (n ≡ 4 → ⊥) → (n ≡ 5 → ⊥) → (n ≡ 6 → ⊥) → State ≡ name_at tables State n
tables-last zero a b c d e f g = absurd (a refl)
tables-last (suc zero) a b c d e f g = absurd (b refl)
tables-last (suc (suc zero)) a b c d e f g = absurd (c refl)
tables-last (suc (suc (suc zero))) a b c d e f g = absurd (d refl)
tables-last (suc (suc (suc (suc zero)))) a b c d e f g = absurd (e refl)
tables-last (suc (suc (suc (suc (suc zero))))) a b c d e f g = absurd (f refl)
tables-last (suc (suc (suc (suc (suc (suc zero)))))) a b c d e f g = absurd (g refl)
tables-last (suc (suc (suc (suc (suc (suc (suc zero))))))) a b c d e f g = refl
tables-last (suc (suc (suc (suc (suc (suc (suc (suc n)))))))) a b c d e f g = refl

pub directions-last : (n : ℕ) → (n ≡ 0 → ⊥) → Write ≡ name_at directions Write n
directions-last zero a = absurd (a refl)
directions-last (suc zero) a = refl
directions-last (suc (suc n)) a = refl

pub parts_last : (n : ℕ) → (n ≡ 0 → ⊥) → (n ≡ 1 → ⊥) → Record ≡ name_at parts Record n
parts_last zero a b = absurd (a refl)
parts_last (suc zero) a b = absurd (b refl)
parts_last (suc (suc zero)) a b = refl
parts_last (suc (suc (suc n))) a b = refl
