-- What is known of the bytes where a text was written.
--     sets_append         two texts stored one after the other are the two texts stored at once
--     sets_last           the last byte of a text can be stored first
--     written_is          where there is room, the bytes stored are those of the text in their place
-- Assumes nothing.
use Rattle.std.specs.Prelude.{◌≡◌, List, [], ◌∷◌, ◌++◌, ℕ, suc, ◌+◌, ◌≤◌, length, set}
use Rattle.std.proofs.Common.{◌∙◌, add-zero, add-suc, suc-add, arith, le-leb}
use Rattle.std.proofs.lemmas.List.Edits.{sets, sets-eq}
use Rattle.std.proofs.lemmas.List.{set_comm}
use Rattle.text_report.specs.Written.{written}

pub sets_append : (l : List ℕ) (i : ℕ) (s t : List ℕ) → sets l i (s ++ t) ≡ sets (sets l i s) (i + length s) t
sets_append l i [] t = rw (add-zero i)
sets_append l i (a ∷ s) t = rw (add-suc, ← suc-add) (sets_append (set l i a) (suc i) s t)

pub sets_last : (l : List ℕ) (i : ℕ) (s : List ℕ) (b : ℕ) → sets l i (s ++ (b ∷ [])) ≡ sets (set l (i + length s) b) i s
sets_last l i [] b = rw (add-zero i)
sets_last l i (a ∷ s) b =
    sets_last (set l i a) (suc i) s b
    ∙ rw (add-suc, suc-add, set_comm l i (suc (i + length s)) a b (λ e. omega arith))

pub written_is : (m : ℕ) (o : List ℕ) (a : ℕ) (t : List ℕ) → a + m ≤ length o → length t ≤ m → sets o a t ≡ written m o a t
unfolding written
written_is m o a t h g = rw (le-leb (a + m) (length o) h) (sets-eq t o a (omega arith))
