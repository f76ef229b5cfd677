-- What an edit and an invalidate promise, on any tables of which reason 1 does not hold.
--     Edited n e m c k v r m' c'      after an edit of word k to v, with N = n, entries e, memory m and cache c: answer r, memory m', cache c'
--     Invalidated n e c x r c'        after an invalidate of scope x: answer r, cache c'
-- Assumes nothing.
use Rattle.std.specs.Prelude.{◌≡◌, true, cond, List, ℕ, ltb, length, set}
use Rattle.kinds.specs.declared.answer.Answer.{Answer}
use Rattle.kinds.specs.declared.request.Scope.{Scope}
use Rattle.edits.specs.Edits.{nameable, edit_answer, invalidate_answer}
use Rattle.cache.specs.Cache.{through, names}
use Rattle.cache.specs.Slots.{sweep}
use Rattle.cache_sweeps.specs.Drops.{of_entries}

-- the drop is by memory before the edit
pub record Edited (n : ℕ) (e m c : List ℕ) (k v : ℕ) (r : Answer) (m' c' : List ℕ) : Type 0 where
  pub answer : r ≡ edit_answer true k (length m)
  pub memory : m' ≡ set m k v
  pub cache : c' ≡ cond (ltb k (length m)) (sweep (through (of_entries n e) m k) c) c

pub record Invalidated (n : ℕ) (e c : List ℕ) (x : Scope) (r : Answer) (c' : List ℕ) : Type 0 where
  pub answer : r ≡ invalidate_answer true (nameable n x)
  pub cache : c' ≡ cond (nameable n x) (sweep (names (of_entries n e) x) c) c
