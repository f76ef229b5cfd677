-- A sweep as a loop takes it, a slot to a turn.
--     cleared b l k       slot k is emptied where b says so
--     turned d l k        cache l after the turn of slot k
-- Assumes nothing.
use Rattle.std.specs.Prelude.{Bool, cond, List, ℕ, ◌+◌, ◌*◌, set}
use Rattle.cache.specs.Slots.{slot_words, Test, dropped}

unfoldable pub cleared : Bool → List ℕ → (slot : ℕ) → List ℕ
cleared b l k = cond b (set (set (set (set l (k * slot_words) 0) (k * slot_words + 1) 0) (k * slot_words + 2) 0) (k * slot_words + 3) 0) l

unfoldable pub turned : Test → List ℕ → (slot : ℕ) → List ℕ
turned d l k = cleared (dropped d l k) l k
