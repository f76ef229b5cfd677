-- The turns of a loop over the levels of a walk. Its invariant says that the walk from the top is the walk of the levels that are left, after the words read.
--     later n w           walk w after n words
-- Assumes nothing.
use Rattle.kinds.specs.Lookup.{Found, forbidden}
use Rattle.std.specs.Prelude.{◌≡◌, true, List, ℕ, zero, suc, ◌+◌, ◌-◌, ◌*◌, ◌≤◌, ◌<◌}
use Rattle.std.proofs.Common.{sym, ap, ◌∙◌, mul-le-mul_left, zero-add, add-zero, suc-add, add-suc, add-one, sub-one, arith, Fits}
use Rattle.std.specs.Int.{w64}
use Rattle.profile.specs.Entry.{aligned, offset_bits, most_levels}
use Rattle.kinds.specs.Number.{no_word}
use Rattle.kinds.specs.Words.{at}
use Rattle.kinds.specs.declared.number.ByteAddress.{ByteAddress}
use Rattle.kinds.specs.declared.number.PageNumber.{PageNumber}
use Rattle.profile.specs.Walk.{place, next_base, walk_from}
use Rattle.dma_walk.specs.Turn.{Level, ends, stepped, taken, counted}
use Rattle.dma_walk.proofs.TurnLaws.{step_is, step-base, step-aligned, step_words}
use Rattle.std.specs.Prelude.{Ok, Err}
use Rattle.dma_walk.specs.declared.walk.Walked.{Walked}

abbrev pub later : ℕ → Walked → Walked
later n w = record { found = w.found; words = n + w.words }

pub start : (w : Walked) → w ≡ later 0 w
start w = rw zero-add

-- the walk of l levels by what the first comes to
level : (m : List ℕ) (q : PageNumber) (n l : ℕ) (b : ByteAddress) → 0 < l →
    counted (walk_from m l n b q) ≡ taken (stepped m (l - 1) n b q) (counted (walk_from m (l - 1) n (next_base (at m (place (l - 1) n b q))) q))
level m q n zero b some = absurd (omega arith)
level m q n (suc k) b some = rw (sub-one (suc k)) (step_is m k n b q)

pred_below : (l : ℕ) → l - 1 ≤ l
pred_below l = omega arith

-- the shift of the level below
pub shift_less : (n l : ℕ) → n * l ≤ offset_bits → n * (l - 1) ≤ offset_bits
shift_less n l h = omega (arith, mul-le-mul_left n (pred_below l))

pub shift_below : (n l : ℕ) → n * l ≤ offset_bits → n * (l - 1) < 64
shift_below n l h = omega (arith, shift_less n l h)

-- a turn of the loop; `same` is its invariant
module _ (m : List ℕ) (q : PageNumber) (n top l words : ℕ) (first base : ByteAddress)
    (same : counted (walk_from m top n first q) ≡ later words (counted (walk_from m l n base q)))
    (some : 0 < l) {x : Level} (e : x ≡ stepped m (l - 1) n base q) where
  turned : counted (walk_from m top n first q) ≡ later words (taken x (counted (walk_from m (l - 1) n (next_base (at m (place (l - 1) n base q))) q)))
  turned = same ∙ ap (later words) (level m q n l base some ∙ rw (← e))

  pub words-fit : l + words ≤ most_levels → {f : Found} {c : ℕ} → x ≡ ends f c → Fits w64 (words + c)
  words-fit h {f} {c} z = omega (arith, step_words m (l - 1) n base q f c (sym e ∙ z))

  pub ended : {f : Found} {c : ℕ} → x ≡ ends f c → ◌≡◌ {A = Walked} (record { found = f; words = words + c }) (counted (walk_from m top n first q))
  ended z = sym (turned ∙ rw z)

  pub lower : {b : ByteAddress} → x ≡ Ok b → counted (walk_from m top n first q) ≡ later (words + 1) (counted (walk_from m (l - 1) n b q))
  lower {b} z = turned ∙ rw (step-base m (l - 1) n base q b (sym e ∙ z), z, add-one, suc-add, add-suc)

  pub lower-aligned : {b : ByteAddress} → x ≡ Ok b → aligned n b ≡ true
  lower-aligned {b} z = step-aligned m (l - 1) n base q b (sym e ∙ z)

-- no level is left
pub done : (m : List ℕ) (q : PageNumber) (n top l words : ℕ) (first base : ByteAddress) →
    counted (walk_from m top n first q) ≡ later words (counted (walk_from m l n base q)) → l ≤ 0 →
    ◌≡◌ {A = Walked} (record { found = forbidden no_word; words = words }) (counted (walk_from m top n first q))
unfolding walk_from
done m q n top zero words first base same none = sym (same ∙ rw add-zero)
done m q n top (suc k) words first base same none = absurd (omega arith)

-- the same, the levels that are left being those after the words read
pub read_next : (top read : ℕ) → top - read - 1 ≡ top - (read + 1)
read_next top read = omega arith

module _ (n top read : ℕ) (small : n * (top - read) ≤ offset_bits) where
  pub shift_next : n * (top - (read + 1)) ≤ offset_bits
  shift_next = rw (← read_next top read) (shift_less n (top - read) small)

  pub shift_here : n * (top - read - 1) < 64
  shift_here = shift_below n (top - read) small

module _ (m : List ℕ) (q : PageNumber) (n top read : ℕ) (first base : ByteAddress)
    (same : counted (walk_from m top n first q) ≡ later read (counted (walk_from m (top - read) n base q))) where
  module _ (some : read < top) {x : Level} (e : x ≡ stepped m (top - read - 1) n base q) where
    left : 0 < top - read
    left = omega arith

    pub read-fit : top ≤ most_levels → {w : Walked} → x ≡ Err w → Fits w64 (read + w.words)
    read-fit h {w} z = omega (arith, step_words m (top - read - 1) n base q w.found w.words (sym e ∙ z))

    pub read_ended : {w : Walked} → x ≡ Err w → ◌≡◌ {A = Walked} (record { found = w.found; words = read + w.words }) (counted (walk_from m top n first q))
    read_ended z = ended m q n top (top - read) read first base same left e z

    pub read_lower : {b : ByteAddress} → x ≡ Ok b → counted (walk_from m top n first q) ≡ later (read + 1) (counted (walk_from m (top - (read + 1)) n b q))
    read_lower z = rw (← read_next top read) (lower m q n top (top - read) read first base same left e z)

    pub read-aligned : {b : ByteAddress} → x ≡ Ok b → aligned n b ≡ true
    read-aligned z = lower-aligned m q n top (top - read) read first base same left e z

  pub read_done : top ≤ read → read ≤ top → ◌≡◌ {A = Walked} (record { found = forbidden no_word; words = top }) (counted (walk_from m top n first q))
  read_done h g = let e : read ≡ top = omega arith in ap (λ (k : ℕ). record { found = forbidden no_word; words = k }) (sym e) ∙ done m q n top (top - read) read first base same (omega arith)
