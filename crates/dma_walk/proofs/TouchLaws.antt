-- Whether a walk reads a word, level by level and without a list. Assumes nothing.
use Rattle.kinds.specs.Lookup.{Found}
use mathlib.Core.Path.{◌≡◌, refl, sym, ◌∙◌}
use mathlib.Core.Bool.{true, false}
use mathlib.Core.List.{List, [], ◌∷◌}
use Prim.Native.Nat.{ℕ, zero, suc, ◌-◌, ◌≤◌, ◌<◌}
use native.Mathlib.Omega.{arith}
use lib.Dec.{ltb, eqb}
use lib.ListN.{length}
use borrow.Author.Tests.{eq-eqb, ne_eqb}
use Rattle.kinds.specs.Has.{has}
use Rattle.kinds.proofs.Tests.{by_cases}
use Rattle.kinds.specs.Words.{at}
use Rattle.kinds.specs.declared.number.ByteAddress.{ByteAddress}
use Rattle.kinds.specs.declared.number.PageNumber.{PageNumber}
use Rattle.profile.specs.Entry.{aligned}
use Rattle.profile.specs.Walk.{place, next_base, leads, turn, walk_from, walk, walked_page}
use Rattle.profile.specs.Walk as definition
use Rattle.profile.proofs.WalkLaws.{walk_suc}
use Rattle.dma_walk.specs.declared.walk.Walked.{Walked}
use Rattle.dma_walk.specs.Turn.{Level, ends, next, stepped}
use Rattle.dma_walk.proofs.TurnLaws.{step-base, step-aligned}
use Rattle.std.specs.Prelude.{Ok, Err}

-- the places that one level reads, by what it comes to
turn-leads : (k n j w : ℕ) (r : definition.Walked) (b : ByteAddress) → next k n j w ≡ Ok b → (turn k n j w r).reads ≡ j ∷ r.reads
unfolding turn next
turn-leads zero n j w r b e = cc
turn-leads (suc k) n j w r b e = by_cases (leads n w) (λ o. rw o) (λ o. let y = rw o at e in cc)

turn-ends : (k n j w : ℕ) (r : definition.Walked) (f : Found) (c : ℕ) → next k n j w ≡ ends f c → (turn k n j w r).reads ≡ j ∷ []
unfolding turn next
turn-ends zero n j w r f c e = refl
turn-ends (suc k) n j w r f c e = by_cases (leads n w) (λ o. let y = rw o at e in cc) (λ o. rw o)

turn-first : (k n j w i : ℕ) (r : definition.Walked) → eqb i j ≡ true → has i (turn k n j w r).reads ≡ true
unfolding turn has
turn-first zero n j w i r e = rw e
turn-first (suc k) n j w i r e = by_cases (leads n w) (λ o. rw (o, e)) (λ o. rw (o, e))

has-next : (i j : ℕ) (l : List ℕ) → eqb i j ≡ false → has i (j ∷ l) ≡ has i l
unfolding has
has-next i j l e = rw e

has-none : (i : ℕ) → has i [] ≡ false
unfolding has
has-none i = refl

-- the level with k levels below
module _ (m : List ℕ) (k n : ℕ) (b : ByteAddress) (q : PageNumber) (i : ℕ) where
  -- its word is the word asked for: it is read where memory has it
  here_is : eqb i (place k n b q) ≡ true → has i (walk_from m (suc k) n b q).reads ≡ ltb (place k n b q) (length m)
  here_is e =
      rw (walk_suc m k n b q)
      (by_cases (ltb (place k n b q) (length m))
      (λ o. rw o (turn-first k n (place k n b q) (at m (place k n b q)) i _ e))
      (λ o. rw o (has-none i)))

  -- it is another, and leads on: the level below tells
  lower-is : eqb i (place k n b q) ≡ false → (b' : ByteAddress) → stepped m k n b q ≡ Ok b'
      → has i (walk_from m (suc k) n b q).reads ≡ has i (walk_from m k n b' q).reads
  unfolding stepped
  lower-is e b' z =
      let j = place k n b q in
      let below = walk_from m k n (next_base (at m j)) q in
      rw (walk_suc m k n b q, ← step-base m k n b q b' z)
      (by_cases (ltb j (length m))
      (λ o. rw (o, turn-leads k n j (at m j) below b' (rw o at z), has-next i j below.reads e))
      (λ o. let y = rw o at z in cc))

  -- it is another, and does not lead on
  ended_is : eqb i (place k n b q) ≡ false → (f : Found) (c : ℕ) → stepped m k n b q ≡ ends f c → has i (walk_from m (suc k) n b q).reads ≡ false
  unfolding stepped
  ended_is e f c z =
      let j = place k n b q in
      let below = walk_from m k n (next_base (at m j)) q in
      rw (walk_suc m k n b q)
      (by_cases (ltb j (length m))
      (λ o. rw (o, turn-ends k n j (at m j) below f c (rw o at z), has-next i j [] e) (has-none i))
      (λ o. rw o (has-none i)))

-- `reads_word`; `same` is its invariant
module _ (m : List ℕ) (q : PageNumber) (n top l k : ℕ) (first base : ByteAddress)
    (same : has k (walk_from m top n first q).reads ≡ has k (walk_from m l n base q).reads) where
  level : 0 < l → has k (walk_from m l n base q).reads ≡ has k (walk_from m (suc (l - 1)) n base q).reads
  level some = let e : suc (l - 1) ≡ l = omega arith in rw e

  module _ (some : 0 < l) {p : ℕ} (here : p ≡ place (l - 1) n base q) where
    pub found_here : p ≡ k → ltb p (length m) ≡ has k (walk_from m top n first q).reads
    found_here e =
        sym (same ∙ level some ∙ here_is m (l - 1) n base q k (eq-eqb k (place (l - 1) n base q) (sym e ∙ here)) ∙ rw (← here))

    module _ (away : p ≡ k → ⊥) {x : Level} (e : x ≡ stepped m (l - 1) n base q) where
      elsewhere : eqb k (place (l - 1) n base q) ≡ false
      elsewhere = ne_eqb k (place (l - 1) n base q) (λ z. away (here ∙ sym z))

      pub lower : {b : ByteAddress} → x ≡ Ok b → has k (walk_from m top n first q).reads ≡ has k (walk_from m (l - 1) n b q).reads
      lower {b} z = same ∙ level some ∙ lower-is m (l - 1) n base q k elsewhere b (sym e ∙ z)

      pub lower-aligned : {b : ByteAddress} → x ≡ Ok b → aligned n b ≡ true
      lower-aligned {b} z = step-aligned m (l - 1) n base q b (sym e ∙ z)

      pub ended : {f : Found} {c : ℕ} → x ≡ ends f c → false ≡ has k (walk_from m top n first q).reads
      ended {f} {c} z = sym (same ∙ level some ∙ ended_is m (l - 1) n base q k elsewhere f c (sym e ∙ z))

      pub ended_by : {w : Walked} → x ≡ Err w → false ≡ has k (walk_from m top n first q).reads
      ended_by z = ended z

  pub done : l ≤ 0 → false ≡ has k (walk_from m top n first q).reads
  unfolding walk_from has
  done none = let z : l ≡ 0 = omega arith in sym (same ∙ rw z)
