-- The walk is made of the code's turns.
--     step_is             THE LAW: the walk of one level more, by what that level comes to
--     step-base           the base that a level leads to; step-aligned: it is aligned; step_words: a level reads at most one word
-- Assumes nothing.
use Rattle.kinds.specs.Lookup.{Found}
use Rattle.std.specs.Prelude.{◌≡◌, refl, true, not, List, ℕ, zero, suc, ◌≤◌, ◌%◌, ltb, eqb, length}
use Rattle.std.proofs.Common.{arith, ap, sym}
use Rattle.kinds.proofs.Tests.{by_cases, and_right}
use Rattle.kinds.specs.Words.{at}
use Rattle.kinds.specs.declared.number.ByteAddress.{ByteAddress}
use Rattle.kinds.specs.declared.number.PageNumber.{PageNumber}
use Rattle.profile.specs.Entry.{aligned}
use Rattle.profile.specs.Walk.{place, next_base, leads, turn, walk_from}
use Rattle.profile.specs.Walk as definition
use Rattle.dma_walk.specs.Turn.{ends, next, stepped, taken, counted}
use Rattle.std.specs.Prelude.{Ok}
use Rattle.dma_walk.specs.declared.walk.Walked.{Walked}

turn_is : (k n j w : ℕ) (r : definition.Walked) → counted (turn k n j w r) ≡ taken (next k n j w) (counted r)
unfolding turn next
turn_is zero n j w r = refl
turn_is (suc k) n j w r = by_cases (leads n w) (λ t. rw t) (λ t. rw t)

module _ (m : List ℕ) (k n : ℕ) (b : ByteAddress) (q : PageNumber) where
  pub step_is : counted (walk_from m (suc k) n b q) ≡ taken (stepped m k n b q) (counted (walk_from m k n (next_base (at m (place k n b q))) q))
  unfolding walk_from stepped
  step_is = by_cases (ltb (place k n b q) (length m)) (λ t. rw t (turn_is k n (place k n b q) (at m (place k n b q)) _)) (λ t. rw t)

next-base : (k n j w : ℕ) (b : ByteAddress) → next k n j w ≡ Ok b → next_base w ≡ b
unfolding next
next-base zero n j w b e = cc
next-base (suc k) n j w b e = by_cases (leads n w) (λ t. let f = rw t at e in cc) (λ t. let f = rw t at e in cc)

next-leads : (k n j w : ℕ) (b : ByteAddress) → next k n j w ≡ Ok b → leads n w ≡ true
unfolding next
next-leads zero n j w b e = cc
next-leads (suc k) n j w b e = by_cases (leads n w) (λ t. t) (λ t. let f = rw t at e in cc)

words-of : {f g : Found} {a c : ℕ} → ends f a ≡ ends g c → a ≡ c
words-of {f} {g} {a} {c} e = let r : ◌≡◌ {A = Walked} (record { found = f; words = a }) (record { found = g; words = c }) = cc in ap (λ (w : Walked). w.words) r

next-words : (k n j w : ℕ) (f : Found) (c : ℕ) → next k n j w ≡ ends f c → c ≡ 1
unfolding next
next-words zero n j w f c e = sym (words-of e)
next-words (suc k) n j w f c e = by_cases (leads n w) (λ t. let z = rw t at e in cc) (λ t. sym (words-of (rw t at e)))

module _ (m : List ℕ) (k n : ℕ) (b : ByteAddress) (q : PageNumber) where
  pub step-base : (c : ByteAddress) → stepped m k n b q ≡ Ok c → next_base (at m (place k n b q)) ≡ c
  unfolding stepped
  step-base c e =
      by_cases (ltb (place k n b q) (length m))
      (λ t. next-base k n (place k n b q) (at m (place k n b q)) c (rw t at e))
      (λ t. let f = rw t at e in cc)

  step-leads : (c : ByteAddress) → stepped m k n b q ≡ Ok c → leads n (at m (place k n b q)) ≡ true
  unfolding stepped
  step-leads c e =
      by_cases (ltb (place k n b q) (length m))
      (λ t. next-leads k n (place k n b q) (at m (place k n b q)) c (rw t at e))
      (λ t. let f = rw t at e in cc)

  pub step-aligned : (c : ByteAddress) → stepped m k n b q ≡ Ok c → aligned n c ≡ true
  unfolding leads
  step-aligned c e = rw (← step-base c e) (and_right (not (eqb (at m (place k n b q) % 4) 0)) _ (step-leads c e))

  pub step_words : (f : Found) (c : ℕ) → stepped m k n b q ≡ ends f c → c ≤ 1
  unfolding stepped
  step_words f c e =
      by_cases (ltb (place k n b q) (length m))
      (λ t. omega (arith, next-words k n (place k n b q) (at m (place k n b q)) f c (rw t at e)))
      (λ t. let z : 0 ≡ c = words-of (rw t at e) in omega arith)
