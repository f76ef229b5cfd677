-- What the functions of `dma` are proved from. Assumes nothing.
use mathlib.Core.Path.{◌≡◌, sym, ◌∙◌}
use mathlib.Core.Bool.{true, false}
use Prim.Native.Nat.{ℕ, ◌+◌, ◌-◌, ◌≤◌, ◌<◌}
use native.Mathlib.Omega.{arith}
use lib.Dec.{ltb}
use borrow.Author.Tests.{ltb-true, ltb-false, lt-ltb, le-ltb}
use Rattle.kinds.proofs.Tests.{by_cases}
use Rattle.kinds.specs.declared.number.ByteAddress.{ByteAddress}
use Rattle.std.specs.Prelude.{Ok, Err}
use Rattle.kinds.specs.Lookup.{fault}
use Rattle.kinds.specs.Number.{no_word}
use Rattle.kinds.specs.declared.answer.Reason.{Reason}
use Rattle.kinds.specs.declared.number.PageSize.{PageSize}
use Rattle.kinds.specs.declared.number.PeNumber.{PeNumber}
use Rattle.kinds.specs.declared.outcome.Check.{Check}
use Rattle.kinds.specs.declared.outcome.Check.TheVariants.{Ready}
use Rattle.kinds.specs.declared.outcome.Check.TheVariants as check
use Rattle.kinds.specs.declared.record.TranslationEntry.{TranslationEntry}
use Rattle.kinds.specs.declared.request.DmaRequest.{DmaRequest}
use Rattle.profile.specs.Entry.{offset}
use Rattle.profile.specs.Step.{installed_to, reached, by_entry}
use Rattle.dma_entry.specs.Ask.{Asked, asked, is_walk, ended}
use Rattle.dma_entry.proofs.AskLaws.{walk-walks, other-walks, other-ends}
use Rattle.dma_entry.specs.declared.ask.Way.{Way}
use Rattle.dma_entry.specs.declared.ask.Way.TheVariants.{Walk, Bypass}

-- `is_installed`
module _ (i : ℕ) (a : ByteAddress) (n : ℕ) where
  pub none_installed : i ≤ n - 1 → installed_to i a n ≡ false
  unfolding installed_to
  none_installed h = le-ltb (a.0 + (n - 1)) i (omega arith)

  pub room_installed : n - 1 < i → installed_to i a n ≡ ltb a.0 (i - (n - 1))
  unfolding installed_to
  room_installed h =
      by_cases (ltb a.0 (i - (n - 1)))
      (λ o. lt-ltb (a.0 + (n - 1)) i (omega (arith, ltb-true a.0 (i - (n - 1)) o)) ∙ sym o)
      (λ o. le-ltb (a.0 + (n - 1)) i (omega (arith, ltb-false a.0 (i - (n - 1)) o)) ∙ sym o)

-- `by_entry`: by what was asked of the entry
module _ (i : ℕ) (e : TranslationEntry) (p : PeNumber) (q : DmaRequest) {o : ByteAddress} (cut : o ≡ offset q.address) {c : Asked} (asks : c ≡ asked e o) where
  at_offset : c ≡ asked e (offset q.address)
  at_offset = asks ∙ rw cut

  ends : is_walk c ≡ false → {x : Check} → x ≡ Ready p (reached i p q (ended c o) 0) → x ≡ by_entry i e p q
  unfolding by_entry
  ends n f = f ∙ rw (other-walks e (offset q.address) at_offset n, other-ends e (offset q.address) at_offset n, cut)

  pub by_walk : {w : Way} → c ≡ Ok w → {s : PageSize} → w ≡ Walk s → check.Walk p e q ≡ by_entry i e p q
  unfolding by_entry
  by_walk z y = let n : is_walk c ≡ true = rw (z, y) in rw (walk-walks e (offset q.address) at_offset n)

  pub by_bypass : {w : Way} → c ≡ Ok w → w ≡ Bypass → {x : Check} → x ≡ Ready p (reached i p q (Ok o) 0) → x ≡ by_entry i e p q
  by_bypass z y f = ends (rw (z, y)) (f ∙ rw (z, y))

  pub by_refusal : {r : Reason} → c ≡ Err r → {x : Check} → x ≡ Ready p (reached i p q (fault r no_word) 0) → x ≡ by_entry i e p q
  by_refusal z f = ends (rw z) (f ∙ rw z)
