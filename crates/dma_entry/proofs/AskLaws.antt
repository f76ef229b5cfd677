-- What is asked of an entry is what `profile` says.
--     asked-walk          THE LAW: the page table is walked where `walks` holds, by its page size; asked-ends: and else the offset comes to `unwalked`
--     good-span           of a good entry with pages: the span is small
--     walk-walks, other-walks     what was asked tells whether the page table is walked (is_walk); other-ends: and what the offset comes to
-- Assumes nothing.
use Rattle.std.specs.Prelude.{Ok, ◌≡◌, true, false, ◌^◌, ◌≤◌, ltb}
use Rattle.std.proofs.Math.Path.{refl}
use Rattle.std.proofs.Common.{sym, ap, ◌∙◌, leb-true}
use Rattle.kinds.proofs.Tests.{by_cases, clash, all_true}
use Rattle.kinds.specs.declared.number.ByteAddress.{ByteAddress}
use Rattle.kinds.specs.declared.record.TranslationEntry.{TranslationEntry}
use Rattle.profile.specs.Entry.{page_size, span, offset_bits, table_good, bypass, bypass_good, in_bypass, page_tests, pages_good, paged, walks, unwalked}
use Rattle.dma_entry.specs.Ask.{Asked, asked, is_walk, ended}
use Rattle.dma_entry.specs.declared.ask.Way.TheVariants.{Walk}

module _ (e : TranslationEntry) (o : ByteAddress) where
  pub asked-walk : walks e o ≡ true → asked e o ≡ Ok (Walk (page_size e))
  unfolding walks paged
  asked-walk w =
      by_cases (table_good e)
      (λ t. by_cases (bypass e)
      (λ b. clash (rw (t, b) at w) refl)
      (λ b. by_cases (pages_good e)
      (λ g. by_cases (ltb o.0 (2 ^ span e)) (λ i. rw (t, b, g, i)) (λ i. clash (rw (t, b, g, i) at w) refl))
      (λ g. clash (rw (t, b, g) at w) refl)))
      (λ t. clash (rw t at w) refl)

  -- the ways that end with no word read
  pub asked-ends : walks e o ≡ false → (is_walk (asked e o) ≡ false) × (ended (asked e o) o ≡ unwalked e o)
  unfolding walks paged unwalked
  asked-ends w =
      by_cases (table_good e)
      (λ t. by_cases (bypass e)
      (λ b. by_cases (bypass_good e) (λ g. by_cases (in_bypass e o) (λ i. rw (t, b, g, i) (refl, refl)) (λ i. rw (t, b, g, i) (refl, refl))) (λ g. rw (t, b, g) (refl, refl)))
      (λ b. by_cases (pages_good e)
      (λ g. by_cases (ltb o.0 (2 ^ span e)) (λ i. clash refl (rw (t, b, g, i) at w)) (λ i. rw (t, b, g, i) (refl, refl)))
      (λ g. rw (t, b, g) (refl, refl))))
      (λ t. rw t (refl, refl))

pub good-span : (e : TranslationEntry) → pages_good e ≡ true → span e ≤ offset_bits
unfolding pages_good
good-span e good = leb-true (span e) offset_bits (all_true (page_tests e) 4 good)

-- what was asked
module _ (e : TranslationEntry) (o : ByteAddress) {c : Asked} (asks : c ≡ asked e o) where
  pub walk-walks : is_walk c ≡ true → walks e o ≡ true
  walk-walks n = by_cases (walks e o) (λ t. t) (λ t. clash (rw asks at n) (asked-ends e o t).0)

  -- another way
  pub other-walks : is_walk c ≡ false → walks e o ≡ false
  other-walks n = by_cases (walks e o) (λ t. clash (ap is_walk (asks ∙ asked-walk e o t)) n) (λ t. t)

  pub other-ends : is_walk c ≡ false → unwalked e o ≡ ended c o
  other-ends n = sym (asked-ends e o (other-walks n)).1 ∙ rw (← asks)
