-- The tests are those of the definition, of any tables.
--     through_is          what an edit drops
--     all_is, pe_is, page_is      what an invalidate names; neither N nor memory is read
-- Assumes nothing.
use Rattle.std.specs.Prelude.{◌≡◌, refl, List, ℕ}
use Rattle.std.proofs.Math.Path.{fun_ext}
use Rattle.kinds.proofs.Tests.{by_cases}
use Rattle.profile.specs.Entry.{half, entry_in, paged}
use Rattle.kinds.specs.declared.number.ByteAddress.{ByteAddress}
use Rattle.kinds.specs.declared.request.Scope.TheVariants as scope
use Rattle.profile.specs.Tables.{Tables}
use Rattle.cache.specs.Cache.{tabled, through, names}
use Rattle.cache.specs.Slots.{Test}
use Rattle.cache_sweeps.specs.Drops.{of_entries, of_page, any_slot, its_slots, page_slot}

pub through_is : (f : Tables) (m : List ℕ) (k : ℕ) → through (of_entries f.sizes.pes f.entries) m k ≡ through f m k
unfolding through tabled
through_is f m k = refl

same_test : {d g : Test} → ((t h q : ℕ) → d t h q ≡ g t h q) → d ≡ g
same_test e = fun_ext (λ t. fun_ext (λ h. fun_ext (λ q. e t h q)))

module _ (f : Tables) where
  pub all_is : any_slot ≡ names f scope.All
  unfolding names
  all_is = same_test (λ t h q. refl)

  pub pe_is : (p : ℕ) → its_slots p ≡ names f (scope.Pe p)
  unfolding names
  pe_is p = same_test (λ t h q. refl)

  pub page_is : (p : ℕ) (a : ByteAddress) → page_slot f.entries (record { 0 = p }) a ≡ names f (scope.Address p a)
  unfolding names page_slot of_page
  page_is p a =
      same_test {d = page_slot f.entries (record { 0 = p }) a} {g = names f (scope.Address p a)}
      (λ t h q. by_cases (paged (entry_in f.entries (record { 0 = p }) (half a))) (λ o. rw o) (λ o. rw o))
