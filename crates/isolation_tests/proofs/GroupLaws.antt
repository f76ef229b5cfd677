-- The tests of a group are the premises of demand 3.
--     flag_one            a test as a number is 1 only where it holds
--     owner-told          where N is within its limit, the owner in numbers is the one that `Isolation` asks for
--     owned-member        a request belongs to the group where the number of its owner is a member's; operation-owned: so does an operation that is no edit,
--                         on the bridge with a translation cache
--     closed_is           THE STATEMENT: the test of closedness gives the premise; is-closed: and the premise gives the test
-- Assumes nothing.
use Rattle.kinds.specs.Lookup.{Owner}
use Rattle.std.specs.Prelude.{◌≡◌, refl, Bool, true, false, List, ℕ, ◌<◌, ◌≤◌, leb, Ok, Err}
use Rattle.std.proofs.Common.{arith, le-leb}
use Rattle.kinds.proofs.Tests.{by_cases, clash, not_true}
use Rattle.kinds.specs.Words.{bit_of}
use Rattle.kinds.specs.declared.number.PeNumber.{PeNumber}
use Rattle.kinds.specs.declared.request.Operation.{Operation}
use Rattle.kinds.specs.declared.request.Operation.TheVariants.{Plain, Edit, Invalidate}
use Rattle.kinds.specs.declared.request.Request.{Request}
use Rattle.profile.specs.Agree.{owned, Closed}
use Rattle.profile.specs.Freeze.{vector_in}
use Rattle.profile.specs.Owner.{owner}
use Rattle.profile.specs.Tables.{Tables, Live, most_pes}
use Rattle.edits.specs.Edits.{Bare, scope_owner, owns}
use Rattle.isolation_groups.specs.Any.{any}
use Rattle.isolation_groups.proofs.AnyLaws.{any_none, none_any}
use Rattle.isolation_groups.specs.Member.{member_of, group}
use Rattle.isolation_tests.specs.Group.{flag, owner_number, owner_number_in, operation_number_in, member_listed, outsider_lists, closed}

pub flag_one : (b : Bool) → flag b ≡ 1 → b ≡ true
unfolding flag
flag_one true e = refl
flag_one false e = absurd (omega (arith, e))

pub owner-told : (f : Tables) (s : Live) (q : Request) → f.sizes.pes ≤ most_pes
    → owner_number_in f.sizes f.requesters f.windows f.segments s.interrupts q ≡ owner_number (owner f s q)
unfolding owner_number_in
owner-told f s q h = rw (le-leb _ _ h)

pub owned-member : (g : List ℕ) (o : Owner) → owned (group g) o ≡ member_of g (owner_number o)
unfolding owner_number member_of
owned-member g (Ok p) = refl
owned-member g (Err r) = refl

unfoldable pub is_edit : Operation → Bool
is_edit (Plain q) = false
is_edit (Edit k v) = true
is_edit (Invalidate x) = false

-- whether an edit is the group's is asked of memory: `celltimber_covers` marks the words
pub operation-owned : (g : List ℕ) (f : Tables) (s : Bare) (q : Operation) → f.sizes.pes ≤ most_pes → is_edit q ≡ false
    → owns (group g) f s q ≡ member_of g (operation_number_in f.sizes f.requesters f.windows f.segments s.live.interrupts q)
unfolding is_edit operation_number_in
operation-owned g f s (Plain q) h e = rw (owner-told f s.live q h) (owned-member g (owner f s.live q))
operation-owned g f s (Edit k v) h e = clash refl e
operation-owned g f s (Invalidate x) h e = rw (le-leb _ _ h) (owned-member g (scope_owner f.sizes.pes x))

module _ (g l : List ℕ) (n : ℕ) where
  -- a PE outside the group that lists no member
  outsider-none : (p : PeNumber) → member_of g p.0 ≡ false → outsider_lists g l n p.0 ≡ false
      → (k : ℕ) → k < n → member_of g k ≡ true → bit_of (vector_in l p) k ≡ false
  unfolding outsider_lists member_listed
  outsider-none p o h k b u = rw u at (any_none n (member_listed g (vector_in l p)) (rw o at h) k b)

  none-outsider : (p : PeNumber) → (member_of g p.0 ≡ false → (k : ℕ) → k < n → member_of g k ≡ true → bit_of (vector_in l p) k ≡ false)
      → outsider_lists g l n p.0 ≡ false
  unfolding outsider_lists member_listed
  none-outsider p h =
      by_cases (member_of g p.0) (λ o. rw o)
      (λ o. rw o (none_any n (member_listed g (vector_in l p)) (λ k b. by_cases (member_of g k) (λ u. rw u (h o k b u)) (λ u. rw u))))

pub closed_is : (g : List ℕ) (f : Tables) → closed f.sizes.pes g f.peers ≡ true → Closed (group g) f
unfolding closed
closed_is g f h =
    let n = f.sizes.pes in
    by_cases (leb n most_pes)
    (λ o. let none = not_true (any n (outsider_lists g f.peers n)) (rw o at h) in record {
      unlisted = λ p k b c u m. outsider-none g f.peers n p u (any_none n (outsider_lists g f.peers n) none p.0 b) k.0 c m;
    })
    (λ o. clash (rw o at h) refl)

pub is-closed : (g : List ℕ) (f : Tables) → f.sizes.pes ≤ most_pes → Closed (group g) f → closed f.sizes.pes g f.peers ≡ true
unfolding closed
is-closed g f h c =
    let n = f.sizes.pes in
    let none : any n (outsider_lists g f.peers n) ≡ false =
    none_any n (outsider_lists g f.peers n)
    (λ p b. none-outsider g f.peers n (record { 0 = p }) (λ o k d m. c.unlisted (record { 0 = p }) (record { 0 = k }) b d o m)) in
    rw (le-leb _ _ h, none)
