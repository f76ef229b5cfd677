-- Whom a request or an operation belongs to, in numbers, and the test that no PE outside the group lists a member.
--     flag b              a test as a number: 1 or 0
--     owner_number o      the number of the owner, or 65,536, which is no PE's, for nobody
--     owner_number_in ..  that of request q, by the tables that tell it; 65,536 too where N is above its limit
--     operation_number_in ..  that of operation q: an invalidate is its PE's; an edit is asked of the group, and no PE's
--     member_listed g v k     PE k is a member and in the vector v; lists_member g v n: one of the first n PEs is
--     outsider_lists g l n p  PE p is no member and lists one of the first n PEs that is, l being the peers table; any_outsider_lists g l n: one of the
--                             first n PEs does
--     closed n g l        no PE below n outside the group lists a member below n; n being N, and at most its limit
-- Assumes nothing.
use Rattle.kinds.specs.Lookup.{Owner}
use Rattle.std.specs.Prelude.{Bool, true, false, cond, not, List, ℕ, leb, Ok, Err}
use Rattle.kinds.specs.Words.{no_pe, bit_of}
use Rattle.kinds.specs.declared.record.Sizes.{Sizes}
use Rattle.kinds.specs.declared.request.Operation.{Operation}
use Rattle.kinds.specs.declared.request.Operation.TheVariants.{Plain, Edit, Invalidate}
use Rattle.kinds.specs.declared.request.Request.{Request}
use Rattle.profile.specs.Freeze.{vector_in}
use Rattle.profile.specs.Owner.{owner_in}
use Rattle.profile.specs.Tables.{most_pes}
use Rattle.edits.specs.Edits.{scope_owner}
use Rattle.isolation_groups.specs.Any.{any}
use Rattle.isolation_groups.specs.Member.{member_of}

unfoldable pub flag : Bool → ℕ
flag true = 1
flag false = 0

unfoldable pub owner_number : Owner → ℕ
owner_number (Ok p) = p.0
owner_number (Err r) = no_pe

unfoldable pub owner_number_in : Sizes → (requesters windows segments interrupts : List ℕ) → Request → ℕ
owner_number_in z r w s l q = cond (leb z.pes most_pes) (owner_number (owner_in z r w s l q)) no_pe

unfoldable pub operation_number_in : Sizes → (requesters windows segments interrupts : List ℕ) → Operation → ℕ
operation_number_in z r w s l (Plain q) = owner_number_in z r w s l q
operation_number_in z r w s l (Edit k v) = no_pe
operation_number_in z r w s l (Invalidate x) = cond (leb z.pes most_pes) (owner_number (scope_owner z.pes x)) no_pe

unfoldable pub member_listed : (g v : List ℕ) → ℕ → Bool
member_listed g v k = cond (member_of g k) (bit_of v k) false

abbrev pub lists_member : (g v : List ℕ) → (n : ℕ) → Bool
lists_member g v n = any n (member_listed g v)

unfoldable pub outsider_lists : (g peers : List ℕ) → (n p : ℕ) → Bool
outsider_lists g l n p = cond (member_of g p) false (lists_member g (vector_in l (record { 0 = p })) n)

abbrev pub any_outsider_lists : (g peers : List ℕ) → (n : ℕ) → Bool
any_outsider_lists g l n = any n (outsider_lists g l n)

unfoldable pub closed : ℕ → (g peers : List ℕ) → Bool
closed n g l = cond (leb n most_pes) (not (any_outsider_lists g l n)) false
