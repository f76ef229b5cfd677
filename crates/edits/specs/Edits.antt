-- 02, [8]: the bridge whose memory firmware edits. Here it has no cache: it is what the bridge with a cache is held against.
--     Bare                what is written: memory beside state and interrupts
--     good f s            not reason 1
--     nameable n x        an invalidate of scope x is not 14: it names no PE, or one below n; scope_owner n x: the PE that it names
--     edit_answer ok k n  an edit of word k of n words: 1, then 2, else done
--     invalidate_answer ok b  an invalidate: 1, then 14, else done
--     checked_by ok f s q  all checks before the walk; ok: reason 1 does not hold
--     outcome_by ok fin f s q  THE STEP OF A REQUEST with another finish: `fin` comes after all checks
--     answer_by, leaves_by  what an operation is answered and leaves, by such a finish: an edit writes its word, an invalidate nothing
--     bare_answer, bare_after  of the bridge without a cache: by `finish`, the walk
--     owns G f s q        operation q is the group's: a request or an invalidate by its PE; an edit if some walk of a member can read its word, in memory as it
--                         is then
--     bare_machine G f    the machine of these
--     event a q           the fatal message or fence clear that operation q is, if it is one and its answer a is done
--     place_on m s q      the place of operation q on machine m
--     Fresh G f s t q     each word that edit q brings into reach of the group is equal in s and t, which it meets
--     Alive G f s t       what the group sees of two such bridges
-- Assumes nothing.
use Rattle.kinds.specs.Lookup.{Owner}
use Rattle.std.specs.Prelude.{◌≡◌, Bool, true, cond, List, ℕ, ltb, length, set, Err}
use Rattle.std.proofs.Math.Option.{Option, none, some}
use Rattle.kinds.specs.Answer.{refuse, is_done}
use Rattle.kinds.specs.declared.outcome.Check.{Check}
use Rattle.kinds.specs.Words.{at}
use Rattle.kinds.specs.declared.answer.Answer.{Answer}
use Rattle.kinds.specs.declared.answer.Answer.TheVariants.{Done}
use Rattle.kinds.specs.declared.answer.Reason.TheVariants.{TableLength, BadRequest, BadFirmware}
use Rattle.kinds.specs.declared.number.PeNumber.{PeNumber}
use Rattle.kinds.specs.declared.outcome.Outcome.{Outcome}
use Rattle.kinds.specs.declared.request.Operation.{Operation}
use Rattle.kinds.specs.declared.request.Operation.TheVariants.{Plain, Edit, Invalidate}
use Rattle.kinds.specs.declared.request.Request.{Request}
use Rattle.kinds.specs.declared.request.Scope.{Scope}
use Rattle.kinds.specs.declared.request.Scope.TheVariants as scope
use Rattle.profile.specs.Tables.{Tables, Live, lengths, sized, named}
use Rattle.profile.specs.Owner.{owner}
use Rattle.profile.specs.Fence.{Event, kind}
use Rattle.profile.specs.Step.{checked, finish, act_by}
use Rattle.profile.specs.Agree.{owned, belongs, Same, Reads, Held}
use Rattle.isolation.specs.Machine.{Machine}
use Rattle.isolation.specs.Isolation.{Place, Own, other}
use Rattle.edits.specs.Reach.{in_reach}

pub record Bare : Type 0 where
  pub memory : List ℕ
  pub live : Live

abbrev pub good : Tables → Bare → Bool
good f s = sized f.sizes (lengths f (length s.memory) s.live)

-- ---- answers

abbrev pub nameable : (pes : ℕ) → Scope → Bool
nameable n scope.All = true
nameable n (scope.Pe p) = ltb p n
nameable n (scope.Address p a) = ltb p n

abbrev pub scope_owner : (pes : ℕ) → Scope → Owner
scope_owner n scope.All = Err BadFirmware
scope_owner n (scope.Pe p) = named BadFirmware n p
scope_owner n (scope.Address p a) = named BadFirmware n p

abbrev pub edit_answer : (ok : Bool) → (word words : ℕ) → Answer
edit_answer ok k n = cond ok (cond (ltb k n) Done (refuse BadRequest)) (refuse TableLength)

abbrev pub invalidate_answer : (ok nameable : Bool) → Answer
invalidate_answer ok b = cond ok (cond b Done (refuse BadFirmware)) (refuse TableLength)

-- ---- one operation

abbrev pub checked_by : (ok : Bool) → Tables → Live → Request → Check
checked_by ok f s q = checked f.sizes f.installed f.requesters f.entries f.windows f.segments s ok q

abbrev pub outcome_by : (ok : Bool) → (Check → Outcome) → Tables → Live → Request → Outcome
outcome_by ok fin f s q = fin (checked_by ok f s q)

abbrev pub answer_by : (ok : Bool) → (Check → Outcome) → Tables → Bare → Operation → Answer
answer_by ok fin f s (Plain q) = (outcome_by ok fin f s.live q).answer
answer_by ok fin f s (Edit k v) = edit_answer ok k (length s.memory)
answer_by ok fin f s (Invalidate x) = invalidate_answer ok (nameable f.sizes.pes x)

-- a word that memory has not is not written
abbrev pub leaves_by : (ok : Bool) → (Check → Outcome) → Tables → Bare → Operation → Bare
leaves_by ok fin f s (Plain q) = record {
  memory = s.memory;
  live = act_by f (owner f s.live q) (outcome_by ok fin f s.live q).effect s.live;
}
leaves_by ok fin f s (Edit k v) = record { memory = cond ok (set s.memory k v) s.memory; live = s.live }
leaves_by ok fin f s (Invalidate x) = s

abbrev pub bare_answer : Tables → Bare → Operation → Answer
bare_answer f s q = answer_by (good f s) (finish f.installed s.memory) f s q

abbrev pub bare_after : Tables → Bare → Operation → Bare
bare_after f s q = leaves_by (good f s) (finish f.installed s.memory) f s q

-- ---- the machine

abbrev pub owns : (PeNumber → Bool) → Tables → Bare → Operation → Bool
owns G f s (Plain q) = belongs G f s.live q
owns G f s (Edit k v) = in_reach G f s.memory k
owns G f s (Invalidate x) = owned G (scope_owner f.sizes.pes x)

abbrev pub bare_machine : (PeNumber → Bool) → Tables → Machine Bare Operation Answer
bare_machine G f = record { next = bare_after f; answer = bare_answer f; own = owns G f }

abbrev pub event : Answer → Operation → Option Event
event a (Plain q) = cond (is_done a) (kind q) none
event a (Edit k v) = none
event a (Invalidate x) = none

abbrev pub place_on : {S : Type 0} → Machine S Operation Answer → S → Operation → Option (Place Operation)
place_on m s q = cond (m.own s q) (some (Own q)) (other (event (m.answer s q) q))

-- ---- two bridges

abbrev pub Fresh : (PeNumber → Bool) → Tables → Bare → Bare → Operation → Type 0
Fresh G f s t (Plain q) = Unit {0}
Fresh G f s t (Edit k v) =
    -- word j can be read after the edit, and could not be before
    (j : ℕ) → Reads G f (bare_after f s (Edit k v)).memory j → (Reads G f s.memory j → ⊥)
    → at s.memory j ≡ at t.memory j
Fresh G f s t (Invalidate x) = Unit {0}

abbrev pub Alive : (PeNumber → Bool) → Tables → Bare → Bare → Type 0
Alive G f s t = Same G f.sizes s.live t.live × Held G f s.memory t.memory
