-- What the functions of `handle` are proved from. Assumes nothing.
use mathlib.Core.Path.{◌≡◌, refl, sym, ap, ◌∙◌}
use mathlib.Core.Bool.{Bool, true}
use mathlib.Core.List.{List}
use Prim.Native.Nat.{ℕ}
use lib.ListN.{length}
use Rattle.kinds.specs.Answer.{numbered}
use Rattle.kinds.specs.declared.number.PeNumber.{PeNumber}
use Rattle.kinds.specs.declared.answer.Answer.{Answer}
use Rattle.kinds.specs.declared.answer.Answer.TheVariants.{Done}
use Rattle.kinds.specs.Outcome as outcomes
use Rattle.kinds.specs.Outcome.{done}
use Rattle.kinds.specs.declared.outcome.Check.{Check}
use Rattle.kinds.specs.declared.outcome.Check.TheVariants.{Kept, Ready, Walk, Fences}
use Rattle.kinds.specs.declared.record.TranslationEntry.{TranslationEntry}
use Rattle.kinds.specs.declared.request.DmaRequest.{DmaRequest}
use Rattle.kinds.specs.declared.outcome.Effect.{Effect}
use Rattle.kinds.specs.declared.outcome.Effect.TheVariants.{Keep, Freeze, Release, Interrupt, Fence}
use Rattle.kinds.specs.declared.outcome.ErrorRecord.{ErrorRecord}
use Rattle.kinds.specs.declared.outcome.Outcome.{Outcome}
use Rattle.kinds.specs.declared.record.Lengths.{Lengths}
use Rattle.kinds.specs.declared.request.Part.{Part}
use Rattle.kinds.specs.declared.request.Request.{Request}
use Rattle.isolation.proofs.Isolation.{isolation}
use Rattle.profile.specs.Fence.{fence_to}
use Rattle.profile.specs.Freeze.{vector_in, taken, froze, released}
use Rattle.profile.specs.Msi.{stored}
use Rattle.profile.specs.Owner.{owner}
use Rattle.profile.proofs.RequestLaws.{checked-owner}
use Rattle.profile.specs.Step.{whole, act, checked_on, finish, after}
use Rattle.profile.specs.Tables.{Tables, Live, lengths, sized}
use Rattle.tables.specs.Tables.{live}
use Rattle.handle.proofs.PlacedLaws.{placed}
use Rattle.handle.specs.Parts.{pe_of}
use Rattle.handle.specs.Promise.{Handled}

-- `taken`
pub taken-peers : (v : List ℕ) (p : PeNumber) {b : Bool} {x : List ℕ} → b ≡ true → x ≡ vector_in v p → x ≡ taken b v p
taken-peers v p h f = f ∙ rw h

-- `act_at`: the effect e at PE p, on the state s and the interrupts l; v are the peers
module _ (n : ℕ) (v : List ℕ) (p : PeNumber) {e : Effect} (s l : List ℕ) where
  pub kept : e ≡ Keep → live s l ≡ act n v p e (live s l)
  unfolding act
  kept h = rw h

  pub frozen : {r : ErrorRecord} {b : Bool} {t w : List ℕ} → e ≡ Freeze r b → w ≡ taken b v p → t ≡ froze n w p r s → live t l ≡ act n v p e (live s l)
  unfolding act
  frozen h k i = rw (h, i, k)

  pub freed : {c : Part} {t : List ℕ} → e ≡ Release c → t ≡ released c p s → live t l ≡ act n v p e (live s l)
  unfolding act
  freed h i = rw (h, i)

  pub interrupted : {i x b : ℕ} {t : List ℕ} → e ≡ Interrupt i x b → t ≡ stored p i x b l → live s t ≡ act n v p e (live s l)
  unfolding act
  interrupted h k = rw (h, k)

  pub fenced : {b : Bool} {t : List ℕ} → e ≡ Fence b → t ≡ fence_to n b s → live t l ≡ act n v p e (live s l)
  unfolding whole act
  fenced h k = rw (h, k)

-- `handle`: c is the check of request q on the state s
module _ (f : Tables) (m : List ℕ) (s : Live) (q : Request) {c : Check} (is : c ≡ checked_on f (length m) s q) where
  abbrev x : Check
  x = checked_on f (length m) s q

  at-owner : {o : Outcome} → o ≡ finish f.installed m x → act f.sizes.pes f.peers (pe_of x) o.effect s ≡ after f m s q
  at-owner said =
      rw said (placed f m (owner f s q) x s
      (checked-owner f.sizes f.installed f.requesters f.entries f.windows f.segments s (sized f.sizes (lengths f (length m) s)) q))

  pub handled : {o : Outcome} {t : Live} → o ≡ finish f.installed m x → t ≡ act f.sizes.pes f.peers (pe_of x) o.effect s → Handled f m s q o.answer t
  handled said acts = record {
    answers = ap (λ (u : Outcome). u.answer) said;
    numbers = ap (λ (u : Outcome). numbered u.answer) said;
    leaves = acts ∙ at-owner said;
    isolation = isolation;
  }

  pub handled_kept : {a : Answer} → c ≡ Kept a → Handled f m s q a s
  unfolding finish act
  handled_kept {a} e = let z : x ≡ Kept a = sym is ∙ e in handled {o = outcomes.kept a} (rw z refl) refl

  module _ {o : Outcome} {a : Answer} {t : Live} (answers : a ≡ o.answer) {p : PeNumber} (acts : t ≡ act f.sizes.pes f.peers p o.effect s) where
    pub handled_ready : c ≡ Ready p o → Handled f m s q a t
    unfolding finish
    handled_ready e = let z : x ≡ Ready p o = sym is ∙ e in rw answers (handled {o = o} (rw z refl) (rw z acts))

    pub handled_walk : {r : TranslationEntry} {d : DmaRequest} → c ≡ Walk p r d → o ≡ finish f.installed m (Walk p r d) → Handled f m s q a t
    handled_walk {r} {d} e walked = let z : x ≡ Walk p r d = sym is ∙ e in rw answers (handled {o = o} (rw z walked) (rw z acts))

  pub handled_fences : {b : Bool} {a : Answer} {t : Live} → c ≡ Fences b → a ≡ Done → t ≡ whole f.sizes.pes (Fence b) s → Handled f m s q a t
  unfolding finish act
  handled_fences {b} e answers acts = let z : x ≡ Fences b = sym is ∙ e in rw answers (handled {o = done (Fence b)} (rw z refl) acts)
