-- An effect is done where its request belongs, and a request that is answered by the checks alone does nothing.
--     placed              an effect that is done at the PE of a check is done at the owner, and that of the fence anywhere
--     kept_out, kept-still    what the checks alone answer is the outcome, and has no effect; still: no effect leaves all as it is
-- Assumes nothing.
use Rattle.kinds.specs.Lookup.{Owner}
use Rattle.std.specs.Prelude.{◌≡◌, refl, true, List, ℕ, Ok, Err}
use Rattle.kinds.specs.declared.outcome.Check.{Check}
use Rattle.kinds.specs.declared.outcome.Check.TheVariants.{Kept, Ready, Walk, Fences}
use Rattle.kinds.proofs.Tests.{clash}
use Rattle.kinds.specs.declared.outcome.Effect.TheVariants.{Keep}
use Rattle.profile.proofs.RequestLaws.{Placed}
use Rattle.profile.specs.Step.{finish, whole, act, act_by}
use Rattle.profile.specs.Tables.{Tables, Live}
use Rattle.handle.specs.Parts.{pe_of, is_kept, known}

-- an effect is done at the owner, and that of the fence anywhere
pub placed : (f : Tables) (m : List ℕ) (o : Owner) (x : Check) (s : Live) → Placed o x
    → act f.sizes.pes f.peers (pe_of x) (finish f.installed m x).effect s ≡ act_by f o (finish f.installed m x).effect s
unfolding finish whole act act_by
placed f m (Ok p) (Kept a) s h = refl
placed f m (Err r) (Kept a) s h = refl
placed f m o (Ready p x) s h = rw h
placed f m o (Walk p r q) s h = rw h
placed f m (Ok p) (Fences b) s h = refl
placed f m (Err r) (Fences b) s h = refl

-- a request that is answered: nothing is done
pub kept_out : (i : ℕ) (m : List ℕ) (x : Check) → is_kept x ≡ true → finish i m x ≡ known x
unfolding finish
kept_out i m (Kept a) h = refl
kept_out i m (Ready p o) h = refl
kept_out i m (Walk p r q) h = clash h refl
kept_out i m (Fences b) h = refl

pub kept-still : (x : Check) → is_kept x ≡ true → (known x).effect ≡ Keep
kept-still (Kept a) h = refl
kept-still (Ready p o) h = clash h refl
kept-still (Walk p r q) h = clash h refl
kept-still (Fences b) h = clash h refl

pub still : (f : Tables) (o : Owner) (s : Live) → act_by f o Keep s ≡ s
unfolding whole act act_by
still f (Ok p) s = refl
still f (Err r) s = refl
