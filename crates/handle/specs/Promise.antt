-- What the functions of `handle` promise.
--     Handled f m s q a t     request q was answered a and left t: as the definition says, and isolation holds of that definition
-- Assumes nothing.
use Rattle.std.specs.Prelude.{◌≡◌, List, ℕ}
use Rattle.kinds.specs.Answer.{numbered}
use Rattle.kinds.specs.declared.answer.Answer.{Answer}
use Rattle.kinds.specs.declared.request.Request.{Request}
use Rattle.isolation.specs.Isolation.{Isolation}
use Rattle.profile.specs.Step.{answered, after}
use Rattle.profile.specs.Tables.{Tables, Live}

pub record Handled (f : Tables) (m : List ℕ) (s : Live) (q : Request) (a : Answer) (t : Live) : Type 0 where
  pub answers : a ≡ answered f m s q
  pub numbers : numbered a ≡ numbered (answered f m s q)
  pub leaves : t ≡ after f m s q
  pub isolation : Isolation
