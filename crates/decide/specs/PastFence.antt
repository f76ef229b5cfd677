-- What a request comes to past the fence.
--     past_fence b q x    x, if the bridge is not fenced or the fence lets request q pass; else what the fence answers. b: the bridge is fenced
-- Assumes nothing.
use Rattle.std.specs.Prelude.{Bool, cond, ◌&&◌}
use Rattle.kinds.specs.declared.outcome.Check.{Check}
use Rattle.kinds.specs.declared.outcome.Check.TheVariants.{Kept}
use Rattle.kinds.specs.declared.request.Request.{Request}
use Rattle.profile.specs.Fence.{stops, shut}

abbrev pub past_fence : (fenced : Bool) → Request → Check → Check
past_fence b q x = cond (b && stops q) (Kept (shut q)) x
