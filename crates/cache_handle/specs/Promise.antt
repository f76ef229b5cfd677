-- What one request, with a cache or without one, and one operation on the bridge with a cache promise.
--     Served b f x q a y  request q was answered a and left y: as the definition says of the bridge with a cache where b, and of the one without where not
--     Operated f x q a y  operation q was answered a and left y: as the definition says, on any contents of the cache. Of that definition the claims of [8] hold:
--                         what a slot holds; over sequences that start by emptying the cache, the answers of the bridge without one, and demand 3; and [14]
-- Assumes nothing.
use Rattle.std.specs.Prelude.{◌≡◌, Bool}
use Rattle.kinds.specs.Answer.{numbered}
use Rattle.kinds.specs.declared.answer.Answer.{Answer}
use Rattle.kinds.specs.declared.request.Operation.{Operation}
use Rattle.kinds.specs.declared.request.Operation.TheVariants.{Plain}
use Rattle.kinds.specs.declared.request.Request.{Request}
use Rattle.profile.specs.Tables.{Tables}
use Rattle.cache.specs.Cache.{Cached, cached_answer, cached_after}
use Rattle.cache.specs.Contents.{Contents}
use Rattle.cache_words.specs.Either.{either_answer, either_after}
use Rattle.cache_claims.specs.Demand.{Simulation, CachedIsolation}
use Rattle.cache_claims.specs.Release.{CachedReleased}

pub record Served (b : Bool) (f : Tables) (x : Cached) (q : Request) (a : Answer) (y : Cached) : Type 0 where
  pub answers : a ≡ either_answer b f x (Plain q)
  pub leaves : y ≡ either_after b f x (Plain q)

pub record Operated (f : Tables) (x : Cached) (q : Operation) (a : Answer) (y : Cached) : Type 0 where
  pub answers : a ≡ cached_answer f x q
  pub numbers : numbered a ≡ numbered (cached_answer f x q)
  pub leaves : y ≡ cached_after f x q
  pub contents : Contents
  pub simulation : Simulation
  pub isolation : CachedIsolation
  pub release : CachedReleased
