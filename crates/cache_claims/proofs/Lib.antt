pub mod CacheBridges
pub mod CacheNeeded
pub mod CacheWitness
pub mod DemandLaws
pub mod Release
pub mod ReleaseCases
