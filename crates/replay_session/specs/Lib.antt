pub mod EndPromise
pub mod Promise
pub mod Standing
