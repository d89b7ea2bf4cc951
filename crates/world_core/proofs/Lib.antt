mod Holdings
mod Shards
mod Standing
mod Looks
mod Telling
mod Replying
mod Seeing
mod Feeding
mod HeldValues
mod Recording
mod Fronts
mod Arrivals
mod Running
mod Orders
pub mod CacheStanding
pub mod Calls
pub mod Places
pub mod Everyone
pub mod Owned
pub mod Costs
