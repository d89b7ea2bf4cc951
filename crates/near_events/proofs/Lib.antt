pub mod Lists
pub mod Nears
pub mod NearSpans
pub mod Orders
pub mod Pairs
pub mod Sorts
