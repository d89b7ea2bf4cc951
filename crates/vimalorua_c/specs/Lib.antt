pub mod Calls
pub mod Fonts
pub mod SeatCalls
pub mod Statuses
pub mod Views
pub mod Alpha
