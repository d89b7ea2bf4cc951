pub mod Blocks
pub mod ShortEvents
pub mod Answers
pub mod Tellings
pub mod Calls
pub mod LocalFeeding
pub mod LocalTracks
