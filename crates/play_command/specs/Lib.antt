pub mod OwnTexts
pub mod PlayRuns
pub mod SelftestRuns
pub mod WordRuns
pub mod Working
