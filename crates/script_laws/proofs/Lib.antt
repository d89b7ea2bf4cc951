pub mod NumberRanges
pub mod StyleRanges
pub mod TextCuts
pub mod ReadScripts
pub mod LineTexts
pub mod ReadGenerated
pub mod GeneratedEvents
