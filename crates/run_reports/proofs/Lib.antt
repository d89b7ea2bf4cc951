mod TellLemmas
mod ChangeLemmas
mod WorkLemmas
mod AskedLemmas
mod LineLemmas
mod WatchLemmas
