pub mod Lists
mod Parts
mod LookLemmas
mod OnceLemmas
mod GivingLemmas
mod ReadLemmas
mod PiecesRead
mod Exact
mod AppLemmas
mod RowLemmas
mod ViewLemmas
mod WalkReads
mod TurnLemmas
mod FaultStays
mod ClapReads
mod ClapFinds
mod FoundLemmas
