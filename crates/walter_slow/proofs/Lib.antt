pub mod Heard
pub mod Standings
pub mod BusyOnes
pub mod Numbers
pub mod Verdicts
pub mod Undecided
