pub mod OneStep
pub mod Lawful
pub mod Errors
pub mod OneRun
pub mod OnePipe
pub mod Replied
pub mod Lookups
