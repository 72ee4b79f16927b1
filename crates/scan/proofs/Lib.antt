pub mod Cuts
pub mod Scanning
