pub mod Hunted
