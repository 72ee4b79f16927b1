-- What the turns of the depth-first search share, each kind of turn, and all of them.
pub mod Stack
pub mod Entering
pub mod Leaving
pub mod Passing
pub mod Turns
