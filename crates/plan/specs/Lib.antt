pub mod View
pub mod Promise
-- Laws of them.
pub mod Laws
